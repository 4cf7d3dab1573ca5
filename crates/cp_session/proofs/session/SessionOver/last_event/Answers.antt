use Rattle.std.proofs.Common.{Bool, sym, ap}
use Rattle.cp_session.specs.Doing.{fault_of}
use Rattle.cp_session.specs.State.{state_of}
use Rattle.cp_session.proofs.Telling.{told_last}
use Rattle.cp_session.proofs.session.SessionOver.last_event.Goals as goal

pub returns-clause-told : goal.returns-clause-told
returns-clause-told g c =
    let state = state_of c.args.self.now in
    let progress = state.progress in
    ap (λ (b : Bool). record c.args.self.now { progress = record progress { is_told = b } })
    (sym (told_last progress.is_told progress.limit (fault_of state) progress.phase c.in_ok-event.event c.in_ok-event.ensures))
