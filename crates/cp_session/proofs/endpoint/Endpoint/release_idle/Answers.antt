use Rattle.std.proofs.Common.{ℕ, Some, refl, ap}
use Rattle.std.proofs.lemmas.Bool.{false≢true}
use Rattle.cp_dispatch.specs.WorkOf.{work_of}
use Rattle.cp_dispatch.proofs.Living.{lives_none}
use Rattle.cp_session.specs.Search.{none_due, releases}
use Rattle.cp_session.specs.Service.{service_of}
use Rattle.cp_session.proofs.Deciding.{sought}
use Rattle.cp_session.proofs.endpoint.Endpoint.release_idle.Goals as goal

pub returns-then-not-is_due : goal.returns-then-not-is_due
returns-then-not-is_due g c = record { seeks = none_due (λ due. false≢true (c.if-not-is_due.ensures.1 due)) refl; lives = lives_none _ }

pub returns-clause-seeks : goal.returns-clause-seeks
returns-clause-seeks g c =
    let work = work_of c.release_idle.new.self c.release_idle.new.connection in
    let from = sought _ _ _ _ _ _ _ c.after.ensures c.held-held.ensures.imports c.held-held.ensures.promises (ap (λ t. t.messages) c.stats-messages.ensures) in
    releases work (c.if-not-is_due.ensures.0 refl) c.in_ok-release_idle.ensures.done
    (ap (λ (n : ℕ). record (service_of c.args.self.now) { work = work; search = Some (record { from = n }) }) from)
