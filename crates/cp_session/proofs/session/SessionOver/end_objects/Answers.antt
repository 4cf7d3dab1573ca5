use Rattle.std.proofs.Common.{refl, ap}
use Rattle.std.proofs.lemmas.Bool.{false≢true}
use Rattle.cp_session.specs.Doing.{each_told, not_yet, ran_out}
use Rattle.cp_session.specs.State.{state_of}
use Rattle.cp_session.proofs.session.SessionOver.end_objects.Goals as goal

pub returns-then-not-is_done : goal.returns-then-not-is_done
returns-then-not-is_done g c = not_yet (λ done. false≢true (c.if-not-is_done.ensures.1 done)) refl

pub returns-in-Ok : goal.returns-in-Ok
returns-in-Ok g c = each_told c.set_now.new.self (c.if-not-is_done.ensures.0 refl) c.set_now.ensures c.in-Ok.ensures refl

pub returns-in-Err : goal.returns-in-Err
returns-in-Err g c =
    ran_out (c.if-not-is_done.ensures.0 refl) (ap (λ p. record (state_of c.args.self.now) { objects = c.end_all.new.self; progress = p }) c.fail.ensures)
