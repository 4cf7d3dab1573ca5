use Rattle.std.proofs.Common.{refl, sym, ap, subst, ◌∙◌, Option, ℕ}
use Rattle.std.proofs.lemmas.Bool.{false≢true}
use Rattle.cp_connection.specs.declared.fault.ConnectionFault.TheVariants as faults
use Rattle.cp_session.specs.Doing.{too_early, passes, runs_out_of_memory}
use Rattle.cp_session.specs.Progress.{failed}
use Rattle.cp_session.specs.Sweep.{HasCome}
use Rattle.cp_session.proofs.session.SessionOver.pass_time.Goals as goal

pub returns-then-not-has_come : goal.returns-then-not-has_come
returns-then-not-has_come g c =
    too_early (λ come. false≢true (c.if-not-has_come.ensures.1 (subst (λ (t : Option ℕ). HasCome c.args.now t) (sym c.alarm.ensures) come))) refl

pub returns-in-Ok : goal.returns-in-Ok
returns-in-Ok g c = passes (subst (λ (t : Option ℕ). HasCome c.args.now t) c.alarm.ensures (c.if-not-has_come.ensures.0 refl)) c.in-Ok.ensures.acts

pub returns-in-Err : goal.returns-in-Err
returns-in-Err g c =
    runs_out_of_memory (subst (λ (t : Option ℕ). HasCome c.args.now t) c.alarm.ensures (c.if-not-has_come.ensures.0 refl)) c.act_in_time.ensures.lives
    (ap (λ s. s.limits) c.act_in_time.ensures.same) (c.fail.ensures ∙ ap (λ s. failed s.progress faults.OutOfMemory) c.act_in_time.ensures.same)
