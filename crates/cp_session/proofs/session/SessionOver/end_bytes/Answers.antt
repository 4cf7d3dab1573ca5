use Rattle.std.proofs.Common.{refl, ap, ◌∙◌}
use Rattle.cp_session.specs.Progress.{failed}
use Rattle.cp_session.proofs.session.SessionOver.end_bytes.Goals as goal

pub returns-in-Ok-clause-finishes : goal.returns-in-Ok-clause-finishes
returns-in-Ok-clause-finishes g c = record { at = c.set_now.new.self; times = c.set_now.ensures; ends = c.in-Ok.ensures.ends; limits = refl; progress = c.finish.ensures }

pub returns-in-Err-clause-unfinished : goal.returns-in-Err-clause-unfinished
returns-in-Err-clause-unfinished g c = record {
  at = c.set_now.new.self;
  times = c.set_now.ensures;
  unended = c.in-Err.ensures.unended;
  limits = refl;
  progress = c.fail.ensures ∙ ap (λ p. failed p c.in-Err.fault) c.finish.ensures;
}
