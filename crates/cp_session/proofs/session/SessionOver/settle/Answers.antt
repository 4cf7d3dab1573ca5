use Rattle.std.proofs.Common.{ap, ◌∙◌}
use Rattle.cp_session.specs.Progress.{heeding}
use Rattle.cp_session.specs.State.{state_of, with_progress}
use Rattle.cp_session.proofs.session.SessionOver.settle.Goals as goal

pub returns : goal.returns
returns g c = record {
  heeded = with_progress (state_of c.args.self.now) c.heed.new.self;
  heeds = ap (λ p. with_progress (state_of c.args.self.now) p) (c.heed.ensures ∙ ap (λ f. heeding f c.args.self.now.progress) c.fault.ensures);
  gone = state_of c.leave_if_settled.new.self;
  left_so = c.leave_if_settled.ensures;
  ends = c.end_objects.ensures;
}
