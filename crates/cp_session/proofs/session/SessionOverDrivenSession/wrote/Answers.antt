use Rattle.std.proofs.Common.{ap}
use Rattle.cp_session.specs.State.{linked, state_of, with_progress}
use Rattle.cp_session.proofs.session.SessionOverDrivenSession.wrote.Goals as goal

pub returns : goal.returns
returns g c = record {
  link = c.wrote.new.self;
  wrote = c.wrote.ensures;
  mid = with_progress (linked (state_of c.args.self.now) c.wrote.new.self) c.write_at.new.self;
  moves = ap (λ p. with_progress (linked (state_of c.args.self.now) c.wrote.new.self) p) c.write_at.ensures;
  settles = c.settle.ensures;
}
