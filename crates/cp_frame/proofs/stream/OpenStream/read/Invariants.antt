use Rattle.std.proofs.Common.{length}
use Rattle.cp_frame.specs.Kept.{IsSameStream}
use Rattle.cp_frame.specs.Following.{HasRead}
use Rattle.cp_frame.proofs.stream.OpenStream.read.Given as goal

abbrev pub invariant-reading : goal.invariant-reading
invariant-reading l = record {
  same : IsSameStream l.fn.self l.self;
  reads : HasRead l.fn.self.mode l.fn.self.limits l.fn.self.rest l.piece l.frames.items l.self.rest l.left;
}

abbrev pub decreases-reading : goal.decreases-reading
decreases-reading l = length l.left
