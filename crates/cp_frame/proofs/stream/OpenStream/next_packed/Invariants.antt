use Rattle.std.proofs.Common.{length}
use Rattle.cp_frame.specs.Kept.{IsSameStream}
use Rattle.cp_frame.specs.Rest.{InPacked}
use Rattle.cp_frame.specs.Bulk.{TakesFront}
use Rattle.cp_frame.proofs.stream.OpenStream.next_packed.Given as goal

abbrev pub invariant-reading : goal.invariant-reading
invariant-reading l = record {
  same : IsSameStream l.fn.self l.self;
  takes : TakesFront l.fn.self.limits l.fn.self.rest l.piece l.self.rest l.left;
  begun : InPacked l.fn.self.limits l.self.rest;
}

abbrev pub decreases-reading : goal.decreases-reading
decreases-reading l = length l.left
