use Rattle.std.proofs.Common.{◌≡◌, ◌++◌, ◌≤◌, length}
use Rattle.cp_frame.specs.Parts.{IsOpen, rest_of}
use Rattle.cp_frame.proofs.stream.OpenStream.next_plain.Given as goal

abbrev pub invariant-reading : goal.invariant-reading
invariant-reading l = record {
  begun : IsOpen l.fn.self.limits l.frame;
  whole : rest_of l.frame ++ l.left ≡ rest_of l.fn.self.rest.frame ++ l.piece;
  within : length l.left ≤ length l.piece;
}

abbrev pub decreases-reading : goal.decreases-reading
decreases-reading l = length l.left
