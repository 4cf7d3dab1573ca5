use Rattle.std.proofs.Common.{◌≡◌, ◌++◌, [], replicate}
use Rattle.cp_packed.specs.Words.{bytes_of}
use Rattle.cp_frame.specs.Parts.{rest_of, IsBegun}
use Rattle.cp_frame.proofs.frame.OpenFrame.push_run.Given as goal

abbrev pub invariant-pushing : goal.invariant-pushing
invariant-pushing l = record {
  begun : IsBegun l.limits l.self;
  no_part : l.self.part.items ≡ [];
  rest : rest_of l.self ++ bytes_of (replicate l.left l.run.word) ≡ rest_of l.initial.self ++ bytes_of (replicate l.run.count l.run.word);
}

abbrev pub decreases-pushing : goal.decreases-pushing
decreases-pushing l = l.left
