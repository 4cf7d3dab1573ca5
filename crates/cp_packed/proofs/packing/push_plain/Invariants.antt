use Rattle.std.proofs.Common.{◌≡◌, ◌++◌, length}
use Rattle.cp_packed.specs.Packing.{Appends}
use Rattle.cp_packed.specs.Words.{bytes_of}
use Rattle.cp_packed.proofs.packing.push_plain.Given as goal

abbrev pub invariant-writing : goal.invariant-writing
invariant-writing l = (l.out.items ++ bytes_of l.left ≡ l.fn.out.items ++ bytes_of l.words) × Appends l.fn.out.items l.out.items

abbrev pub decreases-writing : goal.decreases-writing
decreases-writing l = length l.left
