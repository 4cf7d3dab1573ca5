use Rattle.std.proofs.Common.{◌≡◌}
use Rattle.cp_tree.specs.Elements.{flags}
use Rattle.cp_reading.proofs.elements.bits_of.Given as goal

abbrev pub invariant-loop-i : goal.invariant-loop-i
invariant-loop-i l = l.items.items ≡ flags l.words l.i
