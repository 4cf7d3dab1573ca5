use Rattle.std.proofs.Common.{◌≡◌, ◌*◌}
use Rattle.cp_tree.specs.Elements.{numbers}
use Rattle.cp_reading.proofs.elements.two_bytes_of.Given as goal

abbrev pub invariant-loop-i : goal.invariant-loop-i
invariant-loop-i l = l.items.items ≡ numbers l.words 16 (4 * l.i)
