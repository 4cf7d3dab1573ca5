use Rattle.std.proofs.Common.{◌≡◌, ◌*◌, ◌++◌}
use Rattle.cp_tree.specs.Elements.{numbers}
use Rattle.cp_fields.proofs.bytes.append_words.Given as goal

abbrev pub invariant-whole : goal.invariant-whole
invariant-whole l = l.bytes.items ≡ l.initial.bytes.items ++ numbers l.words 8 (l.i * 64)

abbrev pub invariant-rest : goal.invariant-rest
invariant-rest l = l.bytes.items ≡ l.fn.bytes.items ++ numbers l.words 8 l.i
