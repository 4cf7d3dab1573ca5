use Rattle.std.proofs.Common.{◌≡◌, ℕ, Result, Ok, Err, refl, ap, ◌∙◌}
use Rattle.cp_tree.specs.Node.{Node, null, cap, struct, list, ptrs, structs}
use Rattle.cp_fields.specs.Numbers.{plain}
use Rattle.cp_fields.specs.Pointers.{struct_field}
use Rattle.cp_fields.specs.declared.kind.WrongKind.{WrongKind}
use Rattle.cp_servants.specs.Samples.{first_word}
use Rattle.cp_servants.proofs.cell.first_word.Goals as goal

-- the word that is read
abbrev word_of : Result Node WrongKind → ℕ
word_of (Ok params) = plain params 64 0
word_of (Err fault) = 0

word_is : (t : Node) → word_of (struct_field t) ≡ first_word t
word_is null = refl
word_is (cap i) = refl
word_is (struct ws ts) = refl
word_is (list es) = refl
word_is (ptrs ts) = refl
word_is (structs d n bs) = refl

pub returns-in-Ok : goal.returns-in-Ok
returns-in-Ok c = c.u64.ensures ∙ ap word_of c.in-Ok.ensures ∙ word_is _

pub returns-in-Err : goal.returns-in-Err
returns-in-Err c = ap word_of c.in-Err.ensures ∙ word_is _
