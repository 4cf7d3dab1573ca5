-- Paths of pointer fields.
use Rattle.std.proofs.Common.{◌≡◌, ℕ, ◌+◌, ◌<◌, List, [], ◌∷◌, get_or, drop, length, refl, ap, ◌∙◌}
use Rattle.std.proofs.lemmas.List.{at_drop_more}
use Rattle.cp_tree.specs.Node.{Node, null}
use Rattle.cp_tree.specs.Seen.{pointee_of}
use Rattle.cp_refs.specs.At.{node_along}

-- a null pointer has none but null after it
node_along-null : (path : List ℕ) → node_along null path ≡ null
node_along-null [] = refl
node_along-null (field ∷ path) = node_along-null path

-- a path goes on with its next field
pub next_field : (t : Node) (path : List ℕ) (i d : ℕ) → i < length path → node_along t (drop i path) ≡ node_along (pointee_of t (get_or path i d)) (drop (i + 1) path)
next_field t path i d h = at_drop_more (λ fields. node_along t fields) path i d h

-- what is left of a path past null leads to null
pub cut_short : (t : Node) (path : List ℕ) (i d : ℕ) → i < length path → pointee_of t (get_or path i d) ≡ null → node_along t (drop i path) ≡ null
cut_short t path i d h e = next_field t path i d h ∙ ap (λ s. node_along s (drop (i + 1) path)) e ∙ node_along-null (drop (i + 1) path)
