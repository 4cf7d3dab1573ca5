-- What a view holds, and the tree that it stands for.
use Rattle.std.specs.Prelude.{◌≡◌, ℕ, ◌+◌, ◌^◌, ◌<◌, List, true, is_ok}
use Rattle.cp_tree.specs.Node.{Node, null, cap}
use Rattle.cp_words.specs.Targets.{segment}
use Rattle.cp_reading.specs.Reading.{area_read, node_in, body_words, IsWithin}
use Rattle.cp_reading.specs.declared.area.Form.{Form}
use Rattle.cp_reading.specs.declared.area.Form.TheVariants as forms
use Rattle.cp_tree.specs.declared.shape.Shape.{Shape}
use Rattle.cp_tree.specs.declared.shape.Shape.TheVariants as shapes
use Rattle.cp_reading.specs.declared.view.Viewed.{Viewed}
use Rattle.cp_reading.specs.declared.view.Viewed.TheVariants as viewed

-- the tree that a part of the segments stands for
abbrev pub viewed_node : List (List ℕ) → Viewed → Node
viewed_node S viewed.Null = null
viewed_node S (viewed.Cap i) = cap i
viewed_node S (viewed.Body a) = node_in (area_read S a)

-- its body lies in a segment, at places that a slice can have, and was read
abbrev pub IsViewed : List (List ℕ) → Viewed → Type 0
IsViewed S viewed.Null = Unit {0}
IsViewed S (viewed.Cap i) = Unit {0}
IsViewed S (viewed.Body a) = IsWithin S a × (a.start + body_words a.form < 2 ^ 63) × (is_ok (area_read S a) ≡ true)

-- the words of the segment that its body lies in
abbrev pub IsHere : List (List ℕ) → List ℕ → Viewed → Type 0
IsHere S here (viewed.Body a) = here ≡ segment S a.segment
IsHere S here other = Unit {0}

-- the kind and sizes of a tree with such a body
abbrev pub form_shape_of : Form → Shape
form_shape_of (forms.Struct d n) = shapes.Struct d n
form_shape_of (forms.List size n) = shapes.List size n
form_shape_of (forms.Structs d n k) = shapes.Structs d n k
