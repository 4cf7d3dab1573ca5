-- The elements of a composite list, and the trees of pointer words.
use Rattle.std.specs.Prelude.{ℕ, List}
use Rattle.cp_words.specs.declared.pointer.ElementSize.{ElementSize}
use Rattle.cp_words.specs.declared.pointer.ElementSize.TheVariants as sizes
use Rattle.cp_tree.specs.Node.{Node, structs, Nodes, Bodies, no_bodies, row_of}
use Rattle.cp_reading.specs.Viewed.{viewed_node}
use Rattle.cp_reading.specs.declared.area.Area.{Area}
use Rattle.cp_reading.specs.declared.area.Form.TheVariants as forms
use Rattle.cp_words.specs.declared.place.Place.{Place}
use Rattle.cp_reading.specs.declared.view.Viewed.TheVariants as viewed

-- the elements of a composite list
abbrev pub bodies_in : Node → Bodies
bodies_in (structs d n bs) = bs
bodies_in other = no_bodies

-- the size of elements that hold no pointers
abbrev pub IsData : ElementSize → Type 0
IsData sizes.Pointer = ⊥
IsData sizes.Composite = ⊥
IsData other = Unit {0}

-- a struct's body, of d data words and n pointers, that begins at a place
abbrev pub struct_at : Place → ℕ → ℕ → Area
struct_at at d n = record { form = forms.Struct d n; segment = at.segment; start = at.word }

-- the k elements of a composite list, the first of which begins at a place
abbrev pub structs_at : Place → ℕ → ℕ → ℕ → Area
structs_at at d n k = record { form = forms.Structs d n k; segment = at.segment; start = at.word }

-- the trees that n pointer words from a place on stand for
abbrev pub trees_from : List (List ℕ) → Place → ℕ → Nodes
trees_from S at n = row_of (viewed_node S (viewed.Body (struct_at at 0 n)))
