-- What trees are built from. No public clause names these.
use Rattle.std.specs.Prelude.{ℕ}
use Rattle.cp_words.specs.Segments.{words_of}
use Rattle.cp_words.specs.declared.place.Place.{Place}
use Rattle.cp_tree.specs.Node.{Node, Nodes, Bodies}
use Rattle.cp_reading.specs.Rows.{bodies_in, struct_at, structs_at, trees_from}
use Rattle.cp_reading.specs.Viewed.{viewed_node}
use Rattle.cp_reading.specs.declared.build.Builder.{Builder}
use Rattle.cp_reading.specs.declared.view.Viewed.{Viewed}
use Rattle.cp_reading.specs.declared.view.Viewed.TheVariants as viewed

module _ {L : Type 0} where
  -- the tree of a part of the message that is built from
  abbrev pub part_in : Builder L → Viewed → Node
  part_in b part = viewed_node (words_of b.segments.now) part

  -- the struct from a word on
  abbrev pub struct_in : Builder L → Place → ℕ → ℕ → Node
  struct_in b start words ptrs = part_in b (viewed.Body (struct_at start words ptrs))

  -- the trees of this many pointer words, from one on
  abbrev pub row_in : Builder L → Place → ℕ → Nodes
  row_in b first number = trees_from (words_of b.segments.now) first number

  -- the elements of a composite list, from one on
  abbrev pub elements_in : Builder L → Place → ℕ → ℕ → ℕ → Bodies
  elements_in b first words ptrs number = bodies_in (part_in b (viewed.Body (structs_at first words ptrs number)))
