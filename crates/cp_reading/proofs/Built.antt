-- Bodies that trees are built from.
use Rattle.std.proofs.Common.{◌≡◌, ℕ, ◌+◌, ◌*◌, ◌<◌, ◌≤◌, List, Ok, Err, true, is_ok, refl, sym, ap, ◌∙◌, arith}
use Rattle.cp_tree.specs.Node.{Node, struct, structs, Nodes, no_nodes, node, Bodies, count, number_of, depth, row_of}
use Rattle.cp_words.specs.Targets.{words_at}
use Rattle.cp_reading.specs.Viewed.{viewed_node, IsViewed}
use Rattle.cp_reading.specs.Reading.{◌>>=◌, Read, tree_read, rows_at, most_nesting, most_traversal, bodies_by, node_in}
use Rattle.cp_reading.specs.Rows.{bodies_in, struct_at, structs_at, trees_from}
use Rattle.cp_tree.specs.Seen.{shape_of, node_at, body_at, part_of}
use Rattle.cp_words.specs.declared.place.Place.{Place}
use Rattle.cp_tree.specs.declared.shape.Shape.TheVariants as shapes
use Rattle.cp_reading.specs.declared.view.Viewed.TheVariants as viewed
use Rattle.cp_reading.proofs.Builds.{part-row, part-body, row_nests, element_nests}
use Rattle.cp_reading.proofs.Views.{ok_is_ok, read-node, part-shape, part-struct, part-element, element-inside}

-- what a body was read with
row_read : (ws : List ℕ) (r : Read Nodes) → is_ok {T = Node × ℕ} (r >>= λ ts. Ok (struct ws ts.0, ts.1)) ≡ true → (x : Nodes × ℕ) × (r ≡ Ok x)
row_read ws (Ok x) e = (x, refl)
row_read ws (Err d) e = cc

elements_read : (d n : ℕ) (r : Read Bodies) → is_ok {T = Node × ℕ} (r >>= λ bs. Ok (structs d n bs.0, bs.1)) ≡ true → (x : Bodies × ℕ) × (r ≡ Ok x)
elements_read d n (Ok x) e = (x, refl)
elements_read d n (Err e') e = cc

struct_in : (ws : List ℕ) (r : Read Nodes) (x : Nodes × ℕ) → r ≡ Ok x → node_in (r >>= λ ts. Ok (struct ws ts.0, ts.1)) ≡ struct ws x.0
struct_in ws r x e = rw e refl

structs_in : (d n : ℕ) (r : Read Bodies) (x : Bodies × ℕ) → r ≡ Ok x → node_in (r >>= λ bs. Ok (structs d n bs.0, bs.1)) ≡ structs d n x.0
structs_in d n r x e = rw e refl

-- the pointers of a row
module _ (S : List (List ℕ)) (at : Place) (n : ℕ) (part : IsViewed S (viewed.Body (struct_at at 0 n))) where
  row : (x : Nodes × ℕ) × (rows_at most_nesting S at.segment n (at.word + 0) most_traversal ≡ Ok x)
  row = row_read (words_at S at.segment at.word 0) (rows_at most_nesting S at.segment n (at.word + 0) most_traversal) part.2

  row_is : viewed_node S (viewed.Body (struct_at at 0 n)) ≡ struct (words_at S at.segment at.word 0) row.0.0
  row_is = struct_in (words_at S at.segment at.word 0) (rows_at most_nesting S at.segment n (at.word + 0) most_traversal) row.0 row.1

  row_trees : trees_from S at n ≡ row.0.0
  row_trees = ap row_of row_is

  pub row_count : count (trees_from S at n) ≡ n
  row_count =
      let same : shapes.Struct 0 n ≡ shape_of (struct (words_at S at.segment at.word 0) row.0.0) = part-shape S _ (struct_at at 0 n) refl part ∙ ap shape_of row_is in
      let many : count row.0.0 ≡ n = cc in
      rw row_trees many

  pub row_word : (i : ℕ) → i < n → (budget : ℕ) × (tree_read S at.segment (at.word + i) ≡ Ok (node_at (trees_from S at n) i, budget))
  row_word i within =
      let k = part-struct S _ (struct_at at 0 n) refl part 0 n i refl within in
      let word : at.word + i ≡ at.word + 0 + i = omega arith in
      let one : node_at (trees_from S at n) i ≡ part_of (viewed_node S (viewed.Body (struct_at at 0 n))) i = sym (part-row (viewed_node S (viewed.Body (struct_at at 0 n))) i (rw row_count within)) in
      (k.0, rw (word, one) k.1)

  pub row_deep : (i : ℕ) → i < n → depth (node_at (trees_from S at n) i) < depth (viewed_node S (viewed.Body (struct_at at 0 n)))
  row_deep i within =
      let inside : i < count (trees_from S at n) = rw row_count within in
      let one : node_at (trees_from S at n) i ≡ part_of (viewed_node S (viewed.Body (struct_at at 0 n))) i = sym (part-row (viewed_node S (viewed.Body (struct_at at 0 n))) i inside) in
      rw one (row_nests (viewed_node S (viewed.Body (struct_at at 0 n))) i inside)

pub no_row : (ts : Nodes) → count ts ≡ 0 → no_nodes ≡ ts
no_row no_nodes e = refl
no_row (node t ts) e = absurd (omega (arith, e))

-- the elements of a composite list
module _ (S : List (List ℕ)) (at : Place) (d n k : ℕ) (part : IsViewed S (viewed.Body (structs_at at d n k))) where
  elements : (x : Bodies × ℕ) × (bodies_by (rows_at most_nesting S at.segment) S at.segment d n k at.word most_traversal ≡ Ok x)
  elements = elements_read d n (bodies_by (rows_at most_nesting S at.segment) S at.segment d n k at.word most_traversal) part.2

  structs_is : viewed_node S (viewed.Body (structs_at at d n k)) ≡ structs d n elements.0.0
  structs_is = structs_in d n (bodies_by (rows_at most_nesting S at.segment) S at.segment d n k at.word most_traversal) elements.0 elements.1

  abbrev pub the_elements : Bodies
  the_elements = bodies_in (viewed_node S (viewed.Body (structs_at at d n k)))

  pub structs_count : number_of the_elements ≡ k
  structs_count =
      let same : shapes.Structs d n k ≡ shape_of (structs d n elements.0.0) = part-shape S _ (structs_at at d n k) refl part ∙ ap shape_of structs_is in
      let many : number_of elements.0.0 ≡ k = cc in
      ap (λ t. number_of (bodies_in t)) structs_is ∙ many

  abbrev pub element_place : ℕ → Place
  element_place i = record { segment = at.segment; word = at.word + i * (d + n) }

  pub element_part : (i : ℕ) → i < k → IsViewed S (viewed.Body (struct_at (element_place i) d n))
  element_part i within =
      let inside = element-inside at.word d n k i within in
      let read = part-element S _ (structs_at at d n k) refl part d n k i refl within in
      ((part.0.0, omega (arith, inside, part.0.1), tt), omega (arith, inside, part.1), ok_is_ok _ _ read.1)

  pub element_node : (i : ℕ) → i < k → viewed_node S (viewed.Body (struct_at (element_place i) d n)) ≡ body_at the_elements i
  element_node i within =
      let read = part-element S _ (structs_at at d n k) refl part d n k i refl within in
      read-node _ _ _ read.1 ∙ part-body (viewed_node S (viewed.Body (structs_at at d n k))) i (rw structs_count within)

  pub element_depth : (i : ℕ) → i < k → depth (viewed_node S (viewed.Body (struct_at (element_place i) d n))) ≤ depth (viewed_node S (viewed.Body (structs_at at d n k)))
  element_depth i within =
      let read = part-element S _ (structs_at at d n k) refl part d n k i refl within in
      let same = read-node _ _ _ read.1 in
      rw same (element_nests (viewed_node S (viewed.Body (structs_at at d n k))) i (rw structs_count within))
