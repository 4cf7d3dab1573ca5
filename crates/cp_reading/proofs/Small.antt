-- The root of a message of numbers alone: its first and third word say all that hangs on it.
use Rattle.std.proofs.Common.{◌≡◌, ℕ, suc, ◌-◌, ◌<◌, ◌≤◌, List, length, pos, Option, Some, None, Result, Ok, Err, Bool, true, false, nat_lt, nat_le, cond, slice_index, refl, sym, ap, ◌∙◌, arith}
use Rattle.std.proofs.lemmas.Bool.Decides.{nat_tests}
use Rattle.cp_words.specs.Targets.{segment, words_at}
use Rattle.cp_words.specs.Word.{pointer_of}
use Rattle.cp_words.specs.declared.kind.BodyKind.TheVariants as kinds
use Rattle.cp_words.specs.declared.place.Place.{Place}
use Rattle.cp_words.specs.declared.pointer.Pointer.TheVariants as pointers
use Rattle.cp_tree.specs.Node.{Node, Nodes, struct, no_nodes, node}
use Rattle.cp_reading.specs.Reading.{◌>>=◌, Kids, Read, body_by, filled, kids_at, placed, pointer_by, root_of, row_by, rows_at, top, tree_at, IsRootArea}
use Rattle.cp_reading.specs.Visited.{pointers}
use Rattle.cp_reading.specs.declared.area.Area.{Area}
use Rattle.cp_reading.specs.declared.area.Form.TheVariants as forms
use Rattle.cp_reading.specs.declared.fault.TreeFault.{TreeFault}
use Rattle.cp_reading.specs.declared.fault.TreeFault.TheVariants as faults
use Rattle.cp_reading.proofs.Roots.{root_steps}
use Rattle.cp_reading.proofs.Sound.{ok_is}

-- where the root's body lies, and that which hangs on its pointer
abbrev pub small_area : Area
small_area = record { form = forms.Struct 1 1; segment = 0; start = 1 }

abbrev leaf_area : Area
leaf_area = record { form = forms.Struct 1 0; segment = 0; start = 3 }

abbrev leaf_place : Place
leaf_place = record { segment = 0; word = 2 }

module _ (S : List (List ℕ)) where
  abbrev leaf_tree : Node
  leaf_tree = struct (words_at S 0 3 1) no_nodes

  abbrev small_tree : Node
  small_tree = struct (words_at S 0 1 1) (node leaf_tree no_nodes)

  leaf_body : (n b : ℕ) → 2 ≤ b → body_by leaf_place (kids_at (suc n) S) S b leaf_area ≡ Ok (leaf_tree, b - 2)
  unfolding kids_at row_by
  leaf_body n b rich =
      let paid : nat_lt b 2 ≡ false = grind (arith, nat_tests) in
      ap (λ (c : Bool). ◌>>=◌ {A = Kids × ℕ} {B = Node × ℕ} (cond c (Err (faults.TraversalLimit leaf_place)) (Ok (rows_at n S, b - 2))) (λ e. filled e.0 S (forms.Struct 1 0) 0 3 e.1)) paid

  leaf_read : (n b : ℕ) → 2 ≤ b → 4 ≤ length (segment S 0) → slice_index (segment S 0) 2 ≡ 4294967296 → tree_at (suc n) S 0 2 b ≡ Ok (leaf_tree, b - 2)
  unfolding pointer_of
  leaf_read n b rich long leaf =
      let fits : nat_le 4 (length (segment S 0)) ≡ true = grind (arith, nat_tests) in
      ap (λ (w : ℕ). pointer_by leaf_place (kids_at (suc n) S) S b (pointer_of w)) leaf
      ∙ ap (λ (c : Bool). ◌>>=◌ {A = Area} {B = Node × ℕ} (◌>>=◌ {A = ℕ} {B = Area} (placed leaf_place (cond c (Some 3) None)) (λ q. Ok (record { form = forms.Struct 1 0; segment = 0; start = q }))) (body_by leaf_place (kids_at (suc n) S) S b)) fits
      ∙ leaf_body n b rich

  small_body : (n b : ℕ) → 5 ≤ b → 4 ≤ length (segment S 0) → slice_index (segment S 0) 2 ≡ 4294967296 → body_by top (kids_at (suc (suc n)) S) S b small_area ≡ Ok (small_tree, b - 3 - 2)
  unfolding kids_at row_by
  small_body n b rich long leaf =
      let paid : nat_lt b 3 ≡ false = grind (arith, nat_tests) in
      ap (λ (c : Bool). ◌>>=◌ {A = Kids × ℕ} {B = Node × ℕ} (cond c (Err (faults.TraversalLimit top)) (Ok (rows_at (suc n) S, b - 3))) (λ e. filled e.0 S (forms.Struct 1 1) 0 1 e.1)) paid
      ∙ ap (λ (x : Read Node). ◌>>=◌ {A = Nodes × ℕ} {B = Node × ℕ} (◌>>=◌ {A = Node × ℕ} {B = Nodes × ℕ} x (λ t. ◌>>=◌ {A = Nodes × ℕ} {B = Nodes × ℕ} (row_by (tree_at (suc n) S 0) 0 3 t.1) (λ ts. Ok (node t.0 ts.0, ts.1)))) (λ ts. Ok (struct (words_at S 0 1 1) ts.0, ts.1))) (leaf_read n (b - 3) (omega (arith, rich)) long leaf)

  small_read : (n b : ℕ) → 5 ≤ b → 4 ≤ length (segment S 0) → slice_index (segment S 0) 0 ≡ 281479271677952 → slice_index (segment S 0) 2 ≡ 4294967296 → root_of (suc (suc n)) b S ≡ Ok small_tree
  unfolding pointer_of
  small_read n b rich long root leaf =
      let fits : nat_le 3 (length (segment S 0)) ≡ true = grind (arith, nat_tests) in
      root_steps (suc (suc n)) b S (pointers.Struct (pos 0) 1 1) (record { kind = kinds.Struct 1 1; segment = 0; start = Some 1 }) 1 1 small_area (omega (arith, long)) (ap pointer_of root) refl refl
      (ap (λ (c : Bool). ◌>>=◌ {A = ℕ} {B = Area} (placed top (cond c (Some 1) None)) (λ q. Ok (record { form = forms.Struct 1 1; segment = 0; start = q }))) fits)
      ∙ ap (λ (x : Read Node). ◌>>=◌ {A = Node × ℕ} {B = Node} x (λ y. Ok y.0)) (small_body n b rich long leaf)

-- What such a root is: its body, and that one pointer hangs on it.
pub record IsSmall (nesting budget : ℕ) (S : List (List ℕ)) : Type 0 where
  pub area : IsRootArea nesting budget S small_area
  pub below : (t : Node) → root_of nesting budget S ≡ Ok t → pointers t ≡ 1

small_at : (nesting n b : ℕ) (S : List (List ℕ)) → nesting ≡ suc (suc n) → 5 ≤ b → 0 < length S → 4 ≤ length (segment S 0) → slice_index (segment S 0) 0 ≡ 281479271677952 → slice_index (segment S 0) 2 ≡ 4294967296
    → IsSmall nesting b S
small_at nesting n b S deep rich within long root leaf =
    let read = small_read S n b rich long root leaf in
    let room : 3 ≤ length (segment S 0) = omega (arith, long) in
    rw deep (record {
      area = record { tree = small_tree S; budget = b - 3 - 2; within = (within, room, tt); body = small_body S n b rich long leaf; root = read };
      below = λ t e. rw (ok_is (sym e ∙ read)) refl;
    })

pub small_is : (nesting budget : ℕ) (S : List (List ℕ)) (ws : List ℕ) → 0 < length S → segment S 0 ≡ ws → 4 ≤ length ws → slice_index ws 0 ≡ 281479271677952 → slice_index ws 2 ≡ 4294967296
    → 2 ≤ nesting → 5 ≤ budget → IsSmall nesting budget S
small_is nesting budget S ws within same long root leaf deep rich =
    let e : nesting ≡ suc (suc (nesting - 2)) = omega (arith, deep) in
    small_at nesting (nesting - 2) budget S e rich within (rw same long) (rw same root) (rw same leaf)
