-- Segments after a tree is written into them.
use Rattle.std.specs.Prelude.{◌≡◌, ℕ, ◌+◌, ◌*◌, ◌^◌, negsuc, List, [], ◌∷◌, ◌++◌, length, replicate, if◌then◌else◌, ◌==◌, Result, Ok, Err}
use Rattle.cp_words.specs.Word.{word_of, words_for}
use Rattle.cp_words.specs.declared.pointer.ElementSize.TheVariants as sizes
use Rattle.cp_words.specs.declared.pointer.Pointer.TheVariants as pointers
use Rattle.cp_words.specs.declared.kind.BodyKind.TheVariants as kinds
use Rattle.cp_words.specs.declared.place.Place.{Place}
use Rattle.cp_tree.specs.declared.fault.WriteFault.{WriteFault}
use Rattle.cp_writing.specs.declared.arena.Capacity.{Capacity}
use Rattle.cp_writing.specs.declared.arena.Arena.{Arena}
use Rattle.cp_tree.specs.Node.{element_size, element_count, Node, null, cap, struct, list, ptrs, structs, Nodes, no_nodes, node, Bodies, no_bodies, body, count, number_of, depth, greatest_depth, deepest_body, cost, total_cost, body_cost}
use Rattle.cp_writing.specs.Allowed.{Lays}
use Rattle.cp_writing.specs.Packed.{packed}
use Rattle.cp_tree.specs.Shaped.{Shaped}
use Rattle.cp_writing.specs.Sheets.{Written, written, put, append, Placed, place_by, IsWithin, SameLimits, IsRun, Refuses}

-- a struct's data words, and blank words for its pointers
abbrev pub body_blank : List ℕ → ℕ → List ℕ
body_blank ws n = ws ++ replicate n 0

abbrev pub bodies_blank : Bodies → List ℕ
bodies_blank no_bodies = []
bodies_blank (body ws ts bs) = body_blank ws (count ts) ++ bodies_blank bs

-- a composite list's tag
abbrev pub tag_word : ℕ → ℕ → ℕ → ℕ
tag_word k d n = 4 * k + 2 ^ 32 * d + 2 ^ 48 * n

-- where the bodies of a struct, and of lists of pointers and structs, are placed
abbrev pub struct_placed : Capacity → ℕ → ℕ → List ℕ → ℕ → Written → Placed
struct_placed capacity s p ws n F = place_by capacity s p (kinds.Struct (length ws) n) (length ws + n) F

abbrev pub ptrs_placed : Capacity → ℕ → ℕ → ℕ → Written → Placed
ptrs_placed capacity s p n F = place_by capacity s p (kinds.List sizes.Pointer n) n F

abbrev pub structs_placed : Capacity → ℕ → ℕ → ℕ → ℕ → ℕ → Written → Placed
structs_placed capacity s p d n k F = place_by capacity s p (kinds.List sizes.Composite (k * (d + n))) (k * (d + n) + 1) F

-- the words of a body were appended where it was placed, and what hangs on it begins some words after its start
abbrev pub begun : List ℕ → ℕ → Placed → Placed
begun ws n x = record { arena = append ws x.arena; at = record { segment = x.at.segment; word = x.at.word + n } }

-- the bodies, with blank words for their pointers, and where the pointers or the elements begin
abbrev pub struct_begun : Capacity → ℕ → ℕ → List ℕ → ℕ → Written → Placed
struct_begun capacity s p ws n F = begun (body_blank ws n) (length ws) (struct_placed capacity s p ws n F)

abbrev pub ptrs_begun : Capacity → ℕ → ℕ → ℕ → Written → Placed
ptrs_begun capacity s p n F = begun (replicate n 0) 0 (ptrs_placed capacity s p n F)

abbrev pub structs_begun : Capacity → ℕ → ℕ → ℕ → ℕ → ℕ → List ℕ → Written → Placed
structs_begun capacity s p d n k ws F = begun (tag_word k d n ∷ ws) 1 (structs_placed capacity s p d n k F)

abbrev mutual
  -- the tree whose pointer is word p of segment s is written
  pub tree_by : Capacity → ℕ → ℕ → Node → Written → Written
  tree_by capacity s p null F = put s p 0 F
  tree_by capacity s p (cap i) F = put s p (word_of (pointers.Cap i)) F
  tree_by capacity s p (struct ws ts) F =
      if length ws + count ts == 0 then put s p (word_of (pointers.Struct (negsuc 0) 0 0)) F
      else row_by capacity (struct_begun capacity s p ws (count ts) F).at.segment (struct_begun capacity s p ws (count ts) F).at.word ts (struct_begun capacity s p ws (count ts) F).arena
  tree_by capacity s p (list es) F = append (packed es) (place_by capacity s p (kinds.List (element_size es) (element_count es)) (words_for (element_size es) (element_count es)) F).arena
  tree_by capacity s p (ptrs ts) F = row_by capacity (ptrs_begun capacity s p (count ts) F).at.segment (ptrs_begun capacity s p (count ts) F).at.word ts (ptrs_begun capacity s p (count ts) F).arena
  tree_by capacity s p (structs d n bs) F = bodies_by capacity (structs_begun capacity s p d n (number_of bs) (bodies_blank bs) F).at.segment (structs_begun capacity s p d n (number_of bs) (bodies_blank bs) F).at.word d n bs (structs_begun capacity s p d n (number_of bs) (bodies_blank bs) F).arena

  -- the trees whose pointers stand from word p on
  pub row_by : Capacity → ℕ → ℕ → Nodes → Written → Written
  row_by capacity s p no_nodes F = F
  row_by capacity s p (node t ts) F = row_by capacity s (p + 1) ts (tree_by capacity s p t F)

  -- what hangs on the pointers of a composite list's elements, which stand from word q on
  pub bodies_by : Capacity → ℕ → ℕ → ℕ → ℕ → Bodies → Written → Written
  bodies_by capacity s q d n no_bodies F = F
  bodies_by capacity s q d n (body ws ts bs) F = bodies_by capacity s (q + d + n) d n bs (row_by capacity s (q + d) ts F)

-- the same on an arena: of the tree whose pointer is at a place, of the trees from a place on, and of the elements there
abbrev pub tree_on : Arena → Place → Node → Written
tree_on w at t = tree_by w.capacity at.segment at.word t (written w)

abbrev pub row_on : Arena → Place → Nodes → Written
row_on w at ts = row_by w.capacity at.segment at.word ts (written w)

abbrev pub bodies_on : Arena → Place → ℕ → ℕ → Bodies → Written
bodies_on w at d n bs = bodies_by w.capacity at.segment at.word d n bs (written w)

-- these were laid out within this many levels, or a limit was met for them
abbrev pub LaysTree : {X : Type 0} → Arena → Arena → ℕ → Result X WriteFault → Place → Node → Type 0
LaysTree old new levels result at t = Lays old new levels result (depth t) (cost t) (tree_on old at t)

abbrev pub LaysRow : {X : Type 0} → Arena → Arena → ℕ → Result X WriteFault → Place → Nodes → Type 0
LaysRow old new levels result at ts = Lays old new levels result (greatest_depth ts) (total_cost ts) (row_on old at ts)

abbrev pub LaysBodies : {X : Type 0} → Arena → Arena → ℕ → Result X WriteFault → Place → ℕ → ℕ → Bodies → Type 0
LaysBodies old new levels result at d n bs = Lays old new levels result (deepest_body bs) (body_cost bs) (bodies_on old at d n bs)

-- A body with n pointers was begun, and its pointers stand from a place on: whatever hangs on them, the tree is written
-- once that is. Or a limit was met for it, and so one is met for the tree.
abbrev pub Begins : Arena → Arena → Result Place WriteFault → Place → ℕ → (Nodes → Node) → Type 0
Begins old new (Ok first) at n tree =
    IsWithin new
    × IsRun (written new) first n
    × SameLimits old new
    × ((ts : Nodes) → count ts ≡ n → tree_on old at (tree ts) ≡ row_on new first ts)
Begins old new (Err e) at n tree = (ts : Nodes) → count ts ≡ n → Shaped (tree ts) → Refuses old.capacity e (tree_on old at (tree ts))

-- The same of a composite list, whose elements stand from a place on.
abbrev pub BeginsBodies : Arena → Arena → Result Place WriteFault → Place → ℕ → ℕ → Bodies → Type 0
BeginsBodies old new (Ok first) at d n bs =
    IsWithin new
    × IsRun (written new) first (number_of bs * (d + n))
    × SameLimits old new
    × (tree_on old at (structs d n bs) ≡ bodies_on new first d n bs)
BeginsBodies old new (Err e) at d n bs = Refuses old.capacity e (tree_on old at (structs d n bs))
