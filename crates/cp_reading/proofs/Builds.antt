-- Trees that are built part by part.
use Rattle.std.proofs.Common.{◌≡◌, ℕ, zero, suc, ◌+◌, ◌<◌, ◌≤◌, List, [], ◌∷◌, ◌++◌, length, take, get_or, refl, ap, ◌∙◌, arith}
use Rattle.std.proofs.lemmas.List.{take_more, take_all}
use Rattle.cp_tree.specs.Node.{Node, null, cap, struct, list, ptrs, structs, Nodes, no_nodes, node, Bodies, no_bodies, body, count, number_of, depth, greatest_depth, deepest_body, IsStruct, row_of}
use Rattle.cp_tree.specs.NodeOf.{nodes_of, bodies_of}
use Rattle.cp_reading.specs.Rows.{bodies_in}
use Rattle.cp_tree.specs.Seen.{shape_of, node_at, body_at, part_of}
use Rattle.cp_reading.specs.Visited.{pointers, pointers_of_row, pointers_of_bodies}
use Rattle.cp_tree.specs.declared.shape.Shape.TheVariants as shapes

abbrev pub trees_of : Nodes → List Node
trees_of no_nodes = []
trees_of (node t ts) = t ∷ trees_of ts

abbrev pub pairs_of : Bodies → List (List ℕ × Nodes)
pairs_of no_bodies = []
pairs_of (body ws ts bs) = (ws, ts) ∷ pairs_of bs

nodes_of-trees_of : (ts : Nodes) → nodes_of (trees_of ts) ≡ ts
nodes_of-trees_of no_nodes = refl
nodes_of-trees_of (node t ts) = ap (node t) (nodes_of-trees_of ts)

bodies_of-pairs_of : (bs : Bodies) → bodies_of (pairs_of bs) ≡ bs
bodies_of-pairs_of no_bodies = refl
bodies_of-pairs_of (body ws ts bs) = ap (body ws ts) (bodies_of-pairs_of bs)

length-trees_of : (ts : Nodes) → length (trees_of ts) ≡ count ts
length-trees_of no_nodes = refl
length-trees_of (node t ts) = ap suc (length-trees_of ts)

length-pairs_of : (bs : Bodies) → length (pairs_of bs) ≡ number_of bs
length-pairs_of no_bodies = refl
length-pairs_of (body ws ts bs) = ap suc (length-pairs_of bs)

get-trees_of : (ts : Nodes) (i : ℕ) → get_or (trees_of ts) i null ≡ node_at ts i
get-trees_of no_nodes i = refl
get-trees_of (node t ts) zero = refl
get-trees_of (node t ts) (suc i) = get-trees_of ts i

get-pairs_of : (bs : Bodies) (i : ℕ) (p : List ℕ × Nodes) → i < number_of bs → struct p.0 p.1 ≡ body_at bs i → get_or (pairs_of bs) i p ≡ p
get-pairs_of no_bodies i p within e = absurd (omega arith)
get-pairs_of (body ws ts bs) zero p within e =
    let a : p.0 ≡ ws = cc in
    let b : p.1 ≡ ts = cc in
    let same : (ws, ts) ≡ (p.0, p.1) = rw (a, b) refl in
    same
get-pairs_of (body ws ts bs) (suc i) p within e = get-pairs_of bs i p (omega arith) e

-- one more tree, and all of them
pub one_more_tree : (ts : Nodes) (i : ℕ) (done : List Node) (t : Node) → done ≡ take i (trees_of ts) → i < count ts → t ≡ node_at ts i → done ++ t ∷ [] ≡ take (i + 1) (trees_of ts)
one_more_tree ts i done t so_far within is =
    let inside : i < length (trees_of ts) = rw (length-trees_of ts) within in
    rw (take_more (trees_of ts) i null inside, so_far, get-trees_of ts i, is)

pub all_trees : (ts : Nodes) (i : ℕ) (done : List Node) → done ≡ take i (trees_of ts) → count ts ≤ i → nodes_of done ≡ ts
all_trees ts i done so_far end =
    let whole : length (trees_of ts) ≤ i = rw (length-trees_of ts) end in
    ap nodes_of (so_far ∙ take_all i (trees_of ts) whole) ∙ nodes_of-trees_of ts

pub one_more_body : (bs : Bodies) (i : ℕ) (done : List (List ℕ × Nodes)) (p : List ℕ × Nodes) → done ≡ take i (pairs_of bs) → i < number_of bs → struct p.0 p.1 ≡ body_at bs i → done ++ p ∷ [] ≡ take (i + 1) (pairs_of bs)
one_more_body bs i done p so_far within is =
    let inside : i < length (pairs_of bs) = rw (length-pairs_of bs) within in
    rw (take_more (pairs_of bs) i p inside, so_far, get-pairs_of bs i p within is)

pub all_bodies : (bs : Bodies) (i : ℕ) (done : List (List ℕ × Nodes)) → done ≡ take i (pairs_of bs) → number_of bs ≤ i → bodies_of done ≡ bs
all_bodies bs i done so_far end =
    let whole : length (pairs_of bs) ≤ i = rw (length-pairs_of bs) end in
    ap bodies_of (so_far ∙ take_all i (pairs_of bs) whole) ∙ bodies_of-pairs_of bs

-- a part is one of the row, or one of the elements
pub part-row : (t : Node) (i : ℕ) → i < count (row_of t) → part_of t i ≡ node_at (row_of t) i
part-row (struct ws ts) i within = refl
part-row (ptrs ts) i within = refl
part-row null i within = absurd (omega arith)
part-row (cap k) i within = absurd (omega arith)
part-row (list es) i within = absurd (omega arith)
part-row (structs d n bs) i within = absurd (omega arith)

pub part-body : (t : Node) (i : ℕ) → i < number_of (bodies_in t) → part_of t i ≡ body_at (bodies_in t) i
part-body (structs d n bs) i within = refl
part-body null i within = absurd (omega arith)
part-body (cap k) i within = absurd (omega arith)
part-body (struct ws ts) i within = absurd (omega arith)
part-body (list es) i within = absurd (omega arith)
part-body (ptrs ts) i within = absurd (omega arith)

body_at-struct : (bs : Bodies) (i : ℕ) → i < number_of bs → IsStruct (body_at bs i)
body_at-struct no_bodies i within = absurd (omega arith)
body_at-struct (body ws ts bs) zero within = tt
body_at-struct (body ws ts bs) (suc i) within = body_at-struct bs i (omega arith)

pub part-struct : (t : Node) (i : ℕ) → i < number_of (bodies_in t) → IsStruct (part_of t i)
part-struct (structs d n bs) i within = body_at-struct bs i within
part-struct null i within = absurd (omega arith)
part-struct (cap k) i within = absurd (omega arith)
part-struct (struct ws ts) i within = absurd (omega arith)
part-struct (list es) i within = absurd (omega arith)
part-struct (ptrs ts) i within = absurd (omega arith)

depth-node_at : (ts : Nodes) (i : ℕ) → depth (node_at ts i) ≤ greatest_depth ts
depth-node_at no_nodes i = omega arith
depth-node_at (node t ts) zero = omega arith
depth-node_at (node t ts) (suc i) = omega (arith, depth-node_at ts i)

depth-body_at : (bs : Bodies) (i : ℕ) → depth (body_at bs i) ≤ deepest_body bs + 1
depth-body_at no_bodies i = omega arith
depth-body_at (body ws ts bs) zero = omega arith
depth-body_at (body ws ts bs) (suc i) = omega (arith, depth-body_at bs i)

-- what hangs on a tree's pointers nests less deep, and an element no deeper
pub row_nests : (t : Node) (i : ℕ) → i < count (row_of t) → depth (part_of t i) < depth t
row_nests (struct ws ts) i within = omega (arith, depth-node_at ts i)
row_nests (ptrs ts) i within = omega (arith, depth-node_at ts i)
row_nests null i within = absurd (omega arith)
row_nests (cap k) i within = absurd (omega arith)
row_nests (list es) i within = absurd (omega arith)
row_nests (structs d n bs) i within = absurd (omega arith)

pub element_nests : (t : Node) (i : ℕ) → i < number_of (bodies_in t) → depth (part_of t i) ≤ depth t
element_nests (structs d n bs) i within = omega (arith, depth-body_at bs i)
element_nests null i within = absurd (omega arith)
element_nests (cap k) i within = absurd (omega arith)
element_nests (struct ws ts) i within = absurd (omega arith)
element_nests (list es) i within = absurd (omega arith)
element_nests (ptrs ts) i within = absurd (omega arith)

-- a struct's shape says how many pointers it has
pub struct-shape : (t : Node) → IsStruct t → (d : ℕ) × (shape_of t ≡ shapes.Struct d (count (row_of t)))
struct-shape (struct ws ts) s = (length ws, refl)
struct-shape null s = absurd s
struct-shape (cap k) s = absurd s
struct-shape (list es) s = absurd s
struct-shape (ptrs ts) s = absurd s
struct-shape (structs d n bs) s = absurd s

pub pointers-shape : (t : Node) (d n : ℕ) → IsStruct t → shapes.Struct d n ≡ shape_of t → count (row_of t) ≡ n
pointers-shape t d n s e = let k = struct-shape t s in let same : shapes.Struct d n ≡ shapes.Struct k.0 (count (row_of t)) = e ∙ k.1 in cc

-- the words visited to build the first n trees of a row
abbrev pub first_pointers : Nodes → ℕ → ℕ
first_pointers no_nodes i = 0
first_pointers (node t ts) zero = 0
first_pointers (node t ts) (suc i) = 1 + pointers t + first_pointers ts i

pub no_pointers : (ts : Nodes) → first_pointers ts 0 ≡ 0
no_pointers no_nodes = refl
no_pointers (node t ts) = refl

next_pointers : (ts : Nodes) (i : ℕ) → i < count ts → first_pointers ts (suc i) ≡ first_pointers ts i + 1 + pointers (node_at ts i)
next_pointers no_nodes i within = absurd (omega arith)
next_pointers (node t ts) zero within = omega (arith, no_pointers ts)
next_pointers (node t ts) (suc i) within = omega (arith, next_pointers ts i (omega arith))

pub more_pointers : (ts : Nodes) (i : ℕ) → i < count ts → first_pointers ts (i + 1) ≡ first_pointers ts i + 1 + pointers (node_at ts i)
more_pointers ts i within = let e : i + 1 ≡ suc i = omega arith in rw e (next_pointers ts i within)

pub all_pointers : (ts : Nodes) (i : ℕ) → count ts ≤ i → first_pointers ts i ≡ pointers_of_row ts
all_pointers no_nodes i end = refl
all_pointers (node t ts) zero end = absurd (omega arith)
all_pointers (node t ts) (suc i) end = omega (arith, all_pointers ts i (omega arith))

pub few_pointers : (ts : Nodes) (i : ℕ) → first_pointers ts i ≤ pointers_of_row ts
few_pointers no_nodes i = omega arith
few_pointers (node t ts) zero = omega arith
few_pointers (node t ts) (suc i) = omega (arith, few_pointers ts i)

-- the same for the first elements of a composite list
abbrev pub first_elements : Bodies → ℕ → ℕ
first_elements no_bodies i = 0
first_elements (body ws ts bs) zero = 0
first_elements (body ws ts bs) (suc i) = pointers_of_row ts + first_elements bs i

pub no_elements : (bs : Bodies) → first_elements bs 0 ≡ 0
no_elements no_bodies = refl
no_elements (body ws ts bs) = refl

next_elements : (bs : Bodies) (i : ℕ) → i < number_of bs → first_elements bs (suc i) ≡ first_elements bs i + pointers (body_at bs i)
next_elements no_bodies i within = absurd (omega arith)
next_elements (body ws ts bs) zero within = omega (arith, no_elements bs)
next_elements (body ws ts bs) (suc i) within = omega (arith, next_elements bs i (omega arith))

pub more_elements : (bs : Bodies) (i : ℕ) → i < number_of bs → first_elements bs (i + 1) ≡ first_elements bs i + pointers (body_at bs i)
more_elements bs i within = let e : i + 1 ≡ suc i = omega arith in rw e (next_elements bs i within)

pub all_elements : (bs : Bodies) (i : ℕ) → number_of bs ≤ i → first_elements bs i ≡ pointers_of_bodies bs
all_elements no_bodies i end = refl
all_elements (body ws ts bs) zero end = absurd (omega arith)
all_elements (body ws ts bs) (suc i) end = omega (arith, all_elements bs i (omega arith))

pub few_elements : (bs : Bodies) (i : ℕ) → first_elements bs i ≤ pointers_of_bodies bs
few_elements no_bodies i = omega arith
few_elements (body ws ts bs) zero = omega arith
few_elements (body ws ts bs) (suc i) = omega (arith, few_elements bs i)
