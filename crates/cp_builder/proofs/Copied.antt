-- What is copied has the elements and the capabilities that were read, at their new places.
use Rattle.std.proofs.Common.{◌≡◌, ℕ, suc, ◌+◌, ◌<◌, Bool, true, false, cond, if◌then◌else◌, take, ◌++◌, Option, Result, Ok, Err, IfOk, is_err, List, [], ◌∷◌, length, map, get_or, refl, sym, ap, subst, ◌∙◌, arith}
use Rattle.std.proofs.Math.Seq.{take-suc}
use Rattle.std.proofs.lemmas.List.{get_or-map, length-map}
use Rattle.cp_words.specs.declared.pointer.ElementSize.{ElementSize}
use Rattle.cp_words.specs.declared.pointer.ElementSize.TheVariants as sizes
use Rattle.cp_tree.specs.Node.{Node, null, cap, struct, list, ptrs, structs, Nodes, no_nodes, node, Bodies, no_bodies, body, element_size}
use Rattle.cp_tree.specs.NodeOf.{node_of, body_of, nodes_of, bodies_of}
use Rattle.cp_tree.specs.declared.tree.Tree.{Tree}
use Rattle.cp_tree.specs.declared.tree.Body.{Body}
use Rattle.cp_tree.proofs.Trees.{body_of-is}
use Rattle.cp_fields.specs.Items.{number_item, numbers_of, pointer_items, struct_items, items_of}
use Rattle.cp_fields.specs.Kinds.{reads_from, reads_from_structs}
use Rattle.cp_fields.specs.Pointers.{list_field}
use Rattle.cp_fields.specs.declared.kind.WrongKind.{WrongKind}
use Rattle.cp_fields.proofs.Owned.{read_at}
use Rattle.cp_builder.specs.Copies.{placed, placed_nodes, placed_bodies, IsListOf, names, names_one, names_in, Marks}

numbers-placed : (places : List (Option ℕ)) (ns : List ℕ) → map (placed places) (map number_item ns) ≡ map number_item ns
numbers-placed places [] = refl
numbers-placed places (n ∷ ns) = ap (λ (l : List Node). number_item n ∷ l) (numbers-placed places ns)

pointers-placed : (places : List (Option ℕ)) (ts : Nodes) → pointer_items (placed_nodes places ts) ≡ map (placed places) (pointer_items ts)
pointers-placed places no_nodes = refl
pointers-placed places (node t ts) = ap (λ (l : List Node). struct [] (node (placed places t) no_nodes) ∷ l) (pointers-placed places ts)

structs-placed : (places : List (Option ℕ)) (bs : Bodies) → struct_items (placed_bodies places bs) ≡ map (placed places) (struct_items bs)
structs-placed places no_bodies = refl
structs-placed places (body ws ts bs) = ap (λ (l : List Node). struct ws (placed_nodes places ts) ∷ l) (structs-placed places bs)

ok_value : {A : Type 0} {v w : A} → ◌≡◌ {A = Result A WrongKind} (Ok v) (Ok w) → v ≡ w
ok_value e = cc

-- what was read in place of a condition that held
was : {A : Type 0} (b : Bool) (x : A) (fault : WrongKind) (z : A) → cond b (Ok x) (Err fault) ≡ Ok z → x ≡ z
was true x fault z e = ok_value e
was false x fault z e = cc

-- what was read in place of a condition that held is read there of any other value
still : {A : Type 0} (b : Bool) (x y : A) (fault other : WrongKind) (z : A) → cond b (Ok x) (Err fault) ≡ Ok z → (x ≡ z) × (cond b (Ok y) (Err other) ≡ Ok y)
still true x y fault other z e = (ok_value e, refl)
still false x y fault other z e = cc

-- A list that is read is read of its copy, with the copies of its elements.
list-placed : (places : List (Option ℕ)) (size : ElementSize) (t : Node) (items : List Node) → list_field size t ≡ Ok items → (t ≡ null → ⊥) → IsListOf size (map (placed places) items) (placed places t)
list-placed places size null items e some = absurd (some refl)
list-placed places size (cap i) items e some = cc
list-placed places size (struct ws ts) items e some = cc
list-placed places size (list es) items e some =
    let s = still (reads_from size (element_size es)) (items_of (list es)) (items_of (list es)) _ _ items e in
    (s.1 ∙ ap Ok (sym (numbers-placed places (numbers_of es)) ∙ ap (map (placed places)) s.0), λ n. cc)
list-placed places size (ptrs ts) items e some =
    let s = still (reads_from size sizes.Pointer) (items_of (ptrs ts)) (items_of (ptrs (placed_nodes places ts))) _ _ items e in
    (s.1 ∙ ap Ok (pointers-placed places ts ∙ ap (map (placed places)) s.0), λ n. cc)
list-placed places size (structs d n bs) items e some =
    let s = still (reads_from_structs size d n) (items_of (structs d n bs)) (items_of (structs d n (placed_bodies places bs))) _ _ items e in
    (s.1 ∙ ap Ok (structs-placed places bs ∙ ap (map (placed places)) s.0), λ n. cc)

-- what is read of a list are its elements
listed : (size : ElementSize) (t : Node) (l : List Node) → list_field size t ≡ Ok l → items_of t ≡ l
listed size null l e = ok_value e
listed size (cap i) l e = cc
listed size (struct ws ts) l e = cc
listed size (list es) l e = was (reads_from size (element_size es)) (items_of (list es)) _ l e
listed size (ptrs ts) l e = was (reads_from size sizes.Pointer) (items_of (ptrs ts)) _ l e
listed size (structs d n bs) l e = was (reads_from_structs size d n) (items_of (structs d n bs)) _ l e

-- the same by elements that are known
list_copied : (places : List (Option ℕ)) (size : ElementSize) (t : Node) (items l : List Node) → list_field size t ≡ Ok l → items_of t ≡ items → (t ≡ null → ⊥) → IsListOf size (map (placed places) items) (placed places t)
list_copied places size t items l e same some = rw (← same) (list-placed places size t (items_of t) (e ∙ ap Ok (sym (listed size t l e))) some)

-- A copy of the tree that a list was read from is a list of the copies of its elements.
pub copy_reads : {E : Type 0} (places : List (Option ℕ)) (size : ElementSize) (t : Node) (items : List Node) (r : Result (List Node) WrongKind) (copy : Result Node E)
    → r ≡ list_field size t → is_err r ≡ false → items_of t ≡ items → (t ≡ null → ⊥) → IfOk copy (λ w. w ≡ placed places t) → IfOk copy (IsListOf size (map (placed places) items))
copy_reads places size t items (Ok l) (Ok w) read ok same some copied = rw copied (list_copied places size t items l (sym read) same some)
copy_reads places size t items (Ok l) (Err e) read ok same some copied = tt
copy_reads places size t items (Err f) copy read ok same some copied = cc

-- null has no elements
pub none_copied : (places : List (Option ℕ)) (t : Node) (items : List Node) → t ≡ null → items_of t ≡ items → [] ≡ map (placed places) items
none_copied places t items null_is same = ap (map (placed places)) (sym (ap items_of null_is) ∙ same)

-- trees that have their places one by one
pub row-placed : (places : List (Option ℕ)) (xs ys : List Tree) → length xs ≡ length ys → ((k : ℕ) (d : Tree) → k < length ys → node_of (get_or xs k d) ≡ placed places (node_of (get_or ys k d)))
    → nodes_of (map node_of xs) ≡ placed_nodes places (nodes_of (map node_of ys))
row-placed places [] [] e each = refl
row-placed places [] (y ∷ ys) e each = absurd (omega (arith, e))
row-placed places (x ∷ xs) [] e each = absurd (omega (arith, e))
row-placed places (x ∷ xs) (y ∷ ys) e each =
    ap (λ (t : Node). node t (nodes_of (map node_of xs))) (each 0 y (omega arith))
    ∙ ap (λ (ts : Nodes). node (placed places (node_of y)) ts) (row-placed places xs ys (omega (arith, e)) (λ k d h. each (suc k) d (omega (arith, h))))

-- a body whose words stay, and whose trees have their places
abbrev pub BodyPlaced : List (Option ℕ) → Body → Body → Type 0
BodyPlaced places new old = ((body_of new).0 ≡ (body_of old).0) × ((body_of new).1 ≡ placed_nodes places (body_of old).1)

pub bodies-placed : (places : List (Option ℕ)) (xs ys : List Body) → length xs ≡ length ys → ((k : ℕ) (d : Body) → k < length ys → BodyPlaced places (get_or xs k d) (get_or ys k d))
    → bodies_of (map body_of xs) ≡ placed_bodies places (bodies_of (map body_of ys))
bodies-placed places [] [] e each = refl
bodies-placed places [] (y ∷ ys) e each = absurd (omega (arith, e))
bodies-placed places (x ∷ xs) [] e each = absurd (omega (arith, e))
bodies-placed places (x ∷ xs) (y ∷ ys) e each =
    let first = each 0 y (omega arith) in
    let rest = bodies-placed places xs ys (omega (arith, e)) (λ k d h. each (suc k) d (omega (arith, h))) in
    rw (first.0, first.1, rest) refl

or-assoc : (x y z : Bool) → (if (if x then true else y) then true else z) ≡ (if x then true else (if y then true else z))
or-assoc true y z = refl
or-assoc false y z = refl

or-false : (x : Bool) → x ≡ (if x then true else false)
or-false true = refl
or-false false = refl

-- marks of one thing, and then of another
marks-then : (f g both : ℕ → Bool) (a b c : List Bool) → ((i : ℕ) → both i ≡ (if f i then true else g i)) → Marks f a b → Marks g b c → Marks both a c
marks-then f g both a b c is p q =
    (q.0 ∙ p.0, λ i h. q.1 i (omega (arith, h, p.0)) ∙ ap (λ (x : Bool). if x then true else g i) (p.1 i h) ∙ or-assoc (get_or a i false) (f i) (g i) ∙ ap (λ (x : Bool). if get_or a i false then true else x) (sym (is i)))

names-last : (xs : List Node) (t : Node) (i : ℕ) → names_one (nodes_of (xs ++ t ∷ [])) i ≡ (if names_one (nodes_of xs) i then true else names t i)
names-last [] t i = sym (or-false (names t i))
names-last (x ∷ xs) t i = ap (λ (b : Bool). if names x i then true else b) (names-last xs t i) ∙ sym (or-assoc (names x i) (names_one (nodes_of xs) i) (names t i))

in-last : (xs : List (List ℕ × Nodes)) (b : List ℕ × Nodes) (i : ℕ) → names_in (bodies_of (xs ++ b ∷ [])) i ≡ (if names_in (bodies_of xs) i then true else names_one b.1 i)
in-last [] b i = sym (or-false (names_one b.1 i))
in-last (x ∷ xs) b i = ap (λ (c : Bool). if names_one x.1 i then true else c) (in-last xs b i) ∙ sym (or-assoc (names_one x.1 i) (names_in (bodies_of xs) i) (names_one b.1 i))

-- one more tree was looked at
pub marks-tree : (ts : List Tree) (k : ℕ) (x : Tree) (a b c : List Bool) → k < length ts → x ≡ get_or ts k x
    → Marks (names_one (nodes_of (take k (map node_of ts)))) a b → Marks (names (node_of x)) b c → Marks (names_one (nodes_of (take (k + 1) (map node_of ts)))) a c
marks-tree ts k x a b c there is before this =
    let inside : k < length (map node_of ts) = omega (arith, length-map ts node_of, there) in
    let next : suc k ≡ k + 1 = omega arith in
    let more : take k (map node_of ts) ++ node_of x ∷ [] ≡ take (k + 1) (map node_of ts) =
    ap (λ (n : Node). take k (map node_of ts) ++ n ∷ []) (read_at node_of ts (map node_of ts) k x refl inside is)
    ∙ sym (take-suc (map node_of ts) k null inside)
    ∙ ap (λ (n : ℕ). take n (map node_of ts)) next in
    marks-then (names_one (nodes_of (take k (map node_of ts)))) (names (node_of x)) (names_one (nodes_of (take (k + 1) (map node_of ts)))) a b c
    (λ i. ap (λ (l : List Node). names_one (nodes_of l) i) (sym more) ∙ names-last (take k (map node_of ts)) (node_of x) i) before this

-- one more struct was looked at
pub marks-body : (bs : List Body) (k : ℕ) (x : Body) (a b c : List Bool) → k < length bs → x ≡ get_or bs k x
    → Marks (names_in (bodies_of (take k (map body_of bs)))) a b → Marks (names_one (nodes_of (map node_of x.ptrs.items))) b c
    → Marks (names_in (bodies_of (take (k + 1) (map body_of bs)))) a c
marks-body bs k x a b c there is before this =
    let inside : k < length (map body_of bs) = omega (arith, length-map bs body_of, there) in
    let next : suc k ≡ k + 1 = omega arith in
    let read : body_of x ≡ get_or (map body_of bs) k (body_of x) = ap body_of is ∙ sym (get_or-map body_of bs k x (body_of x) there) in
    let more : take k (map body_of bs) ++ body_of x ∷ [] ≡ take (k + 1) (map body_of bs) =
    ap (λ (n : List ℕ × Nodes). take k (map body_of bs) ++ n ∷ []) read
    ∙ sym (take-suc (map body_of bs) k (body_of x) inside)
    ∙ ap (λ (n : ℕ). take n (map body_of bs)) next in
    marks-then (names_in (bodies_of (take k (map body_of bs)))) (names_one (body_of x).1) (names_in (bodies_of (take (k + 1) (map body_of bs)))) a b c
    (λ i. ap (λ (l : List (List ℕ × Nodes)). names_in (bodies_of l) i) (sym more) ∙ in-last (take k (map body_of bs)) (body_of x) i) before
    (subst (λ (ts : Nodes). Marks (names_one ts) b c) (sym (ap (λ (p : List ℕ × Nodes). p.1) (body_of-is x))) this)
