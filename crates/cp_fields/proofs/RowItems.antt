-- The elements of lists, where they lie.
use Rattle.std.proofs.Common.{◌≡◌, ℕ, zero, suc, ◌+◌, ◌<◌, ◌≤◌, ◌==◌, List, [], length, map, get_or, replicate, refl, sym, ap, ◌∙◌, arith, zero-add}
use Rattle.std.proofs.lemmas.List.{length-map, get_or-map, length-replicate, get_or-replicate}
use Rattle.std.proofs.lemmas.List.FromFn.{length-map-range_with_len, get_or-map-range_with_len}
use Rattle.std.specs.List.{range_with_len}
use Rattle.cp_words.specs.Word.{bits_of}
use Rattle.cp_words.specs.declared.pointer.ElementSize.{ElementSize}
use Rattle.cp_words.specs.declared.pointer.ElementSize.TheVariants as sizes
use Rattle.cp_tree.specs.Elements.{numbers, element}
use Rattle.cp_tree.specs.Node.{voids, bits, bytes, halves, quads, words, Node, null, cap, struct, list, ptrs, structs, Nodes, no_nodes, node, Bodies, no_bodies, body, count, number_of, IsStruct}
use Rattle.cp_tree.specs.Seen.{shape_of, part_of, node_at, body_at, AreWordsOf}
use Rattle.cp_tree.specs.declared.shape.Shape.{Shape}
use Rattle.cp_tree.specs.declared.shape.Shape.TheVariants as shapes
use Rattle.cp_fields.specs.Items.{number_item, pointer_item, bit_number, pointer_items, struct_items, items_of}
use Rattle.cp_fields.specs.Rows.{IsPointerList, IsStructList}

abbrev counted : Shape → ℕ
counted (shapes.List size n) = n
counted (shapes.Structs d k n) = n
counted other = 0

abbrev sized : Shape → ElementSize
sized (shapes.List size n) = size
sized other = sizes.Void

bit-back : (x : ℕ) → x < 2 → bit_number (x == 1) ≡ x
bit-back zero h = refl
bit-back (suc zero) h = refl
bit-back (suc (suc x)) h = absurd (omega arith)

-- bits as numbers are numbers of one bit
bits-numbers : (ws : List ℕ) (a n : ℕ) → map bit_number (map (λ k. element ws 1 k == 1) (range_with_len a n)) ≡ map (element ws 1) (range_with_len a n)
bits-numbers ws a zero = refl
bits-numbers ws a (suc n) =
    let small : element ws 1 a < 2 = omega arith in
    rw (bit-back (element ws 1 a) small, bits-numbers ws (a + 1) n) refl

-- a list of voids that is read in place
pub void_items : (t : Node) (n : ℕ) → shape_of t ≡ shapes.List sizes.Void n → items_of t ≡ map number_item (replicate n 0)
void_items (list (voids k)) n e = let same : k ≡ n = ap counted e in rw same refl
void_items null n e = cc
void_items (cap k) n e = cc
void_items (struct ws ts) n e = cc
void_items (list (bits bs)) n e = cc
void_items (list (bytes bs)) n e = cc
void_items (list (halves ns)) n e = cc
void_items (list (quads ns)) n e = cc
void_items (list (words ns)) n e = cc
void_items (ptrs ts) n e = cc
void_items (structs d k bs) n e = cc

-- a list of numbers that is read in place
pub packed_items : (t : Node) (size : ElementSize) (n : ℕ) (lent : List ℕ) → shape_of t ≡ shapes.List size n → (size ≡ sizes.Void → ⊥) → (size ≡ sizes.Pointer → ⊥) → AreWordsOf lent t → items_of t ≡ map number_item (numbers lent (bits_of size) n)
packed_items (list (voids k)) size n lent e void pointer held = absurd (void (sym (ap sized e)))
packed_items (list (bits bs)) size n lent e void pointer held =
    rw (← ap sized e, ← ap counted e) (ap (λ es. items_of (list es)) held.1 ∙ ap (map number_item) (bits-numbers lent 0 (length bs)))
packed_items (list (bytes bs)) size n lent e void pointer held = rw (← ap sized e, ← ap counted e) (ap (λ es. items_of (list es)) held.1)
packed_items (list (halves bs)) size n lent e void pointer held = rw (← ap sized e, ← ap counted e) (ap (λ es. items_of (list es)) held.1)
packed_items (list (quads bs)) size n lent e void pointer held = rw (← ap sized e, ← ap counted e) (ap (λ es. items_of (list es)) held.1)
packed_items (list (words bs)) size n lent e void pointer held = rw (← ap sized e, ← ap counted e) (ap (λ es. items_of (list es)) held.1)
packed_items null size n lent e void pointer held = cc
packed_items (cap k) size n lent e void pointer held = cc
packed_items (struct ws ts) size n lent e void pointer held = cc
packed_items (ptrs ts) size n lent e void pointer held = absurd (pointer (sym (ap sized e)))
packed_items (structs d k bs) size n lent e void pointer held = cc

length-pointer_items : (ts : Nodes) → length (pointer_items ts) ≡ count ts
length-pointer_items no_nodes = refl
length-pointer_items (node t ts) = ap suc (length-pointer_items ts)

length-struct_items : (bs : Bodies) → length (struct_items bs) ≡ number_of bs
length-struct_items no_bodies = refl
length-struct_items (body ws ts bs) = ap suc (length-struct_items bs)

-- a list of pointers, by its shape
pub pointer_list : (t : Node) (n : ℕ) → shape_of t ≡ shapes.List sizes.Pointer n → IsPointerList t × (length (items_of t) ≡ n)
pointer_list (ptrs ts) n e = (tt, length-pointer_items ts ∙ ap counted e)
pointer_list null n e = cc
pointer_list (cap k) n e = cc
pointer_list (struct ws ts) n e = cc
pointer_list (list (voids k)) n e = cc
pointer_list (list (bits bs)) n e = cc
pointer_list (list (bytes bs)) n e = cc
pointer_list (list (halves ns)) n e = cc
pointer_list (list (quads ns)) n e = cc
pointer_list (list (words ns)) n e = cc
pointer_list (structs d k bs) n e = cc

-- a list of structs, by its shape
pub struct_list : (t : Node) (d k n : ℕ) → shape_of t ≡ shapes.Structs d k n → IsStructList t × (length (items_of t) ≡ n)
struct_list (structs c l bs) d k n e = (tt, length-struct_items bs ∙ ap counted e)
struct_list null d k n e = cc
struct_list (cap i) d k n e = cc
struct_list (struct ws ts) d k n e = cc
struct_list (list es) d k n e = cc
struct_list (ptrs ts) d k n e = cc

-- no list's shape has composite elements
pub no_composite : (t : Node) (n : ℕ) → shape_of t ≡ shapes.List sizes.Composite n → [] ≡ items_of t
no_composite null n e = cc
no_composite (cap k) n e = cc
no_composite (struct ws ts) n e = cc
no_composite (list (voids k)) n e = cc
no_composite (list (bits bs)) n e = cc
no_composite (list (bytes bs)) n e = cc
no_composite (list (halves ns)) n e = cc
no_composite (list (quads ns)) n e = cc
no_composite (list (words ns)) n e = cc
no_composite (ptrs ts) n e = cc
no_composite (structs d k bs) n e = cc

-- what is no list has no elements
pub no_items : (t : Node) → ((size : ElementSize) (n : ℕ) → shape_of t ≡ shapes.List size n → ⊥) → ((d k n : ℕ) → shape_of t ≡ shapes.Structs d k n → ⊥) → [] ≡ items_of t
no_items null h g = refl
no_items (cap k) h g = refl
no_items (struct ws ts) h g = refl
no_items (list es) h g = absurd (h _ _ refl)
no_items (ptrs ts) h g = absurd (h _ _ refl)
no_items (structs d k bs) h g = absurd (g _ _ _ refl)

pub length-numbers : (ws : List ℕ) (w n : ℕ) → length (numbers ws w n) ≡ n
length-numbers ws w n = length-map-range_with_len (element ws w) 0 n

-- an element of a list of numbers
pub number_at : (ns : List ℕ) (i : ℕ) → i < length (map number_item ns) → number_item (get_or ns i 0) ≡ get_or (map number_item ns) i null
number_at ns i h = sym (get_or-map number_item ns i 0 null (omega (arith, length-map ns number_item)))

pub packed_at : (ws : List ℕ) (w n i : ℕ) → i < length (map number_item (numbers ws w n)) → number_item (element ws w i) ≡ get_or (map number_item (numbers ws w n)) i null
packed_at ws w n i h =
    let inside : i < n = omega (arith, length-map (numbers ws w n) number_item, length-map-range_with_len (element ws w) 0 n) in
    ap number_item (sym (get_or-map-range_with_len (element ws w) 0 n i i 0 inside (zero-add i))) ∙ number_at (numbers ws w n) i h

-- an element of a list of pointers that is read in place
pub pointer_at : (t : Node) (i : ℕ) → IsPointerList t → i < length (items_of t) → pointer_item (part_of t i) ≡ get_or (items_of t) i null
pointer_at (ptrs ts) i is h = go ts i h
  where
    go : (ts : Nodes) (i : ℕ) → i < length (pointer_items ts) → pointer_item (node_at ts i) ≡ get_or (pointer_items ts) i null
    go no_nodes i h = absurd (omega arith)
    go (node t ts) zero h = refl
    go (node t ts) (suc i) h = go ts i (omega arith)
pointer_at null i is h = absurd is
pointer_at (cap k) i is h = absurd is
pointer_at (struct ws ts) i is h = absurd is
pointer_at (list es) i is h = absurd is
pointer_at (structs d k bs) i is h = absurd is

-- an element of a list of structs that is read in place
pub struct_at : (t : Node) (i : ℕ) → IsStructList t → i < length (items_of t) → IsStruct (part_of t i) × (part_of t i ≡ get_or (items_of t) i null)
struct_at (structs d k bs) i is h = go bs i h
  where
    go : (bs : Bodies) (i : ℕ) → i < length (struct_items bs) → IsStruct (body_at bs i) × (body_at bs i ≡ get_or (struct_items bs) i null)
    go no_bodies i h = absurd (omega arith)
    go (body ws ts bs) zero h = (tt, refl)
    go (body ws ts bs) (suc i) h = go bs i (omega arith)
struct_at null i is h = absurd is
struct_at (cap k) i is h = absurd is
struct_at (struct ws ts) i is h = absurd is
struct_at (list es) i is h = absurd is
struct_at (ptrs ts) i is h = absurd is

-- a void is 0
pub zero_at : (n i : ℕ) → i < length (map number_item (replicate n 0)) → number_item 0 ≡ get_or (map number_item (replicate n 0)) i null
zero_at n i h =
    let inside : i < n = omega (arith, length-map (replicate n 0) number_item, length-replicate {A = ℕ} n 0) in
    ap number_item (sym (get_or-replicate n i 0 0 inside)) ∙ number_at (replicate n 0) i h

-- what a look at a list in place says of its elements: how many, and which numbers
length-items : (t : Node) (ns : List ℕ) → items_of t ≡ map number_item ns → length (items_of t) ≡ length ns
length-items t ns e = ap (λ (l : List Node). length l) e ∙ length-map ns number_item

pub void_row : (t : Node) (n : ℕ) → items_of t ≡ map number_item (replicate n 0) → length (items_of t) ≡ n
void_row t n e = length-items t (replicate n 0) e ∙ length-replicate {A = ℕ} n 0

pub packed_row : (t : Node) (ws : List ℕ) (w n : ℕ) → items_of t ≡ map number_item (numbers ws w n) → length (items_of t) ≡ n
packed_row t ws w n e = length-items t (numbers ws w n) e ∙ length-numbers ws w n

pub void_at : (t : Node) (n i : ℕ) → items_of t ≡ map number_item (replicate n 0) → i < length (items_of t) → number_item 0 ≡ get_or (items_of t) i null
void_at t n i e h = rw e (zero_at n i (rw e at h))

pub packed_at_of : (t : Node) (ws : List ℕ) (w n i : ℕ) → items_of t ≡ map number_item (numbers ws w n) → i < length (items_of t) → number_item (element ws w i) ≡ get_or (items_of t) i null
packed_at_of t ws w n i e h = rw e (packed_at ws w n i (rw e at h))

-- how many bits an element has
pub bits_some : (size : ElementSize) → (size ≡ sizes.Void → ⊥) → (0 < bits_of size) × (bits_of size ≤ 64)
bits_some sizes.Void not = absurd (not refl)
bits_some sizes.Bit not = (omega arith, omega arith)
bits_some sizes.Byte not = (omega arith, omega arith)
bits_some sizes.TwoBytes not = (omega arith, omega arith)
bits_some sizes.FourBytes not = (omega arith, omega arith)
bits_some sizes.EightBytes not = (omega arith, omega arith)
bits_some sizes.Pointer not = (omega arith, omega arith)
bits_some sizes.Composite not = (omega arith, omega arith)
