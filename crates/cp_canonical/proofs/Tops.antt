-- What a tree is at its top, by its shape.
use Rattle.std.proofs.Common.{◌≡◌, ℕ, ◌^◌, ◌*◌, ◌+◌, ◌<◌, List, length, take, refl, ap, arith}
use Rattle.cp_words.specs.Word.{words_for}
use Rattle.cp_words.specs.declared.pointer.ElementSize.{ElementSize}
use Rattle.cp_words.specs.declared.pointer.ElementSize.TheVariants as sizes
use Rattle.cp_tree.specs.Elements.{elements_of}
use Rattle.cp_tree.specs.Node.{voids, bits, bytes, halves, quads, words, Node, null, cap, struct, list, ptrs, structs, Bodies, count, number_of, data_of, row_of, IsStruct}
use Rattle.cp_tree.specs.Seen.{AreWordsOf, shape_of}
use Rattle.cp_tree.specs.Shaped.{EachEven, EachShaped, HasSizes, Shaped}
use Rattle.cp_tree.specs.declared.shape.Shape.TheVariants as shapes
use Rattle.cp_reading.specs.Rows.{IsData, bodies_in}
use Rattle.cp_canonical.specs.Cut.{cut, cut_bodies, cut_row, is_null, most_ptrs, most_words, take_ptrs, used_ptrs, used_words}
use Rattle.cp_canonical.specs.Arenas.{IsPtrs, IsStructs}
use Rattle.std.specs.Prelude.{false}

pub null-shape : (t : Node) → shapes.Null ≡ shape_of t → t ≡ null
null-shape null e = refl
null-shape (cap i) e = cc
null-shape (struct ws ts) e = cc
null-shape (list es) e = cc
null-shape (ptrs ts) e = cc
null-shape (structs d n bs) e = cc

pub cap-shape : (t : Node) (i : ℕ) → shapes.Cap i ≡ shape_of t → t ≡ cap i
cap-shape null i e = cc
cap-shape (cap j) i e = cc
cap-shape (struct ws ts) i e = cc
cap-shape (list es) i e = cc
cap-shape (ptrs ts) i e = cc
cap-shape (structs d n bs) i e = cc

-- no other tree has the shape of null
pub some-shape : (t : Node) → (shapes.Null ≡ shape_of t → ⊥) → is_null t ≡ false
some-shape null h = absurd (h refl)
some-shape (cap j) h = refl
some-shape (struct ws ts) h = refl
some-shape (list es) h = refl
some-shape (ptrs ts) h = refl
some-shape (structs d n bs) h = refl

pub ptrs-shape : (t : Node) (n : ℕ) → shapes.List sizes.Pointer n ≡ shape_of t → IsPtrs t × (count (row_of t) ≡ n)
ptrs-shape null n e = cc
ptrs-shape (cap j) n e = cc
ptrs-shape (struct ws ts) n e = cc
ptrs-shape (list (voids m)) n e = cc
ptrs-shape (list (bits bs)) n e = cc
ptrs-shape (list (bytes ns)) n e = cc
ptrs-shape (list (halves ns)) n e = cc
ptrs-shape (list (quads ns)) n e = cc
ptrs-shape (list (words ns)) n e = cc
ptrs-shape (ptrs ts) n e = (tt, cc)
ptrs-shape (structs d m bs) n e = cc

pub struct-top : (t : Node) (d n : ℕ) → shapes.Struct d n ≡ shape_of t → IsStruct t × (count (row_of t) ≡ n)
struct-top null d n e = cc
struct-top (cap j) d n e = cc
struct-top (struct ws ts) d n e = (tt, cc)
struct-top (list es) d n e = cc
struct-top (ptrs ts) d n e = cc
struct-top (structs a b bs) d n e = cc

pub structs-shape : (t : Node) (d n k : ℕ) → shapes.Structs d n k ≡ shape_of t → IsStructs t d n k
structs-shape null d n k e = cc
structs-shape (cap j) d n k e = cc
structs-shape (struct ws ts) d n k e = cc
structs-shape (list es) d n k e = cc
structs-shape (ptrs ts) d n k e = cc
structs-shape (structs a b bs) d n k e = (cc, cc, cc)

-- a list without pointers, by the words that hold it
pub record IsList (t : Node) (size : ElementSize) (n : ℕ) : Type 0 where
  pub data_only : IsData size
  pub few : Shaped t → n < 2 ^ 29
  pub held : (lent : List ℕ) → AreWordsOf lent t → (t ≡ list (elements_of lent size n)) × (length lent ≡ words_for size n)

pub list-shape : (t : Node) (size : ElementSize) (n : ℕ) → shapes.List size n ≡ shape_of t → (sizes.Pointer ≡ size → ⊥) → IsList t size n
list-shape null size n e h = cc
list-shape (cap j) size n e h = cc
list-shape (struct ws ts) size n e h = cc
list-shape (ptrs ts) size n e h = let same : sizes.Pointer ≡ size = cc in absurd (h same)
list-shape (structs d m bs) size n e h = cc
list-shape (list (voids m)) size n e h =
    let a : sizes.Void ≡ size = cc in
    let b : m ≡ n = cc in
    rw (← a, ← b) (record { data_only = tt; few = λ h. h; held = λ lent are. (refl, omega (arith, ap length are)) })
list-shape (list (bits bs)) size n e h =
    let a : sizes.Bit ≡ size = cc in
    let b : length bs ≡ n = cc in
    rw (← a, ← b) (record { data_only = tt; few = λ h. h; held = λ lent are. (ap list are.1, are.0) })
list-shape (list (bytes ns)) size n e h =
    let a : sizes.Byte ≡ size = cc in
    let b : length ns ≡ n = cc in
    rw (← a, ← b) (record { data_only = tt; few = λ h. h.0; held = λ lent are. (ap list are.1, are.0) })
list-shape (list (halves ns)) size n e h =
    let a : sizes.TwoBytes ≡ size = cc in
    let b : length ns ≡ n = cc in
    rw (← a, ← b) (record { data_only = tt; few = λ h. h.0; held = λ lent are. (ap list are.1, are.0) })
list-shape (list (quads ns)) size n e h =
    let a : sizes.FourBytes ≡ size = cc in
    let b : length ns ≡ n = cc in
    rw (← a, ← b) (record { data_only = tt; few = λ h. h.0; held = λ lent are. (ap list are.1, are.0) })
list-shape (list (words ns)) size n e h =
    let a : sizes.EightBytes ≡ size = cc in
    let b : length ns ≡ n = cc in
    rw (← a, ← b) (record { data_only = tt; few = λ h. h.0; held = λ lent are. (ap list are.1, are.0) })

-- what is left of a struct, of a list of pointers and of a composite list
pub cut-struct : (t : Node) → IsStruct t → cut t ≡ struct (take (used_words (data_of t)) (data_of t)) (take_ptrs (used_ptrs (row_of t)) (cut_row (row_of t)))
cut-struct (struct ws ts) s = refl
cut-struct null s = absurd s
cut-struct (cap i) s = absurd s
cut-struct (list es) s = absurd s
cut-struct (ptrs ts) s = absurd s
cut-struct (structs d n bs) s = absurd s

pub cut-ptrs : (t : Node) → IsPtrs t → cut t ≡ ptrs (cut_row (row_of t))
cut-ptrs (ptrs ts) s = refl
cut-ptrs null s = absurd s
cut-ptrs (cap i) s = absurd s
cut-ptrs (struct ws ts) s = absurd s
cut-ptrs (list es) s = absurd s
cut-ptrs (structs d n bs) s = absurd s

pub cut-structs : (t : Node) (d n k : ℕ) → IsStructs t d n k → cut t ≡ structs (most_words (bodies_in t)) (most_ptrs (bodies_in t)) (cut_bodies (most_words (bodies_in t)) (most_ptrs (bodies_in t)) (bodies_in t))
cut-structs (structs a b bs) d n k s = refl
cut-structs null d n k s = absurd s
cut-structs (cap i) d n k s = absurd s
cut-structs (struct ws ts) d n k s = absurd s
cut-structs (list es) d n k s = absurd s
cut-structs (ptrs ts) d n k s = absurd s

-- a struct's words are its data words, and its parts fit
pub struct-words : (t : Node) (lent : List ℕ) → IsStruct t → AreWordsOf lent t → lent ≡ data_of t
struct-words (struct ws ts) lent s are = are
struct-words null lent s are = absurd s
struct-words (cap i) lent s are = absurd s
struct-words (list es) lent s are = absurd s
struct-words (ptrs ts) lent s are = absurd s
struct-words (structs d n bs) lent s are = absurd s

pub struct-shaped : (t : Node) → IsStruct t → Shaped t → HasSizes (length (data_of t)) (count (row_of t)) × EachShaped (row_of t)
struct-shaped (struct ws ts) s h = (h.0, h.2)
struct-shaped null s h = absurd s
struct-shaped (cap i) s h = absurd s
struct-shaped (list es) s h = absurd s
struct-shaped (ptrs ts) s h = absurd s
struct-shaped (structs d n bs) s h = absurd s

pub record AreEven (d n k : ℕ) (bs : Bodies) : Type 0 where
  pub number : number_of bs ≡ k
  pub few : k < 2 ^ 30
  pub small : k * (d + n) < 2 ^ 29
  pub words : d < 2 ^ 16
  pub ptrs : n < 2 ^ 16
  pub even : EachEven d n bs

pub structs-shaped : (t : Node) (d n k : ℕ) → IsStructs t d n k → Shaped t → AreEven d n k (bodies_in t)
structs-shaped (structs a b bs) d n k s h = rw (← s.0, ← s.1, ← s.2) (record { number = refl; few = h.1; small = h.2; words = h.0.0; ptrs = h.0.1; even = h.3 })
structs-shaped null d n k s h = absurd s
structs-shaped (cap i) d n k s h = absurd s
structs-shaped (struct ws ts) d n k s h = absurd s
structs-shaped (list es) d n k s h = absurd s
structs-shaped (ptrs ts) d n k s h = absurd s
