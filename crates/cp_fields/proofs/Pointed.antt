-- What the look at a pointer says of what it stands for.
use Rattle.std.proofs.Common.{◌≡◌, ℕ, zero, suc, ◌-◌, ◌<◌, ◌==◌, Bool, true, false, cond, Ok, List, [], ◌∷◌, length, slice_index, get_or, refl, sym, ap, ◌∙◌, arith}
use Rattle.std.proofs.lemmas.Bool.Decides.{nat_tests}
use Rattle.cp_words.specs.declared.pointer.ElementSize.{ElementSize}
use Rattle.cp_words.specs.declared.pointer.ElementSize.TheVariants as sizes
use Rattle.cp_tree.specs.Elements.{numbers}
use Rattle.cp_tree.specs.Node.{voids, bits, bytes, halves, quads, words, Node, null, cap, struct, list, ptrs, structs}
use Rattle.cp_tree.specs.Seen.{shape_of, AreWordsOf}
use Rattle.cp_tree.specs.declared.shape.Shape.{Shape}
use Rattle.cp_tree.specs.declared.shape.Shape.TheVariants as shapes
use Rattle.cp_fields.specs.Items.{items_of}
use Rattle.cp_fields.specs.Kinds.{wrong, reads_from, reads_from_structs}
use Rattle.cp_fields.specs.Pointers.{ends_in_zero, text_field, data_field, list_field}
use Rattle.cp_fields.specs.declared.kind.Kind.TheVariants as kinds

abbrev counted : Shape → ℕ
counted (shapes.List size n) = n
counted other = 0

-- a list of bytes that is read in place is the bytes that its words hold
pub bytes_read : (t : Node) (n : ℕ) (lent : List ℕ) → shape_of t ≡ shapes.List sizes.Byte n → AreWordsOf lent t → t ≡ list (bytes (numbers lent 8 n))
bytes_read (list (bytes bs)) n lent e held =
    let same : length bs ≡ n = ap counted e in
    ap list (held.1) ∙ ap (λ (k : ℕ). list (bytes (numbers lent 8 k))) same
bytes_read null n lent e held = cc
bytes_read (cap k) n lent e held = cc
bytes_read (struct ws ts) n lent e held = cc
bytes_read (list (voids k)) n lent e held = cc
bytes_read (list (bits bs)) n lent e held = cc
bytes_read (list (halves ns)) n lent e held = cc
bytes_read (list (quads ns)) n lent e held = cc
bytes_read (list (words ns)) n lent e held = cc
bytes_read (ptrs ts) n lent e held = cc
bytes_read (structs d k bs) n lent e held = cc

-- what is neither null nor a list of bytes is no data and no text
pub no_data : (default : List ℕ) (t : Node) → ((bs : List ℕ) → t ≡ list (bytes bs) → ⊥) → (t ≡ null → ⊥) → data_field default t ≡ wrong kinds.Data t
no_data d null h n = absurd (n refl)
no_data d (cap k) h n = refl
no_data d (struct ws ts) h n = refl
no_data d (list (voids k)) h n = refl
no_data d (list (bits bs)) h n = refl
no_data d (list (bytes bs)) h n = absurd (h bs refl)
no_data d (list (halves ns)) h n = refl
no_data d (list (quads ns)) h n = refl
no_data d (list (words ns)) h n = refl
no_data d (ptrs ts) h n = refl
no_data d (structs c k bs) h n = refl

pub no_text : (default : List ℕ) (t : Node) → ((bs : List ℕ) → t ≡ list (bytes bs) → ⊥) → (t ≡ null → ⊥) → text_field default t ≡ wrong kinds.Text t
no_text d null h n = absurd (n refl)
no_text d (cap k) h n = refl
no_text d (struct ws ts) h n = refl
no_text d (list (voids k)) h n = refl
no_text d (list (bits bs)) h n = refl
no_text d (list (bytes bs)) h n = absurd (h bs refl)
no_text d (list (halves ns)) h n = refl
no_text d (list (quads ns)) h n = refl
no_text d (list (words ns)) h n = refl
no_text d (ptrs ts) h n = refl
no_text d (structs c k bs) h n = refl

-- only a list of bytes has the shape of one
pub bytes_shape : (t : Node) (bs : List ℕ) → t ≡ list (bytes bs) → shape_of t ≡ shapes.List sizes.Byte (length bs)
bytes_shape t bs e = ap shape_of e

any-default : (xs : List ℕ) (i d e : ℕ) → i < length xs → get_or xs i d ≡ get_or xs i e
any-default [] i d e h = absurd (omega arith)
any-default (x ∷ xs) zero d e h = refl
any-default (x ∷ xs) (suc i) d e h = any-default xs i d e (omega arith)

-- no bytes don't end in a zero byte
pub ends-empty : (bs : List ℕ) → length bs ≡ 0 → ends_in_zero bs ≡ false
ends-empty [] e = refl
ends-empty (b ∷ bs) e = absurd (omega arith)

-- whether bytes end in a zero byte, by the last
ends-last : (bs : List ℕ) (x : ℕ) → (length bs ≡ 0 → ⊥) → x ≡ slice_index bs (length bs - 1) → ends_in_zero bs ≡ (x == 0)
ends-last bs x some e =
    let within : length bs - 1 < length bs = omega (arith, some) in
    ap (λ (y : ℕ). y == 0) (any-default bs (length bs - 1) 1 0 within ∙ sym e)

pub ends-other : (bs : List ℕ) (x : ℕ) → (length bs ≡ 0 → ⊥) → x ≡ slice_index bs (length bs - 1) → (x ≡ 0 → ⊥) → ends_in_zero bs ≡ false
ends-other bs x some e other =
    let no : (x == 0) ≡ false = grind (arith, nat_tests) in
    ends-last bs x some e ∙ no

pub ends-zero : (bs : List ℕ) (x : ℕ) → (length bs ≡ 0 → ⊥) → x ≡ slice_index bs (length bs - 1) → x ≡ 0 → ends_in_zero bs ≡ true
ends-zero bs x some e z = ends-last bs x some e ∙ ap (λ (y : ℕ). y == 0) z

-- whether a list is read from a tree of this kind and sizes
abbrev pub reads_of : ElementSize → Shape → Bool
reads_of wanted shapes.Null = true
reads_of wanted (shapes.List size n) = reads_from wanted size
reads_of wanted (shapes.Structs d n k) = reads_from_structs wanted d n
reads_of wanted other = false

field_by_shape : (wanted : ElementSize) (t : Node) → list_field wanted t ≡ cond (reads_of wanted (shape_of t)) (Ok (items_of t)) (wrong (kinds.List wanted) t)
field_by_shape wanted null = refl
field_by_shape wanted (cap i) = refl
field_by_shape wanted (struct ws ts) = refl
field_by_shape wanted (list es) = refl
field_by_shape wanted (ptrs ts) = refl
field_by_shape wanted (structs d n bs) = refl

pub field_read : (wanted : ElementSize) (shape : Shape) (r : Bool) → r ≡ reads_of wanted shape → r ≡ true → (t : Node) → shape_of t ≡ shape → list_field wanted t ≡ Ok (items_of t)
field_read wanted shape r e reads t s =
    field_by_shape wanted t ∙ ap (λ (b : Bool). cond b (Ok (items_of t)) (wrong (kinds.List wanted) t)) (ap (reads_of wanted) s ∙ sym e ∙ reads)

pub field_other : (wanted : ElementSize) (shape : Shape) (r : Bool) → r ≡ reads_of wanted shape → r ≡ false → (t : Node) → shape_of t ≡ shape → list_field wanted t ≡ wrong (kinds.List wanted) t
field_other wanted shape r e refuses t s =
    field_by_shape wanted t ∙ ap (λ (b : Bool). cond b (Ok (items_of t)) (wrong (kinds.List wanted) t)) (ap (reads_of wanted) s ∙ sym e ∙ refuses)
