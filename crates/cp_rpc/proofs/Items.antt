-- The structs of a composite list, one by one.
use Rattle.std.proofs.lemmas.List.{length-take-le}
use Rattle.std.proofs.Common.{◌≡◌, true, [], ◌∷◌, ℕ, zero, suc, ◌-◌, ◌<◌, List, length, get_or, refl, ap, ◌∙◌, sym, arith}
use Rattle.cp_tree.specs.Node.{voids, bits, bytes, halves, quads, words, Node, null, cap, struct, list, ptrs, structs, Bodies, no_bodies, body, number_of}
use Rattle.cp_tree.specs.Seen.{shape_of, part_of, body_at}
use Rattle.cp_tree.specs.declared.shape.Shape.{Shape}
use Rattle.cp_tree.specs.declared.shape.Shape.TheVariants as shapes
use Rattle.cp_messages.specs.Fields.{items_of, structs_in, text_of, is_text, IsTextField, IsStructField}
use Rattle.cp_rpc.specs.Looked.{look_of}
use Rattle.cp_rpc.specs.declared.source.SourceKind.{SourceKind}
use Rattle.cp_rpc.specs.declared.source.SourceKind.TheVariants as looks

pub body-item : (bs : Bodies) (i : ℕ) → body_at bs i ≡ get_or (structs_in bs) i null
body-item no_bodies i = refl
body-item (body ws ts bs) zero = refl
body-item (body ws ts bs) (suc i) = body-item bs i

pub length-items : (bs : Bodies) → length (structs_in bs) ≡ number_of bs
length-items no_bodies = refl
length-items (body ws ts bs) = ap suc (length-items bs)

-- only a composite list has items
pub item-shape : (t : Node) (i : ℕ) → i < length (items_of t) → (d : ℕ) × (n : ℕ) × (shape_of t ≡ shapes.Structs d n (length (items_of t)))
item-shape (structs d n bs) i h = (d, n, rw (length-items bs) refl)
item-shape null i h = absurd (omega arith)
item-shape (cap k) i h = absurd (omega arith)
item-shape (struct ws ts) i h = absurd (omega arith)
item-shape (list es) i h = absurd (omega arith)
item-shape (ptrs ts) i h = absurd (omega arith)

pub part-item : (t : Node) (i : ℕ) → i < length (items_of t) → part_of t i ≡ get_or (items_of t) i null
part-item (structs d n bs) i h = body-item bs i
part-item null i h = absurd (omega arith)
part-item (cap k) i h = absurd (omega arith)
part-item (struct ws ts) i h = absurd (omega arith)
part-item (list es) i h = absurd (omega arith)
part-item (ptrs ts) i h = absurd (omega arith)

-- the number of elements that a composite list's shape says
abbrev pub count_in : Shape → ℕ
count_in (shapes.Structs d n c) = c
count_in other = 0

-- what holds a text isn't empty
text-some : (bs : List ℕ) → is_text bs ≡ true → 0 < length bs
text-some [] h = cc
text-some (b ∷ bs) h = omega arith

pub item-struct : (t : Node) (i : ℕ) → i < length (items_of t) → IsStructField (get_or (items_of t) i null)
item-struct (structs d n bs) i h = go bs i h
  where
    go : (bs : Bodies) (i : ℕ) → i < length (structs_in bs) → IsStructField (get_or (structs_in bs) i null)
    go no_bodies i h = absurd (omega arith)
    go (body ws ts bs) zero h = tt
    go (body ws ts bs) (suc i) h = go bs i (omega arith)
item-struct null i h = absurd (omega arith)
item-struct (cap k) i h = absurd (omega arith)
item-struct (struct ws ts) i h = absurd (omega arith)
item-struct (list es) i h = absurd (omega arith)
item-struct (ptrs ts) i h = absurd (omega arith)

abbrev pub items_seen : SourceKind → ℕ
items_seen (looks.Items n) = n
items_seen _ = 0

pub source_kind-items : (t : Node) (n : ℕ) → looks.Items n ≡ look_of t → n ≡ length (items_of t)
source_kind-items (structs d n bs) k e = ap items_seen e ∙ sym (length-items bs)
source_kind-items null k e = cc
source_kind-items (cap i) k e = cc
source_kind-items (struct ws ts) k e = cc
source_kind-items (list (voids n)) k e = cc
source_kind-items (list (bits bs)) k e = cc
source_kind-items (list (bytes bs)) k e = cc
source_kind-items (list (halves ns)) k e = cc
source_kind-items (list (quads ns)) k e = cc
source_kind-items (list (words ns)) k e = cc
source_kind-items (ptrs ts) k e = cc

abbrev pub bytes_seen : SourceKind → ℕ
bytes_seen (looks.Bytes n) = n
bytes_seen _ = 0

-- the length of a text field's text
pub source_kind-text : (t : Node) (n : ℕ) → look_of t ≡ looks.Bytes n → IsTextField t → (0 < n) × (n - 1 ≡ length (text_of t))
source_kind-text (list (bytes bs)) n e field =
    let counted : n ≡ length bs = sym (ap bytes_seen e) in
    (rw counted (text-some bs field), rw counted (sym (length-take-le (length bs - 1) bs (omega arith))))
source_kind-text null n e field = cc
source_kind-text (cap k) n e field = absurd field
source_kind-text (struct ws ts) n e field = absurd field
source_kind-text (list (voids k)) n e field = absurd field
source_kind-text (list (bits bs)) n e field = absurd field
source_kind-text (list (halves ns)) n e field = absurd field
source_kind-text (list (quads ns)) n e field = absurd field
source_kind-text (list (words ns)) n e field = absurd field
source_kind-text (ptrs ts) n e field = absurd field
source_kind-text (structs d k bs) n e field = absurd field

pub source_kind-no_text : (t : Node) → ((n : ℕ) → look_of t ≡ looks.Bytes n → ⊥) → IsTextField t → 0 ≡ length (text_of t)
source_kind-no_text (list (bytes bs)) none field = absurd (none (length bs) refl)
source_kind-no_text null none field = refl
source_kind-no_text (cap k) none field = absurd field
source_kind-no_text (struct ws ts) none field = absurd field
source_kind-no_text (list (voids k)) none field = absurd field
source_kind-no_text (list (bits bs)) none field = absurd field
source_kind-no_text (list (halves ns)) none field = absurd field
source_kind-no_text (list (quads ns)) none field = absurd field
source_kind-no_text (list (words ns)) none field = absurd field
source_kind-no_text (ptrs ts) none field = absurd field
source_kind-no_text (structs d k bs) none field = absurd field
