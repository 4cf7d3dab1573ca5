-- What is found as a text, and whether it is one.
use Rattle.std.proofs.lemmas.Str.{IsUtf8-from_ascii, IsUtf8-from_is_utf8, is_utf8-from_IsUtf8}
use Rattle.std.proofs.Common.{◌≡◌, ◌-◌, ◌↔◌, ◌&&◌, if◌then◌else◌, ℕ, Bool, true, false, Result, Ok, Err, List, [], length, take, IsTrue, IsUtf8, refl, sym, ap, subst, ◌∙◌, arith}
use Rattle.std.specs.Str.{is_utf8}
use Rattle.cp_tree.specs.Node.{voids, bits, bytes, halves, quads, words, Node, null, cap, struct, list, ptrs, structs}
use Rattle.cp_fields.specs.Kinds.{wrong}
use Rattle.cp_fields.specs.Pointers.{ends_in_zero, text_field}
use Rattle.cp_fields.specs.declared.kind.Kind.TheVariants as kinds
use Rattle.cp_fields.specs.declared.kind.WrongKind.{WrongKind}
use Rattle.cp_messages.specs.Fields.{IsTextField, bytes_of, is_text, text_of}

abbrev found_in : Result (List ℕ) WrongKind → List ℕ
found_in (Ok bs) = bs
found_in (Err e) = []

tested : (b : Bool) (bs : List ℕ) → IsTrue b ↔ IsUtf8 bs → b ≡ is_utf8 bs
tested true bs h = sym (is_utf8-from_IsUtf8 bs (h.0 refl))
tested false bs h = go (is_utf8 bs) refl
  where
    go : (t : Bool) → is_utf8 bs ≡ t → false ≡ t
    go true e = h.1 (IsUtf8-from_is_utf8 bs e)
    go false e = refl

-- a list of bytes that is found as a text is one where its bytes are UTF-8
pub text-found : (t : Node) (bs : List ℕ) (b : Bool) → text_field [] t ≡ Ok bs → (t ≡ null → ⊥) → IsTrue b ↔ IsUtf8 bs → b ≡ is_text (bytes_of t)
text-found null bs b e n h = absurd (n refl)
text-found (cap k) bs b e n h = cc
text-found (struct ws ts) bs b e n h = cc
text-found (list (voids k)) bs b e n h = cc
text-found (list (bits xs)) bs b e n h = cc
text-found (list (bytes xs)) bs b e n h = go (ends_in_zero xs) e
  where
    go : (z : Bool) → (if z then Ok (take (length xs - 1) xs) else wrong kinds.Text (list (bytes xs))) ≡ Ok bs → b ≡ (z && is_utf8 (take (length xs - 1) xs))
    go true found = tested b bs h ∙ ap is_utf8 (sym (ap found_in found))
    go false found = cc
text-found (list (halves ns)) bs b e n h = cc
text-found (list (quads ns)) bs b e n h = cc
text-found (list (words ns)) bs b e n h = cc
text-found (ptrs ts) bs b e n h = cc
text-found (structs d k xs) bs b e n h = cc

-- what isn't found as a text is none
pub text-none : (t : Node) (e : WrongKind) → text_field [] t ≡ Err e → false ≡ is_text (bytes_of t)
text-none null e h = cc
text-none (cap k) e h = refl
text-none (struct ws ts) e h = refl
text-none (list (voids k)) e h = refl
text-none (list (bits xs)) e h = refl
text-none (list (bytes xs)) e h = go (ends_in_zero xs) h
  where
    go : (z : Bool) → (if z then Ok (take (length xs - 1) xs) else wrong kinds.Text (list (bytes xs))) ≡ Err e → false ≡ (z && is_utf8 (take (length xs - 1) xs))
    go true found = cc
    go false found = refl
text-none (list (halves ns)) e h = refl
text-none (list (quads ns)) e h = refl
text-none (list (words ns)) e h = refl
text-none (ptrs ts) e h = refl
text-none (structs d k xs) e h = refl

-- null is no text
pub text-null : (t : Node) → t ≡ null → false ≡ is_text (bytes_of t)
text-null t e = rw e refl

-- what a text field holds is found as a text
pub text-held : (t : Node) (bs : List ℕ) → IsTextField t → text_field [] t ≡ Ok bs → (bs ≡ text_of t) × IsUtf8 bs
text-held null bs field e = let same : [] ≡ bs = ap found_in e in (sym same, subst IsUtf8 same (IsUtf8-from_ascii [] (λ i. omega arith)))
text-held (cap k) bs field e = absurd field
text-held (struct ws ts) bs field e = absurd field
text-held (list (voids k)) bs field e = absurd field
text-held (list (bits xs)) bs field e = absurd field
text-held (list (bytes xs)) bs field e = go (ends_in_zero xs) field e
  where
    go : (z : Bool) → (z && is_utf8 (take (length xs - 1) xs)) ≡ true → (if z then Ok (take (length xs - 1) xs) else wrong kinds.Text (list (bytes xs))) ≡ Ok bs → (bs ≡ take (length xs - 1) xs) × IsUtf8 bs
    go true text found =
        let same : take (length xs - 1) xs ≡ bs = ap found_in found in
        (sym same, subst IsUtf8 same (IsUtf8-from_is_utf8 _ text))
    go false text found = cc
text-held (list (halves ns)) bs field e = absurd field
text-held (list (quads ns)) bs field e = absurd field
text-held (list (words ns)) bs field e = absurd field
text-held (ptrs ts) bs field e = absurd field
text-held (structs d k xs) bs field e = absurd field

pub text-known : (t : Node) (e : WrongKind) → IsTextField t → text_field [] t ≡ Err e → ⊥
text-known null e field h = cc
text-known (cap k) e field h = absurd field
text-known (struct ws ts) e field h = absurd field
text-known (list (voids k)) e field h = absurd field
text-known (list (bits xs)) e field h = absurd field
text-known (list (bytes xs)) e field h = go (ends_in_zero xs) field h
  where
    go : (z : Bool) → (z && is_utf8 (take (length xs - 1) xs)) ≡ true → (if z then Ok (take (length xs - 1) xs) else wrong kinds.Text (list (bytes xs))) ≡ Err e → ⊥
    go true text found = cc
    go false text found = cc
text-known (list (halves ns)) e field h = absurd field
text-known (list (quads ns)) e field h = absurd field
text-known (list (words ns)) e field h = absurd field
text-known (ptrs ts) e field h = absurd field
text-known (structs d k xs) e field h = absurd field
