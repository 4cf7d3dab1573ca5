-- Packed bytes begin with the groups of one packed frame at most.
use Rattle.std.proofs.Common.{◌≡◌, ◌⊎◌, inl, inr, ℕ, ◌^◌, ◌<◌, List, [], ◌∷◌, ◌++◌, length, Option, Some, None, refl, sym, ◌∙◌, ap, subst, append_assoc, arith}
use Rattle.std.specs.List.{AllByRecursion, flat_map}
use Rattle.std.specs.Int.{to_le_bytes, from_le_bytes, w64}
use Rattle.std.proofs.lemmas.Nat.{from_le_bytes-to_le_bytes_8}
use Rattle.std.proofs.lemmas.Grind.{flat_map-append}
use Rattle.std.proofs.lemmas.List.{append-nil, append_cancel_left}
use Rattle.cp_frame.specs.declared.mode.Mode.TheVariants as modes
use Rattle.cp_frame.specs.Framed.{Framed}
use Rattle.cp_packed.specs.Words.{AreWords, bytes_of}
use Rattle.cp_packed.specs.Packed.{Group, sparse, zeros, raw, tag, written, IsGroup, spelling, words_of}
use Rattle.cp_frame.proofs.Numbers.{length_bytes_of}
use Rattle.cp_frame.proofs.Framing.{same_parts, same_words, one_framed}
use Rattle.cp_frame.proofs.Streams.{OneFront}

-- a tag says which bytes are written
pub same_written : (bs cs : List (Option ℕ)) (x y : List ℕ) → length bs ≡ length cs → tag bs ≡ tag cs → written bs ++ x ≡ written cs ++ y → (bs ≡ cs) × (x ≡ y)
same_written [] [] x y n t e = (refl, e)
same_written [] (c ∷ cs) x y n t e = absurd (omega (arith, n))
same_written (b ∷ bs) [] x y n t e = absurd (omega (arith, n))
same_written (None ∷ bs) (None ∷ cs) x y n t e =
    let h = same_written bs cs x y (omega (arith, n)) (omega (arith, t)) e in (ap (λ (os : List (Option ℕ)). None ∷ os) h.0, h.1)
same_written (None ∷ bs) (Some c ∷ cs) x y n t e = absurd (omega (arith, t))
same_written (Some b ∷ bs) (None ∷ cs) x y n t e = absurd (omega (arith, t))
same_written (Some b ∷ bs) (Some c ∷ cs) x y n t e =
    let first : b ≡ c = cc (e) in
    let later : written bs ++ x ≡ written cs ++ y = cc (e) in
    let h = same_written bs cs x y (omega (arith, n)) (omega (arith, t)) later in
    (ap (λ (o : ℕ). Some o ∷ bs) first ∙ ap (λ (os : List (Option ℕ)). Some c ∷ os) h.0, h.1)

same_word : (w v : ℕ) → w < 2 ^ 64 → v < 2 ^ 64 → to_le_bytes w64 w ≡ to_le_bytes w64 v → w ≡ v
same_word w v h k e = sym (from_le_bytes-to_le_bytes_8 w h) ∙ ap (from_le_bytes w64) e ∙ from_le_bytes-to_le_bytes_8 v k

same_raw : (w v : ℕ) (ws vs x y : List ℕ) → w < 2 ^ 64 → v < 2 ^ 64 → AreWords ws → AreWords vs
    → (to_le_bytes w64 w ++ (length ws ∷ bytes_of ws)) ++ x ≡ (to_le_bytes w64 v ++ (length vs ∷ bytes_of vs)) ++ y → (raw w ws ≡ raw v vs) × (x ≡ y)
same_raw w v ws vs x y small smaller h k e =
    let regrouped = sym (append_assoc (to_le_bytes w64 w) (length ws ∷ bytes_of ws) x) ∙ e ∙ append_assoc (to_le_bytes w64 v) (length vs ∷ bytes_of vs) y in
    let parts = same_parts (to_le_bytes w64 w) (to_le_bytes w64 v) (length ws ∷ (bytes_of ws ++ x)) (length vs ∷ (bytes_of vs ++ y)) refl regrouped in
    let first = same_word w v small smaller parts.0 in
    let count : length ws ≡ length vs = cc (parts.1) in
    let bodies : bytes_of ws ++ x ≡ bytes_of vs ++ y = cc (parts.1) in
    let words = same_parts (bytes_of ws) (bytes_of vs) x y (omega (arith, length_bytes_of ws, length_bytes_of vs, count)) bodies in
    let others = same_words ws vs h k count words.0 in
    (ap (λ (u : ℕ). raw u ws) first ∙ ap (λ (us : List ℕ). raw v us) others, words.1)

-- bytes begin with one group at most
pub one_group : (g h : Group) (x y : List ℕ) → IsGroup g → IsGroup h → spelling g ++ x ≡ spelling h ++ y → (g ≡ h) × (x ≡ y)
one_group (sparse bs) (sparse cs) x y p q e =
    let tags : tag bs ≡ tag cs = cc (e) in
    let later : written bs ++ x ≡ written cs ++ y = cc (e) in
    let h = same_written bs cs x y (p.0 ∙ sym q.0) tags later in (ap (λ (os : List (Option ℕ)). sparse os) h.0, h.1)
one_group (sparse bs) (zeros m) x y p q e = let tags : tag bs ≡ 0 = cc (e) in absurd (omega (arith, tags, p.1))
one_group (sparse bs) (raw v vs) x y p q e = let tags : tag bs ≡ 255 = cc (e) in absurd (omega (arith, tags, p.2))
one_group (zeros n) (sparse cs) x y p q e = let tags : tag cs ≡ 0 = cc (e) in absurd (omega (arith, tags, q.1))
one_group (zeros n) (zeros m) x y p q e = (let same : n ≡ m = cc (e) in ap (λ (k : ℕ). zeros k) same, cc (e))
one_group (zeros n) (raw v vs) x y p q e = let tags : ◌≡◌ {A = ℕ} 0 255 = cc (e) in absurd (omega (arith, tags))
one_group (raw w ws) (sparse cs) x y p q e = let tags : tag cs ≡ 255 = cc (e) in absurd (omega (arith, tags, q.2))
one_group (raw w ws) (zeros m) x y p q e = let tags : ◌≡◌ {A = ℕ} 255 0 = cc (e) in absurd (omega (arith, tags))
one_group (raw w ws) (raw v vs) x y p q e =
    let later : (to_le_bytes w64 w ++ (length ws ∷ bytes_of ws)) ++ x ≡ (to_le_bytes w64 v ++ (length vs ∷ bytes_of vs)) ++ y = cc (e) in
    same_raw w v ws vs x y p.0 q.0 p.1 q.1 later

-- of two rows of groups that bytes begin with, one begins with the other
pub one_row : (gs hs : List Group) (x y : List ℕ) → AllByRecursion IsGroup gs → AllByRecursion IsGroup hs → flat_map spelling gs ++ x ≡ flat_map spelling hs ++ y
    → ((ks : List Group) × (hs ≡ gs ++ ks)) ⊎ ((ks : List Group) × (gs ≡ hs ++ ks))
one_row [] hs x y p q e = inl (hs, refl)
one_row (g ∷ gs) [] x y p q e = inr (g ∷ gs, refl)
one_row (g ∷ gs) (h ∷ hs) x y p q e =
    let regrouped = sym (append_assoc (spelling g) (flat_map spelling gs) x) ∙ e ∙ append_assoc (spelling h) (flat_map spelling hs) y in
    let first = one_group g h (flat_map spelling gs ++ x) (flat_map spelling hs ++ y) p.0 q.0 regrouped in
    later first.0 (one_row gs hs x y p.1 q.1 first.1)
  where
    later : g ≡ h → ((ks : List Group) × (hs ≡ gs ++ ks)) ⊎ ((ks : List Group) × (gs ≡ hs ++ ks)) → ((ks : List Group) × (h ∷ hs ≡ (g ∷ gs) ++ ks)) ⊎ ((ks : List Group) × (g ∷ gs ≡ (h ∷ hs) ++ ks))
    later s (inl k) = inl (k.0, ap (λ (f : Group). f ∷ hs) (sym s) ∙ ap (λ (fs : List Group). g ∷ fs) k.1)
    later s (inr k) = inr (k.0, ap (λ (f : Group). f ∷ gs) s ∙ ap (λ (fs : List Group). h ∷ fs) k.1)

-- each group gives a word
some_word : (g : Group) (ws : List ℕ) → 0 < length (words_of g ++ ws)
some_word (sparse bs) ws = omega arith
some_word (zeros n) ws = omega arith
some_word (raw w vs) ws = omega arith

no_words : (ks : List Group) → length (flat_map words_of ks) ≡ 0 → ks ≡ []
no_words [] h = refl
no_words (k ∷ ks) h = absurd (omega (arith, h, some_word k (flat_map words_of ks)))

-- where one row begins with another, and both are frames, they are the same
same_rows : (S T : List (List ℕ)) (gs hs ks : List Group) → Framed S (bytes_of (flat_map words_of gs)) → Framed T (bytes_of (flat_map words_of hs)) → hs ≡ gs ++ ks → (S ≡ T) × (hs ≡ gs)
same_rows S T gs hs ks h k e =
    let ws = flat_map words_of gs in
    let us = flat_map words_of ks in
    let all : flat_map words_of hs ≡ ws ++ us = ap (λ (fs : List Group). flat_map words_of fs) e ∙ flat_map-append words_of gs ks in
    let bytes : bytes_of (flat_map words_of hs) ≡ bytes_of ws ++ bytes_of us = ap (λ (vs : List ℕ). bytes_of vs) all ∙ flat_map-append (to_le_bytes w64) ws us in
    let one = one_framed S T (bytes_of ws) (bytes_of (flat_map words_of hs)) (bytes_of us) [] h k (sym bytes ∙ sym (append-nil (bytes_of (flat_map words_of hs)))) in
    let none : length us ≡ 0 = omega (arith, length_bytes_of us, ap (λ (b : List ℕ). length b) one.2) in
    (one.0, e ∙ ap (λ (fs : List Group). gs ++ fs) (no_words ks none) ∙ append-nil gs)

pub one_front_packed : OneFront modes.Packed
one_front_packed limits S T f g x y h k e =
    let p = h.form.2 in
    let q = k.form.2 in
    let framed = subst (λ (ws : List ℕ). Framed S (bytes_of ws)) p.gives h.form.1 in
    let framing = subst (λ (ws : List ℕ). Framed T (bytes_of ws)) q.gives k.form.1 in
    let rows = one_row p.groups q.groups x y p.each q.each (ap (λ (b : List ℕ). b ++ x) (sym p.spells) ∙ e ∙ ap (λ (b : List ℕ). b ++ y) q.spells) in
    end (same framed framing rows)
  where
    same : Framed S (bytes_of (flat_map words_of h.form.2.groups)) → Framed T (bytes_of (flat_map words_of k.form.2.groups))
        → ((ks : List Group) × (k.form.2.groups ≡ h.form.2.groups ++ ks)) ⊎ ((ks : List Group) × (h.form.2.groups ≡ k.form.2.groups ++ ks)) → (S ≡ T) × (k.form.2.groups ≡ h.form.2.groups)
    same a b (inl r) = same_rows S T h.form.2.groups k.form.2.groups r.0 a b r.1
    same a b (inr r) = let o = same_rows T S k.form.2.groups h.form.2.groups r.0 b a r.1 in (sym o.0, sym o.1)

    end : (S ≡ T) × (k.form.2.groups ≡ h.form.2.groups) → (S ≡ T) × (f ≡ g) × (x ≡ y)
    end o =
        let fronts : f ≡ g = h.form.2.spells ∙ ap (λ (gs : List Group). flat_map spelling gs) (sym o.1) ∙ sym k.form.2.spells in
        (o.0, fronts, append_cancel_left g x y (ap (λ (b : List ℕ). b ++ x) (sym fronts) ∙ e))
