-- Words as the writer packs them.
use Rattle.std.proofs.Common.{◌≡◌, ◌≢◌, ◌⊎◌, inl, inr, ◌==◌, if◌then◌else◌, ℕ, zero, suc, ◌+◌, ◌-◌, ◌*◌, ◌^◌, ◌<◌, ◌≤◌, List, [], ◌∷◌, ◌++◌, length, map, take, drop, replicate, get_or, Option, Some, None, unwrap_or, refl, sym, ◌∙◌, ap, subst, append_assoc, arith}
use Rattle.std.specs.Prelude.{count_by, eqb}
use Rattle.std.specs.List.{AllByRecursion}
use Rattle.std.specs.Int.{to_le_bytes, from_le_bytes, w64}
use Rattle.std.proofs.lemmas.Nat.{from_le_bytes-to_le_bytes_8, pow_below}
use Rattle.std.proofs.Math.Seq.{take-take, take-append_seam, take-append-add}
use Rattle.std.proofs.lemmas.List.{append-nil, take-append-drop, take-append-le, replicate_more, take_more, drop_more, drop_all, length-take-le, length-drop, map-append}
use Rattle.std.proofs.lemmas.Bool.{cases_eq}
use Rattle.cp_packed.specs.Words.{AreWords, bytes_of}
use Rattle.cp_packed.specs.Packed.{Group, sparse, zeros, raw, tag, written, IsGroup, IsSparing, IsLongest, StartsWithout, zero_bytes, spelling, words_of, Spelt}
use Rattle.cp_packed.specs.Packing.{PutsFront, bytes_that_count, PutsGroup, PutsSpelt}
use Rattle.cp_packed.proofs.Opens.{test_true, test_false}
use Rattle.cp_packed.proofs.Bytes.{all-append, all-take}

byte_zero : (x : ℕ) → x ≡ 0 → ◌≡◌ {A = Option ℕ} (if x == 0 then None else Some x) None
byte_zero x h = rw (test_true x 0 h) refl

byte_some : (x : ℕ) → (x ≡ 0 → ⊥) → ◌≡◌ {A = Option ℕ} (if x == 0 then None else Some x) (Some x)
byte_some x h = rw (test_false x 0 h) refl

-- what a byte that is or isn't zero adds
pub tag_zero : (x : ℕ) (b : List ℕ) → x ≡ 0 → tag (bytes_that_count (x ∷ b)) ≡ 2 * tag (bytes_that_count b)
tag_zero x b h = ap (λ (o : Option ℕ). tag (o ∷ bytes_that_count b)) (byte_zero x h)

pub tag_some : (x : ℕ) (b : List ℕ) → (x ≡ 0 → ⊥) → tag (bytes_that_count (x ∷ b)) ≡ 1 + 2 * tag (bytes_that_count b)
tag_some x b h = ap (λ (o : Option ℕ). tag (o ∷ bytes_that_count b)) (byte_some x h)

pub written_zero : (x : ℕ) (b : List ℕ) → x ≡ 0 → written (bytes_that_count (x ∷ b)) ≡ written (bytes_that_count b)
written_zero x b h = ap (λ (o : Option ℕ). written (o ∷ bytes_that_count b)) (byte_zero x h)

pub written_some : (x : ℕ) (b : List ℕ) → (x ≡ 0 → ⊥) → written (bytes_that_count (x ∷ b)) ≡ x ∷ written (bytes_that_count b)
written_some x b h = ap (λ (o : Option ℕ). written (o ∷ bytes_that_count b)) (byte_some x h)

-- the bytes are read back
pub read_bytes : (b : List ℕ) → map (λ o. unwrap_or o 0) (bytes_that_count b) ≡ b
read_bytes [] = refl
read_bytes (x ∷ b) = go (cases_eq x 0) (read_bytes b)
  where
    go : (x ≡ 0) ⊎ (x ≡ 0 → ⊥) → map (λ o. unwrap_or o 0) (bytes_that_count b) ≡ b → map (λ o. unwrap_or o 0) (bytes_that_count (x ∷ b)) ≡ x ∷ b
    go (inl h) r = ap (λ (o : Option ℕ). unwrap_or o 0 ∷ map (λ u. unwrap_or u 0) (bytes_that_count b)) (byte_zero x h) ∙ ap (λ (y : ℕ). y ∷ map (λ u. unwrap_or u 0) (bytes_that_count b)) (sym h) ∙ ap (λ (c : List ℕ). x ∷ c) r
    go (inr h) r = ap (λ (o : Option ℕ). unwrap_or o 0 ∷ map (λ u. unwrap_or u 0) (bytes_that_count b)) (byte_some x h) ∙ ap (λ (c : List ℕ). x ∷ c) r

pub length_count : (b : List ℕ) → length (bytes_that_count b) ≡ length b
length_count [] = refl
length_count (x ∷ b) = omega (arith, length_count b)

-- only bytes that aren't zero are written
pub written_few : (b : List ℕ) → AllByRecursion (λ x. x ≢ 0) (written (bytes_that_count b))
written_few [] = tt
written_few (x ∷ b) = go (cases_eq x 0) (written_few b)
  where
    go : (x ≡ 0) ⊎ (x ≡ 0 → ⊥) → AllByRecursion (λ y. y ≢ 0) (written (bytes_that_count b)) → AllByRecursion (λ y. y ≢ 0) (written (bytes_that_count (x ∷ b)))
    go (inl h) r = subst (λ (c : List ℕ). AllByRecursion (λ y. y ≢ 0) c) (sym (written_zero x b h)) r
    go (inr h) r = subst (λ (c : List ℕ). AllByRecursion (λ y. y ≢ 0) c) (sym (written_some x b h)) (h, r)

pub written_small : (b : List ℕ) → AllByRecursion (λ x. x < 256) b → AllByRecursion (λ x. x < 256) (written (bytes_that_count b))
written_small [] k = tt
written_small (x ∷ b) k = go (cases_eq x 0) (written_small b k.1)
  where
    go : (x ≡ 0) ⊎ (x ≡ 0 → ⊥) → AllByRecursion (λ y. y < 256) (written (bytes_that_count b)) → AllByRecursion (λ y. y < 256) (written (bytes_that_count (x ∷ b)))
    go (inl h) r = subst (λ (c : List ℕ). AllByRecursion (λ y. y < 256) c) (sym (written_zero x b h)) r
    go (inr h) r = subst (λ (c : List ℕ). AllByRecursion (λ y. y < 256) c) (sym (written_some x b h)) (k.0, r)

doubled : (n : ℕ) → 2 ^ suc n ≡ 2 * 2 ^ n
doubled n = omega arith

-- tags of no bytes, and of all
pub tag_below : (b : List ℕ) → tag (bytes_that_count b) < 2 ^ length b
tag_below [] = omega arith
tag_below (x ∷ b) = go (cases_eq x 0) (tag_below b)
  where
    double : 2 ^ length (x ∷ b) ≡ 2 * 2 ^ length b
    double = doubled (length b)

    go : (x ≡ 0) ⊎ (x ≡ 0 → ⊥) → tag (bytes_that_count b) < 2 ^ length b → tag (bytes_that_count (x ∷ b)) < 2 ^ length (x ∷ b)
    go (inl h) r = omega (arith, tag_zero x b h, r, double)
    go (inr h) r = omega (arith, tag_some x b h, r, double)

pub all_zero : (b : List ℕ) → tag (bytes_that_count b) ≡ 0 → b ≡ replicate (length b) 0
all_zero [] k = refl
all_zero (x ∷ b) k = go (cases_eq x 0) (λ h. all_zero b h)
  where
    go : (x ≡ 0) ⊎ (x ≡ 0 → ⊥) → (tag (bytes_that_count b) ≡ 0 → b ≡ replicate (length b) 0) → x ∷ b ≡ replicate (length (x ∷ b)) 0
    go (inl h) r = ap (λ (y : ℕ). y ∷ b) h ∙ ap (λ (c : List ℕ). 0 ∷ c) (r (omega (arith, tag_zero x b h, k)))
    go (inr h) r = absurd (omega (arith, tag_some x b h, k))

none_zero_by : (x : ℕ) (b : List ℕ) → (x ≡ 0 → ⊥) → count_by (eqb 0) (x ∷ b) ≡ count_by (eqb 0) b
none_zero_by x b h = rw (test_false 0 x (λ e. h (sym e))) (omega arith)

pub none_zero : (b : List ℕ) → suc (tag (bytes_that_count b)) ≡ 2 ^ length b → count_by (eqb 0) b ≡ 0
none_zero [] k = refl
none_zero (x ∷ b) k = go (cases_eq x 0) (λ h. none_zero b h)
  where
    double : 2 ^ length (x ∷ b) ≡ 2 * 2 ^ length b
    double = doubled (length b)

    go : (x ≡ 0) ⊎ (x ≡ 0 → ⊥) → (suc (tag (bytes_that_count b)) ≡ 2 ^ length b → count_by (eqb 0) b ≡ 0) → count_by (eqb 0) (x ∷ b) ≡ 0
    go (inl h) r = absurd (omega (arith, tag_zero x b h, k, double))
    go (inr h) r = none_zero_by x b h ∙ r (omega (arith, tag_some x b h, k, double))

-- a word by its bytes
le_small : (w : ℕ) → AllByRecursion (λ x. x < 256) (to_le_bytes w64 w)
le_small w = (omega arith, (omega arith, (omega arith, (omega arith, (omega arith, (omega arith, (omega arith, (omega arith, tt))))))))

pub zero_word : (w : ℕ) → w < 2 ^ 64 → tag (bytes_that_count (to_le_bytes w64 w)) ≡ 0 → w ≡ 0
zero_word w h k =
    sym (from_le_bytes-to_le_bytes_8 w h) ∙ ap (λ (b : List ℕ). from_le_bytes w64 b) (all_zero (to_le_bytes w64 w) k)

-- each kind of group that is written
pub puts_zeros : (old new words after back : List ℕ) (w n : ℕ) → w < 2 ^ 64 → tag (bytes_that_count (to_le_bytes w64 w)) ≡ 0 → words ≡ w ∷ after → n ≤ 255 → take n after ≡ replicate n 0 → back ≡ drop n after
    → (n ≡ 255) ⊎ StartsWithout (λ v. v ≡ 0) back → new ≡ old ++ 0 ∷ n ∷ [] → PutsGroup old new words back
puts_zeros old new words after back w n small t e few run rest ends text = record {
  group = zeros n;
  is = omega (arith, few);
  sparing = tt;
  longest = ends;
  spells = text;
  gives =
      e ∙ ap (λ (v : ℕ). v ∷ after) (zero_word w small t)
      ∙ ap (λ (vs : List ℕ). 0 ∷ vs) (sym (take-append-drop n after) ∙ ap (λ (vs : List ℕ). vs ++ drop n after) run ∙ ap (λ (vs : List ℕ). replicate n 0 ++ vs) (sym rest));
}

pub puts_sparse : (old new words back : List ℕ) (w : ℕ) → w < 2 ^ 64 → 0 < tag (bytes_that_count (to_le_bytes w64 w)) → tag (bytes_that_count (to_le_bytes w64 w)) < 255 → words ≡ w ∷ back
    → new ≡ old ++ tag (bytes_that_count (to_le_bytes w64 w)) ∷ written (bytes_that_count (to_le_bytes w64 w)) → PutsGroup old new words back
puts_sparse old new words back w small some few e text =
    let bytes = to_le_bytes w64 w in
    let same : from_le_bytes w64 (map (λ o. unwrap_or o 0) (bytes_that_count bytes)) ≡ w = ap (λ (b : List ℕ). from_le_bytes w64 b) (read_bytes bytes) ∙ from_le_bytes-to_le_bytes_8 w small in
    record {
      group = sparse (bytes_that_count bytes);
      is = (length_count bytes, some, few, written_small bytes (le_small w));
      sparing = written_few bytes;
      longest = tt;
      spells = text;
      gives = e ∙ ap (λ (v : ℕ). v ∷ back) (sym same);
    }

pub puts_raw : (old new words after back : List ℕ) (w n : ℕ) → w < 2 ^ 64 → AreWords after → tag (bytes_that_count (to_le_bytes w64 w)) ≡ 255 → words ≡ w ∷ after → n ≤ 255 → n ≤ length after
    → AllByRecursion (λ v. zero_bytes v ≤ 1) (take n after) → back ≡ drop n after → (n ≡ 255) ⊎ StartsWithout (λ v. zero_bytes v ≤ 1) back
    → new ≡ old ++ 255 ∷ (to_le_bytes w64 w ++ (n ∷ bytes_of (take n after))) → PutsGroup old new words back
puts_raw old new words after back w n small are t e few within full rest ends text =
    let long : length (take n after) ≡ n = length-take-le n after within in
    let none : zero_bytes w ≡ 0 = none_zero (to_le_bytes w64 w) (omega (arith, t)) in
    record {
      group = raw w (take n after);
      is = (small, all-take (λ v. v < 2 ^ 64) n after are, omega (arith, long, few));
      sparing = (none, full);
      longest = subst (λ (m : ℕ). (m ≡ 255) ⊎ StartsWithout (λ v. zero_bytes v ≤ 1) back) (sym long) ends;
      spells = text ∙ ap (λ (m : ℕ). old ++ 255 ∷ (to_le_bytes w64 w ++ (m ∷ bytes_of (take n after)))) (sym long);
      gives = e ∙ ap (λ (vs : List ℕ). w ∷ vs) (sym (take-append-drop n after) ∙ ap (λ (vs : List ℕ). take n after ++ vs) (sym rest));
    }

-- a group more before words that are packed
pub spelt_more : (g : Group) (ws back b : List ℕ) → IsGroup g → IsSparing g → IsLongest g back → ws ≡ words_of g ++ back → Spelt back b → Spelt ws (spelling g ++ b)
spelt_more g ws back b is s l e h = record {
  groups = g ∷ h.groups;
  each = (is, h.each);
  sparing = (s, h.sparing);
  longest = (subst (λ (vs : List ℕ). IsLongest g vs) h.gives l, h.longest);
  spells = ap (λ (c : List ℕ). spelling g ++ c) h.spells;
  gives = e ∙ ap (λ (vs : List ℕ). words_of g ++ vs) h.gives;
}

pub spelt_none : Spelt [] []
spelt_none = record { groups = []; each = tt; sparing = tt; longest = tt; spells = refl; gives = refl }

-- what was written of words, where some are left
pub front_none : (old words : List ℕ) → PutsFront old old words words
front_none old words = record { front = []; text = sym (append-nil old); goes = λ b h. h }

pub front_more : (old out new words left back : List ℕ) → PutsFront old out words left → PutsGroup out new left back → PutsFront old new words back
front_more old out new words left back h g = record {
  front = h.front ++ spelling g.group;
  text = g.spells ∙ ap (λ (c : List ℕ). c ++ spelling g.group) h.text ∙ append_assoc old h.front (spelling g.group);
  goes = λ b k. subst (λ (c : List ℕ). Spelt words c) (sym (append_assoc h.front (spelling g.group) b)) (h.goes (spelling g.group ++ b) (spelt_more g.group left back b g.is g.sparing g.longest g.gives k));
}

pub front_both : (old out new words left back : List ℕ) → PutsFront old out words left → PutsFront out new left back → PutsFront old new words back
front_both old out new words left back h k = record {
  front = h.front ++ k.front;
  text = k.text ∙ ap (λ (c : List ℕ). c ++ k.front) h.text ∙ append_assoc old h.front k.front;
  goes = λ b s. subst (λ (c : List ℕ). Spelt words c) (sym (append_assoc h.front k.front b)) (h.goes (k.front ++ b) (k.goes b s));
}

pub front_all : (old out words left : List ℕ) → PutsFront old out words left → length left ≡ 0 → PutsSpelt old out words
front_all old out words [] h e = (h.front, subst (λ (c : List ℕ). Spelt words c) (append-nil h.front) (h.goes [] spelt_none), h.text)
front_all old out words (w ∷ left) h e = absurd (omega (arith, e))

-- runs that are counted
pub zeros_more : (ws : List ℕ) (i w : ℕ) → i < length ws → w ≡ get_or ws i 0 → w ≡ 0 → take i ws ≡ replicate i 0 → take (i + 1) ws ≡ replicate (i + 1) 0
zeros_more ws i w h r z e =
    let last : get_or ws i 0 ≡ 0 = sym r ∙ z in
    take_more ws i 0 h ∙ ap (λ (v : ℕ). take i ws ++ v ∷ []) last ∙ ap (λ (vs : List ℕ). vs ++ 0 ∷ []) e ∙ replicate_more i 0

pub full_more : (ws : List ℕ) (i w : ℕ) → i < length ws → w ≡ get_or ws i 0 → zero_bytes w ≤ 1 → AllByRecursion (λ v. zero_bytes v ≤ 1) (take i ws) → AllByRecursion (λ v. zero_bytes v ≤ 1) (take (i + 1) ws)
full_more ws i w h r z e =
    subst (λ (vs : List ℕ). AllByRecursion (λ v. zero_bytes v ≤ 1) vs) (sym (take_more ws i 0 h))
    (all-append (λ v. zero_bytes v ≤ 1) (take i ws) (get_or ws i 0 ∷ []) e (subst (λ (v : ℕ). zero_bytes v ≤ 1) r z, tt))

pub stops_at : (P : ℕ → Type 0) (ws : List ℕ) (i w : ℕ) → i < length ws → w ≡ get_or ws i 0 → (P w → ⊥) → StartsWithout P (drop i ws)
stops_at P ws i w h r z =
    subst (λ (vs : List ℕ). StartsWithout P vs) (sym (drop_more ws i 0 h)) (λ (k : P (get_or ws i 0)). z (subst P (sym r) k))

pub stops_at_end : (P : ℕ → Type 0) (ws : List ℕ) (i : ℕ) → length ws ≤ i → StartsWithout P (drop i ws)
stops_at_end P ws i h = subst (λ (vs : List ℕ). StartsWithout P vs) (sym (drop_all i ws h)) tt

-- a tag, from the last byte on
abbrev pub TagAfter : List ℕ → ℕ → ℕ → Type 0
TagAfter b after t = (n : ℕ) × (n + after ≡ 8) × (t ≡ tag (bytes_that_count (drop n b)))

pub tag_none : (b : List ℕ) → length b ≡ 8 → TagAfter b 0 0
tag_none b h = (8, refl, ap (λ (c : List ℕ). tag (bytes_that_count c)) (sym (drop_all 8 b (omega (arith, h)))))

tag_on : (b : List ℕ) (n after old : ℕ) → length b ≡ 8 → n + after ≡ 8 → after < 8 → old ≡ tag (bytes_that_count (drop n b))
    → (m : ℕ) × (m + (after + 1) ≡ 8) × (drop m b ≡ get_or b (7 - after) 0 ∷ drop n b)
tag_on b zero after old l a h e = absurd (omega (arith, a, h))
tag_on b (suc m) after old l a h e =
    let place : 7 - after ≡ m = omega (arith, a) in
    let next : m + 1 ≡ suc m = omega arith in
    (m, omega (arith, a), drop_more b m 0 (omega (arith, a, l)) ∙ ap (λ (k : ℕ). get_or b m 0 ∷ drop k b) next ∙ ap (λ (k : ℕ). get_or b k 0 ∷ drop (suc m) b) (sym place))

pub tag_on_zero : (b : List ℕ) (after old new : ℕ) → length b ≡ 8 → after < 8 → TagAfter b after old → get_or b (7 - after) 0 ≡ 0 → new ≡ old * 2 → TagAfter b (after + 1) new
tag_on_zero b after old new l h t z e =
    let m = tag_on b t.0 after old l t.1 h t.2 in
    let one = ap (λ (c : List ℕ). tag (bytes_that_count c)) m.2 ∙ tag_zero (get_or b (7 - after) 0) (drop t.0 b) z in
    (m.0, m.1, omega (arith, e, one, t.2))

pub tag_on_some : (b : List ℕ) (after old new : ℕ) → length b ≡ 8 → after < 8 → TagAfter b after old → (get_or b (7 - after) 0 ≡ 0 → ⊥) → new ≡ old * 2 + 1 → TagAfter b (after + 1) new
tag_on_some b after old new l h t z e =
    let m = tag_on b t.0 after old l t.1 h t.2 in
    let one = ap (λ (c : List ℕ). tag (bytes_that_count c)) m.2 ∙ tag_some (get_or b (7 - after) 0) (drop t.0 b) z in
    (m.0, m.1, omega (arith, e, one, t.2))

seventh : (n : ℕ) → n ≤ 7 → 2 ^ n ≤ 128
seventh n h = go (cases_eq n 7)
  where
    go : (n ≡ 7) ⊎ (n ≡ 7 → ⊥) → 2 ^ n ≤ 128
    go (inl e) = subst (λ (m : ℕ). 2 ^ m ≤ 128) (sym e) (omega arith)
    go (inr e) = let below = pow_below n 7 (omega (arith, e, h)) in omega (arith, below)

-- before the last byte a tag has room for one more
pub tag_room : (b : List ℕ) (after t : ℕ) → length b ≡ 8 → after < 8 → TagAfter b after t → t < 128
tag_room b after t l h k =
    let long : length (drop k.0 b) ≡ 8 - k.0 = omega (arith, length-drop k.0 b, l) in
    let few : length (drop k.0 b) ≤ 7 = omega (arith, long, k.1, h) in
    omega (arith, tag_below (drop k.0 b), k.2, seventh (length (drop k.0 b)) few)

pub tag_all : (b : List ℕ) (after t : ℕ) → TagAfter b after t → after ≡ 8 → t ≡ tag (bytes_that_count b)
tag_all b after t (zero, a, e) h = e
tag_all b after t (suc n, a, e) h = absurd (omega (arith, a, h))

-- one byte more is written, or not
written-append : (os us : List (Option ℕ)) → written (os ++ us) ≡ written os ++ written us
written-append [] us = refl
written-append (None ∷ os) us = written-append os us
written-append (Some x ∷ os) us = ap (λ (b : List ℕ). x ∷ b) (written-append os us)

count-append : (a b : List ℕ) → bytes_that_count (a ++ b) ≡ bytes_that_count a ++ bytes_that_count b
count-append a b = map-append (λ x. if x == 0 then None else Some x) a b

written_on : (b : List ℕ) (i : ℕ) → i < length b → written (bytes_that_count (take (i + 1) b)) ≡ written (bytes_that_count (take i b)) ++ written (bytes_that_count (get_or b i 0 ∷ []))
written_on b i h =
    ap (λ (c : List ℕ). written (bytes_that_count c)) (take_more b i 0 h) ∙ ap (λ (os : List (Option ℕ)). written os) (count-append (take i b) (get_or b i 0 ∷ []))
    ∙ written-append (bytes_that_count (take i b)) (bytes_that_count (get_or b i 0 ∷ []))

pub written_on_zero : (b : List ℕ) (i : ℕ) → i < length b → get_or b i 0 ≡ 0 → written (bytes_that_count (take (i + 1) b)) ≡ written (bytes_that_count (take i b))
written_on_zero b i h z =
    written_on b i h ∙ ap (λ (c : List ℕ). written (bytes_that_count (take i b)) ++ c) (written_zero (get_or b i 0) [] z) ∙ append-nil (written (bytes_that_count (take i b)))

pub written_on_some : (b : List ℕ) (i : ℕ) → i < length b → (get_or b i 0 ≡ 0 → ⊥) → written (bytes_that_count (take (i + 1) b)) ≡ written (bytes_that_count (take i b)) ++ get_or b i 0 ∷ []
written_on_some b i h z = written_on b i h ∙ ap (λ (c : List ℕ). written (bytes_that_count (take i b)) ++ c) (written_some (get_or b i 0) [] z)

-- words by their places
pub words_by : (ws : List ℕ) → ((i : ℕ) → get_or ws i 0 < 2 ^ 64) → AreWords ws
words_by [] h = tt
words_by (w ∷ ws) h = (h 0, words_by ws (λ i. h (suc i)))

pub first_word : (ws : List ℕ) → 0 < length ws → ws ≡ get_or ws 0 0 ∷ drop 1 ws
first_word [] h = absurd (omega (arith, h))
first_word (w ∷ ws) h = refl

-- what several writes wrote
pub two_bytes : (out a b : List ℕ) (t n : ℕ) → a ≡ out ++ t ∷ [] → b ≡ a ++ n ∷ [] → b ≡ out ++ t ∷ n ∷ []
two_bytes out a b t n h k = k ∙ ap (λ (x : List ℕ). x ++ n ∷ []) h ∙ append_assoc out (t ∷ []) (n ∷ [])

pub raw_bytes : (out a b d e word run : List ℕ) (t n : ℕ) → a ≡ out ++ t ∷ [] → b ≡ a ++ word → d ≡ b ++ n ∷ [] → e ≡ d ++ run → e ≡ out ++ t ∷ (word ++ (n ∷ run))
raw_bytes out a b d e word run t n h k l m =
    let first : b ≡ out ++ t ∷ word = k ∙ ap (λ (x : List ℕ). x ++ word) h ∙ append_assoc out (t ∷ []) word in
    let second : d ≡ out ++ t ∷ (word ++ n ∷ []) = l ∙ ap (λ (x : List ℕ). x ++ n ∷ []) first ∙ append_assoc out (t ∷ word) (n ∷ []) in
    m ∙ ap (λ (x : List ℕ). x ++ run) second ∙ append_assoc out (t ∷ (word ++ n ∷ [])) run ∙ ap (λ (x : List ℕ). out ++ t ∷ x) (append_assoc word (n ∷ []) run)

-- what is kept of room after other bytes
pub kept_room : (s n k : ℕ) (x base more room others rest w : List ℕ) → x ≡ base ++ more → s ≡ length base → s + n ≤ k → n ≤ length room → take n room ≡ w
    → take (s + n) (take k ((take s x ++ (room ++ others)) ++ rest)) ≡ base ++ w
kept_room s n k x base more room others rest w e z h l g =
    let front : take s x ≡ base = ap (λ (b : List ℕ). take s b) e ∙ ap (λ (m : ℕ). take m (base ++ more)) z ∙ take-append_seam base more in
    let all : (take s x ++ (room ++ others)) ++ rest ≡ base ++ (room ++ (others ++ rest)) =
    ap (λ (b : List ℕ). (b ++ (room ++ others)) ++ rest) front ∙ append_assoc base (room ++ others) rest ∙ ap (λ (b : List ℕ). base ++ b) (append_assoc room others rest) in
    take-take (s + n) k ((take s x ++ (room ++ others)) ++ rest) h
    ∙ ap (λ (b : List ℕ). take (s + n) b) all ∙ ap (λ (m : ℕ). take (m + n) (base ++ (room ++ (others ++ rest)))) z ∙ take-append-add base (room ++ (others ++ rest)) n
    ∙ ap (λ (b : List ℕ). base ++ b) (take-append-le n room (others ++ rest) l ∙ g)
