-- Packed bytes bring the words of their groups, and bytes that leave nothing open are packed.
use Rattle.std.proofs.Common.{◌≡◌, ◌⊎◌, inl, inr, ◌==◌, if◌then◌else◌, true, false, ℕ, zero, suc, ◌+◌, ◌*◌, ◌/◌, ◌%◌, ◌^◌, ◌<◌, List, [], ◌∷◌, ◌++◌, length, map, take, drop, get_or, Option, Some, None, unwrap_or, refl, sym, ◌∙◌, ap, subst, append_assoc, length-append, arith}
use Rattle.std.specs.List.{AllByRecursion, flat_map}
use Rattle.std.specs.Int.{to_le_bytes, from_le_bytes, w64}
use Rattle.std.proofs.lemmas.Nat.{ones_cat, zero_from_ones, from_le_bytes-to_le_bytes_8, le_bytes_8}
use Rattle.std.proofs.lemmas.List.{take_all, take_more, length-take-le}
use Rattle.std.proofs.lemmas.Bool.{cases_eq}
use lib.Count.{ones, ones_in}
use Rattle.cp_packed.specs.Words.{AreBytes, AreWords, bytes_of}
use Rattle.cp_packed.specs.Packed.{Group, sparse, zeros, raw, tag, written, IsGroup, spelling, words_of, Packed}
use Rattle.cp_packed.specs.Unpacking.{Pending, nothing, header_of, first_and, laid_by, run_of, first_words, next, IsShort, IsPending}
use Rattle.cp_packed.proofs.Opens.{test_true, test_false, ones_tag, header_some, Brings, brings_both, feeds_header, ends, step_more, step_last, raw_more, raw_last}
use Rattle.cp_packed.proofs.Bytes.{all-append, word_small, take_small}

-- the lowest digit of a tag, and the others
pub lowest : (d : ℕ) → d < 2 → ones d ≡ d
unfolding ones ones_in
lowest zero h = refl
lowest (suc zero) h = refl
lowest (suc (suc d)) h = absurd (omega (arith, h))

pub ones_step : (t : ℕ) → ones t ≡ t % 2 + ones (t / 2)
ones_step t =
    let e : t ≡ t / 2 * 2 ^ 1 + t % 2 = omega arith in
    let cut = ones_cat 1 (t / 2) (t % 2) (omega arith) in
    let low : ones (t % 2) ≡ t % 2 = lowest (t % 2) (omega arith) in
    ap (λ (m : ℕ). ones m) e ∙ omega (arith, cut, low)

pub header_long : (t : ℕ) → 1 < header_of t
header_long t = go (cases_eq t 0) (cases_eq t 255)
  where
    go : (t ≡ 0) ⊎ (t ≡ 0 → ⊥) → (t ≡ 255) ⊎ (t ≡ 255 → ⊥) → 1 < header_of t
    go (inl h) k = subst (λ (m : ℕ). 1 < header_of m) (sym h) (omega arith)
    go (inr h) (inl k) = subst (λ (m : ℕ). 1 < header_of m) (sym k) (omega arith)
    go (inr h) (inr k) = rw (test_false t 0 h, test_false t 255 k) (some (cases_eq (ones t) 0))
      where
        some : (ones t ≡ 0) ⊎ (ones t ≡ 0 → ⊥) → 1 < suc (ones t)
        some (inl e) = absurd (h (zero_from_ones t e))
        some (inr e) = omega (arith, e)

-- a word's bytes by its tag
pub laid_even : (n t : ℕ) (p : List ℕ) → t % 2 ≡ 0 → laid_by (suc n) t p ≡ 0 ∷ laid_by n (t / 2) p
unfolding laid_by
laid_even n t p h = rw (test_true (t % 2) 0 h) refl

pub laid_odd : (n t : ℕ) (p : List ℕ) → t % 2 ≡ 1 → laid_by (suc n) t p ≡ first_and p (laid_by n (t / 2) (drop 1 p))
unfolding laid_by
laid_odd n t p h = rw (test_false (t % 2) 0 (λ e. omega (arith, e, h))) refl

pub laid_group : (bs : List (Option ℕ)) → laid_by (length bs) (tag bs) (written bs) ≡ map (λ b. unwrap_or b 0) bs
unfolding laid_by
laid_group [] = refl
laid_group (None ∷ bs) =
    let even : (2 * tag bs) % 2 ≡ 0 = omega arith in
    let half : 2 * tag bs / 2 ≡ tag bs = omega arith in
    laid_even (length bs) (2 * tag bs) (written bs) even ∙ ap (λ (t : ℕ). 0 ∷ laid_by (length bs) t (written bs)) half ∙ ap (λ (b : List ℕ). 0 ∷ b) (laid_group bs)
laid_group (Some x ∷ bs) =
    let odd : (1 + 2 * tag bs) % 2 ≡ 1 = omega arith in
    let half : (1 + 2 * tag bs) / 2 ≡ tag bs = omega arith in
    laid_odd (length bs) (1 + 2 * tag bs) (x ∷ written bs) odd ∙ ap (λ (t : ℕ). x ∷ laid_by (length bs) t (written bs)) half ∙ ap (λ (b : List ℕ). x ∷ b) (laid_group bs)

pub laid_full : (p : List ℕ) → laid_by 8 255 p ≡ take 8 p
unfolding laid_by
laid_full [] = refl
laid_full (a ∷ []) = refl
laid_full (a ∷ b ∷ []) = refl
laid_full (a ∷ b ∷ c ∷ []) = refl
laid_full (a ∷ b ∷ c ∷ d ∷ []) = refl
laid_full (a ∷ b ∷ c ∷ d ∷ e ∷ []) = refl
laid_full (a ∷ b ∷ c ∷ d ∷ e ∷ f ∷ []) = refl
laid_full (a ∷ b ∷ c ∷ d ∷ e ∷ f ∷ g ∷ []) = refl
laid_full (a ∷ b ∷ c ∷ d ∷ e ∷ f ∷ g ∷ h ∷ more) = refl

no_bytes : (p : List ℕ) → length p ≡ 0 → [] ≡ p
no_bytes [] e = refl
no_bytes (x ∷ p) e = absurd (omega (arith, e))

-- a tag and as many bytes as it names are a word's
abbrev IsFilled : ℕ → ℕ → List ℕ → List (Option ℕ) → Type 0
IsFilled n t p bs = (length bs ≡ n) × (tag bs ≡ t) × (written bs ≡ p)

fill_more : (n t : ℕ) (p : List ℕ) → ((q : List ℕ) → length q ≡ ones (t / 2) → (bs : List (Option ℕ)) × IsFilled n (t / 2) q bs) → length p ≡ ones t → (t % 2 ≡ 0) ⊎ (t % 2 ≡ 0 → ⊥)
    → (bs : List (Option ℕ)) × IsFilled (suc n) t p bs
fill_more n t p more k (inl e) =
    let later = more p (omega (arith, k, ones_step t, e)) in
    (None ∷ later.0, (omega (arith, later.1.0), omega (arith, later.1.1, e), later.1.2))
fill_more n t [] more k (inr e) = absurd (omega (arith, k, ones_step t, e))
fill_more n t (x ∷ p) more k (inr e) =
    let later = more p (omega (arith, k, ones_step t, e)) in
    (Some x ∷ later.0, (omega (arith, later.1.0), omega (arith, later.1.1, e), ap (λ (b : List ℕ). x ∷ b) later.1.2))

pub fills : (n t : ℕ) (p : List ℕ) → t < 2 ^ n → length p ≡ ones t → (bs : List (Option ℕ)) × IsFilled n t p bs
fills zero t p h k =
    let none : t ≡ 0 = omega (arith, h) in
    ([], (refl, sym none, no_bytes p (k ∙ ap (λ (m : ℕ). ones m) none ∙ lowest 0 (omega arith))))
fills (suc n) t p h k =
    let e : 2 ^ suc n ≡ 2 * 2 ^ n = omega arith in
    let small : t / 2 < 2 ^ n = omega (arith, h, e) in
    fill_more n t p (λ q. fills n (t / 2) q small) k (cases_eq (t % 2) 0)

-- a tag alone
pub brings_tag : (t : ℕ) → Brings nothing (t ∷ []) [] (record { run = 0; part = t ∷ [] })
brings_tag t =
    let long = test_false 1 (header_of t) (λ e. omega (arith, e, header_long t)) in
    record { words = rw long refl; open_then = rw long refl }

-- a tag and all that belongs to it
pub brings_header : (t : ℕ) (p : List ℕ) → suc (length p) ≡ header_of t → Brings nothing (t ∷ p) (first_words t p) (record { run = run_of t p; part = [] })
brings_header t [] h = absurd (omega (arith, h, header_long t))
brings_header t (x ∷ b) h =
    let e = ends x b in
    let whole : suc (length (e.0 ++ e.1 ∷ [])) ≡ header_of t = ap (λ (q : List ℕ). suc (length q)) (sym e.2) ∙ h in
    let all = brings_both nothing (record { run = 0; part = t ∷ [] }) (record { run = run_of t (e.0 ++ e.1 ∷ []); part = [] }) (t ∷ []) (e.0 ++ e.1 ∷ []) [] (first_words t (e.0 ++ e.1 ∷ [])) (brings_tag t) (feeds_header t e.0 e.1 whole) in
    subst (λ (q : List ℕ). Brings nothing (t ∷ q) (first_words t q) (record { run = run_of t q; part = [] })) (sym e.2) all

-- the words of a raw run
pub brings_word : (n w : ℕ) → w < 2 ^ 64 → Brings (record { run = suc n; part = [] }) (to_le_bytes w64 w) (w ∷ []) (record { run = n; part = [] })
brings_word n w h = record { words = ap (λ (v : ℕ). let ws : List ℕ = v ∷ [] in ws) (from_le_bytes-to_le_bytes_8 w h); open_then = refl }

pub brings_run : (ws : List ℕ) → AreWords ws → Brings (record { run = length ws; part = [] }) (bytes_of ws) ws nothing
brings_run [] h = record { words = refl; open_then = refl }
brings_run (w ∷ ws) h = brings_both (record { run = suc (length ws); part = [] }) (record { run = length ws; part = [] }) nothing (to_le_bytes w64 w) (bytes_of ws) (w ∷ []) ws (brings_word (length ws) w h.0) (brings_run ws h.1)

pub first_sparse : (t : ℕ) (p : List ℕ) → 0 < t → first_words t p ≡ from_le_bytes w64 (laid_by 8 t p) ∷ []
first_sparse t p h = rw (test_false t 0 (λ e. omega (arith, e, h))) refl

pub run_sparse : (t : ℕ) (p : List ℕ) → t < 255 → run_of t p ≡ 0
run_sparse t p h = rw (test_false t 255 (λ e. omega (arith, e, h))) refl

pub group_brings : (g : Group) → IsGroup g → Brings nothing (spelling g) (words_of g) nothing
unfolding laid_by
group_brings (sparse bs) h =
    let t = tag bs in
    let p = written bs in
    let header : suc (length p) ≡ header_of t = omega (arith, header_some t h.1 h.2, ones_tag bs) in
    let all = brings_header t p header in
    let bytes : laid_by 8 t p ≡ map (λ b. unwrap_or b 0) bs = subst (λ (n : ℕ). laid_by n t p ≡ map (λ b. unwrap_or b 0) bs) h.0 (laid_group bs) in
    record {
      words = all.words ∙ first_sparse t p h.1 ∙ ap (λ (b : List ℕ). let ws : List ℕ = from_le_bytes w64 b ∷ [] in ws) bytes;
      open_then = all.open_then ∙ ap (λ (n : ℕ). let q : Pending = record { run = n; part = [] } in q) (run_sparse t p h.2);
    }
group_brings (zeros m) h = brings_header 0 (m ∷ []) refl
group_brings (raw w ws) h =
    let first = brings_header 255 (to_le_bytes w64 w ++ length ws ∷ []) refl in
    let word : from_le_bytes w64 (to_le_bytes w64 w) ≡ w = from_le_bytes-to_le_bytes_8 w h.0 in
    let begun : Brings nothing (255 ∷ (to_le_bytes w64 w ++ length ws ∷ [])) (w ∷ []) (record { run = length ws; part = [] }) =
    record { words = first.words ∙ ap (λ (v : ℕ). let vs : List ℕ = v ∷ [] in vs) word; open_then = first.open_then } in
    brings_both nothing (record { run = length ws; part = [] }) nothing (255 ∷ (to_le_bytes w64 w ++ length ws ∷ [])) (bytes_of ws) (w ∷ []) ws begun (brings_run ws h.1)

pub groups_bring : (gs : List Group) → AllByRecursion IsGroup gs → Brings nothing (flat_map spelling gs) (flat_map words_of gs) nothing
groups_bring [] h = record { words = refl; open_then = refl }
groups_bring (g ∷ gs) h = brings_both nothing nothing nothing (spelling g) (flat_map spelling gs) (words_of g) (flat_map words_of gs) (group_brings g h.0) (groups_bring gs h.1)

-- packed bytes bring their words, and leave nothing open
pub packed_brings : (ws b : List ℕ) → Packed ws b → Brings nothing b ws nothing
packed_brings ws b h =
    subst (λ (vs : List ℕ). Brings nothing b vs nothing) (sym h.gives) (subst (λ (c : List ℕ). Brings nothing c (flat_map words_of h.groups) nothing) (sym h.spells) (groups_bring h.groups h.each))

-- bytes below 256, at each place
pub byte_at : (b : List ℕ) → AreBytes b → (i : ℕ) → get_or b i 0 < 256
byte_at [] h i = omega arith
byte_at (x ∷ b) h zero = h.0
byte_at (x ∷ b) h (suc i) = byte_at b h.1 i

-- Bytes go on an open group: the words left of a raw run come first, and then packed words.
pub record Follows (run : ℕ) (part ws more : List ℕ) : Type 0 where
  pub vs : List ℕ
  pub others : List ℕ
  pub rest : List ℕ
  pub long : length vs ≡ run
  pub words : AreWords vs
  pub bytes : part ++ more ≡ bytes_of vs ++ rest
  pub packed : Packed others rest
  pub gives : ws ≡ vs ++ others

pub packed_none : Packed [] []
packed_none = record { groups = []; each = tt; spells = refl; gives = refl }

pub packed_more : (g : Group) (ws b : List ℕ) → IsGroup g → Packed ws b → Packed (words_of g ++ ws) (spelling g ++ b)
packed_more g ws b h k = record {
  groups = g ∷ k.groups;
  each = (h, k.each);
  spells = ap (λ (c : List ℕ). spelling g ++ c) k.spells;
  gives = ap (λ (vs : List ℕ). words_of g ++ vs) k.gives;
}

no_run : (vs others rest part ws more : List ℕ) → length vs ≡ 0 → part ++ more ≡ bytes_of vs ++ rest → Packed others rest → ws ≡ vs ++ others → Packed ws (part ++ more)
no_run [] others rest part ws more l b k g = subst (λ (us : List ℕ). Packed us (part ++ more)) (sym g) (subst (λ (c : List ℕ). Packed others c) (sym b) k)
no_run (v ∷ vs) others rest part ws more l b k g = absurd (omega (arith, l))

pub follows_none : (part ws more : List ℕ) → Follows 0 part ws more → Packed ws (part ++ more)
follows_none part ws more h = no_run h.vs h.others h.rest part ws more h.long h.bytes h.packed h.gives

pub none_follows : (part ws more : List ℕ) → Packed ws (part ++ more) → Follows 0 part ws more
none_follows part ws more h = record { vs = []; others = ws; rest = part ++ more; long = refl; words = tt; bytes = refl; packed = h; gives = refl }

-- a whole group, and what follows it
packs_zeros : (q ws b : List ℕ) → AreBytes q → suc (length q) ≡ 2 → Packed ws b → Packed (first_words 0 q ++ ws) ((0 ∷ q) ++ b)
packs_zeros [] ws b h k m = absurd (omega (arith, k))
packs_zeros (n ∷ []) ws b h k m = packed_more (zeros n) ws b h.0 m
packs_zeros (n ∷ x ∷ q) ws b h k m = absurd (omega (arith, k))

packs_sparse : (t : ℕ) (q ws b : List ℕ) → AreBytes q → 0 < t → t < 255 → length q ≡ ones t → Packed ws b → Packed (first_words t q ++ ws) ((t ∷ q) ++ b)
packs_sparse t q ws b h some few k m =
    let bs = fills 8 t q (omega (arith, few)) k in
    let all : AllByRecursion (λ x. x < 256) (written bs.0) = subst (λ (c : List ℕ). AreBytes c) (sym bs.1.2) h in
    let is : IsGroup (sparse bs.0) = (bs.1.0, omega (arith, some, bs.1.1), omega (arith, few, bs.1.1), all) in
    let same : laid_by 8 t q ≡ map (λ x. unwrap_or x 0) bs.0 =
    ap (λ (c : List ℕ). laid_by 8 t c) (sym bs.1.2) ∙ ap (λ (u : ℕ). laid_by 8 u (written bs.0)) (sym bs.1.1) ∙ ap (λ (n : ℕ). laid_by n (tag bs.0) (written bs.0)) (sym bs.1.0) ∙ laid_group bs.0 in
    let words : words_of (sparse bs.0) ≡ first_words t q = ap (λ (c : List ℕ). let us : List ℕ = from_le_bytes w64 c ∷ [] in us) (sym same) ∙ sym (first_sparse t q some) in
    let spelt : spelling (sparse bs.0) ≡ t ∷ q = ap (λ (u : ℕ). u ∷ written bs.0) bs.1.1 ∙ ap (λ (c : List ℕ). t ∷ c) bs.1.2 in
    subst (λ (us : List ℕ). Packed (us ++ ws) ((t ∷ q) ++ b)) words (subst (λ (c : List ℕ). Packed (words_of (sparse bs.0) ++ ws) (c ++ b)) spelt (packed_more (sparse bs.0) ws b is m))

packs_raw : (q ws b : List ℕ) → AreBytes q → length q ≡ 9 → Follows (get_or q 8 0) [] ws b → Packed (first_words 255 q ++ ws) ((255 ∷ q) ++ b)
packs_raw q ws b h k m =
    let front = take 8 q in
    let n = get_or q 8 0 in
    let w = from_le_bytes w64 front in
    let cut : q ≡ front ++ n ∷ [] = sym (take_all 9 q (omega (arith, k))) ∙ take_more q 8 0 (omega (arith, k)) in
    let bytes = take_small 8 q (byte_at q h) in
    let spelt : to_le_bytes w64 w ≡ front = le_bytes_8 front w (length-take-le 8 q (omega (arith, k))) bytes refl in
    let small : w < 2 ^ 64 = word_small front bytes in
    let few : length m.vs < 256 = omega (arith, m.long, byte_at q h 8) in
    let is : IsGroup (raw w m.vs) = (small, m.words, few) in
    let one = packed_more (raw w m.vs) m.others m.rest is m.packed in
    let words : words_of (raw w m.vs) ++ m.others ≡ first_words 255 q ++ ws =
    ap (λ (us : List ℕ). w ∷ us) (sym m.gives) ∙ ap (λ (c : List ℕ). from_le_bytes w64 c ∷ ws) (sym (laid_full q)) in
    let text : spelling (raw w m.vs) ++ m.rest ≡ (255 ∷ q) ++ b =
    ap (λ (c : List ℕ). 255 ∷ c) (append_assoc (to_le_bytes w64 w) (length m.vs ∷ bytes_of m.vs) m.rest
    ∙ ap (λ (c : List ℕ). c ++ (length m.vs ∷ (bytes_of m.vs ++ m.rest))) spelt
    ∙ ap (λ (i : ℕ). front ++ (i ∷ (bytes_of m.vs ++ m.rest))) m.long
    ∙ ap (λ (c : List ℕ). front ++ (n ∷ c)) (sym m.bytes)
    ∙ sym (append_assoc front (n ∷ []) b)
    ∙ ap (λ (c : List ℕ). c ++ b) (sym cut)) in
    subst (λ (us : List ℕ). Packed us ((255 ∷ q) ++ b)) words (subst (λ (c : List ℕ). Packed (words_of (raw w m.vs) ++ m.others) c) text one)

pub packs_group : (t : ℕ) (q ws b : List ℕ) → t < 256 → AreBytes q → suc (length q) ≡ header_of t → Follows (run_of t q) [] ws b → Packed (first_words t q ++ ws) ((t ∷ q) ++ b)
packs_group t q ws b s h k m = go (cases_eq t 0) (cases_eq t 255)
  where
    go : (t ≡ 0) ⊎ (t ≡ 0 → ⊥) → (t ≡ 255) ⊎ (t ≡ 255 → ⊥) → Packed (first_words t q ++ ws) ((t ∷ q) ++ b)
    go (inl e) r =
        let zero_header : suc (length q) ≡ 2 = k ∙ ap (λ (u : ℕ). header_of u) e in
        let zero_run : Follows 0 [] ws b = subst (λ (u : ℕ). Follows (run_of u q) [] ws b) e m in
        subst (λ (u : ℕ). Packed (first_words u q ++ ws) ((u ∷ q) ++ b)) (sym e) (packs_zeros q ws b h zero_header (follows_none [] ws b zero_run))
    go (inr z) (inl e) =
        let full_header : suc (length q) ≡ 10 = k ∙ ap (λ (u : ℕ). header_of u) e in
        let full_run : Follows (get_or q 8 0) [] ws b = subst (λ (u : ℕ). Follows (run_of u q) [] ws b) e m in
        subst (λ (u : ℕ). Packed (first_words u q ++ ws) ((u ∷ q) ++ b)) (sym e) (packs_raw q ws b h (omega (arith, full_header)) full_run)
    go (inr z) (inr f) =
        let some : 0 < t = omega (arith, z) in
        let few : t < 255 = omega (arith, f, s) in
        let ones_header : length q ≡ ones t = omega (arith, k, header_some t some few) in
        let no_run_left : Follows 0 [] ws b = subst (λ (n : ℕ). Follows n [] ws b) (run_sparse t q few) m in
        packs_sparse t q ws b h some few ones_header (follows_none [] ws b no_run_left)

none_short : (n : ℕ) → IsShort n []
none_short zero = tt
none_short (suc n) = omega arith

-- what stays open is short
pub pending_step : (run : ℕ) (part : List ℕ) (x : ℕ) → IsPending (record { run = run; part = part }) → x < 256 → IsPending (next (record { run = run; part = part }) x)
pending_step zero [] x h k =
    subst (λ (p : Pending). IsPending p) (sym (brings_tag x).open_then) (record { are_bytes = (k, tt); few = omega arith; short = header_long x })
pending_step zero (t ∷ p) x h k = go (cases_eq (suc (length (p ++ x ∷ []))) (header_of t))
  where
    all : AreBytes (p ++ x ∷ [])
    all = all-append (λ y. y < 256) p (x ∷ []) h.are_bytes.1 (k, tt)

    few : run_of t (p ++ x ∷ []) < 256
    few = elim (t == 255) as (λ v. (if v then get_or (p ++ x ∷ []) 8 0 else 0) < 256) [ true ↦ byte_at (p ++ x ∷ []) all 8 | false ↦ omega arith ]

    go : (suc (length (p ++ x ∷ [])) ≡ header_of t) ⊎ (suc (length (p ++ x ∷ [])) ≡ header_of t → ⊥) → IsPending (next (record { run = zero; part = t ∷ p }) x)
    go (inl e) = subst (λ (q : Pending). IsPending q) (sym (step_last t x p e)) (record { are_bytes = tt; few = few; short = none_short (run_of t (p ++ x ∷ [])) })
    go (inr e) =
        let less : suc (length (p ++ x ∷ [])) < header_of t = omega (arith, e, h.short, length-append p (x ∷ [])) in
        subst (λ (q : Pending). IsPending q) (sym (step_more t x p less)) (record { are_bytes = (h.are_bytes.0, all); few = omega arith; short = less })
pending_step (suc n) part x h k = go (cases_eq (length (part ++ x ∷ [])) 8)
  where
    go : (length (part ++ x ∷ []) ≡ 8) ⊎ (length (part ++ x ∷ []) ≡ 8 → ⊥) → IsPending (next (record { run = suc n; part = part }) x)
    go (inl e) = subst (λ (q : Pending). IsPending q) (sym (raw_last n x part e)) (record { are_bytes = tt; few = omega (arith, h.few); short = none_short n })
    go (inr e) =
        let less : length (part ++ x ∷ []) < 8 = omega (arith, e, h.short, length-append part (x ∷ [])) in
        subst (λ (q : Pending). IsPending q) (sym (raw_more n x part less)) (record { are_bytes = all-append (λ y. y < 256) part (x ∷ []) h.are_bytes (k, tt); few = h.few; short = less })
