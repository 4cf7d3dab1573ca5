-- What packed bytes lay: as much of the words as is certain, however they go on.
use Rattle.std.proofs.Common.{◌≡◌, ◌⊎◌, inl, inr, ℕ, zero, suc, ◌*◌, ◌/◌, ◌%◌, ◌^◌, ◌<◌, ◌≤◌, List, [], ◌∷◌, ◌++◌, length, replicate, take, refl, sym, ◌∙◌, ap, subst, append_assoc, length-append, arith}
use Rattle.std.specs.Int.{to_le_bytes, from_le_bytes, w64}
use Rattle.std.proofs.lemmas.Nat.{le_bytes_8}
use Rattle.std.proofs.lemmas.List.{append-nil, take_at, take_all}
use Rattle.std.proofs.lemmas.Bool.{cases_eq, cases_lt}
use lib.Count.{ones}
use Rattle.cp_packed.specs.Words.{AreBytes, bytes_of}
use Rattle.cp_packed.specs.Packed.{Packed}
use Rattle.cp_packed.specs.Unpacking.{Pending, nothing, header_of, laid_by, run_of, first_words, next, brought, after, given, IsPending, laid, laid_in}
use Rattle.cp_packed.proofs.Opens.{Brings, step_more, step_last, brings_none, brings_first, raw_more, raw_none, raw_last, raw_word, header_some}
use Rattle.cp_packed.proofs.Unpacks.{Follows, byte_at, packed_none, packs_group, follows_none, none_follows, pending_step, brings_tag, ones_step, lowest, laid_even, laid_odd, laid_full, first_sparse}
use Rattle.cp_packed.proofs.Bytes.{all-append, word_small}

pub pending_nothing : IsPending nothing
pending_nothing = record { are_bytes = tt; few = omega arith; short = tt }

pub pending_after : (b : List ℕ) (run : ℕ) (part : List ℕ) → IsPending (record { run = run; part = part }) → AreBytes b → IsPending (after (record { run = run; part = part }) b)
pending_after [] run part h k = h
pending_after (x ∷ b) run part h k =
    let p = next (record { run = run; part = part }) x in
    pending_after b p.run p.part (pending_step run part x h k.0) k.1

-- one word more of a raw run
run_follows : (n : ℕ) (word ws more : List ℕ) → AreBytes word → length word ≡ 8 → Follows n [] ws more → Follows (suc n) [] (from_le_bytes w64 word ∷ ws) (word ++ more)
run_follows n word ws more h k m =
    let bytes = byte_at word h in
    let w = from_le_bytes w64 word in
    let spelt : to_le_bytes w64 w ≡ word = le_bytes_8 word w k bytes refl in
    record {
      vs = w ∷ m.vs;
      others = m.others;
      rest = m.rest;
      long = omega (arith, m.long);
      words = (word_small word bytes, m.words);
      bytes = ap (λ (c : List ℕ). word ++ c) m.bytes ∙ ap (λ (c : List ℕ). c ++ (bytes_of m.vs ++ m.rest)) (sym spelt) ∙ sym (append_assoc (to_le_bytes w64 w) (bytes_of m.vs) m.rest);
      packed = m.packed;
      gives = ap (λ (us : List ℕ). w ∷ us) m.gives;
    }

-- bytes that came before, and those that go on
regroups : (run : ℕ) (part other ws more rest : List ℕ) → part ++ more ≡ other ++ rest → Follows run part ws more → Follows run other ws rest
regroups run part other ws more rest e h =
    record { vs = h.vs; others = h.others; rest = h.rest; long = h.long; words = h.words; bytes = sym e ∙ h.bytes; packed = h.packed; gives = h.gives }

longer : (run x : ℕ) (part ws more : List ℕ) → Follows run (part ++ x ∷ []) ws more → Follows run part ws (x ∷ more)
longer run x part ws more h = regroups run (part ++ x ∷ []) part ws more (x ∷ more) (append_assoc part (x ∷ []) more) h

-- one byte more before what follows
pub follow_step : (run : ℕ) (part : List ℕ) (x : ℕ) (ws b : List ℕ) → IsPending (record { run = run; part = part }) → x < 256
    → Follows (next (record { run = run; part = part }) x).run (next (record { run = run; part = part }) x).part ws b
    → Follows run part (brought (record { run = run; part = part }) x ++ ws) (x ∷ b)
follow_step zero [] x ws b h k m =
    let open_tag : Follows 0 (x ∷ []) ws b = subst (λ (q : Pending). Follows q.run q.part ws b) (brings_tag x).open_then m in
    let none : brought nothing x ≡ [] = sym (append-nil (brought nothing x)) ∙ (brings_tag x).words in
    subst (λ (vs : List ℕ). Follows 0 [] (vs ++ ws) (x ∷ b)) (sym none) (longer 0 x [] ws b open_tag)
follow_step zero (t ∷ p) x ws b h k m = go (cases_eq (suc (length (p ++ x ∷ []))) (header_of t))
  where
    old : Pending
    old = record { run = zero; part = t ∷ p }

    all : AreBytes (p ++ x ∷ [])
    all = all-append (λ y. y < 256) p (x ∷ []) h.are_bytes.1 (k, tt)

    go : (suc (length (p ++ x ∷ [])) ≡ header_of t) ⊎ (suc (length (p ++ x ∷ [])) ≡ header_of t → ⊥) → Follows zero (t ∷ p) (brought (record { run = zero; part = t ∷ p }) x ++ ws) (x ∷ b)
    go (inl e) =
        let whole : Follows (run_of t (p ++ x ∷ [])) [] ws b = subst (λ (q : Pending). Follows q.run q.part ws b) (step_last t x p e) m in
        let group = packs_group t (p ++ x ∷ []) ws b h.are_bytes.0 all e whole in
        let text : (t ∷ (p ++ x ∷ [])) ++ b ≡ (t ∷ p) ++ (x ∷ b) = append_assoc (t ∷ p) (x ∷ []) b in
        subst (λ (vs : List ℕ). Follows 0 (t ∷ p) (vs ++ ws) (x ∷ b)) (sym (brings_first t x p e))
        (none_follows (t ∷ p) (first_words t (p ++ x ∷ []) ++ ws) (x ∷ b) (subst (λ (c : List ℕ). Packed (first_words t (p ++ x ∷ []) ++ ws) c) text group))
    go (inr e) =
        let less : suc (length (p ++ x ∷ [])) < header_of t = omega (arith, e, h.short, length-append p (x ∷ [])) in
        let more : Follows 0 (t ∷ (p ++ x ∷ [])) ws b = subst (λ (q : Pending). Follows q.run q.part ws b) (step_more t x p less) m in
        subst (λ (vs : List ℕ). Follows 0 (t ∷ p) (vs ++ ws) (x ∷ b)) (sym (brings_none t x p less)) (longer 0 x (t ∷ p) ws b more)
follow_step (suc n) part x ws b h k m = go (cases_eq (length (part ++ x ∷ [])) 8)
  where
    all : AreBytes (part ++ x ∷ [])
    all = all-append (λ y. y < 256) part (x ∷ []) h.are_bytes (k, tt)

    go : (length (part ++ x ∷ []) ≡ 8) ⊎ (length (part ++ x ∷ []) ≡ 8 → ⊥) → Follows (suc n) part (brought (record { run = suc n; part = part }) x ++ ws) (x ∷ b)
    go (inl e) =
        let whole : Follows n [] ws b = subst (λ (q : Pending). Follows q.run q.part ws b) (raw_last n x part e) m in
        let word = run_follows n (part ++ x ∷ []) ws b all e whole in
        subst (λ (vs : List ℕ). Follows (suc n) part (vs ++ ws) (x ∷ b)) (sym (raw_word n x part e))
        (regroups (suc n) [] part (from_le_bytes w64 (part ++ x ∷ []) ∷ ws) ((part ++ x ∷ []) ++ b) (x ∷ b) (append_assoc part (x ∷ []) b) word)
    go (inr e) =
        let less : length (part ++ x ∷ []) < 8 = omega (arith, e, h.short, length-append part (x ∷ [])) in
        let more : Follows (suc n) (part ++ x ∷ []) ws b = subst (λ (q : Pending). Follows q.run q.part ws b) (raw_more n x part less) m in
        subst (λ (vs : List ℕ). Follows (suc n) part (vs ++ ws) (x ∷ b)) (sym (raw_none n x part less)) (longer (suc n) x part ws b more)

-- bytes that leave nothing open follow what was
pub follows : (b : List ℕ) (run : ℕ) (part : List ℕ) → IsPending (record { run = run; part = part }) → AreBytes b → after (record { run = run; part = part }) b ≡ nothing
    → Follows run part (given (record { run = run; part = part }) b) b
follows [] run part h k e = subst (λ (p : Pending). Follows p.run p.part [] []) (sym e) (none_follows [] [] [] packed_none)
follows (x ∷ b) run part h k e =
    let p = next (record { run = run; part = part }) x in
    follow_step run part x (given p b) b h k.0 (follows b p.run p.part (pending_step run part x h k.0) k.1 e)

-- bytes are packed words exactly if they bring these and leave nothing open
pub brings_packed : (b : List ℕ) → AreBytes b → after nothing b ≡ nothing → Packed (given nothing b) b
brings_packed b h e = follows_none [] (given nothing b) b (follows b zero [] pending_nothing h e)

pub brings_these : (ws b : List ℕ) → AreBytes b → Brings nothing b ws nothing → Packed ws b
brings_these ws b h k = subst (λ (vs : List ℕ). Packed vs b) k.words (brings_packed b h k.open_then)

-- packed bytes are bytes
are-append : (a b : List ℕ) → AreBytes a → AreBytes b → AreBytes (a ++ b)
are-append a b h k = all-append (λ x. x < 256) a b h k

-- a word's bytes, as far as they are known
pub half_small : (n t : ℕ) → t < 2 ^ suc n → t / 2 < 2 ^ n
half_small n t h = let e : 2 ^ suc n ≡ 2 * 2 ^ n = omega arith in omega (arith, h, e)

pub laid_more : (n t : ℕ) (p : List ℕ) (x : ℕ) (q : List ℕ) → t < 2 ^ n → length p < ones t → (others : List ℕ) × (laid_by n t (p ++ x ∷ q) ≡ laid_by n t p ++ x ∷ others)
laid_more zero t p x q h k = let none : t ≡ 0 = omega (arith, h) in absurd (omega (arith, k, ap (λ (m : ℕ). ones m) none, lowest 0 (omega arith)))
laid_more (suc n) t p x q h k = go (cases_eq (t % 2) 0) p k (λ r l. laid_more n (t / 2) r x q (half_small n t h) l)
  where
    go : (t % 2 ≡ 0) ⊎ (t % 2 ≡ 0 → ⊥) → (p : List ℕ) → length p < ones t
        → ((r : List ℕ) → length r < ones (t / 2) → (others : List ℕ) × (laid_by n (t / 2) (r ++ x ∷ q) ≡ laid_by n (t / 2) r ++ x ∷ others))
        → (others : List ℕ) × (laid_by (suc n) t (p ++ x ∷ q) ≡ laid_by (suc n) t p ++ x ∷ others)
    go (inl e) p k more =
        let later = more p (omega (arith, k, ones_step t, e)) in
        (later.0, laid_even n t (p ++ x ∷ q) e ∙ ap (λ (b : List ℕ). 0 ∷ b) later.1 ∙ ap (λ (b : List ℕ). b ++ x ∷ later.0) (sym (laid_even n t p e)))
    go (inr e) [] k more =
        let odd : t % 2 ≡ 1 = omega (arith, e) in
        (laid_by n (t / 2) q, laid_odd n t (x ∷ q) odd ∙ ap (λ (b : List ℕ). b ++ x ∷ laid_by n (t / 2) q) (sym (laid_odd n t [] odd)))
    go (inr e) (y ∷ p) k more =
        let odd : t % 2 ≡ 1 = omega (arith, e) in
        let later = more p (omega (arith, k, ones_step t, odd)) in
        (later.0, laid_odd n t (y ∷ (p ++ x ∷ q)) odd ∙ ap (λ (b : List ℕ). y ∷ b) later.1 ∙ ap (λ (b : List ℕ). b ++ x ∷ later.0) (sym (laid_odd n t (y ∷ p) odd)))

pub laid_long : (n t : ℕ) (p : List ℕ) → t < 2 ^ n → ones t ≤ length p → length (laid_by n t p) ≡ n
unfolding laid_by
laid_long zero t p h k = refl
laid_long (suc n) t p h k = go (cases_eq (t % 2) 0) p k (λ r l. laid_long n (t / 2) r (half_small n t h) l)
  where
    go : (t % 2 ≡ 0) ⊎ (t % 2 ≡ 0 → ⊥) → (p : List ℕ) → ones t ≤ length p → ((r : List ℕ) → ones (t / 2) ≤ length r → length (laid_by n (t / 2) r) ≡ n) → length (laid_by (suc n) t p) ≡ suc n
    go (inl e) p k more = ap (λ (b : List ℕ). length b) (laid_even n t p e) ∙ ap (λ (m : ℕ). suc m) (more p (omega (arith, k, ones_step t, e)))
    go (inr e) [] k more = absurd (omega (arith, k, ones_step t, e))
    go (inr e) (y ∷ p) k more =
        let odd : t % 2 ≡ 1 = omega (arith, e) in
        ap (λ (b : List ℕ). length b) (laid_odd n t (y ∷ p) odd) ∙ ap (λ (m : ℕ). suc m) (more p (omega (arith, k, ones_step t, odd)))

-- bytes after those that the tag names change nothing
pub laid_front : (n t : ℕ) (p q : List ℕ) → t < 2 ^ n → ones t ≤ length p → laid_by n t (p ++ q) ≡ laid_by n t p
unfolding laid_by
laid_front zero t p q h k = refl
laid_front (suc n) t p q h k = go (cases_eq (t % 2) 0) p k (λ r l. laid_front n (t / 2) r q (half_small n t h) l)
  where
    go : (t % 2 ≡ 0) ⊎ (t % 2 ≡ 0 → ⊥) → (p : List ℕ) → ones t ≤ length p → ((r : List ℕ) → ones (t / 2) ≤ length r → laid_by n (t / 2) (r ++ q) ≡ laid_by n (t / 2) r)
        → laid_by (suc n) t (p ++ q) ≡ laid_by (suc n) t p
    go (inl e) p k more = laid_even n t (p ++ q) e ∙ ap (λ (b : List ℕ). 0 ∷ b) (more p (omega (arith, k, ones_step t, e))) ∙ sym (laid_even n t p e)
    go (inr e) [] k more = absurd (omega (arith, k, ones_step t, e))
    go (inr e) (y ∷ p) k more =
        let odd : t % 2 ≡ 1 = omega (arith, e) in
        laid_odd n t (y ∷ (p ++ q)) odd ∙ ap (λ (b : List ℕ). y ∷ b) (more p (omega (arith, k, ones_step t, odd))) ∙ sym (laid_odd n t (y ∷ p) odd)

pub laid_bytes : (n t : ℕ) (p : List ℕ) → AreBytes p → AreBytes (laid_by n t p)
unfolding laid_by
laid_bytes zero t p h = tt
laid_bytes (suc n) t p h = go (cases_eq (t % 2) 0) p h (λ r l. laid_bytes n (t / 2) r l)
  where
    go : (t % 2 ≡ 0) ⊎ (t % 2 ≡ 0 → ⊥) → (p : List ℕ) → AreBytes p → ((r : List ℕ) → AreBytes r → AreBytes (laid_by n (t / 2) r)) → AreBytes (laid_by (suc n) t p)
    go (inl e) p h more = subst (λ (b : List ℕ). AreBytes b) (sym (laid_even n t p e)) (omega arith, more p h)
    go (inr e) [] h more = let odd : t % 2 ≡ 1 = omega (arith, e) in subst (λ (b : List ℕ). AreBytes b) (sym (laid_odd n t [] odd)) tt
    go (inr e) (y ∷ p) h more = let odd : t % 2 ≡ 1 = omega (arith, e) in subst (λ (b : List ℕ). AreBytes b) (sym (laid_odd n t (y ∷ p) odd)) (h.0, more p h.1)

-- a whole word has its bytes
pub word_bytes : (b : List ℕ) → AreBytes b → length b ≡ 8 → bytes_of (from_le_bytes w64 b ∷ []) ≡ b
word_bytes b h k = append-nil (to_le_bytes w64 (from_le_bytes w64 b)) ∙ le_bytes_8 b (from_le_bytes w64 b) k (byte_at b h) refl

-- The next byte stands in a word: it is no tag and no count.
abbrev pub IsInWord : ℕ → List ℕ → Type 0
IsInWord zero [] = ⊥
IsInWord zero (t ∷ p) = length p < ones t
IsInWord (suc n) part = Unit {0}

-- one byte lays what was certain before it, and in a word itself
abbrev LaidStep : ℕ → List ℕ → ℕ → List ℕ → Type 0
LaidStep run part x others =
    bytes_of (brought (record { run = run; part = part }) x) ++ laid (next (record { run = run; part = part }) x) ≡ laid_in run part ++ others

step_in_header : (t x : ℕ) (p : List ℕ) (others : List ℕ) → suc (length (p ++ x ∷ [])) < header_of t → laid_by 8 t (p ++ x ∷ []) ≡ laid_by 8 t p ++ others → LaidStep 0 (t ∷ p) x others
step_in_header t x p others h e =
    ap (λ (ws : List ℕ). bytes_of ws ++ laid (next (record { run = 0; part = t ∷ p }) x)) (brings_none t x p h) ∙ ap (λ (q : Pending). laid q) (step_more t x p h) ∙ e

step_at_end : (t x : ℕ) (p : List ℕ) (others : List ℕ) → suc (length (p ++ x ∷ [])) ≡ header_of t → bytes_of (first_words t (p ++ x ∷ [])) ≡ laid_by 8 t p ++ others → LaidStep 0 (t ∷ p) x others
step_at_end t x p others h e =
    ap (λ (ws : List ℕ). bytes_of ws ++ laid (next (record { run = 0; part = t ∷ p }) x)) (brings_first t x p h) ∙ ap (λ (q : Pending). bytes_of (first_words t (p ++ x ∷ [])) ++ laid q) (step_last t x p h)
    ∙ ap (λ (c : List ℕ). bytes_of (first_words t (p ++ x ∷ [])) ++ c) (none_laid (run_of t (p ++ x ∷ []))) ∙ append-nil (bytes_of (first_words t (p ++ x ∷ []))) ∙ e
  where
    none_laid : (n : ℕ) → laid_in n [] ≡ []
    none_laid zero = refl
    none_laid (suc n) = refl

pub ones_full : ones 255 ≡ 8
ones_full = omega (arith, ones_step 255, ones_step 127, ones_step 63, ones_step 31, ones_step 15, ones_step 7, ones_step 3, lowest 1 (omega arith))

-- a group's own bytes: its tag, those that are written, and a count for some
pub header_parts : (t : ℕ) → t < 256 → ((header_of t ≡ suc (ones t)) × (0 < t) × (t < 255)) ⊎ ((header_of t ≡ suc (suc (ones t))) × ((t ≡ 0) ⊎ (t ≡ 255)))
header_parts t h = go (cases_eq t 0) (cases_eq t 255)
  where
    go : (t ≡ 0) ⊎ (t ≡ 0 → ⊥) → (t ≡ 255) ⊎ (t ≡ 255 → ⊥) → ((header_of t ≡ suc (ones t)) × (0 < t) × (t < 255)) ⊎ ((header_of t ≡ suc (suc (ones t))) × ((t ≡ 0) ⊎ (t ≡ 255)))
    go (inl e) k = inr (subst (λ (u : ℕ). header_of u ≡ suc (suc (ones u))) (sym e) (omega (arith, lowest 0 (omega arith))), inl e)
    go (inr z) (inl e) = inr (subst (λ (u : ℕ). header_of u ≡ suc (suc (ones u))) (sym e) (omega (arith, ones_full)), inr e)
    go (inr z) (inr f) = let some : 0 < t = omega (arith, z) in let few : t < 255 = omega (arith, f, h) in inl (header_some t some few, some, few)

pub laid_group_front : (t : ℕ) (p q : List ℕ) → t < 256 → suc (length p) ≡ header_of t → laid_by 8 t (p ++ q) ≡ laid_by 8 t p
laid_group_front t p q h k = go (header_parts t h)
  where
    go : ((header_of t ≡ suc (ones t)) × (0 < t) × (t < 255)) ⊎ ((header_of t ≡ suc (suc (ones t))) × ((t ≡ 0) ⊎ (t ≡ 255))) → laid_by 8 t (p ++ q) ≡ laid_by 8 t p
    go (inl e) = laid_front 8 t p q (omega (arith, h)) (omega (arith, k, e.0))
    go (inr e) = laid_front 8 t p q (omega (arith, h)) (omega (arith, k, e.0))

-- a byte in a word
step_in_word : (t x : ℕ) (p : List ℕ) → t < 256 → AreBytes (p ++ x ∷ []) → suc (length (p ++ x ∷ [])) ≤ header_of t → length p < ones t → (others : List ℕ) × LaidStep 0 (t ∷ p) x (x ∷ others)
step_in_word t x p small all h k = go (cases_eq (suc (length (p ++ x ∷ []))) (header_of t)) (header_parts t small)
  where
    more : (others : List ℕ) × (laid_by 8 t (p ++ x ∷ []) ≡ laid_by 8 t p ++ x ∷ others)
    more = laid_more 8 t p x [] small k

    go : (suc (length (p ++ x ∷ [])) ≡ header_of t) ⊎ (suc (length (p ++ x ∷ [])) ≡ header_of t → ⊥)
        → ((header_of t ≡ suc (ones t)) × (0 < t) × (t < 255)) ⊎ ((header_of t ≡ suc (suc (ones t))) × ((t ≡ 0) ⊎ (t ≡ 255))) → (others : List ℕ) × LaidStep 0 (t ∷ p) x (x ∷ others)
    go (inl e) (inl m) =
        let long : length (laid_by 8 t (p ++ x ∷ [])) ≡ 8 = laid_long 8 t (p ++ x ∷ []) small (omega (arith, e, m.0)) in
        let word = word_bytes (laid_by 8 t (p ++ x ∷ [])) (laid_bytes 8 t (p ++ x ∷ []) all) long in
        (more.0, step_at_end t x p (x ∷ more.0) e (ap (λ (ws : List ℕ). bytes_of ws) (first_sparse t (p ++ x ∷ []) m.1) ∙ word ∙ more.1))
    go (inl e) (inr m) = absurd (omega (arith, e, m.0, k, length-append p (x ∷ [])))
    go (inr e) m = (more.0, step_in_header t x p (x ∷ more.0) (omega (arith, e, h)) more.1)

-- a count
pub take_front : (p : List ℕ) (x : ℕ) → length p ≡ 8 → take 8 (p ++ x ∷ []) ≡ p
take_front p x h = take_at p (x ∷ []) 8 h

count_zeros : (x : ℕ) (p : List ℕ) → length p ≡ 0 → (bytes_of (first_words 0 (p ++ x ∷ [])) ≡ laid_by 8 0 p ++ bytes_of (replicate x 0))
unfolding laid_by
count_zeros x [] h = refl
count_zeros x (y ∷ p) h = absurd (omega (arith, h))

count_raw : (x : ℕ) (p : List ℕ) → AreBytes p → length p ≡ 8 → bytes_of (first_words 255 (p ++ x ∷ [])) ≡ laid_by 8 255 p
count_raw x p h k =
    let whole : laid_by 8 255 (p ++ x ∷ []) ≡ p = laid_full (p ++ x ∷ []) ∙ take_front p x k in
    ap (λ (c : List ℕ). bytes_of (from_le_bytes w64 c ∷ [])) whole ∙ word_bytes p h k ∙ sym (take_all 8 p (omega (arith, k))) ∙ sym (laid_full p)

pub step_of_count : (t x : ℕ) (p : List ℕ) → t < 256 → AreBytes p → suc (length p) < header_of t → ones t ≤ length p
    → (suc (length (p ++ x ∷ [])) ≡ header_of t) × (length p ≡ ones t) × ((bytes_of (first_words t (p ++ x ∷ [])) ≡ laid_by 8 t p ++ bytes_of (replicate x 0)) ⊎ (bytes_of (first_words t (p ++ x ∷ [])) ≡ laid_by 8 t p))
step_of_count t x p small all h k = go (header_parts t small)
  where
    go : ((header_of t ≡ suc (ones t)) × (0 < t) × (t < 255)) ⊎ ((header_of t ≡ suc (suc (ones t))) × ((t ≡ 0) ⊎ (t ≡ 255)))
        → (suc (length (p ++ x ∷ [])) ≡ header_of t) × (length p ≡ ones t) × ((bytes_of (first_words t (p ++ x ∷ [])) ≡ laid_by 8 t p ++ bytes_of (replicate x 0)) ⊎ (bytes_of (first_words t (p ++ x ∷ [])) ≡ laid_by 8 t p))
    go (inl m) = absurd (omega (arith, h, k, m.0))
    go (inr (m, inl e)) =
        let none : length p ≡ 0 = omega (arith, h, m, k, ap (λ (u : ℕ). ones u) e, lowest 0 (omega arith)) in (
          omega (arith, h, m, k, length-append p (x ∷ [])),
          omega (arith, h, m, k),
          inl (subst (λ (u : ℕ). bytes_of (first_words u (p ++ x ∷ [])) ≡ laid_by 8 u p ++ bytes_of (replicate x 0)) (sym e) (count_zeros x p none)),
        )
    go (inr (m, inr e)) =
        let eight : length p ≡ 8 = omega (arith, h, m, k, ap (λ (u : ℕ). ones u) e, ones_full) in (
          omega (arith, h, m, k, length-append p (x ∷ [])),
          omega (arith, h, m, k),
          inr (subst (λ (u : ℕ). bytes_of (first_words u (p ++ x ∷ [])) ≡ laid_by 8 u p) (sym e) (count_raw x p all eight)),
        )

-- a byte of a raw run
step_in_run : (n x : ℕ) (part : List ℕ) → AreBytes (part ++ x ∷ []) → length part < 8 → LaidStep (suc n) part x (x ∷ [])
step_in_run n x part all h = go (cases_eq (length (part ++ x ∷ [])) 8)
  where
    none_laid : (n : ℕ) → laid_in n [] ≡ []
    none_laid zero = refl
    none_laid (suc n) = refl

    go : (length (part ++ x ∷ []) ≡ 8) ⊎ (length (part ++ x ∷ []) ≡ 8 → ⊥) → LaidStep (suc n) part x (x ∷ [])
    go (inl e) =
        ap (λ (ws : List ℕ). bytes_of ws ++ laid (next (record { run = suc n; part = part }) x)) (raw_word n x part e)
        ∙ ap (λ (q : Pending). bytes_of (from_le_bytes w64 (part ++ x ∷ []) ∷ []) ++ laid q) (raw_last n x part e)
        ∙ ap (λ (c : List ℕ). bytes_of (from_le_bytes w64 (part ++ x ∷ []) ∷ []) ++ c) (none_laid n)
        ∙ append-nil (bytes_of (from_le_bytes w64 (part ++ x ∷ []) ∷ [])) ∙ word_bytes (part ++ x ∷ []) all e
    go (inr e) =
        let less : length (part ++ x ∷ []) < 8 = omega (arith, e, h, length-append part (x ∷ [])) in
        ap (λ (ws : List ℕ). bytes_of ws ++ laid (next (record { run = suc n; part = part }) x)) (raw_none n x part less) ∙ ap (λ (q : Pending). laid q) (raw_more n x part less)

-- each byte lays more, and in a word itself first
pub word_step : (run : ℕ) (part : List ℕ) (x : ℕ) → IsPending (record { run = run; part = part }) → x < 256 → IsInWord run part → (others : List ℕ) × LaidStep run part x (x ∷ others)
word_step zero [] x h k w = absurd w
word_step zero (t ∷ p) x h k w =
    step_in_word t x p h.are_bytes.0 (all-append (λ y. y < 256) p (x ∷ []) h.are_bytes.1 (k, tt)) (omega (arith, h.short, length-append p (x ∷ []))) w
word_step (suc n) part x h k w = ([], step_in_run n x part (all-append (λ y. y < 256) part (x ∷ []) h.are_bytes (k, tt)) h.short)

pub any_step : (run : ℕ) (part : List ℕ) (x : ℕ) → IsPending (record { run = run; part = part }) → x < 256 → (others : List ℕ) × LaidStep run part x others
any_step zero [] x h k = (bytes_of (brought nothing x) ++ laid (next nothing x), refl)
any_step zero (t ∷ p) x h k = go (cases_lt (length p) (ones t))
  where
    counted : ones t ≤ length p → (suc (length (p ++ x ∷ [])) ≡ header_of t) × (length p ≡ ones t) × ((bytes_of (first_words t (p ++ x ∷ [])) ≡ laid_by 8 t p ++ bytes_of (replicate x 0)) ⊎ (bytes_of (first_words t (p ++ x ∷ [])) ≡ laid_by 8 t p))
    counted l = step_of_count t x p h.are_bytes.0 h.are_bytes.1 h.short l

    at_count : suc (length (p ++ x ∷ [])) ≡ header_of t → (bytes_of (first_words t (p ++ x ∷ [])) ≡ laid_by 8 t p ++ bytes_of (replicate x 0)) ⊎ (bytes_of (first_words t (p ++ x ∷ [])) ≡ laid_by 8 t p)
        → (others : List ℕ) × LaidStep 0 (t ∷ p) x others
    at_count e (inl m) = (bytes_of (replicate x 0), step_at_end t x p (bytes_of (replicate x 0)) e m)
    at_count e (inr m) = ([], step_at_end t x p [] e (m ∙ sym (append-nil (laid_by 8 t p))))

    go : (length p < ones t) ⊎ (ones t ≤ length p) → (others : List ℕ) × LaidStep 0 (t ∷ p) x others
    go (inl l) = let m = word_step zero (t ∷ p) x h k l in (x ∷ m.0, m.1)
    go (inr l) = let m = counted l in at_count m.0 m.2
any_step (suc n) part x h k = let m = word_step (suc n) part x h k tt in (x ∷ m.0, m.1)

-- at most a word is laid beside those that are whole
pub laid_few : (n t : ℕ) (p : List ℕ) → length (laid_by n t p) ≤ n
unfolding laid_by
laid_few zero t p = omega arith
laid_few (suc n) t p = go (cases_eq (t % 2) 0) p (λ r. laid_few n (t / 2) r)
  where
    go : (t % 2 ≡ 0) ⊎ (t % 2 ≡ 0 → ⊥) → (p : List ℕ) → ((r : List ℕ) → length (laid_by n (t / 2) r) ≤ n) → length (laid_by (suc n) t p) ≤ suc n
    go (inl e) p more = omega (arith, ap (λ (b : List ℕ). length b) (laid_even n t p e), more p)
    go (inr e) [] more = let odd : t % 2 ≡ 1 = omega (arith, e) in omega (arith, ap (λ (b : List ℕ). length b) (laid_odd n t [] odd))
    go (inr e) (y ∷ p) more = let odd : t % 2 ≡ 1 = omega (arith, e) in omega (arith, ap (λ (b : List ℕ). length b) (laid_odd n t (y ∷ p) odd), more p)

pub laid_at_most : (run : ℕ) (part : List ℕ) → IsPending (record { run = run; part = part }) → length (laid_in run part) ≤ 8
laid_at_most zero [] h = omega arith
laid_at_most zero (t ∷ p) h = laid_few 8 t p
laid_at_most (suc n) part h = omega (arith, h.short)
