-- All that packed bytes lay, as the longest beginning of what they may go on to.
use Rattle.std.proofs.Common.{◌≡◌, ◌⊎◌, inl, inr, ℕ, zero, suc, ◌-◌, ◌*◌, ◌<◌, ◌≤◌, List, [], ◌∷◌, ◌++◌, length, replicate, get_or, refl, sym, ◌∙◌, ap, subst, append_assoc, length-append, arith}
use Rattle.std.specs.List.{AllByRecursion, flat_map}
use Rattle.std.specs.Int.{to_le_bytes, w64}
use Rattle.std.proofs.lemmas.List.{append-nil, get_or_at, get_or_append_left}
use Rattle.std.proofs.lemmas.Bool.{cases_eq, cases_lt}
use Rattle.std.proofs.lemmas.Grind.{flat_map-append}
use lib.Count.{ones}
use Rattle.cp_frame.specs.declared.mode.Mode.TheVariants as modes
use Rattle.cp_packed.specs.Words.{AreBytes, bytes_of}
use Rattle.cp_packed.specs.Packed.{Group, sparse, zeros, raw, IsGroup, spelling, Packed}
use Rattle.cp_frame.specs.Stream.{Lays, Laid}
use Rattle.cp_packed.specs.Unpacking.{Pending, nothing, header_of, run_of, first_words, next, brought, after, given, IsPending, laid, laid_in, laid_by, all_laid}
use Rattle.cp_packed.proofs.Opens.{test_false, brings_first, step_more, step_last, raw_more, raw_last, after-append, given-append}
use Rattle.cp_packed.proofs.Unpacks.{packed_brings, pending_step}
use Rattle.cp_packed.proofs.Laying.{pending_nothing, pending_after, brings_packed, word_step, any_step, step_of_count, IsInWord}
use Rattle.cp_packed.proofs.Bytes.{all-append}
use Rattle.cp_frame.proofs.Framing.{same_parts}

-- the parts of bytes are bytes
pub are-append : (a b : List ℕ) → AreBytes a → AreBytes b → AreBytes (a ++ b)
are-append a b h k = all-append (λ x. x < 256) a b h k

pub are_front : (a b : List ℕ) → AreBytes (a ++ b) → AreBytes a
are_front [] b h = tt
are_front (x ∷ a) b h = (h.0, are_front a b h.1)

pub are_back : (a b : List ℕ) → AreBytes (a ++ b) → AreBytes b
are_back [] b h = h
are_back (x ∷ a) b h = are_back a b h.1

-- a word's bytes are bytes
pub le_are : (w : ℕ) → AreBytes (to_le_bytes w64 w)
le_are w = (omega arith, (omega arith, (omega arith, (omega arith, (omega arith, (omega arith, (omega arith, (omega arith, tt))))))))

pub bytes_are : (ws : List ℕ) → AreBytes (bytes_of ws)
bytes_are [] = tt
bytes_are (w ∷ ws) = are-append (to_le_bytes w64 w) (bytes_of ws) (le_are w) (bytes_are ws)

group_are : (g : Group) → IsGroup g → AreBytes (spelling g)
group_are (sparse bs) h = (omega (arith, h.2), h.3)
group_are (zeros m) h = (omega arith, (h, tt))
group_are (raw w ws) h = (omega arith, are-append (to_le_bytes w64 w) (length ws ∷ bytes_of ws) (le_are w) (h.2, bytes_are ws))

groups_are : (gs : List Group) → AllByRecursion IsGroup gs → AreBytes (flat_map spelling gs)
groups_are [] h = tt
groups_are (g ∷ gs) h = are-append (spelling g) (flat_map spelling gs) (group_are g h.0) (groups_are gs h.1)

-- packed bytes are bytes
pub packed_are : (ws b : List ℕ) → Packed ws b → AreBytes b
packed_are ws b h = subst (λ (c : List ℕ). AreBytes c) (sym h.spells) (groups_are h.groups h.each)

-- what bytes bring and leave laid begins with what was laid before
pub laid_prefix : (b : List ℕ) (run : ℕ) (part : List ℕ) → IsPending (record { run = run; part = part }) → AreBytes b
    → (others : List ℕ) × (bytes_of (given (record { run = run; part = part }) b) ++ laid (after (record { run = run; part = part }) b) ≡ laid_in run part ++ others)
laid_prefix [] run part h k = ([], sym (append-nil (laid_in run part)))
laid_prefix (x ∷ b) run part h k =
    let old : Pending = record { run = run; part = part } in
    let p = next old x in
    let one = any_step run part x h k.0 in
    let later = laid_prefix b p.run p.part (pending_step run part x h k.0) k.1 in
    let cut : bytes_of (brought old x ++ given p b) ≡ bytes_of (brought old x) ++ bytes_of (given p b) = flat_map-append (to_le_bytes w64) (brought old x) (given p b) in (
      one.0 ++ later.0,
      ap (λ (c : List ℕ). c ++ laid (after p b)) cut ∙ append_assoc (bytes_of (brought old x)) (bytes_of (given p b)) (laid (after p b))
          ∙ ap (λ (c : List ℕ). bytes_of (brought old x) ++ c) later.1 ∙ sym (append_assoc (bytes_of (brought old x)) (laid p) later.0)
          ∙ ap (λ (c : List ℕ). c ++ later.0) one.1 ∙ append_assoc (laid_in run part) one.0 later.0,
    )

-- how many bytes are missing, where zeros follow
abbrev pub missing : ℕ → List ℕ → ℕ
missing zero [] = 0
missing zero (t ∷ p) = header_of t - suc (length p)
missing (suc n) part = 8 * suc n - length part

pub missing_run : (n : ℕ) → missing n [] ≡ 8 * n
missing_run zero = refl
missing_run (suc n) = omega arith

last_zero : (t : ℕ) (p : List ℕ) → suc (length (p ++ 0 ∷ [])) ≡ header_of t → run_of t (p ++ 0 ∷ []) ≡ 0
last_zero t p h = go (cases_eq t 255)
  where
    go : (t ≡ 255) ⊎ (t ≡ 255 → ⊥) → run_of t (p ++ 0 ∷ []) ≡ 0
    go (inl e) =
        let full : suc (length (p ++ 0 ∷ [])) ≡ 10 = h ∙ ap (λ (u : ℕ). header_of u) e in
        let place : length p ≡ 8 = omega (arith, full, length-append p (0 ∷ [])) in
        subst (λ (u : ℕ). run_of u (p ++ 0 ∷ []) ≡ 0) (sym e) (get_or_at p 0 [] 0 8 place)
    go (inr e) = rw (test_false t 255 e) refl

misses_less : (run : ℕ) (part : List ℕ) → IsPending (record { run = run; part = part }) → 0 < missing run part
    → suc (missing (next (record { run = run; part = part }) 0).run (next (record { run = run; part = part }) 0).part) ≡ missing run part
misses_less zero [] h k = absurd (omega (arith, k))
misses_less zero (t ∷ p) h k = go (cases_eq (suc (length (p ++ 0 ∷ []))) (header_of t))
  where
    go : (suc (length (p ++ 0 ∷ [])) ≡ header_of t) ⊎ (suc (length (p ++ 0 ∷ [])) ≡ header_of t → ⊥) → suc (missing (next (record { run = zero; part = t ∷ p }) 0).run (next (record { run = zero; part = t ∷ p }) 0).part) ≡ missing zero (t ∷ p)
    go (inl e) =
        let stop : next (record { run = zero; part = t ∷ p }) 0 ≡ nothing = step_last t 0 p e ∙ ap (λ (n : ℕ). let q : Pending = record { run = n; part = [] } in q) (last_zero t p e) in
        ap (λ (q : Pending). suc (missing q.run q.part)) stop ∙ omega (arith, e, length-append p (0 ∷ []))
    go (inr e) =
        let less : suc (length (p ++ 0 ∷ [])) < header_of t = omega (arith, e, h.short, length-append p (0 ∷ [])) in
        ap (λ (q : Pending). suc (missing q.run q.part)) (step_more t 0 p less) ∙ omega (arith, less, length-append p (0 ∷ []))
misses_less (suc n) part h k = go (cases_eq (length (part ++ 0 ∷ [])) 8)
  where
    go : (length (part ++ 0 ∷ []) ≡ 8) ⊎ (length (part ++ 0 ∷ []) ≡ 8 → ⊥) → suc (missing (next (record { run = suc n; part = part }) 0).run (next (record { run = suc n; part = part }) 0).part) ≡ missing (suc n) part
    go (inl e) = ap (λ (q : Pending). suc (missing q.run q.part)) (raw_last n 0 part e) ∙ omega (arith, missing_run n, e, length-append part (0 ∷ []))
    go (inr e) =
        let less : length (part ++ 0 ∷ []) < 8 = omega (arith, e, h.short, length-append part (0 ∷ [])) in
        ap (λ (q : Pending). suc (missing q.run q.part)) (raw_more n 0 part less) ∙ omega (arith, less, length-append part (0 ∷ []))

none_missing : (run : ℕ) (part : List ℕ) → IsPending (record { run = run; part = part }) → missing run part ≡ 0 → ◌≡◌ {A = Pending} (record { run = run; part = part }) nothing
none_missing zero [] h e = refl
none_missing zero (t ∷ p) h e = absurd (omega (arith, e, h.short))
none_missing (suc n) part h e = absurd (omega (arith, e, h.short))

zeros_finish : (k run : ℕ) (part : List ℕ) → IsPending (record { run = run; part = part }) → missing run part ≡ k → after (record { run = run; part = part }) (replicate k 0) ≡ nothing
zeros_finish zero run part h e = none_missing run part h e
zeros_finish (suc k) run part h e =
    let p = next (record { run = run; part = part }) 0 in
    zeros_finish k p.run p.part (pending_step run part 0 h (omega arith)) (omega (arith, e, misses_less run part h (omega (arith, e))))

zeros_are : (k : ℕ) → AreBytes (replicate k 0)
zeros_are zero = tt
zeros_are (suc k) = (omega arith, zeros_are k)

-- what has come can be finished
pub finishes : (p : Pending) → IsPending p → (z : List ℕ) × AreBytes z × (after p z ≡ nothing)
finishes p h = (replicate (missing p.run p.part) 0, zeros_are (missing p.run p.part), zeros_finish (missing p.run p.part) p.run p.part h refl)

-- The bytes go on to packed words, of which these are all bytes.
pub record GoesOn (b text : List ℕ) : Type 0 where
  pub more : List ℕ
  pub are_bytes : AreBytes more
  pub ws : List ℕ
  pub packed : Packed ws (b ++ more)
  pub is : bytes_of ws ≡ text

-- bytes that finish what has come, and all words that they make
finished : (b z : List ℕ) → AreBytes b → AreBytes z → after (after nothing b) z ≡ nothing → GoesOn b (bytes_of (given nothing b) ++ bytes_of (given (after nothing b) z))
finished b z h k e = record {
  more = z;
  are_bytes = k;
  ws = given nothing (b ++ z);
  packed = brings_packed (b ++ z) (are-append b z h k) (after-append nothing b z ∙ e);
  is = ap (λ (ws : List ℕ). bytes_of ws) (given-append nothing b z) ∙ flat_map-append (to_le_bytes w64) (given nothing b) (given (after nothing b) z);
}

-- in a word any byte may come next
pub goes_on : (b : List ℕ) (x : ℕ) → AreBytes b → x < 256 → IsInWord (after nothing b).run (after nothing b).part → (others : List ℕ) × GoesOn b (all_laid b ++ x ∷ others)
goes_on b x h k w =
    let p = after nothing b in
    let pending = pending_after b zero [] pending_nothing h in
    let q = next p x in
    let then = pending_step p.run p.part x pending k in
    let z = finishes q then in
    let one = word_step p.run p.part x pending k w in
    let rest = laid_prefix z.0 q.run q.part then z.1 in
    let tail : bytes_of (given q z.0) ≡ laid q ++ rest.0 = sym (append-nil (bytes_of (given q z.0))) ∙ ap (λ (s : Pending). bytes_of (given q z.0) ++ laid s) (sym z.2) ∙ rest.1 in
    let text : bytes_of (given p (x ∷ z.0)) ≡ laid p ++ x ∷ (one.0 ++ rest.0) =
    flat_map-append (to_le_bytes w64) (brought p x) (given q z.0) ∙ ap (λ (c : List ℕ). bytes_of (brought p x) ++ c) tail ∙ sym (append_assoc (bytes_of (brought p x)) (laid q) rest.0)
    ∙ ap (λ (c : List ℕ). c ++ rest.0) one.1 ∙ append_assoc (laid p) (x ∷ one.0) rest.0 in
    let all = finished b (x ∷ z.0) h (k, z.1) z.2 in
    (one.0 ++ rest.0, subst (λ (c : List ℕ). GoesOn b c) (ap (λ (c : List ℕ). bytes_of (given nothing b) ++ c) text ∙ sym (append_assoc (bytes_of (given nothing b)) (laid p) (x ∷ (one.0 ++ rest.0)))) all)

-- where no word is begun, the words may end with what is laid
ends_here : (run : ℕ) (part : List ℕ) → IsPending (record { run = run; part = part }) → (IsInWord run part → ⊥)
    → (z : List ℕ) × AreBytes z × (after (record { run = run; part = part }) z ≡ nothing) × (bytes_of (given (record { run = run; part = part }) z) ≡ laid_in run part)
ends_here zero [] h w = ([], tt, refl, refl)
ends_here zero (t ∷ p) h w = go (cases_lt (length p) (ones t))
  where
    go : (length p < ones t) ⊎ (ones t ≤ length p) → (z : List ℕ) × AreBytes z × (after (record { run = zero; part = t ∷ p }) z ≡ nothing) × (bytes_of (given (record { run = zero; part = t ∷ p }) z) ≡ laid_in zero (t ∷ p))
    go (inl l) = absurd (w l)
    go (inr l) =
        let m = step_of_count t 0 p h.are_bytes.0 h.are_bytes.1 h.short l in
        let stop : next (record { run = zero; part = t ∷ p }) 0 ≡ nothing = step_last t 0 p m.0 ∙ ap (λ (n : ℕ). let q : Pending = record { run = n; part = [] } in q) (last_zero t p m.0) in
        let first = brings_first t 0 p m.0 in
        (0 ∷ [], (omega arith, tt), stop, ap (λ (ws : List ℕ). bytes_of ws) (append-nil (brought (record { run = zero; part = t ∷ p }) 0) ∙ first) ∙ same m.2)
      where
        same : (bytes_of (first_words t (p ++ 0 ∷ [])) ≡ laid_by 8 t p ++ bytes_of (replicate 0 0)) ⊎ (bytes_of (first_words t (p ++ 0 ∷ [])) ≡ laid_by 8 t p) → bytes_of (first_words t (p ++ 0 ∷ [])) ≡ laid_by 8 t p
        same (inl e) = e ∙ append-nil (laid_by 8 t p)
        same (inr e) = e
ends_here (suc n) part h w = absurd (w tt)

pub goes_no_further : (b : List ℕ) → AreBytes b → (IsInWord (after nothing b).run (after nothing b).part → ⊥) → GoesOn b (all_laid b)
goes_no_further b h w =
    let p = after nothing b in
    let z = ends_here p.run p.part (pending_after b zero [] pending_nothing h) w in
    subst (λ (c : List ℕ). GoesOn b (bytes_of (given nothing b) ++ c)) z.3 (finished b z.0 h z.1 z.2)

-- a tag's bytes are all there, or not
pub in_word : (run : ℕ) (part : List ℕ) → IsInWord run part ⊎ (IsInWord run part → ⊥)
in_word zero [] = inr (λ h. h)
in_word zero (t ∷ p) = go (cases_lt (length p) (ones t))
  where
    go : (length p < ones t) ⊎ (ones t ≤ length p) → (length p < ones t) ⊎ (length p < ones t → ⊥)
    go (inl l) = inl l
    go (inr l) = inr (λ h. omega (arith, l, h))
in_word (suc n) part = inl tt

-- bytes can go on
pub goes : (b : List ℕ) → AreBytes b → (text : List ℕ) × GoesOn b text
goes b h = go (in_word (after nothing b).run (after nothing b).part)
  where
    go : IsInWord (after nothing b).run (after nothing b).part ⊎ (IsInWord (after nothing b).run (after nothing b).part → ⊥) → (text : List ℕ) × GoesOn b text
    go (inl w) = let m = goes_on b 0 h (omega arith) w in (all_laid b ++ 0 ∷ m.0, m.1)
    go (inr w) = (all_laid b, goes_no_further b h w)

-- what bytes lay is certain
pub lays : (b : List ℕ) → AreBytes b → Lays b (all_laid b)
lays b h ws more k =
    let p = after nothing b in
    let all = packed_brings ws (b ++ more) k in
    let end : after p more ≡ nothing = sym (after-append nothing b more) ∙ all.open_then in
    let rest = laid_prefix more p.run p.part (pending_after b zero [] pending_nothing h) (are_back b more (packed_are ws (b ++ more) k)) in
    let tail : bytes_of (given p more) ≡ laid p ++ rest.0 = sym (append-nil (bytes_of (given p more))) ∙ ap (λ (s : Pending). bytes_of (given p more) ++ laid s) (sym end) ∙ rest.1 in
    let words : ws ≡ given nothing b ++ given p more = sym all.words ∙ given-append nothing b more in (
      rest.0,
      ap (λ (vs : List ℕ). bytes_of vs) words ∙ flat_map-append (to_le_bytes w64) (given nothing b) (given p more) ∙ ap (λ (c : List ℕ). bytes_of (given nothing b) ++ c) tail
          ∙ sym (append_assoc (bytes_of (given nothing b)) (laid p) rest.0),
    )

-- two texts that go on differently have no longer beginning
no_longer : (longer l a b x y : List ℕ) (m n : ℕ) → longer ++ x ≡ l ++ m ∷ a → longer ++ y ≡ l ++ n ∷ b → (m ≡ n → ⊥) → length longer ≤ length l
no_longer longer l a b x y m n h k d = go (cases_lt (length l) (length longer))
  where
    go : (length l < length longer) ⊎ (length longer ≤ length l) → length longer ≤ length l
    go (inr e) = e
    go (inl e) =
        let one = sym (get_or_append_left longer x 0 (length l) e) ∙ ap (λ (c : List ℕ). get_or c (length l) 0) h ∙ get_or_at l m a 0 (length l) refl in
        let two = sym (get_or_append_left longer y 0 (length l) e) ∙ ap (λ (c : List ℕ). get_or c (length l) 0) k ∙ get_or_at l n b 0 (length l) refl in
        absurd (d (sym one ∙ two))

-- and nothing else is
pub longest : (b longer : List ℕ) → AreBytes b → Lays b longer → length longer ≤ length (all_laid b)
longest b longer h k = go (in_word (after nothing b).run (after nothing b).part)
  where
    go : IsInWord (after nothing b).run (after nothing b).part ⊎ (IsInWord (after nothing b).run (after nothing b).part → ⊥) → length longer ≤ length (all_laid b)
    go (inl w) =
        let zero_on = goes_on b 0 h (omega arith) w in
        let one_on = goes_on b 1 h (omega arith) w in
        let a = k zero_on.1.ws zero_on.1.more zero_on.1.packed in
        let c = k one_on.1.ws one_on.1.more one_on.1.packed in
        no_longer longer (all_laid b) zero_on.0 one_on.0 a.0 c.0 0 1 (sym a.1 ∙ zero_on.1.is) (sym c.1 ∙ one_on.1.is) (λ e. omega (arith, e))
    go (inr w) =
        let m = goes_no_further b h w in
        let a = k m.ws m.more m.packed in
        omega (arith, ap (λ (c : List ℕ). length c) (sym m.is ∙ a.1), length-append longer a.0)

pub laid_is : (b : List ℕ) → AreBytes b → Laid modes.Packed b (all_laid b)
laid_is b h = (lays b h, λ longer k. longest b longer h k)

-- bytes lay one text
pub laid_one : (b l : List ℕ) → AreBytes b → Laid modes.Packed b l → l ≡ all_laid b
laid_one b l h k =
    let m = goes b h in
    let one = k.0 m.1.ws m.1.more m.1.packed in
    let two = lays b h m.1.ws m.1.more m.1.packed in
    let long : length l ≡ length (all_laid b) = omega (arith, longest b l h k.0, k.1 (all_laid b) (lays b h)) in
    (same_parts l (all_laid b) one.0 two.0 long (sym one.1 ∙ two.1)).0
