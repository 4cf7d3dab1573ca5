-- The words and the open group that are kept of a packed rest, and what they say of it.
use Rattle.std.proofs.Common.{◌≡◌, ◌⊎◌, inl, inr, ℕ, zero, suc, ◌+◌, ◌^◌, ◌<◌, ◌≤◌, List, [], ◌∷◌, ◌++◌, length, sym, ◌∙◌, ap, subst, append_assoc, length-append, arith}
use Rattle.std.specs.List.{AllByRecursion, flat_map}
use Rattle.std.specs.Int.{to_le_bytes, w64}
use Rattle.std.specs.Global.{Vec}
use Rattle.std.proofs.lemmas.List.{append-nil, append_cancel_left, nil_from_length}
use Rattle.std.proofs.lemmas.Bool.{cases_eq}
use Rattle.std.proofs.lemmas.Grind.{flat_map-append}
use Rattle.cp_words.specs.Limits.{Bounds}
use Rattle.cp_frame.specs.declared.fault.FrameFault.{FrameFault}
use Rattle.cp_frame.specs.declared.fault.FrameFault.TheVariants as faults
use Rattle.cp_frame.specs.declared.mode.Mode.TheVariants as modes
use Rattle.cp_frame.specs.declared.frame.OpenFrame.{OpenFrame}
use Rattle.cp_frame.specs.declared.rest.Rest.{Rest}
use Rattle.cp_packed.specs.Words.{AreBytes, AreWords, bytes_of}
use Rattle.cp_frame.specs.Frame.{Frame}
use Rattle.cp_packed.specs.Packed.{Packed}
use Rattle.cp_frame.specs.Parts.{body, rest_of, kept_words, IsOpen, NamesLittle}
use Rattle.cp_words.specs.Segments.{words_of}
use Rattle.cp_frame.specs.Stream.{NoFront, NamesFault, RunsPast, HasFault, Open, numbers}
use Rattle.cp_frame.specs.Rest.{words_in_order, heads, bytes_for, InPacked}
use Rattle.cp_packed.specs.Unpacking.{Pending, nothing, after, given, laid, laid_in, laid_by, all_laid, IsPending, pending_of}
use Rattle.cp_frame.proofs.Numbers.{length_bytes_of}
use Rattle.cp_packed.proofs.Bytes.{all-append}
use Rattle.cp_frame.proofs.Framing.{length_framed, one_framed}
use Rattle.cp_frame.proofs.Opened.{length_rest, little_no_fault}
use Rattle.cp_packed.proofs.Opens.{Brings, after-append, given-append}
use Rattle.cp_packed.proofs.Unpacks.{packed_brings}
use Rattle.cp_packed.proofs.Laying.{IsInWord, laid_more, laid_few, laid_at_most, follows, pending_nothing, pending_after}
use Rattle.cp_frame.proofs.Certain.{are-append, are_back, le_are, packed_are, in_word, goes_no_further, laid_is, laid_one}
use Rattle.cp_frame.proofs.Rests.{bytes_joined, packed_fault, IsPackedFault, two_fronts}
use Rattle.cp_frame.proofs.Alike.{brings_text}

-- the words kept are the bytes that have come
pub bytes_words : (f : OpenFrame) → f.part.items ≡ [] → bytes_of (words_in_order f) ≡ rest_of f
bytes_words f h =
    let T = f.table.items in
    let S = words_of f.segments.items in
    let ws = f.words.items in
    let flat = flat_map (λ (seg : List ℕ). seg) S in
    flat_map-append (to_le_bytes w64) T (flat ++ ws) ∙ ap (λ (c : List ℕ). bytes_of T ++ c) (flat_map-append (to_le_bytes w64) flat ws ∙ ap (λ (c : List ℕ). c ++ bytes_of ws) (bytes_joined S))
    ∙ sym (append-nil (bytes_of T ++ body S ws)) ∙ ap (λ (c : List ℕ). (bytes_of T ++ body S ws) ++ c) (sym h)

pub kept_is : (f : OpenFrame) → f.part.items ≡ [] → kept_words f ≡ length (words_in_order f)
kept_is f h =
    omega (arith, length_rest f, ap (λ (b : List ℕ). length b) h, ap (λ (b : List ℕ). length b) (bytes_words f h), length_bytes_of (words_in_order f))

flat_are : (S : List (List ℕ)) → AllByRecursion AreWords S → AreWords (flat_map (λ seg. seg) S)
flat_are [] h = tt
flat_are (s ∷ S) h = all-append (λ w. w < 2 ^ 64) s (flat_map (λ seg. seg) S) h.0 (flat_are S h.1)

words_are_by : (f : OpenFrame) → AreWords f.table.items → AllByRecursion AreWords (words_of f.segments.items) → AreWords f.words.items → AreWords (words_in_order f)
words_are_by f h k m =
    let flat = flat_map (λ (seg : List ℕ). seg) (words_of f.segments.items) in
    all-append (λ w. w < 2 ^ 64) f.table.items (flat ++ f.words.items) h (all-append (λ w. w < 2 ^ 64) flat f.words.items (flat_are (words_of f.segments.items) k) m)

pub words_are : (limits : Bounds) (f : OpenFrame) → IsOpen limits f → AreWords (words_in_order f)
words_are limits f (inl h) =
    words_are_by f h.table.are_words (subst (λ (vs : List (Vec ℕ)). AllByRecursion AreWords (words_of vs)) (sym h.no_segments) tt) (subst (λ (ws : List ℕ). AreWords ws) (sym h.no_words) tt)
words_are limits f (inr h) = words_are_by f h.table.are_words h.fills.each h.fills.are_words

heads_are : (ws : List ℕ) (run : ℕ) → run < 256 → AreBytes (heads ws run)
heads_are [] run h = tt
heads_are (w ∷ []) run h = (omega arith, are-append (to_le_bytes w64 w) (run ∷ []) (le_are w) (h, tt))
heads_are (w ∷ v ∷ ws) run h =
    are-append (255 ∷ (to_le_bytes w64 w ++ 0 ∷ [])) (heads (v ∷ ws) run) (omega arith, are-append (to_le_bytes w64 w) (0 ∷ []) (le_are w) (omega arith, tt)) (heads_are (v ∷ ws) run h)

pub text_are : (limits : Bounds) (r : Rest) → InPacked limits r → AreBytes (bytes_for modes.Packed r)
text_are limits r h = are-append (heads (words_in_order r.frame) r.group.run) r.group.part.items (heads_are (words_in_order r.frame) r.group.run h.pending.few) h.pending.are_bytes

pub brings_kept : (limits : Bounds) (r : Rest) → InPacked limits r → Brings nothing (bytes_for modes.Packed r) (words_in_order r.frame) (pending_of r.group)
brings_kept limits r h =
    let ws = words_in_order r.frame in
    let all = brings_text ws r.group.run r.group.part.items (words_are limits r.frame h.frame) (λ k. omega (arith, h.first k, kept_is r.frame h.no_part)) h.pending in
    record { words = all.words ∙ append-nil ws; open_then = all.open_then }

-- the words of a packed front are the first of all
front_words : (b ws front back : List ℕ) → b ≡ front ++ back → Packed ws front → (more : List ℕ) × (bytes_of (given nothing b) ≡ bytes_of ws ++ more)
front_words b ws front back e p =
    let all = packed_brings ws front p in
    let rest = given (after nothing front) back in (
      bytes_of rest,
      ap (λ (c : List ℕ). bytes_of (given nothing c)) e ∙ ap (λ (us : List ℕ). bytes_of us) (given-append nothing front back ∙ ap (λ (us : List ℕ). us ++ rest) all.words)
          ∙ flat_map-append (to_le_bytes w64) ws rest,
    )

-- inside a word less than a word is laid
laid_less : (run : ℕ) (part : List ℕ) → IsPending (record { run = run; part = part }) → IsInWord run part → length (laid_in run part) < 8
laid_less zero [] h w = absurd w
laid_less zero (t ∷ p) h w =
    let more = laid_more 8 t p 0 [] (omega (arith, h.are_bytes.0)) w in
    omega (arith, laid_few 8 t (p ++ 0 ∷ []), ap (λ (b : List ℕ). length b) more.1, length-append (laid_by 8 t p) (0 ∷ more.0))
laid_less (suc n) part h w = h.short

-- the words of a rest, and what is laid after them
pub laid_words : (b ws : List ℕ) (p : Pending) → Brings nothing b ws p → all_laid b ≡ bytes_of ws ++ laid p
laid_words b ws p h = ap (λ (us : List ℕ). bytes_of us ++ laid (after nothing b)) h.words ∙ ap (λ (s : Pending). bytes_of ws ++ laid s) h.open_then

-- where no frame is among the words, no run goes past one
none_past : (limits : Bounds) (b ws : List ℕ) (p : Pending) → AreBytes b → Brings nothing b ws p → IsPending p → NoFront modes.Plain limits (bytes_of ws) → RunsPast modes.Packed limits b → ⊥
none_past limits b ws p are brings pend none r = by (two_fronts (bytes_of ws) (laid p) r.2 r.3 whole)
  where
    whole : bytes_of ws ++ laid p ≡ r.2 ++ r.3
    whole = sym (laid_words b ws p brings) ∙ sym (laid_one b r.1 are r.5) ∙ r.6

    last : (z : List ℕ) → length z ≡ 8 → r.2 ≡ bytes_of ws ++ z → length (laid p) ≡ 8 → IsInWord (after nothing b).run (after nothing b).part ⊎ (IsInWord (after nothing b).run (after nothing b).part → ⊥) → ⊥
    last z k e l (inl w) =
        let less = laid_less p.run p.part pend (subst (λ (s : Pending). IsInWord s.run s.part) brings.open_then w) in
        omega (arith, less, l)
    last z k e l (inr w) =
        let g = goes_no_further b are w in
        omega (
          arith,
          r.8 g.ws g.more g.packed,
          ap (λ (c : List ℕ). length c) g.is,
          ap (λ (c : List ℕ). length c) (laid_words b ws p brings),
          length-append (bytes_of ws) (laid p),
          ap (λ (c : List ℕ). length c) e,
          length-append (bytes_of ws) z,
          k,
          l,
        )

    following : (z : List ℕ) → r.2 ≡ bytes_of ws ++ z → laid p ≡ z ++ r.3 → (length z ≡ 0) ⊎ (length z ≡ 0 → ⊥) → ⊥
    following z e t (inl k) = none r.0 r.2 [] (sym (append-nil (bytes_of ws)) ∙ ap (λ (c : List ℕ). bytes_of ws ++ c) (sym (nil_from_length z k)) ∙ sym e ∙ sym (append-nil r.2)) r.7
    following z e t (inr k) =
        let most = laid_at_most p.run p.part pend in
        let sum : length (laid p) ≡ length z + length r.3 = omega (arith, ap (λ (c : List ℕ). length c) t, length-append z r.3) in
        let long : length z ≡ 8 = omega (arith, ap (λ (c : List ℕ). length c) e, length-append (bytes_of ws) z, length_bytes_of ws, length_framed r.0 r.2 r.7.form, k, most, sum) in
        last z long e (let l : length (laid p) ≡ 8 = omega (arith, long, most, sum) in l) (in_word (after nothing b).run (after nothing b).part)

    by : ((z : List ℕ) × (bytes_of ws ≡ r.2 ++ z)) ⊎ ((z : List ℕ) × (r.2 ≡ bytes_of ws ++ z)) → ⊥
    by (inl z) = none r.0 r.2 z.0 z.1 r.7
    by (inr z) =
        let tail : laid p ≡ z.0 ++ r.3 = append_cancel_left (bytes_of ws) (laid p) (z.0 ++ r.3) (whole ∙ ap (λ (c : List ℕ). c ++ r.3) z.1 ∙ append_assoc (bytes_of ws) z.0 r.3) in
        following z.0 z.1 tail (cases_eq (length z.0) 0)

-- a rest is open where no frame is among its words, and its table has no fault with what is laid
pub open_packed : (limits : Bounds) (b ws : List ℕ) (p : Pending) → AreBytes b → Brings nothing b ws p → IsPending p → NoFront modes.Plain limits (bytes_of ws)
    → NamesLittle limits (numbers (bytes_of ws ++ laid p)) → Open modes.Packed limits b
open_packed limits b ws p are brings pend none little = record {
  no_front = λ S front back e k.
      let w = front_words b k.form.0 front back e k.form.2 in
      none S (bytes_of k.form.0) w.0 (ap (λ (us : List ℕ). bytes_of us) (sym brings.words) ∙ w.1) (record { within = k.within; form = k.form.1 });
  no_fault = λ fault k. go fault (packed_fault limits b fault k);
}
  where
    go : (fault : FrameFault) → IsPackedFault limits b fault → ⊥
    go fault (inl k) = none_past limits b ws p are brings pend none k.1
    go fault (inr k) = little_no_fault limits (numbers (bytes_of ws ++ laid p)) fault little (subst (λ (c : List ℕ). NamesFault limits (numbers c) fault) (laid_words b ws p brings) k.1)

-- no front is a frame where one ends inside the words of the last byte, or a run goes on
no_front_next : (limits : Bounds) (t : List ℕ) (x : ℕ) (S : List (List ℕ)) (front back : List ℕ) → NoFront modes.Packed limits t → bytes_of (given nothing (t ++ x ∷ [])) ≡ front ++ back
    → Frame modes.Plain limits S front → 0 < length back + (after nothing (t ++ x ∷ [])).run → NoFront modes.Packed limits (t ++ x ∷ [])
no_front_next limits t x S front back none e k more T f y s m = by (two_fronts t (x ∷ []) f y s)
  where
    whole : f ≡ t ++ x ∷ [] → ⊥
    whole q =
        let all = packed_brings m.form.0 (t ++ x ∷ []) (subst (λ (c : List ℕ). Packed m.form.0 c) q m.form.2) in
        let one = one_framed S T front (bytes_of m.form.0) back [] k.form m.form.1 (sym e ∙ ap (λ (us : List ℕ). bytes_of us) all.words ∙ sym (append-nil (bytes_of m.form.0))) in
        omega (arith, more, ap (λ (c : List ℕ). length c) one.2, ap (λ (p : Pending). p.run) all.open_then)

    following : (z : List ℕ) → f ≡ t ++ z → x ∷ [] ≡ z ++ y → ⊥
    following [] q w = none T f [] (sym (append-nil t) ∙ sym q ∙ sym (append-nil f)) m
    following (v ∷ []) q w = let same : x ≡ v = cc (w) in whole (q ∙ ap (λ (n : ℕ). t ++ n ∷ []) (sym same))
    following (v ∷ u ∷ z) q w = omega (arith, ap (λ (c : List ℕ). length c) w)

    by : ((z : List ℕ) × (t ≡ f ++ z)) ⊎ ((z : List ℕ) × (f ≡ t ++ z)) → ⊥
    by (inl z) = none T f z.0 z.1 m
    by (inr z) = following z.0 z.1 (append_cancel_left t (x ∷ []) (z.0 ++ y) (s ∙ ap (λ (c : List ℕ). c ++ y) z.1 ∙ append_assoc t z.0 y))

-- a raw run brings as many words as it counts
run_brings : (p : Pending) (more : List ℕ) → IsPending p → AreBytes more → after p more ≡ nothing → p.run ≤ length (given p more)
run_brings p more h k e =
    let all = follows more p.run p.part h k e in
    omega (arith, all.long, ap (λ (ws : List ℕ). length ws) all.gives, length-append all.vs all.others)

-- and then a run goes past the frame
pub past_next : (limits : Bounds) (t : List ℕ) (x : ℕ) (S : List (List ℕ)) (front back : List ℕ) → AreBytes (t ++ x ∷ []) → NoFront modes.Packed limits t
    → bytes_of (given nothing (t ++ x ∷ [])) ≡ front ++ back → Frame modes.Plain limits S front → 0 < length back + (after nothing (t ++ x ∷ [])).run
    → HasFault modes.Packed limits (t ++ x ∷ []) faults.RunPastFrame
past_next limits t x S front back are none e k more = (
  S,
  all_laid (t ++ x ∷ []),
  front,
  back ++ laid (after nothing (t ++ x ∷ [])),
  no_front_next limits t x S front back none e k more,
  laid_is (t ++ x ∷ []) are,
  ap (λ (c : List ℕ). c ++ laid (after nothing (t ++ x ∷ []))) e ∙ append_assoc front back (laid (after nothing (t ++ x ∷ []))),
  k,
  λ ws rest p. longer ws rest (packed_brings ws ((t ++ x ∷ []) ++ rest) p) (are_back (t ++ x ∷ []) rest (packed_are ws ((t ++ x ∷ []) ++ rest) p)),
)
  where
    longer : (ws rest : List ℕ) → Brings nothing ((t ++ x ∷ []) ++ rest) ws nothing → AreBytes rest → length front < length (bytes_of ws)
    longer ws rest h r =
        let b = t ++ x ∷ [] in
        let q = after nothing b in
        let words : ws ≡ given nothing b ++ given q rest = sym h.words ∙ given-append nothing b rest in
        let pend = pending_after b zero [] pending_nothing are in
        let run = run_brings q rest pend r (sym (after-append nothing b rest) ∙ h.open_then) in
        omega (
          arith,
          more,
          run,
          ap (λ (us : List ℕ). length us) words,
          length-append (given nothing b) (given q rest),
          ap (λ (c : List ℕ). length c) e,
          length-append front back,
          length_bytes_of (given nothing b),
          length_bytes_of ws,
        )
