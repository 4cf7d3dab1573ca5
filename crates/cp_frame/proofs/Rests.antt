-- What holds of packed rests of a stream.
use Rattle.std.proofs.Common.{◌≡◌, ◌⊎◌, inl, inr, ℕ, zero, ◌-◌, ◌<◌, ◌≤◌, List, [], ◌∷◌, ◌++◌, length, refl, sym, ◌∙◌, ap, subst, append_assoc, length-append, arith}
use Rattle.std.specs.List.{AllZip, flat_map}
use Rattle.std.specs.Int.{to_le_bytes, w64}
use Rattle.std.proofs.lemmas.List.{append-nil}
use Rattle.std.proofs.lemmas.Bool.{cases_lt}
use Rattle.std.proofs.lemmas.Grind.{flat_map-append}
use Rattle.cp_words.specs.Limits.{Bounds}
use Rattle.cp_frame.specs.declared.fault.FrameFault.{FrameFault}
use Rattle.cp_frame.specs.declared.fault.FrameFault.TheVariants as faults
use Rattle.cp_frame.specs.declared.mode.Mode.TheVariants as modes
use Rattle.cp_frame.specs.Framed.{sizes_of, Framed}
use Rattle.cp_packed.specs.Words.{AreBytes, bytes_of}
use Rattle.cp_frame.specs.Frame.{padded_table, Frame}
use Rattle.cp_packed.specs.Packed.{Packed, Spelt, spelling, words_of, IsGroup}
use Rattle.cp_frame.specs.Stream.{Lays, Laid, NamesFault, NamesTooMany, NamesTooMuch, HasFault, NoFront, RunsPast, numbers, HasOneFault, FaultStays}
use Rattle.cp_frame.specs.Runs.{IsReadBack}
use Rattle.cp_packed.specs.Unpacking.{Pending, nothing, after, given, laid, all_laid}
use Rattle.cp_frame.proofs.Numbers.{numbers_more}
use Rattle.cp_frame.proofs.Framing.{numbers_framed, one_framed}
use Rattle.cp_frame.proofs.Streams.{names_more}
use Rattle.cp_frame.proofs.Whole.{kinds, not_both, too_many_front, too_much_front, read_back_plain}
use Rattle.cp_packed.proofs.Bytes.{all-append}
use Rattle.cp_packed.proofs.Opens.{after-append, given-append}
use Rattle.cp_packed.proofs.Laying.{pending_nothing, pending_after}
use Rattle.cp_frame.proofs.Certain.{are-append, are_front, packed_are, laid_prefix, laid_is, laid_one}

-- packed bytes one after another
pub packed-append : (ws vs a b : List ℕ) → Packed ws a → Packed vs b → Packed (ws ++ vs) (a ++ b)
packed-append ws vs a b h k = record {
  groups = h.groups ++ k.groups;
  each = all-append IsGroup h.groups k.groups h.each k.each;
  spells = ap (λ (c : List ℕ). c ++ b) h.spells ∙ ap (λ (c : List ℕ). flat_map spelling h.groups ++ c) k.spells ∙ sym (flat_map-append spelling h.groups k.groups);
  gives = ap (λ (us : List ℕ). us ++ vs) h.gives ∙ ap (λ (us : List ℕ). flat_map words_of h.groups ++ us) k.gives ∙ sym (flat_map-append words_of h.groups k.groups);
}

pub spelt_packed : (ws b : List ℕ) → Spelt ws b → Packed ws b
spelt_packed ws b h = record { groups = h.groups; each = h.each; spells = h.spells; gives = h.gives }

pieces_packed : (S pieces : List (List ℕ)) → AllZip Spelt S pieces → Packed (flat_map (λ seg. seg) S) (flat_map (λ piece. piece) pieces)
pieces_packed [] [] h = record { groups = []; each = tt; spells = refl; gives = refl }
pieces_packed [] (p ∷ pieces) h = absurd h
pieces_packed (s ∷ S) [] h = absurd h
pieces_packed (s ∷ S) (p ∷ pieces) h = packed-append s (flat_map (λ seg. seg) S) p (flat_map (λ piece. piece) pieces) (spelt_packed s p h.0) (pieces_packed S pieces h.1)

pub bytes_joined : (S : List (List ℕ)) → bytes_of (flat_map (λ seg. seg) S) ≡ flat_map bytes_of S
bytes_joined [] = refl
bytes_joined (s ∷ S) = flat_map-append (to_le_bytes w64) s (flat_map (λ seg. seg) S) ∙ ap (λ (b : List ℕ). bytes_of s ++ b) (bytes_joined S)

-- what is written packed is a frame
pub read_back_packed : IsReadBack modes.Packed
read_back_packed limits S b allowed some words h =
    let head = h.form.0 in
    let flat = flat_map (λ seg. seg) S in
    let plain = read_back_plain limits S (padded_table S ++ flat_map bytes_of S) allowed some words (record { within = h.within; form = refl }) in
    let text : bytes_of (head ++ flat) ≡ padded_table S ++ flat_map bytes_of S =
    flat_map-append (to_le_bytes w64) head flat ∙ ap (λ (c : List ℕ). c ++ bytes_of flat) (sym h.form.3) ∙ ap (λ (c : List ℕ). padded_table S ++ c) (bytes_joined S) in
    let all = packed-append head flat h.form.1 (flat_map (λ piece. piece) h.form.2) (spelt_packed head h.form.1 h.form.4) (pieces_packed S h.form.2 h.form.5) in
    record {
      within = h.within;
      form = (head ++ flat, subst (λ (c : List ℕ). Framed S c) (sym text) plain.form, subst (λ (c : List ℕ). Packed (head ++ flat) c) (sym h.form.6) all);
    }

-- only bytes lay anything certain
are_or : (b : List ℕ) → AreBytes b ⊎ (AreBytes b → ⊥)
are_or [] = inl tt
are_or (x ∷ b) = go (cases_lt x 256) (are_or b)
  where
    go : (x < 256) ⊎ (256 ≤ x) → AreBytes b ⊎ (AreBytes b → ⊥) → AreBytes (x ∷ b) ⊎ (AreBytes (x ∷ b) → ⊥)
    go (inl l) (inl h) = inl (l, h)
    go (inl l) (inr h) = inr (λ k. h k.1)
    go (inr l) h = inr (λ k. omega (arith, l, k.0))

pub laid_are : (b l : List ℕ) → Laid modes.Packed b l → AreBytes b
laid_are b l h = go (are_or b)
  where
    go : AreBytes b ⊎ (AreBytes b → ⊥) → AreBytes b
    go (inl k) = k
    go (inr k) =
        let any : Lays b (l ++ 0 ∷ []) = λ ws more m. absurd (k (are_front b more (packed_are ws (b ++ more) m))) in
        absurd (omega (arith, h.1 (l ++ 0 ∷ []) any, length-append l (0 ∷ [])))

-- the faults of a packed rest: a run goes past the frame, or its table has one
abbrev pub IsPackedFault : Bounds → List ℕ → FrameFault → Type 0
IsPackedFault limits b fault = ((fault ≡ faults.RunPastFrame) × RunsPast modes.Packed limits b) ⊎ (AreBytes b × NamesFault limits (numbers (all_laid b)) fault)

named_fault : (limits : Bounds) (b : List ℕ) (fault : FrameFault) → (l : List ℕ) → Laid modes.Packed b l → NamesFault limits (numbers l) fault → IsPackedFault limits b fault
named_fault limits b fault l h k =
    let are = laid_are b l h in
    inr (are, subst (λ (c : List ℕ). NamesFault limits (numbers c) fault) (laid_one b l are h) k)

pub packed_fault : (limits : Bounds) (b : List ℕ) (fault : FrameFault) → HasFault modes.Packed limits b fault → IsPackedFault limits b fault
packed_fault limits b faults.TooManySegments h = named_fault limits b faults.TooManySegments h.0 h.1 h.2
packed_fault limits b faults.FrameTooLarge h = named_fault limits b faults.FrameTooLarge h.0 h.1 h.2
packed_fault limits b faults.Truncated h = absurd h.2
packed_fault limits b faults.RunPastFrame h = inl (refl, h)
packed_fault limits b faults.Failed h = absurd h.2
packed_fault limits b faults.OutOfMemory h = absurd h.2

pub fault_packed : (limits : Bounds) (b : List ℕ) (fault : FrameFault) → AreBytes b → NamesFault limits (numbers (all_laid b)) fault → HasFault modes.Packed limits b fault
fault_packed limits b faults.TooManySegments h k = (all_laid b, laid_is b h, k)
fault_packed limits b faults.FrameTooLarge h k = (all_laid b, laid_is b h, k)
fault_packed limits b faults.Truncated h k = absurd k
fault_packed limits b faults.RunPastFrame h k = absurd k
fault_packed limits b faults.Failed h k = absurd k
fault_packed limits b faults.OutOfMemory h k = absurd k

-- a table without a fault
pub frame_names_none : (limits : Bounds) (S : List (List ℕ)) (front back text : List ℕ) (fault : FrameFault) → Frame modes.Plain limits S front → text ≡ front ++ back → NamesFault limits (numbers text) fault → ⊥
frame_names_none limits S front back text fault h e k = go (kinds limits (numbers text) fault k)
  where
    named : numbers text ≡ (length S - 1) ∷ (sizes_of S ++ numbers (h.form.padding ++ (flat_map bytes_of S ++ back)))
    named = ap numbers e ∙ numbers_framed S front back h.form

    go : ((fault ≡ faults.TooManySegments) × NamesTooMany limits (numbers text)) ⊎ ((fault ≡ faults.FrameTooLarge) × NamesTooMuch limits (numbers text)) → ⊥
    go (inl p) = too_many_front limits S (numbers (h.form.padding ++ (flat_map bytes_of S ++ back))) h.form.some h.within.few (subst (λ (ns : List ℕ). NamesTooMany limits ns) named p.1)
    go (inr p) = too_much_front limits S (numbers (h.form.padding ++ (flat_map bytes_of S ++ back))) h.form.some h.within.small (subst (λ (ns : List ℕ). NamesTooMuch limits ns) named p.1)

past_names_none : (limits : Bounds) (b : List ℕ) (fault : FrameFault) → AreBytes b → RunsPast modes.Packed limits b → NamesFault limits (numbers (all_laid b)) fault → ⊥
past_names_none limits b fault h k n =
    frame_names_none limits k.0 k.2 k.3 (all_laid b) fault k.7 (sym (laid_one b k.1 h k.5) ∙ k.6) n

pub one_fault_packed : HasOneFault modes.Packed
one_fault_packed limits b fault other h k = go (packed_fault limits b fault h) (packed_fault limits b other k)
  where
    names_one : ((fault ≡ faults.TooManySegments) × NamesTooMany limits (numbers (all_laid b))) ⊎ ((fault ≡ faults.FrameTooLarge) × NamesTooMuch limits (numbers (all_laid b)))
        → ((other ≡ faults.TooManySegments) × NamesTooMany limits (numbers (all_laid b))) ⊎ ((other ≡ faults.FrameTooLarge) × NamesTooMuch limits (numbers (all_laid b))) → fault ≡ other
    names_one (inl p) (inl q) = p.0 ∙ sym q.0
    names_one (inl p) (inr q) = absurd (not_both limits (numbers (all_laid b)) p.1 q.1)
    names_one (inr p) (inl q) = absurd (not_both limits (numbers (all_laid b)) q.1 p.1)
    names_one (inr p) (inr q) = p.0 ∙ sym q.0

    go : IsPackedFault limits b fault → IsPackedFault limits b other → fault ≡ other
    go (inl p) (inl q) = p.0 ∙ sym q.0
    go (inl p) (inr q) = absurd (past_names_none limits b other q.0 p.1 q.1)
    go (inr p) (inl q) = absurd (past_names_none limits b fault p.0 q.1 p.1)
    go (inr p) (inr q) = names_one (kinds limits (numbers (all_laid b)) fault p.1) (kinds limits (numbers (all_laid b)) other q.1)

-- more bytes lay more
pub laid_longer : (b more : List ℕ) → AreBytes b → AreBytes more → (others : List ℕ) × (all_laid (b ++ more) ≡ all_laid b ++ others)
laid_longer b more h k =
    let p = after nothing b in
    let rest = laid_prefix more p.run p.part (pending_after b zero [] pending_nothing h) k in
    let words = given-append nothing b more in (
      rest.0,
      ap (λ (ws : List ℕ). bytes_of ws ++ laid (after nothing (b ++ more))) words
          ∙ ap (λ (c : List ℕ). c ++ laid (after nothing (b ++ more))) (flat_map-append (to_le_bytes w64) (given nothing b) (given p more))
          ∙ ap (λ (s : Pending). (bytes_of (given nothing b) ++ bytes_of (given p more)) ++ laid s) (after-append nothing b more)
          ∙ append_assoc (bytes_of (given nothing b)) (bytes_of (given p more)) (laid (after p more))
          ∙ ap (λ (c : List ℕ). bytes_of (given nothing b) ++ c) rest.1 ∙ sym (append_assoc (bytes_of (given nothing b)) (laid p) rest.0),
    )

-- of two fronts of one text, one begins with the other
pub two_fronts : (a x f y : List ℕ) → a ++ x ≡ f ++ y → ((z : List ℕ) × (a ≡ f ++ z)) ⊎ ((z : List ℕ) × (f ≡ a ++ z))
two_fronts a x [] y e = inl (a, refl)
two_fronts [] x (q ∷ f) y e = inr (q ∷ f, refl)
two_fronts (p ∷ a) x (q ∷ f) y e =
    let first : p ≡ q = cc (e) in
    let tails : a ++ x ≡ f ++ y = cc (e) in
    later first (two_fronts a x f y tails)
  where
    later : p ≡ q → ((z : List ℕ) × (a ≡ f ++ z)) ⊎ ((z : List ℕ) × (f ≡ a ++ z)) → ((z : List ℕ) × (p ∷ a ≡ (q ∷ f) ++ z)) ⊎ ((z : List ℕ) × (q ∷ f ≡ (p ∷ a) ++ z))
    later s (inl h) = inl (h.0, ap (λ (c : List ℕ). p ∷ c) h.1 ∙ ap (λ (n : ℕ). n ∷ (f ++ h.0)) s)
    later s (inr h) = inr (h.0, ap (λ (c : List ℕ). q ∷ c) h.1 ∙ ap (λ (n : ℕ). n ∷ (a ++ h.0)) (sym s))

-- a run past the frame stays one
past_stays : (limits : Bounds) (b more : List ℕ) → AreBytes b → AreBytes more → RunsPast modes.Packed limits b → RunsPast modes.Packed limits (b ++ more)
past_stays limits b more h k r =
    let longer = laid_longer b more h k in
    let text : all_laid (b ++ more) ≡ r.2 ++ (r.3 ++ longer.0) = longer.1 ∙ ap (λ (c : List ℕ). c ++ longer.0) (sym (laid_one b r.1 h r.5) ∙ r.6) ∙ append_assoc r.2 r.3 longer.0 in
    (r.0, all_laid (b ++ more), r.2, r.3 ++ longer.0, no_front, laid_is (b ++ more) (are-append b more h k), text, r.7, λ ws m p. r.8 ws (more ++ m) (subst (λ (c : List ℕ). Packed ws c) (append_assoc b more m) p))
  where
    past : (T : List (List ℕ)) (f z : List ℕ) → f ≡ b ++ z → Frame modes.Packed limits T f → ⊥
    past T f z e m =
        let p : Packed m.form.0 (b ++ z) = subst (λ (c : List ℕ). Packed m.form.0 c) e m.form.2 in
        let lays = r.5.0 m.form.0 z p in
        let text : r.2 ++ (r.3 ++ lays.0) ≡ bytes_of m.form.0 ++ [] =
        sym (append_assoc r.2 r.3 lays.0) ∙ ap (λ (c : List ℕ). c ++ lays.0) (sym r.6) ∙ sym lays.1 ∙ sym (append-nil (bytes_of m.form.0)) in
        let one = one_framed r.0 T r.2 (bytes_of m.form.0) (r.3 ++ lays.0) [] r.7.form m.form.1 text in
        omega (arith, r.8 m.form.0 z p, ap (λ (c : List ℕ). length c) one.1)

    no_front : NoFront modes.Packed limits (b ++ more)
    no_front T f y e m = go (two_fronts b more f y e)
      where
        go : ((z : List ℕ) × (b ≡ f ++ z)) ⊎ ((z : List ℕ) × (f ≡ b ++ z)) → ⊥
        go (inl s) = r.4 T f s.0 s.1 m
        go (inr s) = past T f s.0 s.1 m

pub fault_stays_packed : FaultStays modes.Packed
fault_stays_packed limits b more fault k h = go (packed_fault limits b fault h)
  where
    go : IsPackedFault limits b fault → HasFault modes.Packed limits (b ++ more) fault
    go (inl p) =
        let are = laid_are b p.1.1 p.1.5 in
        subst (λ (f : FrameFault). HasFault modes.Packed limits (b ++ more) f) (sym p.0) (past_stays limits b more are k p.1)
    go (inr p) =
        let longer = laid_longer b more p.0 k in
        let ns = numbers_more (all_laid b) longer.0 in
        fault_packed limits (b ++ more) fault (are-append b more p.0 k)
        (subst (λ (ms : List ℕ). NamesFault limits ms fault) (sym (ap numbers longer.1 ∙ ns.1)) (names_more limits (numbers (all_laid b)) ns.0 fault p.1))
