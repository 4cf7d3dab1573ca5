-- What a packed byte does to a rest.
use Rattle.std.proofs.Common.{◌≡◌, ◌⊎◌, inl, inr, Result, Ok, Err, OnOk, Bool, true, false, if◌then◌else◌, ◌==◌, ℕ, zero, suc, ◌+◌, ◌*◌, ◌/◌, ◌^◌, ◌<◌, ◌≤◌, List, [], ◌∷◌, ◌++◌, length, replicate, slice_index, refl, sym, ◌∙◌, ap, subst, arith}
use lib.Count.{ones}
use Rattle.std.specs.Int.{to_le_bytes, from_le_bytes, w64}
use Rattle.std.proofs.lemmas.List.{append-nil}
use Rattle.std.proofs.lemmas.Grind.{flat_map-append}
use Rattle.cp_words.specs.Limits.{Bounds}
use Rattle.cp_frame.specs.declared.fault.FrameFault.{FrameFault}
use Rattle.cp_frame.specs.declared.fault.FrameFault.TheVariants as faults
use Rattle.cp_frame.specs.declared.mode.Mode.TheVariants as modes
use Rattle.cp_frame.specs.declared.frame.OpenFrame.{OpenFrame}
use Rattle.cp_frame.specs.declared.rest.Rest.{Rest}
use Rattle.cp_packed.specs.Words.{AreBytes, AreWords, bytes_of}
use Rattle.cp_frame.specs.Parts.{rest_of, kept_words, IsOpen, IsBegun, IsComplete, IsFaultOf, NamesLittle}
use Rattle.cp_words.specs.Segments.{words_of}
use Rattle.cp_frame.specs.Stream.{NoFront, NamesFault, HasFault, Open, numbers}
use Rattle.cp_frame.specs.Reader.{GoesOnAs}
use Rattle.cp_frame.specs.Rest.{words_in_order, heads, bytes_for, InPacked, IsBlank, TakesByte, IsFaultOfWords, EndsInside, KeptFor}
use Rattle.cp_packed.specs.Unpacking.{Pending, nothing, next, brought, after, given, laid, all_laid, header_of, laid_by, run_of, first_words, settled, given_by, IsPending, pending_of}
use Rattle.cp_frame.proofs.Numbers.{numbers_more}
use Rattle.cp_frame.proofs.Streams.{names_more}
use Rattle.cp_frame.proofs.Opened.{length_rest}
use Rattle.cp_frame.proofs.Ends.{open_rest, complete_frame, empty_open, empty_rest}
use Rattle.cp_packed.proofs.Opens.{is_by, Brings, brings_both}
use Rattle.cp_packed.proofs.Unpacks.{lowest, ones_step, pending_step}
use Rattle.cp_packed.proofs.Laying.{half_small, pending_nothing}
use Rattle.cp_frame.proofs.Certain.{are-append}
use Rattle.cp_frame.proofs.Rests.{fault_packed}
use Rattle.cp_frame.proofs.Cuts.{no_front_of}
use Rattle.cp_frame.proofs.Alike.{alike_more, alike_fault, no_front_after}
use Rattle.cp_packed.proofs.Bytes.{words_repeat}
use Rattle.cp_frame.proofs.Texts.{bytes_words, text_are, brings_kept, laid_words, open_packed, past_next}

-- a group brings no more words than its bytes allow, and its count only with a word
few_ones : (n t : ℕ) → t < 2 ^ n → ones t ≤ n
few_ones zero t h = let none : t ≡ 0 = omega (arith, h) in omega (arith, ap (λ (m : ℕ). ones m) none, lowest 0 (omega arith))
few_ones (suc n) t h = omega (arith, ones_step t, few_ones n (t / 2) (half_small n t h))

pub short_header : (t : ℕ) → t < 256 → header_of t ≤ 10
short_header t h = go (t == 0) (t == 255)
  where
    go : (b c : Bool) → (if b then 2 else (if c then 10 else suc (ones t))) ≤ 10
    go true c = omega arith
    go false true = omega arith
    go false false = omega (arith, few_ones 8 t h)

some_first : (t : ℕ) (q : List ℕ) → 0 < length (first_words t q)
some_first t q = go (t == 0)
  where
    go : (b : Bool) → 0 < length (if b then replicate (suc (slice_index q 0)) 0 else from_le_bytes w64 (laid_by 8 t q) ∷ [])
    go true = omega arith
    go false = omega arith

-- once words come, nothing but a run is open
settles : (run : ℕ) (part : List ℕ) → (given_by run part ≡ []) ⊎ ((settled run part).part ≡ [])
settles zero [] = inl refl
settles zero (t ∷ q) = go (suc (length q) == header_of t)
  where
    go : (b : Bool) → ((if b then first_words t q else []) ≡ []) ⊎ ((if◌then◌else◌ {A = Pending} b (record { run = run_of t q; part = [] }) (record { run = 0; part = t ∷ q })).part ≡ [])
    go true = inr refl
    go false = inl refl
settles (suc n) part = go (length part == 8)
  where
    go : (b : Bool) → ((if b then from_le_bytes w64 part ∷ [] else []) ≡ []) ⊎ ((if◌then◌else◌ {A = Pending} b (record { run = n; part = [] }) (record { run = suc n; part = part })).part ≡ [])
    go true = inr refl
    go false = inl refl

pub run_words : (run : ℕ) (part : List ℕ) → 0 < (settled run part).run → 0 < run + length (given_by run part)
run_words zero [] h = h
run_words zero (t ∷ q) h = go (suc (length q) == header_of t) h
  where
    go : (b : Bool) → 0 < (if◌then◌else◌ {A = Pending} b (record { run = run_of t q; part = [] }) (record { run = 0; part = t ∷ q })).run → 0 < zero + length (if b then first_words t q else [])
    go true k = omega (arith, some_first t q)
    go false k = k
run_words (suc n) part h = omega arith

pub bytes_count : (run : ℕ) (part : List ℕ) → AreBytes part → length part ≤ 10 * length (given_by run part) + length (settled run part).part
bytes_count zero [] h = omega arith
bytes_count zero (t ∷ q) h = go (suc (length q) == header_of t) refl
  where
    go : (b : Bool) → (suc (length q) == header_of t) ≡ b
        → suc (length q) ≤ 10 * length (if b then first_words t q else []) + length (if◌then◌else◌ {A = Pending} b (record { run = run_of t q; part = [] }) (record { run = 0; part = t ∷ q })).part
    go true e = omega (arith, some_first t q, is_by (suc (length q)) (header_of t) e, short_header t h.0)
    go false e = omega arith
bytes_count (suc n) part h = go (length part == 8) refl
  where
    go : (b : Bool) → (length part == 8) ≡ b
        → length part ≤ 10 * length (if b then from_le_bytes w64 part ∷ [] else []) + length (if◌then◌else◌ {A = Pending} b (record { run = n; part = [] }) (record { run = suc n; part = part })).part
    go true e = omega (arith, is_by (length part) 8 e)
    go false e = omega arith

pub bytes_long : (f : OpenFrame) → f.part.items ≡ [] → length (rest_of f) ≡ 8 * kept_words f
bytes_long f e = omega (arith, length_rest f, ap (λ (b : List ℕ). length b) e)

pub first_kept : (run old new more : ℕ) → 0 < run + more → (0 < run → 0 < old) → new ≡ old + more → 0 < new
first_kept zero old new more h k e = omega (arith, h, e)
first_kept (suc n) old new more h k e = omega (arith, k (omega arith), e)

-- what has come is an open rest
pub no_front_kept : (limits : Bounds) (f : OpenFrame) → IsOpen limits f → f.part.items ≡ [] → NoFront modes.Plain limits (bytes_of (words_in_order f))
no_front_kept limits f h e = subst (λ (b : List ℕ). NoFront modes.Plain limits b) (sym (bytes_words f e)) (open_rest limits f h).no_front

pub open_text : (limits : Bounds) (r : Rest) → InPacked limits r → Open modes.Packed limits (bytes_for modes.Packed r)
open_text limits r h =
    open_packed limits (bytes_for modes.Packed r) (words_in_order r.frame) (pending_of r.group) (text_are limits r h) (brings_kept limits r h) h.pending (no_front_kept limits r.frame h.frame h.no_part)
    (subst (λ (b : List ℕ). NamesLittle limits (numbers (b ++ laid (pending_of r.group)))) (sym (bytes_words r.frame h.no_part)) h.little)

-- one byte more
next_brings : (limits : Bounds) (r : Rest) (x : ℕ) → InPacked limits r
    → Brings nothing (bytes_for modes.Packed r ++ x ∷ []) (words_in_order r.frame ++ brought (pending_of r.group) x) (next (pending_of r.group) x)
next_brings limits r x h =
    let p = pending_of r.group in
    brings_both nothing p (next p x) (bytes_for modes.Packed r) (x ∷ []) (words_in_order r.frame) (brought p x) (brings_kept limits r h) (record { words = append-nil (brought p x); open_then = refl })

next_are : (limits : Bounds) (r : Rest) (x : ℕ) → InPacked limits r → x < 256 → AreBytes (bytes_for modes.Packed r ++ x ∷ [])
next_are limits r x h k = are-append (bytes_for modes.Packed r) (x ∷ []) (text_are limits r h) (k, tt)

next_bytes : (limits : Bounds) (r : Rest) (x : ℕ) → InPacked limits r
    → bytes_of (given nothing (bytes_for modes.Packed r ++ x ∷ [])) ≡ rest_of r.frame ++ bytes_of (brought (pending_of r.group) x)
next_bytes limits r x h =
    let more = brought (pending_of r.group) x in
    ap (λ (ws : List ℕ). bytes_of ws) (next_brings limits r x h).words ∙ flat_map-append (to_le_bytes w64) (words_in_order r.frame) more
    ∙ ap (λ (b : List ℕ). b ++ bytes_of more) (bytes_words r.frame h.no_part)

pub memory_or : (limits : Bounds) (ns : List ℕ) (fault : FrameFault) → IsFaultOf limits ns fault → (fault ≡ faults.OutOfMemory) ⊎ NamesFault limits ns fault
memory_or limits ns faults.TooManySegments h = inr h
memory_or limits ns faults.FrameTooLarge h = inr h
memory_or limits ns faults.Truncated h = inr h
memory_or limits ns faults.RunPastFrame h = inr h
memory_or limits ns faults.Failed h = inr h
memory_or limits ns faults.OutOfMemory h = inl refl

-- a fault of the words that it brings
pub fault_of_words : (limits : Bounds) (r : Rest) (x : ℕ) (fault : FrameFault) → InPacked limits r → x < 256 → IsFaultOfWords limits (rest_of r.frame ++ bytes_of (brought (pending_of r.group) x)) fault
    → (fault ≡ faults.OutOfMemory) ⊎ HasFault modes.Packed limits (bytes_for modes.Packed r ++ x ∷ []) fault
fault_of_words limits r x fault h k m = by m
  where
    t : List ℕ
    t = bytes_for modes.Packed r

    come : List ℕ
    come = rest_of r.frame ++ bytes_of (brought (pending_of r.group) x)

    named : (fault ≡ faults.OutOfMemory) ⊎ NamesFault limits (numbers come) fault → (fault ≡ faults.OutOfMemory) ⊎ HasFault modes.Packed limits (t ++ x ∷ []) fault
    named (inl e) = inl e
    named (inr n) =
        let following = laid (after nothing (t ++ x ∷ [])) in
        let more = numbers_more come following in
        let all : numbers (all_laid (t ++ x ∷ [])) ≡ numbers come ++ more.0 = ap (λ (b : List ℕ). numbers (b ++ following)) (next_bytes limits r x h) ∙ more.1 in
        inr (fault_packed limits (t ++ x ∷ []) fault (next_are limits r x h k) (subst (λ (ns : List ℕ). NamesFault limits ns fault) (sym all) (names_more limits (numbers come) more.0 fault n)))

    by : ((fault ≡ faults.RunPastFrame) × EndsInside limits come) ⊎ IsFaultOf limits (numbers come) fault → (fault ≡ faults.OutOfMemory) ⊎ HasFault modes.Packed limits (t ++ x ∷ []) fault
    by (inl (e, ends)) =
        inr (subst (λ (f : FrameFault). HasFault modes.Packed limits (t ++ x ∷ []) f) (sym e)
        (past_next limits t x ends.0 ends.1 ends.2 (next_are limits r x h k) (open_text limits r h).no_front (next_bytes limits r x h ∙ ends.3) ends.5 (omega (arith, ends.4))))
    by (inr n) = named (memory_or limits (numbers come) fault n)

-- what is open after it
pub pending_taken : (limits : Bounds) (r s : Rest) (x : ℕ) → InPacked limits r → x < 256 → TakesByte limits r x s → IsPending (pending_of s.group)
pending_taken limits r s x h k m = subst (λ (p : Pending). IsPending p) (sym m.group) (pending_step r.group.run r.group.part.items x h.pending k)

-- a fault that shows after the words
pub fault_after : (limits : Bounds) (r s : Rest) (x : ℕ) (fault : FrameFault) → InPacked limits r → x < 256 → TakesByte limits r x s
    → ((fault ≡ faults.RunPastFrame) × IsComplete limits s.frame × (0 < length s.group.part.items + s.group.run)) ⊎ NamesFault limits (numbers (rest_of s.frame ++ laid (pending_of s.group))) fault
    → HasFault modes.Packed limits (bytes_for modes.Packed r ++ x ∷ []) fault
fault_after limits r s x fault h k m n = by n
  where
    t : List ℕ
    t = bytes_for modes.Packed r

    p : Pending
    p = pending_of r.group

    brings : Brings nothing (t ++ x ∷ []) (words_in_order r.frame ++ brought p x) (pending_of s.group)
    brings = record { words = (next_brings limits r x h).words; open_then = (next_brings limits r x h).open_then ∙ sym m.group }

    run : IsComplete limits s.frame → 0 < length s.group.part.items + s.group.run → (brought p x ≡ []) ⊎ ((next p x).part ≡ []) → 0 < s.group.run
    run whole some (inl e) =
        absurd ((open_rest limits r.frame h.frame).no_front (words_of s.frame.segments.items) (rest_of s.frame) []
        (sym (append-nil (rest_of r.frame)) ∙ ap (λ (ws : List ℕ). rest_of r.frame ++ bytes_of ws) (sym e) ∙ sym m.words ∙ sym (append-nil (rest_of s.frame))) (complete_frame limits s.frame whole))
    run whole some (inr e) = omega (arith, some, ap (λ (q : Pending). length q.part) m.group, ap (λ (b : List ℕ). length b) e)

    by : ((fault ≡ faults.RunPastFrame) × IsComplete limits s.frame × (0 < length s.group.part.items + s.group.run)) ⊎ NamesFault limits (numbers (rest_of s.frame ++ laid (pending_of s.group))) fault
        → HasFault modes.Packed limits (t ++ x ∷ []) fault
    by (inl (e, whole, some)) =
        let past = run whole some (settles p.run (p.part ++ x ∷ [])) in
        subst (λ (f : FrameFault). HasFault modes.Packed limits (t ++ x ∷ []) f) (sym e)
        (past_next limits t x (words_of s.frame.segments.items) (rest_of s.frame) [] (next_are limits r x h k) (open_text limits r h).no_front
        (next_bytes limits r x h ∙ sym m.words ∙ sym (append-nil (rest_of s.frame))) (complete_frame limits s.frame whole) (omega (arith, past, ap (λ (q : Pending). q.run) brings.open_then)))
    by (inr named) =
        let all = laid_words (t ++ x ∷ []) (words_in_order r.frame ++ brought p x) (pending_of s.group) brings in
        let come : bytes_of (words_in_order r.frame ++ brought p x) ≡ rest_of s.frame = ap (λ (ws : List ℕ). bytes_of ws) (sym brings.words) ∙ next_bytes limits r x h ∙ sym m.words in
        fault_packed limits (t ++ x ∷ []) fault (next_are limits r x h k)
        (subst (λ (b : List ℕ). NamesFault limits (numbers b) fault) (sym (all ∙ ap (λ (b : List ℕ). b ++ laid (pending_of s.group)) come)) named)

-- a byte is taken with its run
pub takes_run : {E : Type 0} (limits : Bounds) (r s : Rest) (x count word : ℕ) (result : Result (Unit {0}) E) → word < 2 ^ 64 → replicate count word ≡ brought (pending_of r.group) x
    → pending_of s.group ≡ next (pending_of r.group) x → s.taken ≡ r.taken + 1 → OnOk result (IsBegun limits s.frame) → OnOk result (s.frame.part.items ≡ [])
    → OnOk result (rest_of s.frame ≡ rest_of r.frame ++ bytes_of (replicate count word)) → OnOk result (TakesByte limits r x s)
takes_run limits r s x count word (Err e) h k m n a b c = tt
takes_run limits r s x count word (Ok u) h k m n a b c = record {
  begun = a;
  no_part = b;
  are_words = subst (λ (ws : List ℕ). AreWords ws) k (words_repeat count word h);
  words = c ∙ ap (λ (ws : List ℕ). rest_of r.frame ++ bytes_of ws) k;
  group = m;
  taken = n;
}

-- a fault shows with it
pub ends_fault : (limits : Bounds) (r : Rest) (x : ℕ) (b : List ℕ) (fault : FrameFault) → HasFault modes.Packed limits (bytes_for modes.Packed r ++ x ∷ []) fault → KeptFor modes.Packed limits r b
    → HasFault modes.Packed limits (b ++ x ∷ []) fault
ends_fault limits r x b fault h f =
    let t = bytes_for modes.Packed r in
    alike_fault limits (t ++ x ∷ []) (b ++ x ∷ []) fault (alike_more t b (x ∷ []) f.0) (no_front_after limits t b (x ∷ []) f.0 f.2.no_front (no_front_of modes.Packed limits (t ++ x ∷ []) fault h)) h

-- nothing is kept of nothing
pub blank_packed : (limits : Bounds) (r : Rest) → IsBlank r → InPacked limits r
blank_packed limits r h = record {
  frame = empty_open limits r.frame h.frame;
  no_part = h.frame.part;
  pending = subst (λ (p : Pending). IsPending p) (sym h.group) pending_nothing;
  first = λ k. absurd (omega (arith, k, ap (λ (p : Pending). p.run) h.group));
  little = subst (λ (p : Pending). NamesLittle limits (numbers (rest_of r.frame ++ laid p))) (sym h.group) (subst (λ (b : List ℕ). NamesLittle limits (numbers (b ++ []))) (sym (empty_rest r.frame h.frame)) tt);
  count = omega (arith, h.taken);
}

pub blank_bytes : (r : Rest) → IsBlank r → bytes_for modes.Packed r ≡ []
blank_bytes r h =
    let none : words_in_order r.frame ≡ [] = rw (h.frame.table, h.frame.segments, h.frame.words) refl in
    ap (λ (ws : List ℕ). heads ws r.group.run ++ r.group.part.items) none ∙ ap (λ (p : Pending). p.part) h.group

pub keeps_blank : (limits : Bounds) (r : Rest) → IsBlank r → KeptFor modes.Packed limits r []
keeps_blank limits r h = (
  subst (λ (c : List ℕ). GoesOnAs modes.Packed c []) (sym (blank_bytes r h)) (λ ws more. (λ p. p, λ p. p)),
  h.taken,
  subst (λ (c : List ℕ). Open modes.Packed limits c) (blank_bytes r h) (open_text limits r (blank_packed limits r h)),
)
