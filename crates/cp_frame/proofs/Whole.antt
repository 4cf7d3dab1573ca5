-- What holds of every stream that is fed to a reader.
use Rattle.std.proofs.Common.{◌≢◌, ◌≡◌, ◌⊎◌, inl, inr, ◌==◌, if◌then◌else◌, Bool, true, false, ℕ, ◌+◌, ◌-◌, ◌*◌, ◌%◌, ◌^◌, ◌<◌, ◌≤◌, List, [], ◌∷◌, ◌++◌, length, sum, refl, sym, ◌∙◌, ap, subst, append_assoc, length-append, arith}
use Rattle.std.specs.List.{AllByRecursion, flat_map}
use Rattle.std.proofs.lemmas.List.{append-nil, take_at}
use Rattle.std.proofs.lemmas.Bool.Decides.{nat_tests}
use Rattle.std.proofs.lemmas.List.Sums.{sum_by-cons}
use Rattle.cp_words.specs.Limits.{Bounds}
use Rattle.cp_frame.specs.declared.fault.FrameFault.{FrameFault}
use Rattle.cp_frame.specs.declared.fault.FrameFault.TheVariants as faults
use Rattle.cp_frame.specs.declared.mode.Mode.{Mode}
use Rattle.cp_frame.specs.declared.mode.Mode.TheVariants as modes
use Rattle.cp_frame.specs.Framed.{spelled, sizes_of, table}
use Rattle.cp_packed.specs.Words.{bytes_of}
use Rattle.cp_frame.specs.Stream.{Frames, NoFront, NamesFault, NamesTooMany, NamesTooMuch, HasFault, numbers, HasOneFault}
use Rattle.cp_frame.specs.Reader.{Reader, State, failed, refusing, reading, StandsFor, IsReading, IsReportedFor}
use Rattle.cp_frame.specs.Runs.{joined, Fed, ReadsAll, ReportsAll, IsReadBack}
use Rattle.cp_frame.proofs.Numbers.{length_spelled}
use Rattle.cp_frame.proofs.Framing.{numbers_framed, length_sizes}
use Rattle.cp_frame.proofs.Streams.{cut, plain_fault}

-- which faults a plain rest may have
pub kinds : (limits : Bounds) (ns : List ℕ) (fault : FrameFault) → NamesFault limits ns fault
    → ((fault ≡ faults.TooManySegments) × NamesTooMany limits ns) ⊎ ((fault ≡ faults.FrameTooLarge) × NamesTooMuch limits ns)
kinds limits ns faults.TooManySegments h = inl (refl, h)
kinds limits ns faults.FrameTooLarge h = inr (refl, h)
kinds limits ns faults.Truncated h = absurd h
kinds limits ns faults.RunPastFrame h = absurd h
kinds limits ns faults.Failed h = absurd h
kinds limits ns faults.OutOfMemory h = absurd h

pub not_both : (limits : Bounds) (ns : List ℕ) → NamesTooMany limits ns → NamesTooMuch limits ns → ⊥
not_both limits [] h k = h
not_both limits (n ∷ ns) h k = omega (arith, h, k.0)

pub one_fault_plain : HasOneFault modes.Plain
one_fault_plain limits b fault other h k = go (kinds limits (numbers b) fault (plain_fault limits b fault h)) (kinds limits (numbers b) other (plain_fault limits b other k))
  where
    go : ((fault ≡ faults.TooManySegments) × NamesTooMany limits (numbers b)) ⊎ ((fault ≡ faults.FrameTooLarge) × NamesTooMuch limits (numbers b))
        → ((other ≡ faults.TooManySegments) × NamesTooMany limits (numbers b)) ⊎ ((other ≡ faults.FrameTooLarge) × NamesTooMuch limits (numbers b)) → fault ≡ other
    go (inl p) (inl q) = p.0 ∙ sym q.0
    go (inl p) (inr q) = absurd (not_both limits (numbers b) p.1 q.1)
    go (inr p) (inl q) = absurd (not_both limits (numbers b) q.1 p.1)
    go (inr p) (inr q) = p.0 ∙ sym q.0

-- a frame's own numbers are within the limits
pub too_many_front : (limits : Bounds) (S : List (List ℕ)) (others : List ℕ) → 0 < length S → length S ≤ limits.segments → NamesTooMany limits ((length S - 1) ∷ (sizes_of S ++ others)) → ⊥
too_many_front limits S others some few h = omega (arith, some, few, h)

pub too_much_front : (limits : Bounds) (S : List (List ℕ)) (others : List ℕ) → 0 < length S → sum (sizes_of S) ≤ limits.frame_words → NamesTooMuch limits ((length S - 1) ∷ (sizes_of S ++ others)) → ⊥
too_much_front limits S others some small h =
    let count : length (sizes_of S) ≡ length S - 1 + 1 = omega (arith, length_sizes S, some) in
    let all = ap (λ (ns : List ℕ). sum ns) (take_at (sizes_of S) others (length S - 1 + 1) count) in
    omega (arith, h.1, all, small)

-- a rest with a fault begins with no frame
pub fault_no_front : (limits : Bounds) (b : List ℕ) (fault : FrameFault) → HasFault modes.Plain limits b fault → NoFront modes.Plain limits b
fault_no_front limits b fault h S front back e k = go (kinds limits (numbers b) fault (plain_fault limits b fault h))
  where
    named : numbers b ≡ (length S - 1) ∷ (sizes_of S ++ numbers (k.form.padding ++ (flat_map bytes_of S ++ back)))
    named = ap numbers e ∙ numbers_framed S front back k.form

    go : ((fault ≡ faults.TooManySegments) × NamesTooMany limits (numbers b)) ⊎ ((fault ≡ faults.FrameTooLarge) × NamesTooMuch limits (numbers b)) → ⊥
    go (inl p) = too_many_front limits S (numbers (k.form.padding ++ (flat_map bytes_of S ++ back))) k.form.some k.within.few (subst (λ (ns : List ℕ). NamesTooMany limits ns) named p.1)
    go (inr p) = too_much_front limits S (numbers (k.form.padding ++ (flat_map bytes_of S ++ back))) k.form.some k.within.small (subst (λ (ns : List ℕ). NamesTooMuch limits ns) named p.1)

-- what pieces give are the frames of the stream that they make
pub reads_all : ReadsAll
reads_all old new [] given b h k =
    (b, subst (λ (gs : List (ℕ × List (List ℕ))). Frames old.mode old.limits (b ++ []) gs b) (sym k.0) (append-nil b), subst (λ (r : Reader). StandsFor r b) (sym k.1) h)
reads_all old new (piece ∷ pieces) given b h k =
    let one = k.3.frames b h in
    let later = reads_all k.2 new pieces k.1 one.0 one.2 k.4 in
    let frames = subst (λ (mode : Mode). Frames mode k.2.limits (one.0 ++ joined pieces) k.1 later.0) k.3.same_mode later.1 in
    let framed = subst (λ (limits : Bounds). Frames old.mode limits (one.0 ++ joined pieces) k.1 later.0) k.3.same_limits frames in
    let all = cut old.mode old.limits (b ++ piece) (joined pieces) k.0 k.1 one.0 later.0 one.1 framed in (
      later.0,
      subst (λ (x : List ℕ). Frames old.mode old.limits x given later.0) (append_assoc b piece (joined pieces)) (subst (λ (gs : List (ℕ × List (List ℕ))). Frames old.mode old.limits ((b ++ piece) ++ joined pieces) gs later.0) (sym k.5) all),
      later.2,
    )

-- a reader keeps its form and its limits
pub same_form : (old new : Reader) (pieces : List (List ℕ)) (given : List (ℕ × List (List ℕ))) → Fed old pieces given new → (new.mode ≡ old.mode) × (new.limits ≡ old.limits)
same_form old new [] given h = (ap (λ (r : Reader). r.mode) h.1, ap (λ (r : Reader). r.limits) h.1)
same_form old new (piece ∷ pieces) given h = let later = same_form h.2 new pieces h.1 h.4 in (later.0 ∙ h.3.same_mode, later.1 ∙ h.3.same_limits)

-- while a stream is read, a fault that is told is that of the rest
reported_of : (r : Reader) (piece : List ℕ) (state : State) (fault : FrameFault) → IsReading state → IsReportedFor r piece state fault → fault ≢ faults.OutOfMemory
    → (b : List ℕ) → StandsFor r b → HasFault r.mode r.limits (b ++ piece) fault
reported_of r piece failed fault h k n = absurd h
reported_of r piece (refusing kept) fault h k n = absurd h
reported_of r piece (reading rest taken) fault h (inl k) n = absurd (n k)
reported_of r piece (reading rest taken) fault h (inr k) n = k

pub reports_all : ReportsAll
reports_all old mid new pieces piece given fault b h k r t n =
    let all = reads_all old mid pieces given b h k in
    let same = same_form old mid pieces given k in
    let here = reported_of mid piece mid.state fault r t.reported n all.0 all.2 in
    let there = subst (λ (mode : Mode). HasFault mode mid.limits (all.0 ++ piece) fault) same.0 here in
    let longer = cut old.mode old.limits (b ++ joined pieces) piece given [] all.0 (all.0 ++ piece) all.1 refl in (
      all.0 ++ piece,
      subst (λ (gs : List (ℕ × List (List ℕ))). Frames old.mode old.limits (b ++ (joined pieces ++ piece)) gs (all.0 ++ piece)) (append-nil given)
          (subst (λ (x : List ℕ). Frames old.mode old.limits x (given ++ []) (all.0 ++ piece)) (append_assoc b (joined pieces) piece) longer),
      subst (λ (limits : Bounds). HasFault old.mode limits (all.0 ++ piece) fault) same.1 there,
    )

-- what is written is a frame
pub size_small : (ns : List ℕ) (n : ℕ) → sum ns < n → AllByRecursion (λ size. size < n) ns
size_small [] n h = tt
size_small (m ∷ ns) n h = let all = sum_by-cons (λ x. x) m ns in (omega (arith, h, all), size_small ns n (omega (arith, h, all)))

-- a number is even exactly if its remainder tests so
even_by : (n : ℕ) → (n == 0) ≡ true → n ≡ 0
even_by n h = grind (arith, nat_tests)

odd_by : (n : ℕ) → (n == 0) ≡ false → 0 < n
odd_by n h = grind (arith, nat_tests)

pad_by : (b : Bool) (n : ℕ) → (n % 2 == 0) ≡ b → length (if b then spelled (0 ∷ []) else []) ≡ 4 * ((n + 1) % 2)
pad_by true n h = omega (arith, even_by (n % 2) h)
pad_by false n h = omega (arith, odd_by (n % 2) h)

pub length_padding : (n : ℕ) → length (if n % 2 == 0 then spelled (0 ∷ []) else []) ≡ 4 * ((n + 1) % 2)
length_padding n = pad_by (n % 2 == 0) n refl

pub read_back_plain : IsReadBack modes.Plain
read_back_plain limits S b allowed some words h = record {
  within = h.within;
  form = record {
    some = some;
    few = omega (arith, h.within.few, allowed.few);
    small = size_small (sizes_of S) (2 ^ 32) (omega (arith, h.within.small, allowed.holds_little));
    are_words = words;
    padding = if length S % 2 == 0 then spelled (0 ∷ []) else [];
    short = omega (arith, length_padding (length S));
    whole = omega (arith, length_padding (length S), length-append (table S) (if length S % 2 == 0 then spelled (0 ∷ []) else []), length_spelled ((length S - 1) ∷ sizes_of S), length_sizes S, some);
    spells = h.form;
  };
}
