-- Frames one after another, and the faults of a rest.
use Rattle.std.proofs.Common.{◌≡◌, ℕ, zero, suc, ◌+◌, ◌≤◌, List, [], ◌∷◌, ◌++◌, length, sum, take, refl, sym, ◌∙◌, ap, subst, append_assoc, arith}
use Rattle.std.proofs.lemmas.List.Sums.{sum_by-cons}
use Rattle.cp_words.specs.Limits.{Bounds}
use Rattle.cp_frame.specs.declared.fault.FrameFault.{FrameFault}
use Rattle.cp_frame.specs.declared.fault.FrameFault.TheVariants as faults
use Rattle.cp_frame.specs.declared.mode.Mode.{Mode}
use Rattle.cp_frame.specs.declared.mode.Mode.TheVariants as modes
use Rattle.cp_frame.specs.Frame.{Frame}
use Rattle.cp_frame.specs.Stream.{Frames, NamesFault, HasFault, numbers, HasOneReading, CutAnywhere, FaultStays}
use Rattle.cp_frame.proofs.Numbers.{numbers_more}
use Rattle.cp_frame.proofs.Framing.{one_framed}

pub cut : (mode : Mode) → CutAnywhere mode
cut mode limits a b [] second rest last h k = subst (λ (x : List ℕ). Frames mode limits (x ++ b) second last) (sym h) k
cut mode limits a b (f ∷ more) second rest last h k =
    (h.0, h.1 ++ b, ap (λ x. x ++ b) h.2 ∙ append_assoc h.0 h.1 b, h.3, h.4, cut mode limits h.1 b more second rest last h.5 k)

-- a stream begins with one frame at most
abbrev pub OneFront : Mode → Type 0
OneFront mode = (limits : Bounds) (S T : List (List ℕ)) (f g x y : List ℕ) → Frame mode limits S f → Frame mode limits T g → f ++ x ≡ g ++ y → (S ≡ T) × (f ≡ g) × (x ≡ y)

pub one_front_plain : OneFront modes.Plain
one_front_plain limits S T f g x y h k e = one_framed S T f g x y h.form k.form e

pub one_reading : (mode : Mode) → OneFront mode → HasOneReading mode
one_reading mode one limits b [] [] rest other h nh k nk = (refl, sym h ∙ k)
one_reading mode one limits b [] (g ∷ second) rest other h nh k nk = absurd (nh g.1 k.0 k.1 (sym h ∙ k.2) k.4)
one_reading mode one limits b (f ∷ first) [] rest other h nh k nk = absurd (nk f.1 h.0 h.1 (sym k ∙ h.2) h.4)
one_reading mode one limits b (f ∷ first) (g ∷ second) rest other h nh k nk =
    let same = one limits f.1 g.1 h.0 k.0 h.1 k.1 h.4 k.4 (sym h.2 ∙ k.2) in
    let later = one_reading mode one limits k.1 first second rest other (subst (λ (x : List ℕ). Frames mode limits x first rest) same.2 h.5) nh k.5 nk in
    let taken : f.0 ≡ g.0 = h.3 ∙ ap length same.1 ∙ sym k.3 in
    let frame : f ≡ g = ap (λ (n : ℕ). let p : ℕ × List (List ℕ) = (n, f.1) in p) taken ∙ ap (λ (S : List (List ℕ)). let p : ℕ × List (List ℕ) = (g.0, S) in p) same.0 in
    (cc (frame, later.0), later.1)

-- numbers that come later mend nothing
pub sum_more : (n : ℕ) (a b : List ℕ) → sum (take n a) ≤ sum (take n (a ++ b))
sum_more zero a b = omega arith
sum_more (suc n) [] b = omega arith
sum_more (suc n) (x ∷ a) b = omega (arith, sum_more n a b, sum_by-cons (λ x. x) x (take n a), sum_by-cons (λ x. x) x (take n (a ++ b)))

pub names_more : (limits : Bounds) (ns more : List ℕ) (fault : FrameFault) → NamesFault limits ns fault → NamesFault limits (ns ++ more) fault
names_more limits [] more faults.TooManySegments h = absurd h
names_more limits (n ∷ ns) more faults.TooManySegments h = h
names_more limits [] more faults.FrameTooLarge h = absurd h
names_more limits (n ∷ ns) more faults.FrameTooLarge h = (h.0, omega (arith, h.1, sum_more (n + 1) ns more))
names_more limits ns more faults.Truncated h = h
names_more limits ns more faults.RunPastFrame h = h
names_more limits ns more faults.Failed h = h
names_more limits ns more faults.OutOfMemory h = h

-- the faults of a plain rest are those of its table
pub fault_plain : (limits : Bounds) (b : List ℕ) (fault : FrameFault) → NamesFault limits (numbers b) fault → HasFault modes.Plain limits b fault
fault_plain limits b faults.TooManySegments h = (b, refl, h)
fault_plain limits b faults.FrameTooLarge h = (b, refl, h)
fault_plain limits b faults.Truncated h = absurd h
fault_plain limits b faults.RunPastFrame h = absurd h
fault_plain limits b faults.Failed h = absurd h
fault_plain limits b faults.OutOfMemory h = absurd h

pub plain_fault : (limits : Bounds) (b : List ℕ) (fault : FrameFault) → HasFault modes.Plain limits b fault → NamesFault limits (numbers b) fault
plain_fault limits b faults.TooManySegments h = subst (λ (x : List ℕ). NamesFault limits (numbers x) faults.TooManySegments) h.1 h.2
plain_fault limits b faults.FrameTooLarge h = subst (λ (x : List ℕ). NamesFault limits (numbers x) faults.FrameTooLarge) h.1 h.2
plain_fault limits b faults.Truncated h = h.2
plain_fault limits b faults.RunPastFrame h = h
plain_fault limits b faults.Failed h = h.2
plain_fault limits b faults.OutOfMemory h = h.2

pub fault_stays_plain : FaultStays modes.Plain
fault_stays_plain limits b more fault f h =
    let m = numbers_more b more in
    fault_plain limits (b ++ more) fault (subst (λ (ns : List ℕ). NamesFault limits ns fault) (sym m.1) (names_more limits (numbers b) m.0 fault (plain_fault limits b fault h)))
