-- A stream that is cut anywhere is read alike.
use Rattle.std.proofs.Common.{◌≡◌, inl, inr, ℕ, List, ◌++◌, sym, ◌∙◌, ap, subst}
use Rattle.std.proofs.lemmas.List.{append-nil}
use Rattle.cp_words.specs.Limits.{Bounds}
use Rattle.cp_frame.specs.declared.fault.FrameFault.{FrameFault}
use Rattle.cp_frame.specs.declared.mode.Mode.{Mode}
use Rattle.cp_frame.specs.declared.mode.Mode.TheVariants as modes
use Rattle.cp_packed.specs.Words.{AreBytes, bytes_of}
use Rattle.cp_frame.specs.Stream.{Frames, HasFault, NoFront, HasOneFault}
use Rattle.cp_frame.specs.Reader.{Reader, State, failed, refusing, reading, GoesOnAs, Stands, StandsFor}
use Rattle.cp_frame.specs.Runs.{joined, Fed, AreAlike, ReadsAnyCut}
use Rattle.cp_packed.specs.Unpacking.{Pending, nothing, after, given, laid, all_laid}
use Rattle.cp_frame.proofs.Streams.{OneFront, one_reading, one_front_plain}
use Rattle.cp_frame.proofs.Groups.{one_front_packed}
use Rattle.cp_packed.proofs.Unpacks.{packed_brings}
use Rattle.cp_frame.proofs.Certain.{are_front, are_back}
use Rattle.cp_frame.proofs.Rests.{IsPackedFault, packed_fault, frame_names_none, laid_longer, one_fault_packed}
use Rattle.cp_frame.proofs.Whole.{fault_no_front, one_fault_plain, reads_all, same_form}

-- a rest with a fault begins with no frame
pub names_no_front : (limits : Bounds) (b : List ℕ) (fault : FrameFault) → IsPackedFault limits b fault → NoFront modes.Packed limits b
names_no_front limits b fault (inl p) = p.1.4
names_no_front limits b fault (inr p) = λ S front back e k.
    (let ws = k.form.0 in
    let all = packed_brings ws front k.form.2 in
    let are = subst (λ (c : List ℕ). AreBytes c) e p.0 in
    let whole : all_laid front ≡ bytes_of ws = ap (λ (us : List ℕ). bytes_of us ++ laid (after nothing front)) all.words ∙ ap (λ (s : Pending). bytes_of ws ++ laid s) all.open_then ∙ append-nil (bytes_of ws) in
    let longer = laid_longer front back (are_front front back are) (are_back front back are) in
    let text : all_laid b ≡ bytes_of ws ++ longer.0 = ap (λ (c : List ℕ). all_laid c) e ∙ longer.1 ∙ ap (λ (c : List ℕ). c ++ longer.0) whole in
    frame_names_none limits S (bytes_of ws) longer.0 (all_laid b) fault (record { within = k.within; form = k.form.1 }) text p.1)

pub no_front_of : (mode : Mode) (limits : Bounds) (b : List ℕ) (fault : FrameFault) → HasFault mode limits b fault → NoFront mode limits b
no_front_of modes.Plain limits b fault h = fault_no_front limits b fault h
no_front_of modes.Packed limits b fault h = names_no_front limits b fault (packed_fault limits b fault h)

one_front : (mode : Mode) → OneFront mode
one_front modes.Plain = one_front_plain
one_front modes.Packed = one_front_packed

one_fault : (mode : Mode) → HasOneFault mode
one_fault modes.Plain = one_fault_plain
one_fault modes.Packed = one_fault_packed

stands_no_front : (mode : Mode) (limits : Bounds) (state : State) (b : List ℕ) → Stands mode limits state b → NoFront mode limits b
stands_no_front mode limits failed b h = absurd h
stands_no_front mode limits (refusing fault) b h = no_front_of mode limits b fault h
stands_no_front mode limits (reading rest taken) b h = h.2.no_front

goes_alike : (mode : Mode) (a b other : List ℕ) → GoesOnAs mode a b → GoesOnAs mode other b → GoesOnAs mode a other
goes_alike modes.Plain a b other h k = h ∙ sym k
goes_alike modes.Packed a b other h k = λ ws more. (λ p. (k ws more).1 ((h ws more).0 p), λ p. (h ws more).1 ((k ws more).0 p))

-- what stands for a rest without a fault, or with one, goes on alike
same_state : (mode : Mode) (limits : Bounds) (state other : State) (b : List ℕ) → Stands mode limits state b → Stands mode limits other b → AreAlike mode state other
same_state mode limits failed other b h k = absurd h
same_state mode limits (refusing fault) failed b h k = absurd k
same_state mode limits (refusing fault) (refusing kept) b h k = ap (λ (f : FrameFault). refusing f) (one_fault mode limits b fault kept h k)
same_state mode limits (refusing fault) (reading rest taken) b h k = absurd (k.2.no_fault fault h)
same_state mode limits (reading rest taken) failed b h k = absurd k
same_state mode limits (reading rest taken) (refusing kept) b h k = absurd (h.2.no_fault kept k)
same_state mode limits (reading rest taken) (reading others count) b h k = (goes_alike mode rest b others h.0 k.0, h.1 ∙ sym k.1)

-- after pieces a reader stands in the form and the limits of its beginning
stands_as : (mode : Mode) (old new : Reader) (pieces : List (List ℕ)) (given : List (ℕ × List (List ℕ))) (rest : List ℕ) → old.mode ≡ mode → Fed old pieces given new → StandsFor new rest
    → Stands mode old.limits new.state rest
stands_as mode old new pieces given rest e h k =
    let same = same_form old new pieces given h in
    subst (λ (limits : Bounds). Stands mode limits new.state rest) same.1 (subst (λ (m : Mode). Stands m new.limits new.state rest) (same.0 ∙ e) k)

pub reads_any_cut : (mode : Mode) → ReadsAnyCut mode
reads_any_cut mode old new other pieces others given gotten b e h k m same =
    let one = reads_all old new pieces given b h k in
    let two = reads_all old other others gotten b h m in
    let first = subst (λ (u : Mode). Frames u old.limits (b ++ joined pieces) given one.0) e one.1 in
    let second = subst (λ (u : Mode). Frames u old.limits (b ++ joined others) gotten two.0) e two.1 in
    let third = subst (λ (x : List ℕ). Frames mode old.limits (b ++ x) gotten two.0) (sym same) second in
    let left = stands_as mode old new pieces given one.0 e k one.2 in
    let right = stands_as mode old other others gotten two.0 e m two.2 in
    let read = one_reading mode (one_front mode) old.limits (b ++ joined pieces) given gotten one.0 two.0 first (stands_no_front mode old.limits new.state one.0 left) third
    (stands_no_front mode old.limits other.state two.0 right) in
    (read.0, same_state mode old.limits new.state other.state one.0 left (subst (λ (x : List ℕ). Stands mode old.limits other.state x) (sym read.1) right))
