-- The frames of a stream that are taken one by one, counted, up to its first fault.
use Rattle.std.proofs.Common.{◌≡◌, ◌≢◌, ◌⊎◌, inl, inr, ℕ, ◌+◌, List, [], ◌∷◌, ◌++◌, length, refl, sym, ◌∙◌, ap, subst, append_assoc, append-nil, arith}
use Rattle.std.proofs.lemmas.List.{length-append, nil_from_length}
use Rattle.cp_words.specs.Limits.{Bounds}
use Rattle.cp_frame.specs.declared.mode.Mode.{Mode}
use Rattle.cp_frame.specs.declared.fault.FrameFault.{FrameFault}
use Rattle.cp_frame.specs.declared.fault.FrameFault.TheVariants as framing
use Rattle.cp_frame.specs.Frame.{Frame}
use Rattle.cp_frame.specs.Stream.{Frames, HasFault, Open}
use Rattle.cp_frame.specs.Reader.{Reader, State, failed, refusing, reading, Stands, StandsFor, IsRefusing, IsReportedFor, Gives, GivesNext, new_reader}
use Rattle.cp_frame.proofs.Streams.{cut}
use Rattle.cp_packed.proofs.Bytes.{all-append}
use Rattle.cp_stream.specs.declared.fault.Refusal.TheVariants as refusals
use Rattle.c_handles.specs.declared.code.CallFault.{CallFault}
use Rattle.c_handles.specs.declared.code.CallFault.TheVariants as faults
use Rattle.c_handles.specs.Check.{IsOfKind, IsNotOfKind, CountsAll, BeginsWithNone, Stops, StopsAfter}
use Rattle.c_handles.specs.Kept.{IsCounted, GivesNoFrame}

-- a new reader stands for nothing, which is open
pub open_at_first : (limits : Bounds) (mode : Mode) (reader : Reader) → reader ≡ new_reader mode limits → StandsFor reader [] → Open mode limits []
open_at_first limits mode reader e h = let k : StandsFor (new_reader mode limits) [] = subst (λ (r : Reader). StandsFor r []) e h in k.2

pub begins : (limits : Bounds) (mode : Mode) (kind : ℕ) (bytes : List ℕ) (reader : Reader) → reader ≡ new_reader mode limits → StandsFor reader [] → IsCounted limits mode kind bytes reader 0 bytes
begins limits mode kind bytes reader e h = record {
  fed = [];
  given = [];
  splits = refl;
  frames = refl;
  stands = h;
  nothing = open_at_first limits mode reader e h;
  same_mode = ap (λ (r : Reader). r.mode) e;
  same_limits = ap (λ (r : Reader). r.limits) e;
  each = _;
  number_is = refl;
  few = omega (arith);
}

-- the frame that came next, by the limits and the form of the stream
next_frame : (limits : Bounds) (mode : Mode) (kind : ℕ) (bytes : List ℕ) (old new : Reader) (number taken : ℕ) (S : List (List ℕ)) (left back : List ℕ) → IsCounted limits mode kind bytes old number left
    → (g : GivesNext old left taken S new back) → Frame mode limits S g.front
next_frame limits mode kind bytes old new number taken S left back h g =
    subst (λ (l : Bounds). Frame mode l S g.front) h.same_limits (subst (λ (m : Mode). Frame m old.limits S g.front) h.same_mode (g.frame [] h.stands))

pub goes_on : (limits : Bounds) (mode : Mode) (kind : ℕ) (bytes : List ℕ) (old new : Reader) (number next taken : ℕ) (S : List (List ℕ)) (left back : List ℕ) → IsCounted limits mode kind bytes old number left
    → GivesNext old left taken S new back → IsOfKind limits kind S → next ≡ number + 1 → IsCounted limits mode kind bytes new next back
goes_on limits mode kind bytes old new number next taken S left back h g of_kind n =
    let frame = next_frame limits mode kind bytes old new number taken S left back h g in
    let one = (taken, S) ∷ [] in
    record {
      fed = h.fed ++ g.front;
      given = h.given ++ one;
      splits = h.splits ∙ ap (λ (x : List ℕ). h.fed ++ x) g.whole ∙ sym (append_assoc h.fed g.front back);
      frames = cut mode limits h.fed g.front h.given one [] [] h.frames (g.front, [], sym (append-nil g.front), g.count [] h.stands, frame, refl);
      stands = g.fresh;
      nothing = h.nothing;
      same_mode = g.same_mode ∙ h.same_mode;
      same_limits = g.same_limits ∙ h.same_limits;
      each = all-append (λ f. IsOfKind limits kind f.1) h.given one h.each (of_kind, tt);
      number_is = omega (arith, n, h.number_is, length-append h.given one);
      few = omega (arith, n, h.few, g.shorter);
    }

-- what is kept for later frames changes no count
pub with_spare : (limits : Bounds) (mode : Mode) (kind : ℕ) (bytes : List ℕ) (reader : Reader) (number : ℕ) (left : List ℕ) (spare : ℕ) → IsCounted limits mode kind bytes reader number left → IsCounted limits mode kind bytes (record reader { spare = spare }) number left
with_spare limits mode kind bytes reader number left spare h = record {
  fed = h.fed;
  given = h.given;
  splits = h.splits;
  frames = h.frames;
  stands = h.stands;
  nothing = h.nothing;
  same_mode = h.same_mode;
  same_limits = h.same_limits;
  each = h.each;
  number_is = h.number_is;
  few = h.few;
}

pub ends : (limits : Bounds) (mode : Mode) (kind : ℕ) (bytes : List ℕ) (reader : Reader) (number : ℕ) (left : List ℕ) → IsCounted limits mode kind bytes reader number left → length left ≡ 0 → CountsAll limits mode kind bytes number
ends limits mode kind bytes reader number left h none =
    let all : bytes ≡ h.fed = h.splits ∙ ap (λ (x : List ℕ). h.fed ++ x) (nil_from_length left none) ∙ append-nil h.fed in
    record { given = h.given; frames = subst (λ (b : List ℕ). Frames mode limits b h.given []) (sym all) h.frames; each = h.each; number_is = h.number_is }

-- after what was counted the check stops
stops_after : (limits : Bounds) (mode : Mode) (kind : ℕ) (bytes : List ℕ) (reader : Reader) (number before : ℕ) (left : List ℕ) (fault : CallFault) → IsCounted limits mode kind bytes reader number left
    → before + length left ≡ length bytes → Stops limits mode kind left fault → StopsAfter limits mode kind bytes number before fault
stops_after limits mode kind bytes reader number before left fault h e s = record {
  front = h.fed;
  rest = left;
  splits = h.splits;
  counts = record { given = h.given; frames = h.frames; each = h.each; number_is = h.number_is };
  bytes_are = omega (arith, e, ap (λ (x : List ℕ). length x) h.splits, length-append h.fed left);
  stops = s;
}

-- at a frame that hasn't what is asked for
pub stops_at_other : (limits : Bounds) (mode : Mode) (kind : ℕ) (bytes : List ℕ) (old new : Reader) (number before taken : ℕ) (S : List (List ℕ)) (left back : List ℕ) (fault : CallFault)
    → IsCounted limits mode kind bytes old number left → before + length left ≡ length bytes → GivesNext old left taken S new back → IsNotOfKind limits kind S fault → StopsAfter limits mode kind bytes number before fault
stops_at_other limits mode kind bytes old new number before taken S left back fault h e g other =
    stops_after limits mode kind bytes old number before left fault h e (inr (S, g.front, back, g.whole, next_frame limits mode kind bytes old new number taken S left back h g, other))

-- a fault of framing is that of a rest which begins with no frame
has_fault : (limits : Bounds) (mode : Mode) (rest : List ℕ) (fault : FrameFault) → HasFault mode limits rest fault → BeginsWithNone limits mode rest fault
has_fault limits mode rest framing.TooManySegments h = h
has_fault limits mode rest framing.FrameTooLarge h = h
has_fault limits mode rest framing.Truncated h = absurd h.2
has_fault limits mode rest framing.RunPastFrame h = h
has_fault limits mode rest framing.Failed h = h
has_fault limits mode rest framing.OutOfMemory h = tt

-- so is one that a reader of which nothing is kept reports
reported : (old : Reader) (left : List ℕ) (s : State) (fault : FrameFault) → StandsFor old [] → Stands old.mode old.limits s [] → Open old.mode old.limits [] → IsReportedFor old left s fault
    → BeginsWithNone old.limits old.mode left fault
reported old left failed fault h k nothing r = absurd k
reported old left (refusing kept) fault h k nothing r = absurd (nothing.no_fault kept k)
reported old left (reading rest taken) fault h k nothing (inl memory) = subst (λ (f : FrameFault). BeginsWithNone old.limits old.mode left f) (sym memory) tt
reported old left (reading rest taken) fault h k nothing (inr there) = has_fault old.limits old.mode left fault (there [] h)

-- a state that keeps no fault stands for an open rest
open_rest : (mode : Mode) (limits : Bounds) (s : State) (rest : List ℕ) → Stands mode limits s rest → (IsRefusing s → ⊥) → Open mode limits rest
open_rest mode limits failed rest h none = absurd h
open_rest mode limits (refusing fault) rest h none = absurd (none tt)
open_rest mode limits (reading kept taken) rest h none = h.2

-- where no frame ends in them, the bytes are open
ends_inside : (old new : Reader) (left : List ℕ) → StandsFor old [] → Gives old left new [] → Open old.mode old.limits left
ends_inside old new left h g =
    let f = g.frames [] h in
    let there : Open new.mode new.limits f.0 = open_rest new.mode new.limits new.state f.0 f.2 (λ k. g.kept k refl) in
    subst (λ (b : List ℕ). Open old.mode old.limits b) (sym f.1) (subst (λ (l : Bounds). Open old.mode l f.0) g.same_limits (subst (λ (m : Mode). Open m new.limits f.0) g.same_mode there))

pub no_frame : (old new : Reader) (left : List ℕ) (fault : FrameFault) → StandsFor old [] → Open old.mode old.limits [] → left ≢ [] → GivesNoFrame old left new fault → BeginsWithNone old.limits old.mode left fault
no_frame old new left fault h nothing some (inl r) = reported old left old.state fault h h nothing r.reported
no_frame old new left fault h nothing some (inr g) = subst (λ (f : FrameFault). BeginsWithNone old.limits old.mode left f) (sym g.1) (some, ends_inside old new left h g.0)

-- where no frame comes next
pub stops_at_none : (limits : Bounds) (mode : Mode) (kind : ℕ) (bytes : List ℕ) (old new : Reader) (number before : ℕ) (left : List ℕ) (fault : FrameFault) → IsCounted limits mode kind bytes old number left
    → before + length left ≡ length bytes → (length left ≡ 0 → ⊥) → GivesNoFrame old left new fault → StopsAfter limits mode kind bytes number before (faults.Refused (refusals.Frame fault))
stops_at_none limits mode kind bytes old new number before left fault h e some g =
    let nothing : Open old.mode old.limits [] = subst (λ (l : Bounds). Open old.mode l []) (sym h.same_limits) (subst (λ (m : Mode). Open m limits []) (sym h.same_mode) h.nothing) in
    let none : BeginsWithNone limits mode left fault =
    subst (λ (l : Bounds). BeginsWithNone l mode left fault) h.same_limits (subst (λ (m : Mode). BeginsWithNone old.limits m left fault) h.same_mode (no_frame old new left fault h.stands nothing (λ e. some (ap (λ (x : List ℕ). length x) e)) g)) in
    stops_after limits mode kind bytes old number before left (faults.Refused (refusals.Frame fault)) h e (inl (fault, refl, none))
