-- What a reader of frames gives and reports doesn't depend on the buffer that it keeps for later frames.
use Rattle.std.proofs.Common.{◌≡◌, ℕ, List, [], None, Err, subst}
use Rattle.cp_frame.specs.declared.fault.FrameFault.{FrameFault}
use Rattle.cp_frame.specs.Reader.{Reader, State, failed, refusing, reading, IsAsBefore, Gives, GivesNext, Reports, IsReportedFor}
use Rattle.c_handles.specs.declared.reader.ReaderState.{ReaderState}
use Rattle.c_handles.specs.Reader.{Takes}

-- the same fault is reported for a piece
reported_before : (old : Reader) (n : ℕ) (piece : List ℕ) (s : State) (fault : FrameFault) → IsReportedFor (record old { spare = n }) piece s fault → IsReportedFor old piece s fault
reported_before old n piece failed fault h = h
reported_before old n piece (refusing kept) fault h = h
reported_before old n piece (reading rest taken) fault h = h

pub reports_before : (old mid new : Reader) (piece : List ℕ) (fault : FrameFault) → IsAsBefore old mid → Reports mid piece new fault → Reports old piece new fault
reports_before old mid new piece fault e h =
    let k : Reports (record old { spare = mid.spare }) piece new fault = subst (λ (r : Reader). Reports r piece new fault) e h in
    record { reported = reported_before old mid.spare piece old.state fault k.reported; failed = k.failed }

pub gives_before : (old mid new : Reader) (piece : List ℕ) (given : List (ℕ × List (List ℕ))) → IsAsBefore old mid → Gives mid piece new given → Gives old piece new given
gives_before old mid new piece given e h =
    let k : Gives (record old { spare = mid.spare }) piece new given = subst (λ (r : Reader). Gives r piece new given) e h in
    record { was_reading = k.was_reading; same_mode = k.same_mode; same_limits = k.same_limits; frames = k.frames; kept = k.kept }

pub next_before : (old mid new : Reader) (piece : List ℕ) (size : ℕ) (S : List (List ℕ)) (back : List ℕ) → IsAsBefore old mid → GivesNext mid piece size S new back → GivesNext old piece size S new back
next_before old mid new piece size S back e h =
    let k : GivesNext (record old { spare = mid.spare }) piece size S new back = subst (λ (r : Reader). GivesNext r piece size S new back) e h in
    record {
      was_reading = k.was_reading;
      same_mode = k.same_mode;
      same_limits = k.same_limits;
      front = k.front;
      whole = k.whole;
      shorter = k.shorter;
      count = k.count;
      frame = k.frame;
      fresh = k.fresh;
    }

-- a fault that is reported for a piece, where no frame is there
pub takes_fault : (old new : ReaderState) (mid : Reader) (piece : List ℕ) (fault : FrameFault) → IsAsBefore old.frames mid → Reports mid piece new.frames fault → new.came ≡ None → new.limits ≡ old.limits
    → new.lent.items ≡ [] → Takes old piece new (Err fault)
takes_fault old new mid piece fault stays reported none limits nothing = record { takes = (reports_before old.frames mid new.frames piece fault stays reported, none); limits = limits; nothing = nothing }
