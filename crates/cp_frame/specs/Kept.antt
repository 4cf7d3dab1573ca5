-- What a reader keeps, and what its callers see of it. No public clause names these.
use Rattle.std.specs.Prelude.{◌≡◌, ℕ, ◌+◌, List, length, vec_capacity}
use Rattle.cp_words.specs.Limits.{Bounds}
use Rattle.cp_frame.specs.declared.fault.FrameFault.{FrameFault}
use Rattle.cp_frame.specs.declared.fault.FrameFault.TheVariants as faults
use Rattle.cp_frame.specs.declared.mode.Mode.{Mode}
use Rattle.cp_frame.specs.declared.status.Status.{Status}
use Rattle.cp_frame.specs.declared.status.Status.TheVariants as statuses
use Rattle.cp_frame.specs.declared.rest.Rest.{Rest}
use Rattle.cp_frame.specs.declared.stream.OpenStream.{OpenStream}
use Rattle.cp_frame.specs.Parts.{kept_words}
use Rattle.cp_frame.specs.Rest.{bytes_for, count_for, IsRest, IsBlank}
use Rattle.cp_frame.specs.Reader.{Reader, State, failed, refusing, reading}

abbrev pub state_of : Status → List ℕ → ℕ → State
state_of statuses.Failed rest taken = failed
state_of (statuses.Refusing fault) rest taken = refusing fault
state_of statuses.Reading rest taken = reading rest taken

-- a reader by its parts
abbrev pub seen : Mode → Bounds → Status → Rest → Reader
seen mode limits status r = record {
  mode = mode;
  limits = limits;
  state = state_of status (bytes_for mode r) (count_for mode r);
  bytes = length r.frame.part.items + length r.group.part.items;
  words = kept_words r.frame;
  spare = vec_capacity r.frame.spare.words;
}

-- what has come of a frame is kept while the stream is read, and nothing afterwards
abbrev pub KeepsUp : Mode → Bounds → Status → Rest → Type 0
KeepsUp mode limits statuses.Reading r = IsRest mode limits r
KeepsUp mode limits statuses.Failed r = IsBlank r
KeepsUp mode limits (statuses.Refusing fault) r = IsBlank r

-- a fault is reported whatever comes: it was reported before, or kept
abbrev pub IsReportedBy : Status → FrameFault → Type 0
IsReportedBy statuses.Failed fault = fault ≡ faults.Failed
IsReportedBy (statuses.Refusing kept) fault = fault ≡ kept
IsReportedBy statuses.Reading fault = ⊥

-- the form and the limits of a stream stay
abbrev pub IsSameStream : OpenStream → OpenStream → Type 0
IsSameStream old new = (new.mode ≡ old.mode) × (new.limits ≡ old.limits)
