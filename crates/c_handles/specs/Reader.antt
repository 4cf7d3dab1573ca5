-- What the calls of a reader do.
use Rattle.std.specs.Prelude.{◌≡◌, ℕ, ◌+◌, List, [], ◌∷◌, length, Option, None, Some, Result, Ok, Err}
use Rattle.cp_words.specs.Limits.{Bounds}
use Rattle.cp_tree.specs.Node.{Node}
use Rattle.cp_reading.specs.Denotes.{Root}
use Rattle.cp_reading.specs.Answers.{IsRefusalOf}
use Rattle.cp_writing.specs.Layout.{Layout, Capacity}
use Rattle.cp_writing.specs.Writes.{IsWriteFaultOf}
use Rattle.cp_canonical.specs.Canonical.{IsCanonicalMessage, IsFormOf, IsMessageRefusal, IsNotCanonical}
use Rattle.cp_frame.specs.declared.mode.Mode.{Mode}
use Rattle.cp_frame.specs.declared.fault.FrameFault.{FrameFault}
use Rattle.cp_frame.specs.Frame.{Written, IsRefusedFor}
use Rattle.cp_frame.specs.Reader.{Gives, GivesNext, Reports}
use Rattle.cp_stream.specs.declared.fault.Refusal.TheVariants as refusals
use Rattle.c_handles.specs.declared.code.CallFault.{CallFault}
use Rattle.c_handles.specs.declared.code.CallFault.TheVariants as faults
use Rattle.c_handles.specs.declared.message.MessageNumbers.{MessageNumbers}
use Rattle.c_handles.specs.declared.reader.ReaderState.{ReaderState}
use Rattle.c_handles.specs.Message.{HasNumbers}
use Rattle.c_handles.specs.Check.{HoldsNoMessage, HoldsStruct, HoldsNoStruct}

-- The frame, the limits and what was read of the stream are as before.
pub record Keeps (old new : ReaderState) : Type 0 where
  pub limits : new.limits ≡ old.limits
  pub frames : new.frames ≡ old.frames
  pub came : new.came ≡ old.came

-- The first bytes of the piece end a frame of these segments.
pub record TakesFrame (old : ReaderState) (piece : List ℕ) (number : ℕ) (new : ReaderState) (S : List (List ℕ)) : Type 0 where
  pub size : ℕ
  pub back : List ℕ
  pub next : GivesNext old.frames piece size S new.frames back
  pub rest : number + length back ≡ length piece

-- a frame came with the first bytes of the piece, or none ends in it
abbrev pub TakesUpTo : ReaderState → List ℕ → ℕ → ReaderState → Option (List (List ℕ)) → Type 0
TakesUpTo old piece number new (Some S) = TakesFrame old piece number new S
TakesUpTo old piece number new None = Gives old.frames piece new.frames [] × (number ≡ length piece)

-- the piece was taken up to the end of a frame, or a fault was reported, and no frame is there
abbrev pub TakesAs : ReaderState → List ℕ → ReaderState → Result ℕ FrameFault → Type 0
TakesAs old piece new (Ok number) = TakesUpTo old piece number new new.came
TakesAs old piece new (Err fault) = Reports old.frames piece new.frames fault × (new.came ≡ None)

-- What a call takes, and nothing is lent.
pub record Takes (old : ReaderState) (piece : List ℕ) (new : ReaderState) (taken : Result ℕ FrameFault) : Type 0 where
  pub takes : TakesAs old piece new taken
  pub limits : new.limits ≡ old.limits
  pub nothing : new.lent.items ≡ []

-- the frame's message has these numbers
abbrev pub IsMessage : Bounds → Option (List (List ℕ)) → MessageNumbers → Type 0
IsMessage limits None n = ⊥
IsMessage limits (Some S) n = HasNumbers limits S n

-- why there is no message: there is no frame, or its segments hold none
abbrev pub IsNoMessage : Bounds → Option (List (List ℕ)) → CallFault → Type 0
IsNoMessage limits None fault = fault ≡ faults.NoFrame
IsNoMessage limits (Some S) fault = HoldsNoMessage limits S fault

-- the frame holds a struct
abbrev pub IsStruct : Bounds → Option (List (List ℕ)) → Type 0
IsStruct limits None = ⊥
IsStruct limits (Some S) = HoldsStruct limits S

-- why there is no struct: there is no frame, or its first fault
abbrev pub IsNoStruct : Bounds → Option (List (List ℕ)) → CallFault → Type 0
IsNoStruct limits None fault = fault ≡ faults.NoFrame
IsNoStruct limits (Some S) fault = HoldsNoStruct limits S fault

-- the bytes are what is written of the frame
abbrev pub Writes : Mode → Bounds → Option (List (List ℕ)) → List ℕ → Type 0
Writes mode limits None b = ⊥
Writes mode limits (Some S) b = Written mode limits S b

-- why nothing is written: there is no frame, or a limit is passed, or memory ran out
abbrev pub IsUnwritten : Bounds → Option (List (List ℕ)) → CallFault → Type 0
IsUnwritten limits None fault = fault ≡ faults.NoFrame
IsUnwritten limits (Some S) (faults.Refused (refusals.Frame fault)) = IsRefusedFor limits S fault
IsUnwritten limits (Some S) other = ⊥

-- segments of at most this many words each
abbrev pub capacity_of : Bounds → ℕ → Capacity
capacity_of limits words = record { words = words; segments = limits.segments }

-- the segments are those that the struct of a frame is laid out in
abbrev pub IsCutOf : Bounds → List (List ℕ) → ℕ → List (List ℕ) → Type 0
IsCutOf limits S words L = (t : Node) × Root S limits t × Layout L (capacity_of limits words) t

-- why the struct of a frame isn't laid out: there is none, or it doesn't fit
abbrev pub HasNoCut : Bounds → List (List ℕ) → ℕ → CallFault → Type 0
HasNoCut limits S words (faults.Refused (refusals.Tree fault)) = IsRefusalOf S limits fault
HasNoCut limits S words (faults.Refused (refusals.Write fault)) = (t : Node) × Root S limits t × IsWriteFaultOf limits (capacity_of limits words) t fault
HasNoCut limits S words other = ⊥

-- the bytes are what is written of the frame's struct, laid out anew
abbrev pub Recuts : Mode → ℕ → Bounds → Option (List (List ℕ)) → List ℕ → Type 0
Recuts mode words limits None b = ⊥
Recuts mode words limits (Some S) b = (L : List (List ℕ)) × IsCutOf limits S words L × Written mode limits L b

-- why nothing is laid out anew: there is no frame, or no struct, or it doesn't fit, or memory ran out
abbrev pub IsUncut : ℕ → Bounds → Option (List (List ℕ)) → CallFault → Type 0
IsUncut words limits None fault = fault ≡ faults.NoFrame
IsUncut words limits (Some S) (faults.Refused (refusals.Frame fault)) = (L : List (List ℕ)) × IsCutOf limits S words L × IsRefusedFor limits L fault
IsUncut words limits (Some S) fault = HasNoCut limits S words fault

-- the segments are the one of the canonical form of a frame's message
abbrev pub IsForm : Bounds → List (List ℕ) → List (List ℕ) → Type 0
IsForm limits S F = (ws : List ℕ) × (F ≡ ws ∷ []) × IsFormOf S limits ws

-- why it has none
abbrev pub IsFormless : Bounds → List (List ℕ) → CallFault → Type 0
IsFormless limits S (faults.NotCanonical fault) = IsMessageRefusal S limits fault
IsFormless limits S other = ⊥

-- the bytes are what is written of the canonical form
abbrev pub WritesForm : Mode → Bounds → Option (List (List ℕ)) → List ℕ → Type 0
WritesForm mode limits None b = ⊥
WritesForm mode limits (Some S) b = (F : List (List ℕ)) × IsForm limits S F × Written mode limits F b

-- why no canonical form is written: there is no frame, or it has none, or memory ran out
abbrev pub IsFormUnwritten : Bounds → Option (List (List ℕ)) → CallFault → Type 0
IsFormUnwritten limits None fault = fault ≡ faults.NoFrame
IsFormUnwritten limits (Some S) (faults.Refused (refusals.Frame fault)) = (F : List (List ℕ)) × IsForm limits S F × IsRefusedFor limits F fault
IsFormUnwritten limits (Some S) fault = IsFormless limits S fault

-- the frame's message is canonical
abbrev pub IsCanonicalFrame : Bounds → Option (List (List ℕ)) → Type 0
IsCanonicalFrame limits None = ⊥
IsCanonicalFrame limits (Some S) = IsCanonicalMessage S limits

-- why it isn't
abbrev pub IsNoCanonicalFrame : Bounds → Option (List (List ℕ)) → CallFault → Type 0
IsNoCanonicalFrame limits None fault = fault ≡ faults.NoFrame
IsNoCanonicalFrame limits (Some S) (faults.NotCanonical fault) = IsNotCanonical S limits fault
IsNoCanonicalFrame limits (Some S) other = ⊥
