-- What the check of a whole stream finds.
use Rattle.std.specs.Prelude.{◌≡◌, ◌≢◌, ◌⊎◌, ℕ, zero, suc, List, [], ◌++◌, length, Option, None, Some}
use Rattle.std.specs.List.{AllByRecursion}
use Rattle.cp_words.specs.Limits.{Bounds}
use Rattle.cp_tree.specs.Node.{Node}
use Rattle.cp_reading.specs.Denotes.{Root}
use Rattle.cp_reading.specs.FirstFault.{IsFirstFault}
use Rattle.cp_frame.specs.declared.mode.Mode.{Mode}
use Rattle.cp_frame.specs.declared.fault.FrameFault.{FrameFault}
use Rattle.cp_frame.specs.declared.fault.FrameFault.TheVariants as framing
use Rattle.cp_frame.specs.Frame.{Frame}
use Rattle.cp_frame.specs.Stream.{Frames, HasFault, Open}
use Rattle.cp_messages.specs.declared.message.Message.{Message}
use Rattle.cp_stream.specs.Stream.{Holds, HoldsNone}
use Rattle.cp_stream.specs.declared.fault.Refusal.TheVariants as refusals
use Rattle.c_handles.specs.declared.code.CallFault.{CallFault}
use Rattle.c_handles.specs.declared.code.CallFault.TheVariants as faults

-- the segments hold a struct
abbrev pub HoldsStruct : Bounds → List (List ℕ) → Type 0
HoldsStruct limits S = (t : Node) × Root S limits t

-- why they hold no struct: their first fault
abbrev pub HoldsNoStruct : Bounds → List (List ℕ) → CallFault → Type 0
HoldsNoStruct limits S (faults.Refused (refusals.Tree fault)) = IsFirstFault S limits fault
HoldsNoStruct limits S other = ⊥

-- the segments hold a message
abbrev pub HoldsMessage : Bounds → List (List ℕ) → Type 0
HoldsMessage limits S = (m : Message) × Holds limits S m

-- why they hold no message
abbrev pub HoldsNoMessage : Bounds → List (List ℕ) → CallFault → Type 0
HoldsNoMessage limits S (faults.Refused refusal) = HoldsNone limits S refusal
HoldsNoMessage limits S other = ⊥

-- the segments have what is asked for: any words, a message, or a struct
abbrev pub IsOfKind : Bounds → ℕ → List (List ℕ) → Type 0
IsOfKind limits zero S = Unit {0}
IsOfKind limits (suc zero) S = HoldsMessage limits S
IsOfKind limits (suc (suc n)) S = HoldsStruct limits S

-- why they haven't
abbrev pub IsNotOfKind : Bounds → ℕ → List (List ℕ) → CallFault → Type 0
IsNotOfKind limits zero S fault = ⊥
IsNotOfKind limits (suc zero) S fault = HoldsNoMessage limits S fault
IsNotOfKind limits (suc (suc n)) S fault = HoldsNoStruct limits S fault

-- Within the limits the stream is this many frames, and each has what is asked for.
pub record CountsAll (limits : Bounds) (mode : Mode) (kind : ℕ) (b : List ℕ) (number : ℕ) : Type 0 where
  pub given : List (ℕ × List (List ℕ))
  pub frames : Frames mode limits b given []
  pub each : AllByRecursion (λ f. IsOfKind limits kind f.1) given
  pub number_is : number ≡ length given

-- why a rest begins with no frame: it ends inside one, or memory ran out, or it has the fault, whatever follows
abbrev pub BeginsWithNone : Bounds → Mode → List ℕ → FrameFault → Type 0
BeginsWithNone limits mode rest framing.Truncated = (rest ≢ []) × Open mode limits rest
BeginsWithNone limits mode rest framing.OutOfMemory = Unit {0}
BeginsWithNone limits mode rest fault = HasFault mode limits rest fault

-- the rest begins with a frame that hasn't what is asked for, and the fault says why
abbrev pub BeginsWithOther : Bounds → Mode → ℕ → List ℕ → CallFault → Type 0
BeginsWithOther limits mode kind rest fault =
    (S : List (List ℕ)) × (front : List ℕ) × (back : List ℕ) × (rest ≡ front ++ back) × Frame mode limits S front × IsNotOfKind limits kind S fault

-- why a check stops at a rest: it begins with no frame, or with one of something else
abbrev pub Stops : Bounds → Mode → ℕ → List ℕ → CallFault → Type 0
Stops limits mode kind rest fault =
    ((f : FrameFault) × (fault ≡ faults.Refused (refusals.Frame f)) × BeginsWithNone limits mode rest f) ⊎ BeginsWithOther limits mode kind rest fault

-- The stream begins with this many frames of what is asked for, which take this many bytes, and the check stops at what follows.
pub record StopsAfter (limits : Bounds) (mode : Mode) (kind : ℕ) (b : List ℕ) (number bytes : ℕ) (fault : CallFault) : Type 0 where
  pub front : List ℕ
  pub rest : List ℕ
  pub splits : b ≡ front ++ rest
  pub counts : CountsAll limits mode kind front number
  pub bytes_are : bytes ≡ length front
  pub stops : Stops limits mode kind rest fault

-- what a check finds: all of the stream is of what is asked for, or there is a first fault
abbrev pub Finds : Bounds → Mode → ℕ → List ℕ → ℕ → ℕ → Option CallFault → Type 0
Finds limits mode kind b number bytes None = CountsAll limits mode kind b number × (bytes ≡ length b)
Finds limits mode kind b number bytes (Some fault) = StopsAfter limits mode kind b number bytes fault
