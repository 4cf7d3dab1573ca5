-- Contents of calls and outcomes, as frames.
use Rattle.std.specs.Prelude.{◌≡◌, ◌≢◌, ◌⊎◌, List, [], ◌++◌, ℕ, Option, None, Some}
use Rattle.cp_words.specs.Limits.{Bounds, standard}
use Rattle.cp_tree.specs.Node.{Node, null}
use Rattle.cp_reading.specs.Denotes.{Root}
use Rattle.cp_writing.specs.Layout.{Layout}
use Rattle.cp_writing.specs.Writes.{IsWriteFaultOf}
use Rattle.cp_frame.specs.declared.mode.Mode.TheVariants as modes
use Rattle.cp_frame.specs.Frame.{Frame, Written, IsRefusedFor}
use Rattle.cp_stream.specs.declared.fault.Refusal.TheVariants as refusals
use Rattle.c_handles.specs.declared.code.CallFault.{CallFault}
use Rattle.c_handles.specs.declared.code.CallFault.TheVariants as faults
use Rattle.c_handles.specs.Reader.{capacity_of}
use Rattle.c_handles.specs.Check.{BeginsWithNone, HoldsNoStruct}
use Rattle.c_handles.specs.Fault.{no_memory}

-- the bytes are one plain frame of these segments; or they are none
abbrev pub IsOneFrame : List ℕ → Option (List (List ℕ)) → Type 0
IsOneFrame b None = b ≡ []
IsOneFrame b (Some S) = Frame modes.Plain standard S b

-- other bytes follow a plain frame
pub record RunsOn (b : List ℕ) : Type 0 where
  pub segments : List (List ℕ)
  pub front : List ℕ
  pub back : List ℕ
  pub splits : b ≡ front ++ back
  pub more : back ≢ []
  pub is_frame : Frame modes.Plain standard segments front

-- why bytes aren't one plain frame: they begin with none, or other bytes follow it
abbrev pub IsNotOneFrame : List ℕ → CallFault → Type 0
IsNotOneFrame b (faults.Refused (refusals.Frame fault)) = BeginsWithNone standard modes.Plain b fault
IsNotOneFrame b faults.Argument = RunsOn b
IsNotOneFrame b other = ⊥

-- why segments hold no struct: their first fault; or memory ran out
abbrev pub HasNoStruct : List (List ℕ) → CallFault → Type 0
HasNoStruct S fault = HoldsNoStruct standard S fault ⊎ (fault ≡ no_memory)

-- the bytes hold the content: none are null, and a plain frame holds its struct
abbrev pub HoldsContent : List ℕ → Node → Type 0
HoldsContent b content = ((b ≡ []) × (content ≡ null)) ⊎ ((S : List (List ℕ)) × Frame modes.Plain standard S b × Root S standard content)

-- why bytes hold no content: they aren't one plain frame, or it holds no struct
abbrev pub HoldsNoContent : List ℕ → CallFault → Type 0
HoldsNoContent b fault = IsNotOneFrame b fault ⊎ ((S : List (List ℕ)) × Frame modes.Plain standard S b × HasNoStruct S fault)

-- the content is laid out, in segments as long as a frame may be
abbrev pub IsLaidOut : Bounds → Node → List (List ℕ) → Type 0
IsLaidOut limits content S = Layout S (capacity_of limits limits.frame_words) content

-- why it isn't
abbrev pub HasNoLayout : Bounds → Node → CallFault → Type 0
HasNoLayout limits content (faults.Refused (refusals.Write fault)) = IsWriteFaultOf limits (capacity_of limits limits.frame_words) content fault
HasNoLayout limits content other = ⊥

-- the bytes are a plain frame whose root is the content
abbrev pub IsContentFrame : Bounds → Node → List ℕ → Type 0
IsContentFrame limits content b = (S : List (List ℕ)) × IsLaidOut limits content S × Written modes.Plain limits S b

-- why there is no such frame: the content has no layout, or memory ran out
abbrev pub HasNoFrame : Bounds → Node → CallFault → Type 0
HasNoFrame limits content (faults.Refused (refusals.Frame fault)) = (S : List (List ℕ)) × IsLaidOut limits content S × IsRefusedFor limits S fault
HasNoFrame limits content fault = HasNoLayout limits content fault
