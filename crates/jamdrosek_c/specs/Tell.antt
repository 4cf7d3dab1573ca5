-- What a call answers C.
use Rattle.std.specs.Prelude.{◌≡◌, ◌⊎◌, ℕ, Bool, false, List, [], ◌∷◌, ◌++◌, length, Result, Ok, Err}
use Rattle.cp_frame.specs.declared.fault.FrameFault.{FrameFault}
use Rattle.c_handles.specs.declared.code.CallFault.{CallFault}
use Rattle.c_handles.specs.declared.code.Spot.{Spot}
use Rattle.c_handles.specs.declared.message.MessageNumbers.{MessageNumbers}
use Rattle.c_handles.specs.declared.event.EventNumbers.{EventNumbers}
use Rattle.c_handles.specs.Event.{nothing}
use Rattle.c_handles.specs.Code.{code_of, frame_code, spot_of, nowhere}
use Rattle.c_handles.specs.Given.{over}
use Rattle.c_handles.specs.Message.{of_kind}
use Rattle.jamdrosek_c.specs.declared.tell.Step.{Step}

-- how many bytes were taken and whether a frame is there, or the fault's number
abbrev pub TellsStep : Result ℕ FrameFault → Bool → Step → ℕ → Type 0
TellsStep (Ok number) has_frame step code = (step ≡ record { taken = number; has_frame = has_frame }) × (code ≡ 0)
TellsStep (Err fault) has_frame step code = (step ≡ record { taken = 0; has_frame = false }) × (code ≡ frame_code fault)

-- the fault's number; 0 is none
abbrev pub end_code : Result (Unit {0}) FrameFault → ℕ
end_code (Ok done) = 0
end_code (Err fault) = frame_code fault

abbrev pub done_code : Result (Unit {0}) CallFault → ℕ
done_code (Ok done) = 0
done_code (Err fault) = code_of fault

-- what is to blame, where something is
abbrev pub done_spot : Result (Unit {0}) CallFault → Spot
done_spot (Ok done) = nowhere
done_spot (Err fault) = spot_of fault

-- the fault's number, and what is to blame
pub record Tells (done : Result (Unit {0}) CallFault) (spot : Spot) (code : ℕ) : Type 0 where
  pub code_is : code ≡ done_code done
  pub spot_is : spot ≡ done_spot done

-- a number, or 0 and the fault's number
abbrev pub TellsNumber : Result ℕ CallFault → ℕ → ℕ → Type 0
TellsNumber (Ok number) out code = (out ≡ number) × (code ≡ 0)
TellsNumber (Err fault) out code = (out ≡ 0) × (code ≡ code_of fault)

-- the numbers of an event; or those of nothing, and the fault's number
abbrev pub TellsEvent : Result EventNumbers CallFault → EventNumbers → ℕ → Type 0
TellsEvent (Ok numbers) event code = (event ≡ numbers) × (code ≡ 0)
TellsEvent (Err fault) event code = (event ≡ nothing) × (code ≡ code_of fault)

-- the numbers of a message; or none, the fault's number, and what is to blame
abbrev pub TellsNumbers : Result MessageNumbers CallFault → MessageNumbers → Spot → ℕ → Type 0
TellsNumbers (Ok numbers) message spot code = (message ≡ numbers) × (spot ≡ nowhere) × (code ≡ 0)
TellsNumbers (Err fault) message spot code = (message ≡ of_kind 0) × (spot ≡ spot_of fault) × (code ≡ code_of fault)

-- a line and a zero byte after it, what fits of them in the buffer; or none, and the buffer as it was
abbrev pub IsLine : List ℕ → List ℕ → ℕ → Type 0
IsLine old new number = ((number ≡ 0) × (new ≡ old)) ⊎ ((line : List ℕ) × (number ≡ length line) × (new ≡ over (line ++ (0 ∷ [])) old))
