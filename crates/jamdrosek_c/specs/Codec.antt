-- What the calls of C on whole buffers do.
use Rattle.std.specs.Prelude.{◌≡◌, ◌⊎◌, ℕ, ◌≤◌, List, length, Option, None, Some}
use Rattle.cp_words.specs.Limits.{Bounds, IsAllowed}
use Rattle.cp_packed.specs.Packed.{Packed, Spelt}
use Rattle.cp_frame.specs.declared.mode.Mode.{Mode}
use Rattle.cp_frame.specs.declared.fault.FrameFault.{FrameFault}
use Rattle.cp_frame.specs.Stream.{IsNotUnpackedFor}
use Rattle.c_handles.specs.declared.code.CallFault.{CallFault}
use Rattle.c_handles.specs.declared.code.Spot.{Spot}
use Rattle.c_handles.specs.Check.{Finds}
use Rattle.c_handles.specs.Given.{over}
use Rattle.c_handles.specs.Code.{code_of, spot_of, nowhere, frame_code}
use Rattle.jamdrosek_c.specs.declared.codec.Checked.{Checked}

-- The call answers 0 and these items, of which what fits is put into the buffer.
pub record Gives (items : List ℕ) (old new : List ℕ) (number code : ℕ) : Type 0 where
  pub number_is : number ≡ length items
  pub buffer_is : new ≡ over items old
  pub code_is : code ≡ 0

-- The call answers this fault, and the buffer is as it was.
pub record GivesNone (fault : FrameFault) (old new : List ℕ) (number code : ℕ) : Type 0 where
  pub number_is : number ≡ 0
  pub buffer_is : new ≡ old
  pub code_is : code ≡ frame_code fault

-- the words were packed as one piece, or memory ran out
abbrev pub Packs : List ℕ → List ℕ → List ℕ → ℕ → ℕ → Type 0
Packs words old new number code = ((bytes : List ℕ) × Spelt words bytes × Gives bytes old new number code) ⊎ ((number ≡ 0) × (new ≡ old) × (code ≡ 106))

-- the bytes were unpacked into words that fit the buffer, or a fault says why not
abbrev pub Unpacks : List ℕ → List ℕ → List ℕ → ℕ → ℕ → Type 0
Unpacks bytes old new number code =
    ((words : List ℕ) × Packed words bytes × (length words ≤ length old) × Gives words old new number code)
    ⊎ ((fault : FrameFault) × IsNotUnpackedFor bytes (length old) fault × GivesNone fault old new number code)

-- the number of the fault that a check found; 0 is none
abbrev pub found_code : Option CallFault → ℕ
found_code None = 0
found_code (Some fault) = code_of fault

-- what is to blame, where something is
abbrev pub found_spot : Option CallFault → Spot
found_spot None = nowhere
found_spot (Some fault) = spot_of fault

-- Within these limits a check finds a fault or none, which is told.
pub record TellsFound (limits : Bounds) (mode : Mode) (kind : ℕ) (b : List ℕ) (checked : Checked) (spot : Spot) (code : ℕ) : Type 0 where
  pub fault : Option CallFault
  pub finds : Finds limits mode kind b checked.frames checked.bytes fault
  pub spot_is : spot ≡ found_spot fault
  pub code_is : code ≡ found_code fault

-- the stream was checked within the limits; or one is out of its range, and nothing was read
abbrev pub Checks : Bounds → Mode → ℕ → List ℕ → Checked → Spot → ℕ → Type 0
Checks limits mode kind b checked spot code =
    (IsAllowed limits × TellsFound limits mode kind b checked spot code)
    ⊎ ((IsAllowed limits → ⊥) × (checked ≡ record { frames = 0; bytes = 0 }) × (spot ≡ nowhere) × (code ≡ 2))
