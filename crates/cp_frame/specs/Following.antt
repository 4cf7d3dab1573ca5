-- A frame of a piece, and what follows it. No public clause names these.
use Rattle.std.specs.Prelude.{◌≡◌, ℕ, ◌<◌, List, [], ◌++◌, length}
use Rattle.cp_words.specs.Limits.{Bounds}
use Rattle.cp_frame.specs.declared.fault.FrameFault.{FrameFault}
use Rattle.cp_frame.specs.declared.mode.Mode.{Mode}
use Rattle.cp_frame.specs.declared.mode.Mode.TheVariants as modes
use Rattle.cp_frame.specs.declared.frame.OpenFrame.{OpenFrame}
use Rattle.cp_frame.specs.declared.rest.Rest.{Rest}
use Rattle.cp_frame.specs.Frame.{Frame}
use Rattle.cp_frame.specs.Parts.{IsEmpty, rest_of}
use Rattle.cp_frame.specs.Stream.{HasFault}
use Rattle.cp_frame.specs.Rest.{IsRest, KeptFor, Reads}

-- A front of the piece ends the plain frame of which a part had come. Nothing of another has come.
pub record EndsFrame (limits : Bounds) (old : OpenFrame) (piece : List ℕ) (taken : ℕ) (S : List (List ℕ)) (new : OpenFrame) (back : List ℕ) : Type 0 where
  pub front : List ℕ
  pub whole : piece ≡ front ++ back
  pub shorter : length back < length piece
  pub count : taken ≡ length (rest_of old ++ front)
  pub frame : Frame modes.Plain limits S (rest_of old ++ front)
  pub empty : IsEmpty new

-- The same, of a stream in either form.
pub record StopsAt (mode : Mode) (limits : Bounds) (old : Rest) (piece : List ℕ) (taken : ℕ) (S : List (List ℕ)) (new : Rest) (back : List ℕ) : Type 0 where
  pub front : List ℕ
  pub whole : piece ≡ front ++ back
  pub shorter : length back < length piece
  pub count : (b : List ℕ) → KeptFor mode limits old b → taken ≡ length (b ++ front)
  pub frame : (b : List ℕ) → KeptFor mode limits old b → Frame mode limits S (b ++ front)
  pub begun : IsRest mode limits new
  pub fresh : KeptFor mode limits new []

-- No frame ends in the piece, and it was kept.
pub record GoesThrough (mode : Mode) (limits : Bounds) (old : Rest) (piece : List ℕ) (new : Rest) : Type 0 where
  pub begun : IsRest mode limits new
  pub keeps : (b : List ℕ) → KeptFor mode limits old b → KeptFor mode limits new (b ++ piece)

-- the rest has this fault with the piece
abbrev pub HasThere : Mode → Bounds → Rest → List ℕ → FrameFault → Type 0
HasThere mode limits old piece fault = (b : List ℕ) → KeptFor mode limits old b → HasFault mode limits (b ++ piece) fault

-- Of the piece, all but what is left was read.
pub record HasRead (mode : Mode) (limits : Bounds) (old : Rest) (piece : List ℕ) (frames : List (ℕ × List (List ℕ))) (new : Rest) (left : List ℕ) : Type 0 where
  pub fed : List ℕ
  pub whole : piece ≡ fed ++ left
  pub begun : IsRest mode limits new
  pub reads : Reads mode limits old fed frames new
