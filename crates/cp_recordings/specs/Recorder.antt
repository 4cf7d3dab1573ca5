-- What is written of a recording: the frames of each end, in order, and a line of the times after them.
use Rattle.std.specs.Prelude.{◌≡◌, ◌⊎◌, ℕ, ◌+◌, ◌<◌, Option, List, [], ◌++◌, length}
use Rattle.std.specs.Io.KnownBytes.{Appends}
use Rattle.cp_stream.specs.declared.tap.Tap.{Tap}
use Rattle.cp_stream.specs.declared.device.DeviceError.{DeviceError}
use Rattle.cp_stream.specs.Tap.{inner_of}
use Rattle.cp_recordings.specs.declared.side.Side.{Side}
use Rattle.cp_recordings.specs.declared.side.Side.TheVariants as sides
use Rattle.cp_recordings.specs.declared.recorder.Recorder.{Recorder}
use Rattle.cp_recordings.specs.declared.recorder.RecordFault.{RecordFault}
use Rattle.cp_recordings.specs.declared.recorder.RecordFault.TheVariants as faults

-- the file of an end
abbrev pub track_of : {W : Type 0} → Recorder W → Side → Tap W
track_of r sides.Client = r.client
track_of r sides.Server = r.server

abbrev pub opposite : Side → Side
opposite sides.Client = sides.Server
opposite sides.Server = sides.Client

-- These are the three files, to which nothing was written.
pub record IsFresh {W : Type 0} (r : Recorder W) (c s t : W) : Type 0 where
  pub client : inner_of r.client ≡ c
  pub server : inner_of r.server ≡ s
  pub times : inner_of r.times ≡ t

-- these bytes come after what a file has
abbrev pub Grows : {W : Type 0} → (W → Option (List ℕ)) → Tap W → Tap W → List ℕ → Type 0
Grows contents old new b = Appends (contents (inner_of old)) (contents (inner_of new)) b

-- Frames of an end come after what its file has, and the other files stay.
pub record Sends {W : Type 0} (contents : W → Option (List ℕ)) (old new : Recorder W) (side : Side) (frames : List ℕ) : Type 0 where
  pub grows : Grows contents (track_of old side) (track_of new side) frames
  pub other : track_of new (opposite side) ≡ track_of old (opposite side)
  pub times : new.times ≡ old.times

-- A beginning of the frames does.
pub record SendsUpTo {W : Type 0} (contents : W → Option (List ℕ)) (old new : Recorder W) (side : Side) (frames : List ℕ) : Type 0 where
  pub sent : List ℕ
  pub unsent : List ℕ
  pub splits : frames ≡ sent ++ unsent
  pub sends : Sends contents old new side sent

-- Frames of an end come after what its file has, and then a line after the times. The other end's file stays.
pub record Records {W : Type 0} (contents : W → Option (List ℕ)) (old new : Recorder W) (side : Side) (frames line : List ℕ) : Type 0 where
  pub grows : Grows contents (track_of old side) (track_of new side) frames
  pub other : track_of new (opposite side) ≡ track_of old (opposite side)
  pub times : Grows contents old.times new.times line

-- All frames and a line are written, for as many bytes of those that are left.
pub record RecordsFrames {W : Type 0} (contents : W → Option (List ℕ)) (old new : Recorder W) (side : Side) (frames : List ℕ) (left rest : ℕ) : Type 0 where
  pub line : List ℕ
  pub records : Records contents old new side frames line
  pub paid : rest + (length frames + length line) ≡ left

-- A beginning of the frames and of the line is written, of the line only after all frames.
pub record RecordsUpTo {W : Type 0} (contents : W → Option (List ℕ)) (old new : Recorder W) (side : Side) (frames : List ℕ) : Type 0 where
  pub sent : List ℕ
  pub unsent : List ℕ
  pub noted : List ℕ
  pub splits : frames ≡ sent ++ unsent
  pub records : Records contents old new side sent noted
  pub ordered : (unsent ≡ []) ⊎ (noted ≡ [])

-- a fault of a device
abbrev pub IsDevice : RecordFault → Type 0
IsDevice fault = (error : DeviceError) × (fault ≡ faults.Device error)

-- Nothing is written, where more would be than may be or memory runs out; or a device failed.
abbrev pub Stops : {W : Type 0} → (W → Option (List ℕ)) → Recorder W → Recorder W → Side → List ℕ → ℕ → ℕ → RecordFault → Type 0
Stops contents old new side frames left rest faults.Bound = (new ≡ old) × (rest ≡ left) × (line : List ℕ) × (left < length frames + length line)
Stops contents old new side frames left rest faults.OutOfMemory = (new ≡ old) × (rest ≡ left)
Stops contents old new side frames left rest (faults.Device error) = RecordsUpTo contents old new side frames
