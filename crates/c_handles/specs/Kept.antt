-- What loops keep. No public clause names these.
use Rattle.std.specs.Prelude.{◌≡◌, ◌⊎◌, ℕ, ◌+◌, ◌≤◌, List, [], ◌++◌, length}
use Rattle.std.specs.List.{AllByRecursion}
use Rattle.cp_words.specs.Limits.{Bounds}
use Rattle.cp_frame.specs.declared.mode.Mode.{Mode}
use Rattle.cp_frame.specs.declared.fault.FrameFault.{FrameFault}
use Rattle.cp_frame.specs.declared.fault.FrameFault.TheVariants as framing
use Rattle.cp_frame.specs.Stream.{Frames, Open}
use Rattle.cp_frame.specs.Reader.{Reader, StandsFor, Gives, Reports}
use Rattle.c_handles.specs.Check.{IsOfKind}

-- Of the bytes, all but what is left were read: this many frames, each with what is asked for.
pub record IsCounted (limits : Bounds) (mode : Mode) (kind : ℕ) (bytes : List ℕ) (reader : Reader) (number : ℕ) (left : List ℕ) : Type 0 where
  pub fed : List ℕ
  pub given : List (ℕ × List (List ℕ))
  pub splits : bytes ≡ fed ++ left
  pub frames : Frames mode limits fed given []
  pub stands : StandsFor reader []
  pub nothing : Open mode limits []
  pub same_mode : reader.mode ≡ mode
  pub same_limits : reader.limits ≡ limits
  pub each : AllByRecursion (λ f. IsOfKind limits kind f.1) given
  pub number_is : number ≡ length given
  pub few : number + length left ≤ length bytes

-- why a reader gives no frame of the bytes that end a stream: it reports a fault, or no frame ends in them
abbrev pub GivesNoFrame : Reader → List ℕ → Reader → FrameFault → Type 0
GivesNoFrame old left new fault = Reports old left new fault ⊎ (Gives old left new [] × (fault ≡ framing.Truncated))
