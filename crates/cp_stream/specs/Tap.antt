-- What a tap counts.
use Rattle.std.specs.Prelude.{◌≡◌, ℕ, ◌+◌, ◌%◌, ◌^◌, Result, Ok, Err, zero, suc}
use Rattle.cp_stream.specs.declared.tap.Tap.{Tap}

-- the reader or the writer
abbrev pub inner_of : {T : Type 0} → Tap T → T
inner_of tap = tap.inner

-- how many calls failed
abbrev pub failures_of : {T : Type 0} → Tap T → ℕ
failures_of tap = tap.failures

-- how many bytes went through
abbrev pub bytes_of : {T : Type 0} → Tap T → ℕ
bytes_of tap = tap.bytes

-- one call more failed, and no byte went through
pub record Fails {T : Type 0} (old new : Tap T) : Type 0 where
  pub failures : failures_of new ≡ (failures_of old + 1) % 2 ^ 64
  pub bytes : bytes_of new ≡ bytes_of old

-- this many bytes more went through, and no call failed
pub record Moves {T : Type 0} (old new : Tap T) (count : ℕ) : Type 0 where
  pub failures : failures_of new ≡ failures_of old
  pub bytes : bytes_of new ≡ (bytes_of old + count) % 2 ^ 64

-- a read that gives bytes moves them, and an error is a failure
abbrev pub CountsRead : {T E : Type 0} → Tap T → Tap T → Result ℕ E → Type 0
CountsRead old new (Ok count) = Moves old new count
CountsRead old new (Err error) = Fails old new

-- a write that takes bytes moves them; one that takes none, and an error, are failures
abbrev pub CountsWrite : {T E : Type 0} → Tap T → Tap T → Result ℕ E → Type 0
CountsWrite old new (Ok zero) = Fails old new
CountsWrite old new (Ok (suc n)) = Moves old new (suc n)
CountsWrite old new (Err error) = Fails old new

-- no call failed, and no byte went through
pub record Stays {T : Type 0} (old new : Tap T) : Type 0 where
  pub failures : failures_of new ≡ failures_of old
  pub bytes : bytes_of new ≡ bytes_of old

-- a flush moves no byte, and an error of it is a failure
abbrev pub CountsFlush : {T U E : Type 0} → Tap T → Tap T → Result U E → Type 0
CountsFlush old new (Ok done) = Stays old new
CountsFlush old new (Err error) = Fails old new
