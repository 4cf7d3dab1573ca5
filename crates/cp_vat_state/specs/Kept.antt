-- What values and outcomes hold, and how much memory they take.
use Rattle.std.specs.Prelude.{◌≡◌, ℕ, ◌+◌, ◌-◌, List}
use Rattle.cp_refs.specs.declared.cap.Cap.{Cap}
use Rattle.cp_vat_state.specs.Counts.{number_of, times_in, IsMore, IsLess, IsSame}
use Rattle.cp_vat_state.specs.declared.kept.KeptContents.{KeptContents}
use Rattle.cp_vat_state.specs.declared.sought.Sought.{Sought}

-- nothing is held, and no memory is taken
pub record KeepsNothing (kept : KeptContents) : Type 0 where
  pub held : (s : Sought) → number_of kept.holders s ≡ 0
  pub taken : kept.bytes ≡ 0

-- these capabilities are held once more, or once less, and so many bytes are taken more, or less; or nothing changed
pub record KeepsMore (old new : KeptContents) (caps : List Cap) (bytes : ℕ) : Type 0 where
  pub held : IsMore old.holders new.holders (times_in caps)
  pub taken : new.bytes ≡ old.bytes + bytes

pub record KeepsLess (old new : KeptContents) (caps : List Cap) (bytes : ℕ) : Type 0 where
  pub held : IsLess old.holders new.holders (times_in caps)
  pub taken : new.bytes ≡ old.bytes - bytes

pub record IsSameKept (old new : KeptContents) : Type 0 where
  pub held : IsSame old.holders new.holders
  pub taken : new.bytes ≡ old.bytes
