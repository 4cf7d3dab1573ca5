-- A mark that is under an embargo.
use Rattle.std.specs.Prelude.{ℕ, if◌then◌else◌, Option}
use Rattle.std.specs.declared.cmp.Ordering.{Ordering}
use Rattle.std.specs.FinMap.{FinMap, get, remove}
use Rattle.cp_vat_machine.specs.Resolving.{is_under}

-- the marks without that of a key, if it is under the embargo
abbrev pub unmarked : {K : Type 0} {R : K → K → Ordering} → FinMap R (Option ℕ) → K → ℕ → FinMap R (Option ℕ)
unmarked marks key n = if is_under n (get marks key) then remove marks key else marks
