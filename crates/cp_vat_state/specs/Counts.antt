-- How often imports, promises and questions are held.
use Rattle.std.specs.Prelude.{◌≡◌, ℕ, ◌+◌, ◌-◌, Bool, cond, List, Option}
use Rattle.std.specs.List.{count_by}
use Rattle.std.specs.Option.{unwrap_or}
use Rattle.std.specs.FinMap.{get}
use Rattle.cp_tables.specs.Table.{Table}
use Rattle.cp_refs.specs.declared.cap.Cap.{Cap}
use Rattle.cp_vat_state.specs.Sought.{is_sought, is_named, key_of}
use Rattle.cp_vat_state.specs.declared.sought.Sought.{Sought}
use Rattle.cp_vat_state.specs.declared.holders.Holders.{Holders}

-- how often a number was counted
abbrev pub count_at : Table ℕ → ℕ → ℕ
count_at counts n = unwrap_or (get counts n) 0

-- 1 where it is so
abbrev pub once : Bool → ℕ
once b = cond b 1 0

-- how often it is held
abbrev pub number_of : Holders → Sought → ℕ
number_of h s = count_at h.counts (key_of s)

-- how often it is what is named
abbrev pub times_named : Option Sought → Sought → ℕ
times_named named s = once (is_named s named)

-- how often it is among capabilities
abbrev pub times_in : List Cap → Sought → ℕ
times_in caps s = count_by (is_sought s) caps

-- each is held this much more often, this much less often, or as often
abbrev pub IsMore : Holders → Holders → (Sought → ℕ) → Type 0
IsMore old new times = (s : Sought) → number_of new s ≡ number_of old s + times s

abbrev pub IsLess : Holders → Holders → (Sought → ℕ) → Type 0
IsLess old new times = (s : Sought) → number_of new s ≡ number_of old s - times s

abbrev pub IsSame : Holders → Holders → Type 0
IsSame old new = (s : Sought) → number_of new s ≡ number_of old s
