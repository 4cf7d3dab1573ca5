-- How many objects hold each import.
use Rattle.std.specs.Prelude.{ℕ, ◌+◌, ◌-◌, nat_lt, if◌then◌else◌, List, [], ◌∷◌}
use Rattle.std.specs.Option.{unwrap_or}
use Rattle.std.specs.FinMap.{get, insert, remove}
use Rattle.cp_tables.specs.Table.{Table}

-- how many objects hold an import
abbrev pub holders : Table ℕ → ℕ → ℕ
holders held i = unwrap_or (get held i) 0

-- an object more holds it
abbrev pub held_by_one_more : Table ℕ → ℕ → Table ℕ
held_by_one_more held i = insert held i (holders held i + 1)

-- it is held once less
abbrev pub lowered : Table ℕ → ℕ → Table ℕ
lowered held i = if nat_lt 1 (holders held i) then insert held i (holders held i - 1) else remove held i

-- each of these imports is held once less
abbrev pub held_by_less : Table ℕ → List ℕ → Table ℕ
held_by_less held [] = held
held_by_less held (i ∷ more) = held_by_less (lowered held i) more

-- an object more holds each of these imports
abbrev pub held_by_more : Table ℕ → List ℕ → Table ℕ
held_by_more held [] = held
held_by_more held (i ∷ more) = held_by_more (held_by_one_more held i) more
