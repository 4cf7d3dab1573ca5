-- How often a program holds each capability of the peer.
use Rattle.std.specs.Prelude.{ℕ, ◌+◌, ◌-◌, nat_lt, if◌then◌else◌, List, [], ◌∷◌, drop}
use Rattle.std.specs.Option.{unwrap_or}
use Rattle.std.specs.FinMap.{get, insert, remove}
use Rattle.cp_tables.specs.Table.{Table}
use Rattle.cp_refs.specs.declared.cap.Cap.{Cap}
use Rattle.cp_refs.specs.declared.cap.Cap.TheVariants as caps

-- how often an import is held
abbrev pub held : Table ℕ → ℕ → ℕ
held holds i = unwrap_or (get holds i) 0

-- it is held once less
abbrev pub held_less : Table ℕ → ℕ → Table ℕ
held_less holds i = if nat_lt 1 (held holds i) then insert holds i (held holds i - 1) else remove holds i

-- the program is given a capability: an import is held once more
abbrev pub given : Table ℕ → Cap → Table ℕ
given holds (caps.Import i) = insert holds i (held holds i + 1)
given holds other = holds

-- it is given each of these
abbrev pub given_each : Table ℕ → List Cap → Table ℕ
given_each holds [] = holds
given_each holds (c ∷ cs) = given_each (given holds c) cs

-- it is given each capability of a table from this place on
abbrev pub counted_from : ℕ → List Cap → Table ℕ → Table ℕ
counted_from place table holds = given_each holds (drop place table)
