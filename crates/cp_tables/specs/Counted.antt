-- An entry of the exports or the imports. (rpc.capnp: `ExportId`, `ImportId`, "Release".)
use Rattle.std.specs.Prelude.{ℕ, ◌^◌, ◌<◌, IfSome, refl}
use Rattle.std.specs.Option.{option_map_or}
use Rattle.std.specs.Coded.{Coded, code_by, coded×, coded_ℕ}
use Rattle.std.specs.FinMap.{get}
use Rattle.cp_tables.specs.Table.{Table, with_change}
use Rattle.cp_tables.specs.declared.counted.Counted.{Counted}

-- a count is above 0 and fits its 32 bits
abbrev pub IsCount : ℕ → Type 0
IsCount n = (0 < n) × (n < 2 ^ 32)

module _ {X : Type 0} where
  -- an entry is stored as the pair of its parts
  abbrev pub counted_code : Coded X → Coded (Counted X)
  counted_code code =
      code_by (ℕ × X) (coded× coded_ℕ code) (λ entry. (entry.count, entry.kept)) (λ parts. record { count = parts.0; kept = parts.1 }) (λ _. refl)

  -- a new entry is counted once
  abbrev pub new_counted : X → Counted X
  new_counted kept = record { count = 1; kept = kept }

  -- the count under this number, 0 where there is no entry
  abbrev pub count_of : Table (Counted X) → ℕ → ℕ
  count_of table id = option_map_or (λ entry. entry.count) (get table id) 0

  -- what is under each number is a count
  abbrev pub AreCounts : Table (Counted X) → Type 0
  AreCounts table = (id : ℕ) → IfSome (get table id) (λ entry. IsCount entry.count)

  -- the table with this count under this number, where there is an entry
  abbrev pub with_count : Table (Counted X) → ℕ → ℕ → Table (Counted X)
  with_count table id count = with_change table id (λ entry. record entry { count = count })

  -- the table with this kept with the entry under this number
  abbrev pub with_kept : Table (Counted X) → ℕ → X → Table (Counted X)
  with_kept table id kept = with_change table id (λ entry. record entry { kept = kept })
