-- A table, as callers see it: a finite map from numbers to entries. (rpc.capnp: "Four Tables".)
use Rattle.std.specs.Prelude.{ℕ}
use Rattle.std.specs.Option.{option_map_or}
use Rattle.std.specs.Ordering.{nat_cmp}
use Rattle.std.specs.FinMap.{FinMap, get, insert}

-- entries by their numbers
abbrev pub Table : Type 0 → Type 0
Table X = FinMap nat_cmp X

-- the table with the entry under this number, if there is one, changed so
abbrev pub with_change : {X : Type 0} → Table X → ℕ → (X → X) → Table X
with_change table id change = option_map_or (λ entry. insert table id (change entry)) (get table id) table
