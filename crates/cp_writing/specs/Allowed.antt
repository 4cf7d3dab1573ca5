-- What the limits on nesting and on cost leave while a tree is written.
use Rattle.std.specs.Prelude.{◌≡◌, ℕ, ◌+◌, ◌<◌, ◌≤◌, Result, Ok, Err}
use Rattle.cp_tree.specs.declared.fault.WriteFault.{WriteFault}
use Rattle.cp_tree.specs.declared.fault.WriteFault.TheVariants as faults
use Rattle.cp_writing.specs.declared.arena.Arena.{Arena}
use Rattle.cp_writing.specs.Sheets.{Written, written, IsWithin, Refuses}

-- One level was gone down and its price taken from the budget, and else the arena stays. Or no level is left, or else the
-- budget is too little for the price.
abbrev pub Charges : Arena → Arena → ℕ → Result ℕ WriteFault → ℕ → Type 0
Charges old new levels (Ok below) price = (levels ≡ below + 1) × (old.budget ≡ price + new.budget) × (new ≡ record old { budget = new.budget })
Charges old new levels (Err faults.TooDeep) price = levels ≡ 0
Charges old new levels (Err faults.TooCostly) price = old.budget < price
Charges old new levels (Err other) price = ⊥

-- Trees of this depth and cost were written within this many levels, and the budget has paid for them; or they pass one of
-- these; or they weren't written, as the words are too many or memory ran out.
abbrev pub Lays : {X : Type 0} → Arena → Arena → ℕ → Result X WriteFault → ℕ → ℕ → Written → Type 0
Lays old new levels (Ok x) deep price wanted = (deep ≤ levels) × (old.budget ≡ price + new.budget) × (written new ≡ wanted) × IsWithin new × (new.capacity ≡ old.capacity)
Lays old new levels (Err faults.TooDeep) deep price wanted = levels < deep
Lays old new levels (Err faults.TooCostly) deep price wanted = old.budget < price
Lays old new levels (Err fault) deep price wanted = Refuses old.capacity fault wanted
