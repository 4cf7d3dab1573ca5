-- Entries that lie side by side, under numbers whose places a table keeps.
use Rattle.std.specs.Prelude.{◌≡◌, ℕ, List, [], ◌∷◌, Option, Some, IsSome, IfSome}
use Rattle.std.specs.Option.{option_map_or}
use Rattle.std.specs.FinMap.{get, len, entries, from_entries}
use Rattle.cp_tables.specs.Table.{Table}

module _ {X : Type 0} where
  -- what lies at the place of each number
  abbrev pub lying : Table X → List (ℕ × ℕ) → List (ℕ × X)
  lying slots [] = []
  lying slots (at ∷ rest) = option_map_or (λ x. (at.0, x) ∷ lying slots rest) (get slots at.1) (lying slots rest)

  -- the table of what lies at the place of each number
  abbrev pub placed : Table ℕ → Table X → Table X
  placed places slots = from_entries (lying slots (entries places))

  -- something lies at each number's place, no two numbers have the same, and nothing else lies there; the number that
  -- was opened last has this place
  pub record IsPlaced (places : Table ℕ) (slots : Table X) (last : Option (ℕ × ℕ)) : Type 0 where
    pub held : (id : ℕ) → IfSome (get places id) (λ place. IsSome (get slots place))
    pub apart : (id other place : ℕ) → get places id ≡ Some place → get places other ≡ Some place → id ≡ other
    pub alike : len slots ≡ len places
    pub counted : len (placed places slots) ≡ len places
    pub found : IfSome last (λ at. get places at.0 ≡ Some at.1)
