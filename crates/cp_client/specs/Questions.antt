-- The questions of a client.
use Rattle.std.specs.Prelude.{◌≡◌, ℕ, Option, Some, None}
use Rattle.std.specs.FinMap.{get, remove}
use Rattle.std.specs.Option.{option_flatten}
use Rattle.cp_refs.specs.declared.outcome.Outcome.{Outcome}
use Rattle.cp_client.specs.Conversation.{Asked}

-- the outcome of a question that is asked is taken out, if it came
abbrev pub TakesOut : Asked → ℕ → Option Outcome → Asked → Type 0
TakesOut old q (Some outcome) new = (get old q ≡ Some (Some outcome)) × (new ≡ remove old q)
TakesOut old q None new = (get old q ≡ Some None) × (new ≡ old)

-- the outcome of a question that came and wasn't given out, if one did
abbrev pub untaken : Asked → ℕ → Option Outcome
untaken asked q = option_flatten (get asked q)
