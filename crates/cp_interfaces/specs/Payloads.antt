-- What comes of a call.
use Rattle.std.specs.Prelude.{◌≡◌, ℕ, Result, Ok, Err}
use Rattle.cp_refs.specs.declared.outcome.Outcome.{Outcome}
use Rattle.cp_refs.specs.declared.outcome.Outcome.TheVariants as outcomes
use Rattle.cp_interfaces.specs.declared.payload.ResultPayload.{ResultPayload}
use Rattle.cp_interfaces.specs.declared.fault.NoResults.{NoResults}
use Rattle.cp_interfaces.specs.declared.fault.NoResults.TheVariants as faults

-- an outcome of this session is these results, or no results for this reason
abbrev pub Comes : ℕ → Outcome → Result ResultPayload NoResults → Type 0
Comes session outcome (Ok results) = (outcome ≡ outcomes.Results results.content results.caps) × (results.session ≡ session)
Comes session outcome (Err (faults.Failed exception)) = outcome ≡ outcomes.Failed exception
Comes session outcome (Err faults.Canceled) = outcome ≡ outcomes.Canceled
