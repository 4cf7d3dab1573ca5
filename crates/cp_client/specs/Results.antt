-- What a question gives, or why nothing.
use Rattle.std.specs.Prelude.{◌≡◌, ◌⊎◌, ℕ, Err}
use Rattle.cp_objects.specs.ObjectTable.{ObjectTableKind}
use Rattle.cp_refs.specs.declared.outcome.Outcome.{Outcome}
use Rattle.cp_refs.specs.declared.outcome.Outcome.TheVariants as outcomes
use Rattle.cp_vat_machine.specs.declared.event.Event.TheVariants as events
use Rattle.cp_interfaces.specs.declared.payload.ResultPayload.{ResultPayload}
use Rattle.cp_interfaces.specs.Payloads.{Comes}
use Rattle.cp_client.specs.declared.fault.CallError.{CallError}
use Rattle.cp_client.specs.declared.fault.CallError.TheVariants as faults
use Rattle.cp_client.specs.declared.fault.ClientFault.{ClientFault}
use Rattle.cp_client.specs.Calls.{Finishes, IsUndone}
use Rattle.cp_client.specs.Conversation.{Conversation}
use Rattle.cp_client.specs.Waits.{Stops, Waits}

-- an outcome of this session is no results, for this reason
abbrev pub IsNone : ℕ → Outcome → CallError → Type 0
IsNone session outcome (faults.Client fault) = ⊥
IsNone session outcome (faults.NoResults reason) = Comes session outcome (Err reason)

-- The results of a question are given out, as those of the client's session.
abbrev pub GivesResults : {H : Type 0} → ObjectTableKind H → Conversation H → ℕ → ResultPayload → Conversation H → Type 0
GivesResults table old q r new = Waits table old q (outcomes.Results r.content r.caps) new × (r.session ≡ new.number)

-- No outcome is given out; or this one is, and it is no results.
abbrev pub GivesNone : {H : Type 0} → ObjectTableKind H → Conversation H → ℕ → CallError → Conversation H → Type 0
GivesNone table old q (faults.Client fault) new = Stops table old q fault new
GivesNone table old q (faults.NoResults reason) new = (outcome : Outcome) × Waits table old q outcome new × Comes new.number outcome (Err reason)

-- a question was given up, unless the connection refuses that
abbrev pub GivesUp : {H : Type 0} → ObjectTableKind H → Conversation H → ℕ → Conversation H → Type 0
GivesUp table old q new = Finishes table old q new ⊎ ((fault : ClientFault) × IsUndone old (events.Finish q) fault new)

-- So are they, and then the question was given up.
abbrev pub TakesResults : {H : Type 0} → ObjectTableKind H → Conversation H → ℕ → ResultPayload → Conversation H → Type 0
TakesResults table old q r new = (told : Conversation _) × GivesResults table old q r told × GivesUp table told q new

-- No outcome is given out; or one is that is no results, and then its question was given up.
abbrev pub TakesNone : {H : Type 0} → ObjectTableKind H → Conversation H → ℕ → CallError → Conversation H → Type 0
TakesNone table old q (faults.Client fault) new = Stops table old q fault new
TakesNone table old q (faults.NoResults reason) new = (told : Conversation _) × GivesNone table old q (faults.NoResults reason) told × GivesUp table told q new
