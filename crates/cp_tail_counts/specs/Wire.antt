-- A vat behind tail calls, and what goes over the wire between it and its peer. (rpc.capnp, levels 0 and 1, with tail calls.)
use Rattle.std.specs.Prelude.{◌≡◌, ◌≢◌, ℕ, false, List, [], ◌∷◌, ◌++◌, flat_map, Option, Some, Result, Err}
use Rattle.std.specs.List.{AllByRecursion}
use Rattle.cp_vat_machine.specs.Asked.{stage_of}
use Rattle.cp_vat_machine.specs.Run.{Moment}
use Rattle.cp_vat_machine.specs.State.{new_state}
use Rattle.cp_vat_machine.specs.Supported.{is_supported_to_caller}
use Rattle.cp_vat_machine.specs.declared.effect.Effect.{Effect}
use Rattle.cp_vat_machine.specs.declared.event.Event.{Event}
use Rattle.cp_vat_machine.specs.declared.event.Event.TheVariants as events
use Rattle.cp_vat_machine.specs.declared.event.Value.{Value}
use Rattle.cp_vat_machine.specs.declared.fault.VatFault.{VatFault}
use Rattle.cp_vat_machine.specs.declared.fault.VatFault.TheVariants as refusals
use Rattle.cp_vat_pair_laws.specs.Ledger.{Traffic, departure, traffic_if}
use Rattle.cp_vat_pair_laws.specs.Accounts.{accounts_of}
use Rattle.cp_tail_calls.specs.Serving.{Served, Serves, closes, gets}
use Rattle.cp_tail_calls.specs.Tails.{Tails, none}
use Rattle.cp_tail_counts.specs.Peer.{said}
use Rattle.cp_tail_counts.specs.Counts.{IsNumbered, CountsAgree}

-- a new vat behind tail calls
abbrev pub new_served : Option ℕ → Served
new_served bootstrap = record { vat = new_state bootstrap; tails = Some none }

-- One event of a vat behind tail calls: how they were before it, what it was answered with, what the vat itself did, and what came of that.
pub record Act : Type 0 where
  pub old : Served
  pub event : Event
  pub result : Result Value VatFault
  pub history : List Moment
  pub out : List Effect

-- what the peer said, and then heard, by an event that wasn't refused
abbrev pub arrived : Served → Event → List Traffic
arrived old (events.Receive m) = said m (gets is_supported_to_caller stage_of old.vat old.tails m).0
arrived old other = []

abbrev pub over_wire : Act → List Traffic
over_wire act = traffic_if act.result (arrived act.old act.event ++ flat_map departure act.out)

-- messages one by one, after those before them
abbrev pub later : List Traffic → List Traffic → List Traffic
later past [] = past
later past (message ∷ more) = later (message ∷ past) more

-- all that went over the wire, the latest first
abbrev pub wire_past : List Act → List Traffic
wire_past [] = []
wire_past (act ∷ past) = later (wire_past past) (over_wire act)

-- The vat doesn't close, and memory doesn't run out.
abbrev pub GoesOn : Act → Type 0
GoesOn act = AllByRecursion (λ moment. closes moment.effects ≡ false) act.history × (act.result ≢ Err refusals.OutOfMemory)

-- events of a new vat behind tail calls, the newest first
abbrev pub Life : Option ℕ → List Act → Served → Type 0
Life bootstrap [] last = last ≡ new_served bootstrap
Life bootstrap (act ∷ past) last =
    Life bootstrap past act.old × Serves is_supported_to_caller stage_of act.old act.event act.result act.history act.out last × GoesOn act

-- After all events of a vat that is open, whatever its peer sends and its application does: the vat counts an export as often as the peer does by what went over
-- the wire, and as often as tail calls still have to lower it; and an import as often as the peer does, and as often as it was lent.
abbrev pub CountsOverWire : Type 0
CountsOverWire =
    (bootstrap : Option ℕ) (most : ℕ) (past : List Act) (last : Served) → Life bootstrap past last → last.vat.is_closed ≡ false
    → AllByRecursion (IsNumbered most) (wire_past past) → (t : Tails) × (last.tails ≡ Some t) × CountsAgree most (wire_past past) t (accounts_of last.vat)
