-- An event's own part in which no call enters and none leaves.
use Rattle.std.specs.Prelude.{◌≡◌, ◌⊎◌, refl, ℕ, ◌≤◌, ◌==◌, Bool, true, false, List, [], ◌∷◌, flat_map, Option, Some, None, is_some, IfSome, IsSome}
use Rattle.std.specs.FinMap.{get}
use Rattle.std.proofs.Common.{inl, inr, sym}
use Rattle.cp_vat_machine.specs.State.{State}
use Rattle.cp_vat_machine.specs.Trace.{Turn}
use Rattle.cp_vat_machine.specs.Ports.{Entry, entry_of_event, entry_of}
use Rattle.cp_vat_machine.specs.Exits.{exits_in, exit_by}
use Rattle.cp_vat_machine.specs.InOrder.{has_left}
use Rattle.cp_vat_machine.specs.declared.effect.Effect.{Effect}
use Rattle.cp_vat_machine.specs.declared.event.Event.{Event}
use Rattle.cp_vat_machine.specs.declared.event.Value.{Value}
use Rattle.cp_vat_laws.specs.OrderKept.{OrderHolds}
use Rattle.cp_vat_machine.proofs.Basics.{none_out}
use Rattle.cp_vat_laws.proofs.order.Passes.{Sound, Passes}
use Rattle.cp_vat_laws.proofs.order.Closes.{Closes}
use Rattle.cp_vat_laws.proofs.order.Turn.{Turned, turned_holds}
use Rattle.cp_vat_laws.proofs.order.Enters.{owning}

-- no call leaves by these effects
abbrev pub NoneLeaves : List Effect → Type 0
NoneLeaves effects = (s : State) → flat_map (exit_by s) effects ≡ []

module _ (past : List Turn) (event : Event) (value : Value) (old : State) (first : List Effect) (mid : State) (entry : entry_of_event old event value ≡ None)
    (quiet : NoneLeaves first) (calls : mid.waiting.calls ≡ old.waiting.calls) where
  abbrev turn : Turn
  turn = owning event value old first mid

  none_exits : exits_in turn ≡ []
  none_exits = rw (entry, quiet mid) refl

  none_enters : (o : Option Entry) → o ≡ None
      → IfSome o (λ e. (Rattle.std.specs.Prelude.◌<◌ old.next_ticket mid.next_ticket) × ((has_left (exits_in turn) e.ticket ≡ true) ⊎ IsSome (get mid.waiting.calls e.ticket)))
  none_enters None is = tt
  none_enters (Some e) is = none_out (sym is)

  quiet_turned : Turned past turn
  quiet_turned =
      record {
        held = λ u c is. inl (rw (calls) at is);
        leaves = λ u some. inr (rw (calls) some);
        enters = none_enters (entry_of turn) entry;
        exits = rw (none_exits) tt;
        at_rest = tt;
      }

  -- The invariant holds after it.
  pub quiet_holds : Passes old mid → Sound old → Sound mid → OrderHolds past old → OrderHolds (owning event value old first mid ∷ past) mid
  quiet_holds passes sound later h = turned_holds past turn sound later passes h quiet_turned

-- What an event's own part does that is quiet.
pub record IsQuietly (old : State) (first : List Effect) (mid : State) : Type 0 where
  pub passes : Passes old mid
  pub quiet : NoneLeaves first
  pub calls : mid.waiting.calls ≡ old.waiting.calls

pub closes_quietly : (old : State) (first : List Effect) (mid : State) → Closes old mid → NoneLeaves first → IsQuietly old first mid
closes_quietly old first mid closes quiet = record { passes = closes.passes; quiet = quiet; calls = closes.calls }

pub quietly_holds : (past : List Turn) (event : Event) (value : Value) (old : State) (first : List Effect) (mid : State) → entry_of_event old event value ≡ None → IsQuietly old first mid
    → Sound old → Sound mid → OrderHolds past old → OrderHolds (owning event value old first mid ∷ past) mid
quietly_holds past event value old first mid entry q sound later h = quiet_holds past event value old first mid entry q.quiet q.calls q.passes sound later h
