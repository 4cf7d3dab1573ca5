-- What holds within an event shows what the rules need.
use Rattle.std.specs.Prelude.{◌≡◌, ℕ, ◌≤◌, not, ◌&&◌, Bool, true, false, [], Option, Some}
use Rattle.std.specs.FinMap.{get}
use Rattle.std.specs.FinSet as set
use Rattle.std.proofs.Common.{arith}
use Rattle.cp_tables.specs.declared.exchange.Exchange.{Exchange}
use Rattle.cp_refs.specs.declared.call.Origin.{Origin}
use Rattle.cp_refs.specs.declared.call.Origin.TheVariants as origins
use Rattle.cp_vat_machine.specs.State.{State}
use Rattle.cp_vat_machine.specs.Go.{PendingCall}
use Rattle.cp_vat_machine.specs.InUse.{is_unsettled}
use Rattle.cp_vat_machine.specs.Local.{one_if, tied_to, IsTicketOf}
use Rattle.cp_vat_machine.specs.declared.entry.AnswerEntry.{AnswerEntry}
use Rattle.cp_vat_laws.specs.Within.{Within, IsInHand}
use Rattle.cp_vat_laws.proofs.Tables.{within_sum}
use Rattle.cp_vat_rules.specs.Going.{MayGo}
use Rattle.cp_vat_rules.specs.Ungiven.{AreOpenOnce, IsUngiven}

fewer : (a b : Bool) → one_if (a && b) ≤ one_if a
fewer true true = omega arith
fewer true false = omega arith
fewer false b = omega arith

-- the promises that are tied to an answer are open
pub tied_once : (s : State) (hand : Option Origin) → Within s hand [] → (a : ℕ) (entry : Exchange AnswerEntry) → get s.entries.answers a ≡ Some entry
    → AreOpenOnce s.values.promises entry.kept.tied
tied_once s hand h a entry was p =
    omega (arith, h.tied p, within_sum (λ (e : Exchange AnswerEntry). tied_to p e.kept.tied) s.entries.answers a entry was, fewer (is_unsettled (get s.values.promises p)) (not (set.contains s.entries.own_promises p)))

-- nothing was given to a call that has a ticket
pub is_ungiven : (s : State) (hand : Option Origin) → Within s hand [] → (origin : Origin) (ticket : ℕ) → IsTicketOf s origin ticket → IsUngiven s origin
is_ungiven s hand h (origins.Answer a) ticket (entry, was, open_, bears) = (entry, was, open_, tied_once s hand h a entry was)
is_ungiven s hand h (origins.Own q) ticket (entry, was, open_, bears, own) = (entry, was, open_)

-- a call in hand may go
pub may_go : (s : State) (call : PendingCall) → Within s (Some call.origin) [] → IsInHand s call → MayGo s call
may_go s call h i =
    record { free = i.free; given = i.given; ungiven = is_ungiven s (Some call.origin) h call.origin call.ticket i.whose; ends = i.ends }
