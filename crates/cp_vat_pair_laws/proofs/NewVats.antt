-- What holds of new vats.
use Rattle.std.specs.Prelude.{◌≡◌, refl, ℕ, [], Option}
use Rattle.std.specs.Ordering.{nat_cmp}
use Rattle.std.specs.FinMap.{empty, get-empty}
use Rattle.std.proofs.Common.{inr, sym, ◌∙◌}
use Rattle.cp_tables.specs.declared.counted.Counted.{Counted}
use Rattle.cp_tables.specs.declared.exchange.Exchange.{Exchange}
use Rattle.cp_refs.specs.declared.cap.Cap.{Cap}
use Rattle.cp_refs.specs.declared.call.WaitingCall.{WaitingCall}
use Rattle.cp_refs.specs.declared.call.Origin.{Origin}
use Rattle.cp_refs.specs.declared.call.Origin.TheVariants as origins
use Rattle.cp_refs.specs.declared.values.QuestionState.{QuestionState}
use Rattle.cp_vat_machine.specs.State.{new_state}
use Rattle.cp_vat_machine.specs.Calling.{plain, reference_of}
use Rattle.cp_vat_machine.specs.Waits.{WaitRightly}
use Rattle.cp_vat_machine.specs.declared.entry.AnswerEntry.{AnswerEntry}
use Rattle.cp_vat_machine.specs.declared.entry.QuestionEntry.{QuestionEntry}
use Rattle.cp_vat_machine.proofs.NewVats.{no_entries}
use Rattle.cp_vat_machine.proofs.Basics.{none_out}
use Rattle.cp_vat_pair_laws.specs.VatPair.{new_end}
use Rattle.cp_vat_pair_laws.specs.Lane.{Reference, import_, path_to, cap_of}
use Rattle.cp_vat_pair_laws.specs.Naming.{AreLooped}
use Rattle.cp_vat_pair_laws.specs.Phases.{LaneHolds, IsWhole, IsAbsent, absent, IsQuiet}
use Rattle.cp_vat_pair_laws.specs.Tickets.{BearsTicket, TicketsHold}

pub new_waiting : (one : Option ℕ) → WaitRightly (new_state one) empty
new_waiting one ticket = rw (get-empty {X = WaitingCall} nat_cmp ticket) tt

pub new_looped : (one other : Option ℕ) → AreLooped (new_state one) [] []
new_looped one other n = rw (get-empty {X = Cap} nat_cmp n) refl

no_reference : (one : Option ℕ) (ref : Reference) → reference_of (new_state one).values (cap_of ref) ≡ plain
no_reference one (import_ i) = rw (get-empty {X = Option Cap} nat_cmp i) refl
no_reference one (path_to q path) = rw (get-empty {X = QuestionState} nat_cmp q) refl

new_whole : (one other : Option ℕ) → IsWhole (new_end one) (new_end other) [] []
new_whole one other = rw (no_entries {X = WaitingCall} nat_cmp) refl

-- of each end
pub new_absent : (one other : Option ℕ) (ref : Reference) → IsAbsent (new_state one) (new_state other) ref
new_absent one other (import_ i) = (get-empty {X = Option Cap} nat_cmp i, get-empty {X = Counted Cap} nat_cmp i)
new_absent one other (path_to q path) = get-empty {X = QuestionState} nat_cmp q

pub new_lanes : (one other : Option ℕ) (ref : Reference) → LaneHolds (new_end one) (new_end other) ref [] []
new_lanes one other ref =
    inr (record { whole = new_whole one other; targets = tt; none_held = λ ticket call is. none_out (sym (get-empty {X = WaitingCall} nat_cmp ticket) ∙ is); delivered_ = rw (no_reference one ref) refl; phase = absent (record { none = new_absent one other ref; unmade = refl }) })

pub new_quiet : (one : Option ℕ) → IsQuiet (new_end one)
new_quiet one = record { questions = λ q. rw (get-empty {X = Exchange QuestionEntry} nat_cmp q) tt; inbox = refl }

no_ticket : (one : Option ℕ) (origin : Origin) (ticket : ℕ) → BearsTicket (new_state one) origin ticket → ⊥
no_ticket one (origins.Answer a) ticket bears = none_out (sym (get-empty {X = Exchange AnswerEntry} nat_cmp a) ∙ bears.1)
no_ticket one (origins.Own q) ticket bears = none_out (sym (get-empty {X = Exchange QuestionEntry} nat_cmp q) ∙ bears.1)

pub new_tickets : (one : Option ℕ) → TicketsHold (new_state one) []
new_tickets one =
    record {
      below = λ origin ticket bears. absurd (no_ticket one origin ticket bears);
      differ = λ origin other ticket bears too. absurd (no_ticket one origin ticket bears);
      rising = tt;
      made_below = tt;
    }
