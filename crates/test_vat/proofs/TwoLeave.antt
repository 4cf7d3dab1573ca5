-- The row in which two calls wait for one answer is a run.
use Rattle.std.specs.Prelude.{◌≡◌, refl, ℕ, zero, suc, ◌≤◌, Bool, true, false, cond, [], ◌∷◌, Option, Some, None, Ok}
use Rattle.std.proofs.Common.{arith, sym, ◌∙◌}
use Rattle.std.specs.Ordering.{nat_cmp, eq_by_cmp}
use Rattle.std.specs.Cmp.{nat_cmp_total}
use Rattle.std.specs.FinMap.{get, insert, len, empty, get-empty, len-empty, get-insert, get-remove, len-insert}
use Rattle.cp_tables.specs.Counted.{new_counted}
use Rattle.cp_tables.specs.declared.exchange.Exchange.{Exchange}
use Rattle.cp_messages.specs.declared.descriptor.Descriptor.TheVariants as descriptors
use Rattle.cp_refs.specs.declared.cap.Cap.TheVariants as caps
use Rattle.cp_refs.specs.declared.call.Origin.TheVariants as origins
use Rattle.cp_refs.specs.declared.call.WaitingCall.{WaitingCall}
use Rattle.cp_refs.specs.declared.route.Gate.TheVariants as gates
use Rattle.cp_refs.specs.declared.route.Route.TheVariants as routes
use Rattle.cp_refs.specs.declared.outcome.Outcome.{Outcome}
use Rattle.cp_vat_machine.specs.declared.entry.AnswerEntry.{AnswerEntry}
use Rattle.cp_vat_machine.specs.State.{State, none_over, with_over, with_exports}
use Rattle.cp_vat_machine.specs.Go.{Leave, IsNext, NoneOver, delivered, without_call, stays, leaves}
use Rattle.cp_vat_machine.specs.Give.{given, GiveAnswer, return_of}
use Rattle.cp_vat_machine.specs.Writing.{Raise, opened, WritesDescriptors}
use Rattle.cp_vat_machine.specs.Doing.{DoAnswer, answer_refusals}
use Rattle.cp_vat_machine.specs.Answering.{OnCall}
use Rattle.cp_vat_machine.specs.Step.{Step, received, did, all_left}
use Rattle.cp_vat_machine.specs.Run.{Run}
use Rattle.cp_vat_machine.specs.declared.event.Event.TheVariants as events
use Rattle.cp_vat_machine.specs.declared.event.Value.TheVariants as values
use Rattle.test_vat.specs.Rows.{small_call, on_answer, small_request}
use Rattle.test_vat.specs.OrderRows.{delivered_to, two_in_order}
use Rattle.test_vat.proofs.OneWaits.{bootstrap_step}
use Rattle.test_vat.proofs.OneWaits.{s_1, s_2', s_3', entry_1, held_2, outcome_1, returned_1, kept_1_now, none_ended, no_export_5, fresh_1, step_1, step_2}
use Rattle.test_vat.proofs.Inverts.{none_not_some}
use Rattle.test_vat.proofs.Pinned.{small, s_4, s_4', kept_1_again, ungiven_1_again}

-- one more call waits
free_3 : get s_3'.entries.answers 3 ≡ None
free_3 = simp (get-insert {X = Exchange AnswerEntry} nat_cmp_total, get-empty {X = Exchange AnswerEntry} nat_cmp) refl

three_answers : len s_3'.entries.answers ≡ 3
three_answers = simp (get-insert {X = Exchange AnswerEntry} nat_cmp_total, len-insert {X = Exchange AnswerEntry} nat_cmp_total, get-empty {X = Exchange AnswerEntry} nat_cmp, len-empty nat_cmp (Exchange AnswerEntry)) refl

ungiven_1_now : get s_3'.values.answers 1 ≡ Some None
ungiven_1_now = simp (get-insert {X = Option Outcome} nat_cmp_total) refl

pub on_call_3 : OnCall s_3' (small 3 (on_answer 1 0)) (Ok ([], s_4))
on_call_3 = rw (free_3, three_answers, kept_1_now, ungiven_1_now) (Ok ([], s_3'), refl, rw (kept_1_again, ungiven_1_again) refl)

unfoldable pub step_3_waits : Step s_3' (events.Receive (small_call 3 (on_answer 1 0))) (Ok values.Nothing) [] s_4'
step_3_waits = received _ [] [] s_4 refl on_call_3 (all_left (stays (none_ended s_4 refl))) refl

-- the first call is answered
abbrev pub held_3 : WaitingCall
held_3 = record { ticket = 2; origin = origins.Answer 3; request = small_request; gate = gates.Answer 1 (0 ∷ []) }

pub kept_1_last : get s_4'.entries.answers 1 ≡ Some entry_1
kept_1_last = simp (get-insert {X = Exchange AnswerEntry} nat_cmp_total) refl

abbrev r_4 : State
r_4 = with_exports s_4' (insert s_4'.counts.exports 1 (new_counted (caps.Object 5)))

raises_5 : Raise s_4' (caps.Object 5) (Ok (1, r_4))
raises_5 = opened 1 no_export_5 fresh_1

says_5 : WritesDescriptors s_4' (caps.Object 5 ∷ []) (Ok (descriptors.SenderHosted 1 ∷ [], r_4))
says_5 = (Ok (descriptors.SenderHosted 1, r_4), (caps.Object 5, (1, refl), (Ok (1, r_4), raises_5, refl)), (Ok ([], r_4), refl, refl))

abbrev pub g_4 : State
g_4 = given r_4 1 entry_1.kept outcome_1 returned_1

gives_1 : GiveAnswer s_4' 1 outcome_1 (Ok (return_of 1 returned_1 ∷ [], g_4))
gives_1 = (entry_1, kept_1_last, (Ok (returned_1, r_4), (Ok (descriptors.SenderHosted 1 ∷ [], r_4), says_5, refl), (Ok ([], g_4), refl, refl)))

not_refused : answer_refusals s_4' (origins.Answer 1) outcome_1 ≡ []
not_refused = rw (kept_1_last) refl

pub answers_1 : DoAnswer s_4' (origins.Answer 1) outcome_1 (Ok (values.Nothing, return_of 1 returned_1 ∷ [], g_4))
answers_1 = rw (not_refused) (Ok (values.Nothing, return_of 1 returned_1 ∷ [], g_4), (Ok (return_of 1 returned_1 ∷ [], g_4), gives_1, refl), refl)

-- the calls that wait leave in the order of their tickets
none_at_0 : get g_4.waiting.calls 0 ≡ None
none_at_0 = simp (get-insert {X = WaitingCall} nat_cmp_total, get-empty {X = WaitingCall} nat_cmp) refl

from_1 : (ticket : ℕ) (other : WaitingCall) → get g_4.waiting.calls ticket ≡ Some other → 1 ≤ ticket
from_1 zero other e = absurd (none_not_some (sym none_at_0 ∙ e))
from_1 (suc n) other e = omega arith

pub next_1 : IsNext g_4 held_2 (caps.Object 5)
next_1 =
    record {
      waits = simp (get-insert {X = WaitingCall} nat_cmp_total) refl;
      ended = simp (get-insert {X = Outcome} nat_cmp_total) refl;
      lowest = λ ticket other given e over. from_1 ticket other e;
    }

abbrev pub h_4 : State
h_4 = delivered (without_call g_4 held_2) (origins.Answer 2)

none_at_0_then : get h_4.waiting.calls 0 ≡ None
none_at_0_then = simp (get-remove {X = WaitingCall} nat_cmp_total, get-insert {X = WaitingCall} nat_cmp_total, get-empty {X = WaitingCall} nat_cmp) refl

none_at_1_then : get h_4.waiting.calls 1 ≡ None
none_at_1_then = simp (get-remove {X = WaitingCall} nat_cmp_total) refl

from_2 : (ticket : ℕ) (other : WaitingCall) → get h_4.waiting.calls ticket ≡ Some other → 2 ≤ ticket
from_2 zero other e = absurd (none_not_some (sym none_at_0_then ∙ e))
from_2 (suc zero) other e = absurd (none_not_some (sym none_at_1_then ∙ e))
from_2 (suc (suc n)) other e = omega arith

pub next_2 : IsNext h_4 held_3 (caps.Object 5)
next_2 =
    record {
      waits = simp (get-remove {X = WaitingCall} nat_cmp_total, get-insert {X = WaitingCall} nat_cmp_total) refl;
      ended = simp (get-insert {X = Outcome} nat_cmp_total) refl;
      lowest = λ ticket other given e over. from_2 ticket other e;
    }

abbrev pub j_4 : State
j_4 = delivered (without_call h_4 held_3) (origins.Answer 3)

both_gone : (a b : Bool) → cond b None (cond a None (cond b (Some held_3) (cond a (Some held_2) None))) ≡ None
both_gone true true = refl
both_gone true false = refl
both_gone false true = refl
both_gone false false = refl

pub none_left : NoneOver j_4
none_left ticket =
    rw (
      get-remove nat_cmp_total h_4.waiting.calls 2 ticket,
      get-remove nat_cmp_total g_4.waiting.calls 1 ticket,
      get-insert nat_cmp_total (insert empty 1 held_2) 2 held_3 ticket,
      get-insert nat_cmp_total empty 1 held_2 ticket,
      get-empty {X = WaitingCall} nat_cmp ticket,
      both_gone (eq_by_cmp nat_cmp ticket 1) (eq_by_cmp nat_cmp ticket 2),
    ) tt

unfoldable pub both_leave : Leave g_4 (delivered_to 2 1 ∷ delivered_to 3 2 ∷ []) (Ok (with_over j_4 none_over))
both_leave = leaves held_2 (caps.Object 5) next_1 (routes.Deliver 5, (1, refl), refl) (leaves held_3 (caps.Object 5) next_2 (routes.Deliver 5, (1, refl), refl) (stays none_left) refl) refl

unfoldable pub step_4 : Step s_4' (events.Answer (origins.Answer 1) outcome_1) (Ok values.Nothing) (return_of 1 returned_1 ∷ delivered_to 2 1 ∷ delivered_to 3 2 ∷ []) (with_over j_4 none_over)
step_4 = did _ (return_of 1 returned_1 ∷ []) (delivered_to 2 1 ∷ delivered_to 3 2 ∷ []) g_4 refl answers_1 (all_left both_leave) refl

unfoldable pub two_is : Run (Some 0) two_in_order
two_is = (with_over j_4 none_over, (s_1, bootstrap_step, (s_2', step_1, (s_3', step_2, (s_4', step_3_waits, (with_over j_4 none_over, step_4, refl))))))
