-- The rows of a Bootstrap and of calls that wait for an answer, each step with what it is made of.
use Rattle.cp_refs.specs.declared.call.WaitingCall.{WaitingCall}
use Rattle.cp_refs.specs.declared.cap.Cap.{Cap}
use Rattle.cp_refs.specs.declared.outcome.Outcome.{Outcome}
use Rattle.cp_refs.specs.declared.route.Gate.{Gate}
use Rattle.cp_messages.specs.declared.call.Call.{Call}
use Rattle.cp_messages.specs.declared.returned.Returned.{Returned}
use Rattle.cp_tables.specs.Counted.{new_counted}
use Rattle.cp_tables.specs.Exchange.{new_exchange}
use Rattle.cp_tables.specs.declared.counted.Counted.{Counted}
use Rattle.cp_tables.specs.declared.exchange.Exchange.{Exchange}
use Rattle.cp_tree.specs.Node.{cap, no_nodes, struct}
use Rattle.cp_vat_machine.specs.Answering.{GoToTarget, OnBootstrap, OnCall, bootstrap_outcome, entered, peer_call, with_answer}
use Rattle.cp_vat_machine.specs.Doing.{DoAnswer, answer_refusals}
use Rattle.cp_vat_machine.specs.Give.{GiveAnswer, given, return_of}
use Rattle.cp_vat_machine.specs.Go.{IsNext, Leave, NoneOver, delivered, held_at, leaves, stays, without_call}
use Rattle.cp_vat_machine.specs.Capacity.{Fresh, free}
use Rattle.cp_vat_machine.specs.Run.{Run}
use Rattle.cp_vat_machine.specs.Writing.{HasNoExport, Raise, WritesDescriptor, WritesDescriptors, opened}
use Rattle.cp_vat_machine.specs.State.{State, gave, new_state, none_over, with_exports, with_over}
use Rattle.cp_vat_machine.specs.Step.{Step, all_left, did, received}
use Rattle.cp_vat_machine.specs.declared.entry.AnswerEntry.{AnswerEntry}
use Rattle.test_vat.specs.Rows.{bootstrap_answered, on_answer, one_object, pipelined, pipelined_waits, small_call, small_request}
use Rattle.std.proofs.Common.{Option, ap, arith, is_some, sym, true≢false, ◌∙◌}
use Rattle.std.proofs.lemmas.Bool.Decides.{nat_tests}
use Rattle.std.specs.Cmp.{nat_cmp_total}
use Rattle.std.specs.FinMap.{empty, get, get-empty, get-insert, get-remove, insert, len, len-empty, len-insert}
use Rattle.std.specs.Ordering.{eq_by_cmp, nat_cmp}
use Rattle.std.specs.Prelude.{Bool, IfSome, None, Ok, Option, Some, [], cond, false, refl, true, ℕ, ◌∷◌, ◌≡◌, ◌≢◌, ◌≤◌}
use Rattle.cp_refs.specs.declared.call.Origin.TheVariants as origins
use Rattle.cp_refs.specs.declared.cap.Cap.TheVariants as caps
use Rattle.cp_refs.specs.declared.outcome.Outcome.TheVariants as outcomes
use Rattle.cp_refs.specs.declared.route.Gate.TheVariants as gates
use Rattle.cp_refs.specs.declared.route.Route.TheVariants as routes
use Rattle.cp_messages.specs.declared.call.SendResultsTo.TheVariants as results_to
use Rattle.cp_messages.specs.declared.descriptor.Descriptor.TheVariants as descriptors
use Rattle.cp_messages.specs.declared.message.Message.TheVariants as messages
use Rattle.cp_messages.specs.declared.returned.Returned.TheVariants as returns
use Rattle.cp_messages.specs.declared.target.Target.TheVariants as targets
use Rattle.cp_tables.specs.declared.exchange.Stage.TheVariants as stages
use Rattle.cp_vat_machine.specs.declared.effect.Effect.TheVariants as effects
use Rattle.cp_vat_machine.specs.declared.event.Event.TheVariants as events
use Rattle.cp_vat_machine.specs.declared.event.Value.TheVariants as values

-- nothing waits, so nothing leaves
pub none_waits : (s : State) → s.waiting.calls ≡ empty → NoneOver s
none_waits s e ticket = rw (e, get-empty nat_cmp ticket) tt

-- the table is empty: its number 0 is free, and nothing is exported
fresh_first : {X : Type 0} → Fresh (empty {X = X} {R = nat_cmp}) (Ok 0)
fresh_first = free 0 (get-empty nat_cmp 0) (omega arith) (rw (len-empty nat_cmp _) refl)

exports_none : (s : State) → s.counts.exports ≡ empty → (c : Cap) → HasNoExport s c
exports_none s none c e = rw (none, get-empty nat_cmp e) tt

-- the states of the bootstrap row
abbrev asked_0 : State
asked_0 = with_answer (new_state (Some 0)) 0 None

abbrev raised_0 : State
raised_0 = with_exports asked_0 (insert asked_0.counts.exports 0 (new_counted (caps.Object 0)))

abbrev pub given_0 : State
given_0 = given raised_0 0 (record { ticket = None; is_delivered = false; mentions = []; tied = [] }) (bootstrap_outcome (Some 0)) (returns.Results (record { content = cap 0; cap_table = descriptors.SenderHosted 0 ∷ [] }))

raises_0 : Raise asked_0 (caps.Object 0) (Ok (0, raised_0))
raises_0 = opened 0 (exports_none asked_0 refl (caps.Object 0)) fresh_first

says_0 : WritesDescriptor asked_0 (caps.Object 0) (Ok (descriptors.SenderHosted 0, raised_0))
says_0 = (caps.Object 0, (1, refl), (Ok (0, raised_0), raises_0, refl))

says_all_0 : WritesDescriptors asked_0 (caps.Object 0 ∷ []) (Ok (descriptors.SenderHosted 0 ∷ [], raised_0))
says_all_0 = (Ok (descriptors.SenderHosted 0, raised_0), says_0, (Ok ([], raised_0), refl, refl))

abbrev pub returned_0 : Returned
returned_0 = returns.Results (record { content = cap 0; cap_table = descriptors.SenderHosted 0 ∷ [] })

gives_0 : GiveAnswer asked_0 0 (bootstrap_outcome (Some 0)) (Ok (return_of 0 returned_0 ∷ [], given_0))
gives_0 = (
  new_exchange (record { ticket = None; is_delivered = false; mentions = []; tied = [] }),
  get-insert nat_cmp_total empty 0 _ 0,
  (Ok (returned_0, raised_0), (Ok (descriptors.SenderHosted 0 ∷ [], raised_0), says_all_0, refl), (Ok ([], given_0), refl, refl)),
)

pub does_0 : OnBootstrap (new_state (Some 0)) 0 (Ok (return_of 0 returned_0 ∷ [], given_0))
does_0 = rw (get-empty {X = Exchange AnswerEntry} nat_cmp 0, len-empty nat_cmp (Exchange AnswerEntry)) gives_0

unfoldable pub bootstrap_step : Step (new_state (Some 0)) (events.Receive (messages.Bootstrap (record { question_id = 0 }))) (Ok values.Nothing) (return_of 0 returned_0 ∷ []) (with_over given_0 none_over)
bootstrap_step = received _ (return_of 0 returned_0 ∷ []) [] given_0 refl does_0 (all_left (stays (none_waits given_0 refl))) refl

unfoldable pub bootstrap_is : Run (Some 0) bootstrap_answered
bootstrap_is = (with_over given_0 none_over, (with_over given_0 none_over, bootstrap_step, refl))

-- where no gate has ended, none gave anything
gave_none : (gate : Gate) → gave none_over gate ≡ None
gave_none (gates.Answer a path) = rw (get-empty {X = Outcome} nat_cmp a) refl
gave_none (gates.Promise p) = get-empty nat_cmp p
gave_none (gates.Question q path) = rw (get-empty {X = Outcome} nat_cmp q) refl
gave_none (gates.Embargo n) = get-empty nat_cmp n

of_each : {X : Type 0} (P : X → Type 0) (o : Option X) → ((x : X) → P x) → IfSome o P
of_each P None all = tt
of_each P (Some x) all = all x

pub none_ended : (s : State) → s.waiting.over ≡ none_over → NoneOver s
none_ended s e ticket = of_each _ (get s.waiting.calls ticket) (λ call. rw (e) (gave_none call.gate))

-- after the bootstrap
abbrev pub s_1 : State
s_1 = with_over given_0 none_over

abbrev call_1 : Call
call_1 =
    record {
      question_id = 1;
      method_id = 4;
      send_results_to = results_to.Caller;
      interface_id = 9;
      target = targets.ImportedCap 0;
      params = record { content = struct [] no_nodes; cap_table = [] };
    }

free_1 : get s_1.entries.answers 1 ≡ None
free_1 = simp (get-insert {X = Exchange AnswerEntry} nat_cmp_total, get-empty {X = Exchange AnswerEntry} nat_cmp) refl

pub export_0 : get s_1.counts.exports 0 ≡ Some (record { count = 1; kept = caps.Object 0 })
export_0 = get-insert nat_cmp_total empty 0 _ 0

one_answer : len s_1.entries.answers ≡ 1
one_answer = simp (len-insert {X = Exchange AnswerEntry} nat_cmp_total, get-insert {X = Exchange AnswerEntry} nat_cmp_total, get-empty {X = Exchange AnswerEntry} nat_cmp, len-empty nat_cmp (Exchange AnswerEntry)) refl

abbrev pub s_2 : State
s_2 = delivered (entered s_1 1) (origins.Answer 1)

goes_1 : GoToTarget (entered s_1 1) (peer_call s_1 call_1 []) (targets.ImportedCap 0) (Ok (effects.Deliver 0 (origins.Answer 1) 0 small_request ∷ [], s_2))
goes_1 = rw (export_0) (routes.Deliver 0, (1, refl), refl)

pub on_call_1 : OnCall s_1 call_1 (Ok (effects.Deliver 0 (origins.Answer 1) 0 small_request ∷ [], s_2))
on_call_1 = rw (free_1, one_answer, export_0) (Ok ([], s_1), refl, goes_1)

abbrev pub s_2' : State
s_2' = with_over s_2 none_over

unfoldable pub step_1 : Step s_1 (events.Receive (small_call 1 (targets.ImportedCap 0))) (Ok values.Nothing) (effects.Deliver 0 (origins.Answer 1) 0 small_request ∷ []) s_2'
step_1 = received _ (effects.Deliver 0 (origins.Answer 1) 0 small_request ∷ []) [] s_2 refl on_call_1 (all_left (stays (none_ended s_2 refl))) refl

-- the call that waits
abbrev call_2 : Call
call_2 = record call_1 { question_id = 2; target = on_answer 1 0 }

abbrev pub entry_1 : Exchange AnswerEntry
entry_1 = record { stage = stages.Open; kept = record { ticket = Some 0; is_delivered = true; mentions = []; tied = [] } }

free_2 : get s_2'.entries.answers 2 ≡ None
free_2 = simp (get-insert {X = Exchange AnswerEntry} nat_cmp_total, get-empty {X = Exchange AnswerEntry} nat_cmp) refl

kept_1 : get s_2'.entries.answers 1 ≡ Some entry_1
kept_1 = simp (get-insert {X = Exchange AnswerEntry} nat_cmp_total) refl

ungiven_1 : get s_2'.values.answers 1 ≡ Some None
ungiven_1 = simp (get-insert {X = Option Outcome} nat_cmp_total) refl

two_answers : len s_2'.entries.answers ≡ 2
two_answers = simp (get-insert {X = Exchange AnswerEntry} nat_cmp_total, len-insert {X = Exchange AnswerEntry} nat_cmp_total, get-empty {X = Exchange AnswerEntry} nat_cmp, len-empty nat_cmp (Exchange AnswerEntry)) refl

abbrev e_2 : State
e_2 = entered s_2' 2

pub kept_1_after : get e_2.entries.answers 1 ≡ Some entry_1
kept_1_after = simp (get-insert {X = Exchange AnswerEntry} nat_cmp_total) refl

pub ungiven_1_after : get e_2.values.answers 1 ≡ Some None
ungiven_1_after = simp (get-insert {X = Option Outcome} nat_cmp_total) refl

abbrev pub s_3 : State
s_3 = held_at e_2 (peer_call s_2' call_2 []) (gates.Answer 1 (0 ∷ []))

goes_2 : GoToTarget e_2 (peer_call s_2' call_2 []) (on_answer 1 0) (Ok ([], s_3))
goes_2 = rw (kept_1_after, ungiven_1_after) refl

pub on_call_2 : OnCall s_2' call_2 (Ok ([], s_3))
on_call_2 = rw (free_2, two_answers, kept_1, ungiven_1) (Ok ([], s_2'), refl, goes_2)

abbrev pub s_3' : State
s_3' = with_over s_3 none_over

unfoldable pub step_2 : Step s_2' (events.Receive (small_call 2 (on_answer 1 0))) (Ok values.Nothing) [] s_3'
step_2 = received _ [] [] s_3 refl on_call_2 (all_left (stays (none_ended s_3 refl))) refl

unfoldable pub waits_is : Run (Some 0) pipelined_waits
waits_is = (s_3', (s_1, bootstrap_step, (s_2', step_1, (s_3', step_2, refl))))

-- The application answers: the results name a new export, and the call that waits is delivered.
abbrev pub outcome_1 : Outcome
outcome_1 = outcomes.Results one_object (caps.Object 5 ∷ [])

pub kept_1_now : get s_3'.entries.answers 1 ≡ Some entry_1
kept_1_now = simp (get-insert {X = Exchange AnswerEntry} nat_cmp_total) refl

abbrev object_number : Cap → ℕ
object_number (caps.Object k) = k
object_number other = 0

apart : caps.Object 0 ≢ caps.Object 5
apart e = absurd (omega (arith, ap object_number e))

only_0 : (b : Bool) → IfSome (cond b (Some (new_counted (caps.Object 0))) None) (λ entry. entry.kept ≢ caps.Object 5)
only_0 true = apart
only_0 false = tt

pub no_export_5 : HasNoExport s_3' (caps.Object 5)
no_export_5 e = rw (get-insert nat_cmp_total empty 0 (new_counted (caps.Object 0)) e, get-empty {X = Counted Cap} nat_cmp e) (only_0 (eq_by_cmp nat_cmp e 0))

one_export : len s_3'.counts.exports ≡ 1
one_export = simp (len-insert {X = Counted Cap} nat_cmp_total, get-empty {X = Counted Cap} nat_cmp, len-empty nat_cmp (Counted Cap)) refl

pub fresh_1 : Fresh s_3'.counts.exports (Ok 1)
fresh_1 = free 1 (simp (get-insert {X = Counted Cap} nat_cmp_total, get-empty {X = Counted Cap} nat_cmp) refl) (omega arith) (rw (one_export) refl)

abbrev r_3 : State
r_3 = with_exports s_3' (insert s_3'.counts.exports 1 (new_counted (caps.Object 5)))

raises_5 : Raise s_3' (caps.Object 5) (Ok (1, r_3))
raises_5 = opened 1 no_export_5 fresh_1

says_5 : WritesDescriptors s_3' (caps.Object 5 ∷ []) (Ok (descriptors.SenderHosted 1 ∷ [], r_3))
says_5 = (Ok (descriptors.SenderHosted 1, r_3), (caps.Object 5, (1, refl), (Ok (1, r_3), raises_5, refl)), (Ok ([], r_3), refl, refl))

abbrev pub returned_1 : Returned
returned_1 = returns.Results (record { content = one_object; cap_table = descriptors.SenderHosted 1 ∷ [] })

abbrev pub g_3 : State
g_3 = given r_3 1 entry_1.kept outcome_1 returned_1

gives_1 : GiveAnswer s_3' 1 outcome_1 (Ok (return_of 1 returned_1 ∷ [], g_3))
gives_1 = (entry_1, kept_1_now, (Ok (returned_1, r_3), (Ok (descriptors.SenderHosted 1 ∷ [], r_3), says_5, refl), (Ok ([], g_3), refl, refl)))

not_refused : answer_refusals s_3' (origins.Answer 1) outcome_1 ≡ []
not_refused = rw (kept_1_now) refl

pub answers_1 : DoAnswer s_3' (origins.Answer 1) outcome_1 (Ok (values.Nothing, return_of 1 returned_1 ∷ [], g_3))
answers_1 = rw (not_refused) (Ok (values.Nothing, return_of 1 returned_1 ∷ [], g_3), (Ok (return_of 1 returned_1 ∷ [], g_3), gives_1, refl), refl)

abbrev pub held_2 : WaitingCall
held_2 = record { ticket = 1; origin = origins.Answer 2; request = small_request; gate = gates.Answer 1 (0 ∷ []) }

at_one : (ticket : ℕ) (other : WaitingCall) (b : Bool) → eq_by_cmp nat_cmp ticket 1 ≡ b → cond b (Some held_2) None ≡ Some other → 1 ≤ ticket
at_one ticket other true is e = grind (arith, nat_tests)
at_one ticket other false is e = absurd (true≢false (sym (ap is_some e)))

pub next_2 : IsNext g_3 held_2 (caps.Object 5)
next_2 =
    record {
      waits = get-insert nat_cmp_total empty 1 held_2 1;
      ended = simp (get-insert {X = Outcome} nat_cmp_total) refl;
      lowest =
          λ ticket other given e over.
          at_one ticket other (eq_by_cmp nat_cmp ticket 1) refl (
          ap (cond (eq_by_cmp nat_cmp ticket 1) (Some held_2)) (sym (get-empty {X = WaitingCall} nat_cmp ticket))
          ∙ sym (get-insert nat_cmp_total empty 1 held_2 ticket)
          ∙ e
          );
    }

abbrev pub s_5 : State
s_5 = delivered (without_call g_3 held_2) (origins.Answer 2)

none_either_way : (b : Bool) → cond b None (cond b (Some held_2) None) ≡ None
none_either_way true = refl
none_either_way false = refl

pub none_stays : NoneOver s_5
none_stays ticket =
    rw (
      get-remove nat_cmp_total (insert empty 1 held_2) 1 ticket,
      get-insert nat_cmp_total empty 1 held_2 ticket,
      get-empty {X = WaitingCall} nat_cmp ticket,
      none_either_way (eq_by_cmp nat_cmp ticket 1),
    ) tt

unfoldable pub delivers_2 : Leave g_3 (effects.Deliver 5 (origins.Answer 2) 1 small_request ∷ []) (Ok (with_over s_5 none_over))
delivers_2 = leaves held_2 (caps.Object 5) next_2 (routes.Deliver 5, (1, refl), refl) (stays none_stays) refl

unfoldable pub step_3 : Step s_3' (events.Answer (origins.Answer 1) outcome_1) (Ok values.Nothing) (return_of 1 returned_1 ∷ effects.Deliver 5 (origins.Answer 2) 1 small_request ∷ []) (with_over s_5 none_over)
step_3 = did _ (return_of 1 returned_1 ∷ []) (effects.Deliver 5 (origins.Answer 2) 1 small_request ∷ []) g_3 refl answers_1 (all_left delivers_2) refl

unfoldable pub pipelined_is : Run (Some 0) pipelined
pipelined_is = (with_over s_5 none_over, (s_1, bootstrap_step, (s_2', step_1, (s_3', step_2, (with_over s_5 none_over, step_3, refl)))))
