-- No run delivers a call at once after those that were sent on the same reference.
use Rattle.std.specs.Prelude.{◌≡◌, refl, ℕ, zero, suc, Bool, true, false, List, [], ◌∷◌, ◌++◌, Option, Some, None, Result, Ok}
use Rattle.std.proofs.Common.{sym, ap, ◌∙◌, true≢false}
use Rattle.std.specs.Ordering.{nat_cmp}
use Rattle.std.specs.Cmp.{nat_cmp_total}
use Rattle.std.specs.Cmp.Lexicographic.{slice_cmp, nat_list_cmp_total}
use Rattle.std.specs.FinMap.{get, empty, get-empty, len-empty, get-insert}
use Rattle.cp_tree.specs.Node.{cap}
use Rattle.cp_tables.specs.Table.{Table}
use Rattle.cp_tables.specs.Exchange.{new_exchange}
use Rattle.cp_tables.specs.declared.counted.Counted.{Counted}
use Rattle.cp_tables.specs.declared.exchange.Exchange.{Exchange}
use Rattle.cp_tables.specs.declared.exchange.Stage.TheVariants as stages
use Rattle.cp_messages.specs.declared.descriptor.Descriptor.{Descriptor}
use Rattle.cp_messages.specs.declared.descriptor.Descriptor.TheVariants as descriptors
use Rattle.cp_messages.specs.declared.message.Message.TheVariants as messages
use Rattle.cp_messages.specs.declared.returned.Return.{Return}
use Rattle.cp_messages.specs.declared.returned.Returned.TheVariants as returns
use Rattle.cp_messages.specs.declared.target.Target.TheVariants as targets
use Rattle.cp_refs.specs.Route.{ends, way, route_within, route_by, Routes}
use Rattle.cp_refs.specs.Values.{ValueMaps}
use Rattle.cp_refs.specs.declared.cap.Cap.{Cap}
use Rattle.cp_refs.specs.declared.cap.Cap.TheVariants as caps
use Rattle.cp_refs.specs.declared.call.Origin.TheVariants as origins
use Rattle.cp_refs.specs.declared.call.Request.{Request}
use Rattle.cp_refs.specs.declared.outcome.Outcome.{Outcome}
use Rattle.cp_refs.specs.declared.outcome.Outcome.TheVariants as outcomes
use Rattle.cp_refs.specs.declared.route.Route.{Route}
use Rattle.cp_refs.specs.declared.route.Route.TheVariants as routes
use Rattle.cp_refs.specs.declared.values.QuestionState.{QuestionState}
use Rattle.cp_refs.specs.declared.values.QuestionKind.TheVariants as kinds
use Rattle.cp_vat_machine.specs.State.{State, new_state, none_over, with_over, with_exports}
use Rattle.cp_vat_machine.specs.Then.{Done, Then, OrFull}
use Rattle.cp_vat_machine.specs.Capacity.{Fresh}
use Rattle.cp_vat_machine.specs.Writing.{WritesDescriptors, promised}
use Rattle.cp_vat_machine.specs.Receiving.{ReceivesCap, ReceivesCaps, taken_export}
use Rattle.cp_vat_machine.specs.Give.{GiveOwn, GiveOwnBy, question_settled}
use Rattle.cp_vat_machine.specs.Go.{PendingCall, Go, GoTo, GoOut, call_of, sent}
use Rattle.cp_vat_machine.specs.Asking.{ReceivesReturned, Settles, ReturnBy, ReturnOf, OnReturn}
use Rattle.cp_vat_machine.specs.Calling.{OwnDone, Standing, on_wire, came_to, reference_of, asked, called, own_call, mark_of, with_mark, marked, disembargo_of, FirstEmbargoed, GoBack, GoFrom, Opens, call_refusals, DoCall}
use Rattle.cp_vat_machine.specs.Step.{Step}
use Rattle.cp_vat_machine.specs.declared.effect.Effect.{Effect}
use Rattle.cp_vat_machine.specs.declared.effect.Effect.TheVariants as effects
use Rattle.cp_vat_machine.specs.declared.entry.QuestionEntry.{QuestionEntry}
use Rattle.cp_vat_machine.specs.declared.event.Event.TheVariants as events
use Rattle.cp_vat_machine.specs.declared.event.Value.{Value}
use Rattle.cp_vat_machine.specs.declared.event.Value.TheVariants as values
use Rattle.cp_vat_machine.specs.declared.fault.PeerFault.{PeerFault}
use Rattle.test_vat.specs.Rows.{small_request}
use Rattle.test_vat.specs.OrderRows.{IsNoRun, bootstrap_cap, with_object, object_3, object_returned, embargo_skipped}
use Rattle.test_vat.proofs.OneWaits.{none_waits}
use Rattle.test_vat.proofs.Inverts.{shows, then_ok, unless_ok, full_ok, quiet, ok_inj, some_inj, none_not_some, err_not_ok}
use Rattle.test_vat.proofs.Pinned.{says_object}

-- the number of the question that a call opened
question_of : Value → ℕ
question_of (values.Question q) = q
question_of other = 0

-- the application's Bootstrap leads to this state
abbrev s_a : State
s_a = with_over (asked (new_state (Some 0)) 0 kinds.Wire None true) none_over

only_a : (new : State) → Step (new_state (Some 0)) events.Bootstrap (Ok (values.Question 0)) (effects.Send (messages.Bootstrap (record { question_id = 0 })) ∷ []) new → new ≡ s_a
unfolding question_of
only_a new step =
    let old = new_state (Some 0) in
    let (first, rest, mid, does, leaving, is) = shows step refl in
    let Opening = λ (q : ℕ) (out : Result OwnDone PeerFault). out ≡ Ok (values.Question q, effects.Send (messages.Bootstrap (record { question_id = q })) ∷ [], asked old q kinds.Wire None true) in
    let (n, fresh, done_is) = then_ok (Fresh old.entries.questions) Opening (values.Question 0, first, mid) (full_ok (Then (Fresh old.entries.questions) Opening) (values.Question 0, first, mid) does) in
    let n_is = ap {A = OwnDone} (λ done. question_of done.0) (ok_inj done_is) in
    let mid_is = ap {A = OwnDone} (λ done. done.2) (ok_inj done_is) ∙ ap (λ q. asked old q kinds.Wire None true) (sym n_is) in
    let (rest_is, new_is) = quiet (none_waits mid (ap (λ s. s.waiting.calls) mid_is)) leaving in
    new_is ∙ ap (λ s. with_over s none_over) mid_is

-- a call of the application goes from where its reference stands
call_from : (old : State) (c : Cap) (request : Request) (q : ℕ) (first : List Effect) (mid : State) → DoCall old c request (Ok (values.Question q, first, mid))
    → GoFrom old q request c (reference_of old.values c) (Ok (first, mid))
unfolding question_of
call_from old c request q first mid does =
    let own : OwnDone = (values.Question q, first, mid) in
    let opens = full_ok (Opens old c request) own (unless_ok (call_refusals old c request) (OrFull (Opens old c request)) own does) in
    let (n, fresh, goes) = then_ok (Fresh old.entries.questions) _ own opens in
    let (done, from, is) = then_ok (GoFrom old n request c (reference_of old.values c)) _ own goes in
    moved n done (sym (ap {A = OwnDone} (λ own. question_of own.0) (ok_inj is))) (sym (ap {A = OwnDone} {B = Done} (λ own. (own.1, own.2)) (ok_inj is))) from
  where
    moved : (n : ℕ) (done : Done) → n ≡ q → done ≡ (first, mid) → GoFrom old n request c (reference_of old.values c) (Ok done)
        → GoFrom old q request c (reference_of old.values c) (Ok (first, mid))
    moved n done n_is done_is from = rw (n_is, done_is) at from

from_known : (old : State) (q : ℕ) (request : Request) (c : Cap) (reference known : Standing) (done : Done) → reference ≡ known → GoFrom old q request c reference (Ok done)
    → GoFrom old q request c known (Ok done)
from_known old q request c reference known done is goes = rw (is) at goes

-- the route of what ends at once
ends_route : (values : ValueMaps) (c : Cap) (route known : Route) → way values c ≡ ends known → Routes values c route → route ≡ known
ends_route values c route known e (zero, is) = absurd (none_not_some is)
ends_route values c route known e (suc n, is) = sym (some_inj (sym (ap (route_by (λ next. route_within n values next)) e) ∙ is))

-- the first call is sent, and marks the path
abbrev marked_a : State
marked_a = with_mark (called s_a 1 kinds.Wire) bootstrap_cap None

reference_a : reference_of s_a.values bootstrap_cap ≡ on_wire
reference_a = simp (get-insert {X = QuestionState} nat_cmp_total) refl

marks_a : marked (called s_a 1 kinds.Wire) bootstrap_cap (mark_of s_a bootstrap_cap) ≡ Ok marked_a
marks_a = rw (get-empty {X = Option ℕ} (slice_cmp nat_cmp) (0 ∷ []), len-empty (slice_cmp nat_cmp) (Option ℕ)) refl

way_a : way marked_a.values bootstrap_cap ≡ ends (routes.Pipe 0 [])
way_a = simp (get-insert {X = QuestionState} nat_cmp_total) refl

abbrev s_b : Table (Counted Cap) → List Descriptor → State
s_b exports named = with_over (sent (with_exports marked_a exports) 1 named) none_over

IsSent : State → Type 0
IsSent new = (exports : Table (Counted Cap)) × (named : List Descriptor) × (new ≡ s_b exports named)

sent_by : (first : List Effect) (mid : State) → GoOut marked_a (own_call s_a 1 with_object) (targets.PromisedAnswer (promised 0 [])) (origins.Own 1) (Ok (first, mid))
    → (exports : Table (Counted Cap)) × (named : List Descriptor) × (mid ≡ sent (with_exports marked_a exports) 1 named)
sent_by first mid (entry, is_kept, goes) =
    let (said, says, is) = then_ok (WritesDescriptors marked_a (caps.Object 3 ∷ [])) _ (first, mid) goes in
    let (e, exports, how, named_is, new_is) = says_object marked_a 3 said.0 said.1 says in
    (exports, said.0, ap {A = Done} (λ d. d.1) (ok_inj is) ∙ ap (λ s. sent s 1 said.0) new_is)

goes_out : (first : List Effect) (mid m : State) (route : Route) → m ≡ marked_a → Routes m.values bootstrap_cap route → Go m (own_call s_a 1 with_object) route (Ok (first, mid))
    → GoOut marked_a (own_call s_a 1 with_object) (targets.PromisedAnswer (promised 0 [])) (origins.Own 1) (Ok (first, mid))
goes_out first mid m route m_is routed goes =
    by_route route (ends_route marked_a.values bootstrap_cap route (routes.Pipe 0 []) way_a (rw (m_is) at routed)) (rw (m_is) at goes)
  where
    by_route : (route : Route) → route ≡ routes.Pipe 0 [] → Go marked_a (own_call s_a 1 with_object) route (Ok (first, mid))
        → Go marked_a (own_call s_a 1 with_object) (routes.Pipe 0 []) (Ok (first, mid))
    by_route route is goes = rw (is) at goes

only_b : (new : State) → Step s_a (events.Call bootstrap_cap with_object) (Ok (values.Question 1)) (call_of 1 (targets.PromisedAnswer (promised 0 [])) with_object (descriptors.SenderHosted 0 ∷ []) ∷ []) new
    → IsSent new
unfolding IsSent
only_b new step =
    let (first, rest, mid, does, leaving, is) = shows step refl in
    let from = from_known s_a 1 with_object bootstrap_cap _ on_wire (first, mid) reference_a (call_from s_a bootstrap_cap with_object 1 first mid does) in
    let (m, is_marked, (route, routed, goes)) = then_ok (λ m. m ≡ marked (called s_a 1 kinds.Wire) bootstrap_cap (mark_of s_a bootstrap_cap)) (λ m. GoTo m (own_call s_a 1 with_object) bootstrap_cap) (first, mid) from in
    let (exports, named, mid_is) = sent_by first mid (goes_out first mid m route (ok_inj (is_marked ∙ marks_a)) routed goes) in
    let (rest_is, new_is) = quiet (none_waits mid (ap (λ s. s.waiting.calls) mid_is)) leaving in
    (exports, named, new_is ∙ ap (λ s. with_over s none_over) mid_is)

-- The Return settles the question with the object, which this end has.
abbrev kept_0 : QuestionEntry
kept_0 = record { forwards = None; ticket = None; is_sent = true; is_delivered = false; mentions = [] }

abbrev return_0 : Return
return_0 =
    record {
      answer_id = 0;
      release_param_caps = false;
      returned = returns.Results (record { content = cap 0; cap_table = descriptors.ReceiverHosted 0 ∷ [] });
    }

asked_0 : (exports : Table (Counted Cap)) (named : List Descriptor) → get (s_b exports named).entries.questions 0 ≡ Some (new_exchange kept_0)
asked_0 exports named = simp (get-insert {X = Exchange QuestionEntry} nat_cmp_total) refl

-- what names an export changes nothing
export_keeps : (s : State) (o : Option (Counted Cap)) (taken : Cap × State) → ◌≡◌ {A = Result (Cap × State) PeerFault} (Ok taken) (taken_export s o) → taken.1 ≡ s
export_keeps s None taken is = absurd (err_not_ok (sym is))
export_keeps s (Some entry) taken is = ap {A = Cap × State} (λ t. t.1) (ok_inj is)

takes_keep : (s : State) (taken : Outcome × State) → ReceivesReturned s return_0.returned (Ok taken) → taken.1 ≡ s
takes_keep s taken takes =
    let (table, all, taken_is) = then_ok (ReceivesCaps s (descriptors.ReceiverHosted 0 ∷ [])) _ taken takes in
    let (first, one, more) = then_ok (ReceivesCap s (descriptors.ReceiverHosted 0)) _ table all in
    let (rest, none, table_is) = then_ok (ReceivesCaps first.1 []) _ table more in
    ap {A = Outcome × State} (λ t. t.1) (ok_inj taken_is)
    ∙ ap {A = List Cap × State} (λ t. t.1) (ok_inj table_is)
    ∙ ap {A = List Cap × State} (λ t. t.1) (ok_inj none)
    ∙ export_keeps s (get s.counts.exports 0) first one

-- the outcome that the application is told first
settled_outcome : List Effect → Outcome
settled_outcome (effects.Settled q outcome ∷ more) = outcome
settled_outcome other = outcomes.Canceled

abbrev SettledBy : State → Done → Type 0
SettledBy s done = (outcome : Outcome) × (done ≡ (effects.Settled 0 outcome ∷ [], question_settled s 0 outcome))

own_settled : (s : State) (outcome : Outcome) (done : Done) → get s.entries.questions 0 ≡ Some (new_exchange kept_0) → GiveOwn s 0 outcome (Ok done) → SettledBy s done
own_settled s outcome done is_kept (entry, was_kept, gives) = (outcome, ok_inj (by_entry entry (some_inj (sym was_kept ∙ is_kept)) gives))
  where
    by_entry : (entry : Exchange QuestionEntry) → entry ≡ new_exchange kept_0 → GiveOwnBy s 0 outcome entry.stage (Ok done)
        → ◌≡◌ {A = Result Done PeerFault} (Ok done) (Ok (effects.Settled 0 outcome ∷ [], question_settled s 0 outcome))
    by_entry entry is gives = rw (is) at gives

return_settles : (s : State) (done : Done) → get s.entries.questions 0 ≡ Some (new_exchange kept_0) → ReturnBy s return_0 kept_0 stages.Open (Ok done) → SettledBy s done
return_settles s done is_kept returns =
    let (taken, takes, settles) = then_ok (ReceivesReturned s return_0.returned) (λ taken. Settles taken.1 0 None taken.0) done returns in
    own_settled s taken.0 done is_kept (moved taken.1 (takes_keep s taken takes) taken.0 settles)
  where
    moved : (t : State) → t ≡ s → (outcome : Outcome) → GiveOwn t 0 outcome (Ok done) → GiveOwn s 0 outcome (Ok done)
    moved t is outcome gives = rw (is) at gives

returned_by : (s : State) (done : Done) → get s.entries.questions 0 ≡ Some (new_exchange kept_0) → OnReturn s return_0 (Ok done) → SettledBy s done
returned_by s done is_kept returns =
    let (exports, exports_is, by) = then_ok (λ (exports : Result (Table (Counted Cap)) PeerFault). exports ≡ Ok s.counts.exports) (λ exports. ReturnBy (with_exports s exports) return_0 kept_0 stages.Open) done (by_question (get s.entries.questions 0) is_kept returns) in
    return_settles s done is_kept (unchanged exports (ok_inj exports_is) by)
  where
    by_question : (o : Option (Exchange QuestionEntry)) → o ≡ Some (new_exchange kept_0) → ReturnOf s return_0 o (Ok done) → ReturnOf s return_0 (Some (new_exchange kept_0)) (Ok done)
    by_question o is returns = rw (is) at returns

    unchanged : (exports : Table (Counted Cap)) → exports ≡ s.counts.exports → ReturnBy (with_exports s exports) return_0 kept_0 stages.Open (Ok done)
        → ReturnBy s return_0 kept_0 stages.Open (Ok done)
    unchanged exports is returns = rw (is) at returns

abbrev s_c : State → State
s_c s = with_over (question_settled s 0 object_3) none_over

only_c : (s new : State) → s.waiting.calls ≡ empty → get s.entries.questions 0 ≡ Some (new_exchange kept_0) → Step s (events.Receive object_returned) (Ok values.Nothing) (effects.Settled 0 object_3 ∷ []) new → new ≡ s_c s
unfolding settled_outcome
only_c s new none is_kept step =
    let (first, rest, mid, receives, leaving, is) = shows step refl in
    let (outcome, done_is) = returned_by s (first, mid) is_kept receives in
    let outcome_is = ap settled_outcome (is ∙ ap {A = Done} (λ d. d.0 ++ rest) done_is) in
    let mid_is = ap {A = Done} (λ d. d.1) done_is ∙ ap (question_settled s 0) (sym outcome_is) in
    let (rest_is, new_is) = quiet (none_waits mid (ap (λ s. s.waiting.calls) mid_is ∙ none)) leaving in
    new_is ∙ ap (λ t. with_over t none_over) mid_is

-- the next call is embargoed
embargoed : (s : State) (call : PendingCall) (done : Done) (mark : Option (Option ℕ)) → mark ≡ Some None → GoBack s call bootstrap_cap (caps.Object 3) mark (Ok done)
    → (n : ℕ) × (done.0 ≡ disembargo_of n bootstrap_cap ∷ [])
embargoed s call done mark is goes =
    let (n, fresh, done_is) = then_ok (Fresh s.marks.embargoes) _ done (by_mark is goes) in (n, ap {A = Done} (λ d. d.0) (ok_inj done_is))
  where
    by_mark : mark ≡ Some None → GoBack s call bootstrap_cap (caps.Object 3) mark (Ok done) → FirstEmbargoed s call bootstrap_cap (caps.Object 3) (Ok done)
    by_mark is goes = rw (is) at goes

is_delivery : List Effect → Bool
is_delivery (effects.Deliver k origin ticket request ∷ more) = true
is_delivery other = false

reference_c : (exports : Table (Counted Cap)) (named : List Descriptor) → reference_of (s_c (s_b exports named)).values bootstrap_cap ≡ came_to (caps.Object 3)
reference_c exports named = simp (get-insert {X = QuestionState} nat_cmp_total) refl

mark_c : (exports : Table (Counted Cap)) (named : List Descriptor) → mark_of (s_c (s_b exports named)) bootstrap_cap ≡ Some None
mark_c exports named = get-insert nat_list_cmp_total empty (0 ∷ []) None (0 ∷ [])

overtakes : (exports : Table (Counted Cap)) (named : List Descriptor) (new : State)
    → Step (s_c (s_b exports named)) (events.Call bootstrap_cap small_request) (Ok (values.Question 2)) (effects.Deliver 3 (origins.Own 2) 1 small_request ∷ []) new
    → ⊥
unfolding is_delivery
overtakes exports named new step =
    let old = s_c (s_b exports named) in
    let (first, rest, mid, does, leaving, is) = shows step refl in
    let goes = from_known old 2 small_request bootstrap_cap _ (came_to (caps.Object 3)) (first, mid) (reference_c exports named) (call_from old bootstrap_cap small_request 2 first mid does) in
    let (n, first_is) = embargoed (called old 2 kinds.Local) (own_call old 2 small_request) (first, mid) (mark_of old bootstrap_cap) (mark_c exports named) goes in
    true≢false (ap is_delivery (is ∙ ap (λ f. f ++ rest) first_is))

pub not_without_embargo : IsNoRun embargo_skipped
unfolding IsSent
not_without_embargo (last, (m_1, step_0, (m_2, step_1, (m_3, step_2, (m_4, step_3, end))))) =
    let (exports, named, is_b) = only_b m_2 (rw (only_a m_1 step_0) at step_1) in
    let is_c = only_c (s_b exports named) m_3 refl (asked_0 exports named) (rw (is_b) at step_2) in overtakes exports named m_4 (rw (is_c) at step_3)
