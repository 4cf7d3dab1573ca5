-- Which states the steps of a row lead to: what a step shows leaves no other choice.
use Rattle.std.specs.Prelude.{◌≡◌, ◌≢◌, refl, false, not, ◌⊎◌, ℕ, zero, suc, ◌+◌, ◌≤◌, List, [], ◌∷◌, ◌++◌, Option, Some, None, IfSome, Result, Ok, Err, ⊤}
use Rattle.std.proofs.Common.{arith, sym, ap, ◌∙◌, inl, inr}
use Rattle.std.specs.List.{list_any}
use Rattle.std.specs.Ordering.{nat_cmp}
use Rattle.std.specs.Cmp.{nat_cmp_total}
use Rattle.std.specs.FinMap.{get, insert, empty, get-empty, get-insert}
use Rattle.cp_tree.specs.Node.{Node, cap, struct, no_nodes}
use Rattle.cp_tables.specs.Table.{Table}
use Rattle.cp_tables.specs.Counted.{new_counted}
use Rattle.cp_tables.specs.Exchange.{new_exchange}
use Rattle.cp_tables.specs.declared.counted.Counted.{Counted}
use Rattle.cp_tables.specs.declared.exchange.Exchange.{Exchange}
use Rattle.cp_tables.specs.declared.exchange.Stage.TheVariants as stages
use Rattle.cp_messages.specs.declared.descriptor.Descriptor.{Descriptor}
use Rattle.cp_messages.specs.declared.descriptor.Descriptor.TheVariants as descriptors
use Rattle.cp_messages.specs.declared.returned.Returned.{Returned}
use Rattle.cp_messages.specs.declared.returned.Returned.TheVariants as returns
use Rattle.cp_refs.specs.Route.{Routes}
use Rattle.cp_refs.specs.Values.{ValueMaps}
use Rattle.cp_refs.specs.declared.cap.Cap.{Cap}
use Rattle.cp_refs.specs.declared.cap.Cap.TheVariants as caps
use Rattle.cp_refs.specs.declared.outcome.Outcome.{Outcome}
use Rattle.cp_refs.specs.declared.outcome.Outcome.TheVariants as outcomes
use Rattle.cp_refs.specs.declared.route.Route.{Route}
use Rattle.cp_refs.specs.declared.route.Route.TheVariants as routes
use Rattle.cp_vat_machine.specs.State.{State, gave, with_exports, with_over, none_over}
use Rattle.cp_vat_machine.specs.Then.{Done, Then, OrFull, after, fault_if}
use Rattle.cp_vat_machine.specs.Capacity.{has_capacity}
use Rattle.cp_vat_machine.specs.Writing.{Raise, counted, counted_out, opened, has_no_capacity, ResolvesTo, WritesEnd, WritesDescriptors}
use Rattle.cp_vat_machine.specs.Doing.{DoAnswer, Quietly, answer_refusals}
use Rattle.cp_vat_machine.specs.Give.{Give, SettleTied, given, GiveAnswer, GiveBy, return_of, returned_mentions}
use Rattle.cp_vat_machine.specs.Go.{PendingCall, underway, without_call, Leave, NoneOver, Go, GoTo, held_at, delivered}
use Rattle.cp_vat_machine.specs.Answering.{with_answer, GoToAnswer, GoToTarget, peer_call, entered, call_faults, OnCall}
use Rattle.test_vat.specs.OrderRows.{delivered_to}
use Rattle.cp_messages.specs.declared.call.Call.{Call}
use Rattle.cp_messages.specs.declared.call.SendResultsTo.TheVariants as results_to
use Rattle.cp_messages.specs.declared.target.Target.{Target}
use Rattle.cp_messages.specs.declared.target.Target.TheVariants as targets
use Rattle.cp_messages.specs.declared.message.Message.{Message}
use Rattle.cp_messages.specs.declared.message.Message.TheVariants as messages
use Rattle.cp_refs.specs.declared.call.WaitingCall.{WaitingCall}
use Rattle.cp_refs.specs.declared.call.Origin.TheVariants as origins
use Rattle.cp_refs.specs.declared.route.Gate.TheVariants as gates
use Rattle.cp_vat_machine.specs.Receiving.{ReceivesCaps, released}
use Rattle.cp_vat_machine.specs.declared.effect.Effect.{Effect}
use Rattle.cp_vat_machine.specs.declared.effect.Effect.TheVariants as effects
use Rattle.cp_vat_machine.specs.declared.entry.AnswerEntry.{AnswerEntry}
use Rattle.cp_vat_machine.specs.declared.entry.Tied.{Tied}
use Rattle.cp_vat_machine.specs.declared.fault.PeerFault.{PeerFault}
use Rattle.cp_vat_machine.specs.State.{new_state}
use Rattle.cp_vat_machine.specs.Answering.{bootstrap_outcome, is_answering, OnBootstrap}
use Rattle.cp_vat_machine.specs.declared.fault.PeerFault.TheVariants as faults
use Rattle.cp_vat_machine.specs.Step.{Receives, Step}
use Rattle.cp_vat_machine.specs.declared.event.Event.TheVariants as events
use Rattle.cp_vat_machine.specs.declared.event.Value.TheVariants as values
use Rattle.test_vat.specs.Rows.{small_call, on_answer, small_request}
use Rattle.test_vat.proofs.OneWaits.{returned_0, none_waits}
use Rattle.test_vat.proofs.OneWaits.{s_1, s_2, s_2', s_3, s_3', entry_1, held_2, export_0, kept_1_after, ungiven_1_after, none_ended}
use Rattle.test_vat.proofs.Inverts.{is_closing, shows, quietly_ok, leave_ok, NextGoes, unless_ok, then_ok, quiet, ok_inj, some_inj, none_not_some}

-- an object comes to itself, and a call on it goes there
object_comes : (values : ValueMaps) (k : ℕ) (last : Cap) → ResolvesTo values (caps.Object k) last → last ≡ caps.Object k
object_comes values k last (zero, is) = absurd (none_not_some is)
object_comes values k last (suc n, is) = sym (some_inj is)

pub object_route : (values : ValueMaps) (k : ℕ) (route : Route) → Routes values (caps.Object k) route → route ≡ routes.Deliver k
object_route values k route (zero, is) = absurd (none_not_some is)
object_route values k route (suc n, is) = sym (some_inj is)

-- an export that was raised: counted once more, or opened
abbrev pub Raised : Table (Counted Cap) → Cap → ℕ → Table (Counted Cap) → Type 0
Raised old c e new =
    ((count : ℕ) × (get old e ≡ Some (record { count = count; kept = c })) × (new ≡ insert old e (record { count = count + 1; kept = c })))
    ⊎ (((n : ℕ) → IfSome (get old n) (λ entry. entry.kept ≢ c)) × (new ≡ insert old e (new_counted c)))

abbrev RaiseShows : State → Cap → Result (ℕ × State) PeerFault → Type 0
RaiseShows old c (Ok (e, new)) = (exports : Table (Counted Cap)) × Raised old.counts.exports c e exports × (new ≡ with_exports old exports)
RaiseShows old c (Err fault) = ⊤

raise_shows : {old : State} {c : Cap} {out : Result (ℕ × State) PeerFault} → Raise old c out → RaiseShows old c out
raise_shows (counted e count is below) = (_, inl (count, is, refl), refl)
raise_shows (counted_out e is) = tt
raise_shows (opened e none fresh) = (_, inr (none, refl), refl)
raise_shows (has_no_capacity none no_room) = tt

-- an object that is sent
abbrev pub SaysObject : State → ℕ → List Descriptor → State → Type 0
SaysObject old k named new =
    (e : ℕ) × (exports : Table (Counted Cap)) × Raised old.counts.exports (caps.Object k) e exports × (named ≡ descriptors.SenderHosted e ∷ [])
    × (new ≡ with_exports old exports)

said_by : (old : State) (k e : ℕ) (raised mid mid_again new : State) (d : Descriptor) (named rest : List Descriptor) → Raise old (caps.Object k) (Ok (e, raised))
    → ◌≡◌ {A = Result (Descriptor × State) PeerFault} (Ok (d, mid)) (Ok (descriptors.SenderHosted e, raised))
    → ◌≡◌ {A = Result (List Descriptor × State) PeerFault} (Ok (rest, mid_again)) (Ok ([], mid))
    → ◌≡◌ {A = Result (List Descriptor × State) PeerFault} (Ok (named, new)) (Ok (d ∷ rest, mid_again))
    → SaysObject old k named new
said_by old k e raised mid mid_again new d named rest raises is none said =
    let (exports, how, new_is) = raise_shows raises in (
      e,
      exports,
      how,
      ap (λ p. p.0) (ok_inj said) ∙ ap (λ x. x ∷ rest) (ap (λ p. p.0) (ok_inj is)) ∙ ap (λ xs. descriptors.SenderHosted e ∷ xs) (ap (λ p. p.0) (ok_inj none)),
      ap (λ p. p.1) (ok_inj said) ∙ ap (λ p. p.1) (ok_inj none) ∙ ap (λ p. p.1) (ok_inj is) ∙ new_is,
    )

says_by : (old : State) (k : ℕ) (last : Cap) (d : Descriptor) (mid mid_again new : State) (named rest : List Descriptor) → last ≡ caps.Object k → WritesEnd old last (Ok (d, mid))
    → ◌≡◌ {A = Result (List Descriptor × State) PeerFault} (Ok (rest, mid_again)) (Ok ([], mid))
    → ◌≡◌ {A = Result (List Descriptor × State) PeerFault} (Ok (named, new)) (Ok (d ∷ rest, mid_again))
    → SaysObject old k named new
says_by old k last d mid mid_again new named rest is ends none said =
    let (raised, raises, so) = then_ok _ _ _ (rw (is) at ends) in
    said_by old k raised.0 raised.1 mid mid_again new d named rest raises so none said

pub says_object : (old : State) (k : ℕ) (named : List Descriptor) (new : State) → WritesDescriptors old (caps.Object k ∷ []) (Ok (named, new)) → SaysObject old k named new
says_object old k named new says =
    let (first, (last, comes, ends), more) = then_ok _ _ _ says in
    let (rest, none, said) = then_ok _ _ _ more in
    says_by old k last first.0 first.1 rest.1 new named rest.0 (object_comes old.values k last comes) ends none said

-- results of one object are given, and no promise is tied to the answer
abbrev pub object_returned : Node → ℕ → Returned
object_returned content e = returns.Results (record { content = content; cap_table = descriptors.SenderHosted e ∷ [] })

abbrev pub GivesObject : State → ℕ → ℕ → Node → AnswerEntry → Done → Type 0
GivesObject old a k content kept done =
    (e : ℕ) × (exports : Table (Counted Cap)) × Raised old.counts.exports (caps.Object k) e exports
    × (done
    ≡ (
      return_of a (object_returned content e) ∷ [],
      given (with_exports old exports) a kept (outcomes.Results content (caps.Object k ∷ [])) (object_returned content e),
    ))

gave_by : (old : State) (a k : ℕ) (content : Node) (kept : AnswerEntry) (done : Done) (said : Returned × State) (named : List Descriptor × State) (rest : Done)
    → SaysObject old k named.0 named.1
    → ◌≡◌ {A = Result (Returned × State) PeerFault} (Ok said) (Ok (returns.Results (record { content = content; cap_table = named.0 }), named.1))
    → ◌≡◌ {A = Result Done PeerFault} (Ok rest) (Ok ([], given said.1 a kept (outcomes.Results content (caps.Object k ∷ [])) said.0))
    → ◌≡◌ {A = Result Done PeerFault} (Ok done) (Ok (after (return_of a said.0 ∷ []) rest))
    → GivesObject old a k content kept done
gave_by old a k content kept done said named rest (e, exports, how, is_named, new_is) said_is rest_is done_is = (
  e,
  exports,
  how,
  ok_inj done_is
      ∙ ap (λ r. after (return_of a said.0 ∷ []) r) (ok_inj rest_is)
      ∙ ap
      {A = Returned × State}
      {B = Done}
      (λ p. (return_of a p.0 ∷ [], given p.1 a kept (outcomes.Results content (caps.Object k ∷ [])) p.0))
      (ok_inj said_is
      ∙ ap {A = List Descriptor} {B = Returned × State} (λ names. (returns.Results (record { content = content; cap_table = names }), named.1)) is_named
      ∙ ap {A = State} {B = Returned × State} (λ s. (object_returned content e, s)) new_is),
)

none_tied : (s : State) (outcome : Outcome) (tied : List Tied) (out : Result Done PeerFault) → tied ≡ [] → SettleTied s outcome tied out → out ≡ Ok ([], s)
none_tied s outcome tied out is settles = rw (is) at settles

pub gives_object : (old : State) (a k : ℕ) (content : Node) (kept : AnswerEntry) (done : Done) → kept.tied ≡ []
    → GiveBy old a (outcomes.Results content (caps.Object k ∷ [])) kept stages.Open (Ok done)
    → GivesObject old a k content kept done
gives_object old a k content kept done untied gives =
    let (said, returns, more) = then_ok _ _ _ gives in
    let (named, says, said_is) = then_ok _ _ _ returns in
    let (rest, settles, done_is) = then_ok _ _ _ more in
    gave_by old a k content kept done said named rest (says_object old k named.0 named.1 says) said_is (none_tied _ _ kept.tied (Ok rest) untied settles) done_is

-- the exports of a return with one
exports_in : List Effect → List ℕ
exports_in (effects.Send (messages.Return r) ∷ more) = returned_mentions r.returned
exports_in other = []

first_or : ℕ → List ℕ → ℕ
first_or d [] = d
first_or d (x ∷ xs) = x

raised_at : (old : Table (Counted Cap)) (c : Cap) (e n : ℕ) (new : Table (Counted Cap)) → e ≡ n → Raised old c e new → Raised old c n new
raised_at old c e n new is how = rw (is) at how

-- A Bootstrap is answered with export 0.
abbrev pub boot_kept : AnswerEntry
boot_kept = record { ticket = None; is_delivered = false; mentions = []; tied = [] }

abbrev pub booted : State → ℕ → Table (Counted Cap) → State
booted old a exports =
    with_over
    (given (with_exports (with_answer old a None) exports) a boot_kept (outcomes.Results (cap 0) (caps.Object 0 ∷ [])) (object_returned (cap 0) 0))
    none_over

booted_by : (old new mid : State) (a : ℕ) (first rest : List Effect) → old.waiting.calls ≡ empty → GivesObject (with_answer old a None) a 0 (cap 0) boot_kept (first, mid)
    → Leave mid rest (Ok new)
    → return_of a (object_returned (cap 0) 0) ∷ [] ≡ first ++ rest
    → (exports : Table (Counted Cap)) × Raised old.counts.exports (caps.Object 0) 0 exports × (new ≡ booted old a exports)
unfolding exports_in first_or
booted_by old new mid a first rest none (e, exports, how, done_is) leaving is =
    let (rest_is, new_is) = quiet (none_waits mid (ap (λ d. d.1.waiting.calls) done_is ∙ none)) leaving in
    let e_is = ap (λ all. first_or 0 (exports_in all)) (is ∙ ap (λ f. f ++ rest) (ap (λ d. d.0) done_is)) in (
      exports,
      raised_at old.counts.exports (caps.Object 0) e 0 exports (sym e_is) how,
      new_is
          ∙ ap (λ s. with_over s none_over) (ap (λ d. d.1) done_is)
          ∙ ap
          (λ n. with_over (given (with_exports (with_answer old a None) exports) a boot_kept (outcomes.Results (cap 0) (caps.Object 0 ∷ [])) (object_returned (cap 0) n)) none_over)
          (sym e_is),
    )

boot_given : (old : State) (a : ℕ) (done : Done) → OnBootstrap old a (Ok done) → GiveAnswer (with_answer old a None) a (bootstrap_outcome old.bootstrap) (Ok done)
boot_given old a done does =
    unless_ok
    (fault_if (is_answering old a) faults.QuestionInUse ++ fault_if (not (has_capacity old.entries.answers)) faults.TableFull)
    (GiveAnswer (with_answer old a None) a (bootstrap_outcome old.bootstrap))
    done
    does

boot_gives : (old : State) (a : ℕ) (done : Done) → get (with_answer old a None).entries.answers a ≡ Some (new_exchange boot_kept)
    → GiveAnswer (with_answer old a None) a (bootstrap_outcome (Some 0)) (Ok done)
    → GivesObject (with_answer old a None) a 0 (cap 0) boot_kept done
boot_gives old a done kept (entry, is_kept, gives) = gives_object (with_answer old a None) a 0 (cap 0) boot_kept done refl (rw (some_inj (sym is_kept ∙ kept)) at gives)

-- the first Bootstrap leads to this state
first_export : (exports : Table (Counted Cap)) → Raised empty (caps.Object 0) 0 exports → exports ≡ insert empty 0 (new_counted (caps.Object 0))
first_export exports (inl (count, is, new_is)) = absurd (none_not_some (sym (get-empty nat_cmp 0) ∙ is))
first_export exports (inr (none, is)) = is

pub only_s_1 : (new : State) → Step (new_state (Some 0)) (events.Receive (messages.Bootstrap (record { question_id = 0 }))) (Ok values.Nothing) (return_of 0 returned_0 ∷ []) new → new ≡ s_1
only_s_1 new step =
    let old = new_state (Some 0) in
    let (first, rest, mid, receives, leaving, is) = shows step refl in
    let gives = boot_gives old 0 (first, mid) (get-insert nat_cmp_total empty 0 (new_exchange boot_kept) 0) (boot_given old 0 (first, mid) receives) in
    let (exports, how, new_is) = booted_by old new mid 0 first rest refl gives leaving is in
    new_is ∙ ap (booted old 0) (first_export exports how)

-- A step whose message can only do this leads to what that leaves, where it ends no gate.
pub pinned : (old new : State) (m : Message) (all : List Effect) (done : Done) → list_any is_closing all ≡ false → ((other : Done) → Receives old m (Ok other) → other ≡ done)
    → done.1.waiting.over ≡ none_over
    → Step old (events.Receive m) (Ok values.Nothing) all new
    → new ≡ with_over done.1 none_over
pinned old new m all done quiet_all only ends_none step =
    let (first, rest, mid, receives, leaving, is) = shows step quiet_all in
    let done_is = only (first, mid) receives in
    let (rest_is, new_is) = quiet (none_ended mid (ap {A = Done} (λ d. d.1.waiting.over) done_is ∙ ends_none)) leaving in
    new_is ∙ ap {A = Done} (λ d. with_over d.1 none_over) done_is

-- a call without capabilities goes by its target
abbrev pub small : ℕ → Target → Call
small q target =
    record {
      question_id = q;
      method_id = 4;
      send_results_to = results_to.Caller;
      interface_id = 9;
      target = target;
      params = record { content = struct [] no_nodes; cap_table = [] };
    }

abbrev Goes : State → ℕ → Target → Done → List Cap × State → Type 0
Goes old q target done taken = GoToTarget (entered taken.1 q) (peer_call taken.1 (small q target) taken.0) target (Ok done)

goes_by : (old : State) (q : ℕ) (target : Target) (done : Done) (taken : List Cap × State) → taken ≡ ([], old) → Goes old q target done taken → Goes old q target done ([], old)
goes_by old q target done taken is goes = rw (is) at goes

call_goes : (old : State) (q : ℕ) (target : Target) (done : Done) → OnCall old (small q target) (Ok done) → Goes old q target done ([], old)
call_goes old q target done does =
    let (taken, none, goes) = then_ok (ReceivesCaps old []) (λ taken. GoToTarget (entered taken.1 q) (peer_call taken.1 (small q target) taken.0) target) done (unless_ok
    (call_faults old (small q target))
    (Then (ReceivesCaps old []) (λ taken. GoToTarget (entered taken.1 q) (peer_call taken.1 (small q target) taken.0) target))
    done
    does) in
    goes_by old q target done taken (ok_inj none) goes

-- a call on an object is delivered to it
pub delivers : (old : State) (call : PendingCall) (k : ℕ) (done : Done) → GoTo old call (caps.Object k) (Ok done)
    → done ≡ (effects.Deliver k call.origin call.ticket call.request ∷ [], delivered old call.origin)
delivers old call k done (route, is_route, goes) = ok_inj (by_route route (object_route old.values k route is_route) goes)
  where
    by_route : (route : Route) → route ≡ routes.Deliver k → Go old call route (Ok done)
        → ◌≡◌ {A = Result Done PeerFault} (Ok done) (Ok (effects.Deliver k call.origin call.ticket call.request ∷ [], delivered old call.origin))
    by_route route is goes = rw (is) at goes

only_call_1 : (done : Done) → OnCall s_1 (small 1 (targets.ImportedCap 0)) (Ok done) → done ≡ (effects.Deliver 0 (origins.Answer 1) 0 small_request ∷ [], s_2)
only_call_1 done does =
    let goes = call_goes s_1 1 (targets.ImportedCap 0) done does in delivers (entered s_1 1) (peer_call s_1 (small 1 (targets.ImportedCap 0)) []) 0 done (rw (export_0) at goes)

pub only_s_2 : (new : State) → Step s_1 (events.Receive (small_call 1 (targets.ImportedCap 0))) (Ok values.Nothing) (effects.Deliver 0 (origins.Answer 1) 0 small_request ∷ []) new → new ≡ s_2'
only_s_2 new step = pinned s_1 new (small_call 1 (targets.ImportedCap 0)) _ (_, s_2) refl only_call_1 refl step

-- a call on an answer that isn't given waits
waits_at : (old : State) (q : ℕ) (entry : Exchange AnswerEntry) (done : Done) → get (entered old q).entries.answers 1 ≡ Some entry → entry.stage ≡ stages.Open
    → get (entered old q).values.answers 1 ≡ Some None
    → OnCall old (small q (on_answer 1 0)) (Ok done)
    → done ≡ ([], held_at (entered old q) (peer_call old (small q (on_answer 1 0)) []) (gates.Answer 1 (0 ∷ [])))
waits_at old q entry done is_kept is_open is_ungiven does =
    let goes = call_goes old q (on_answer 1 0) done does in ok_inj (by_answer (rw (is_kept, is_open, is_ungiven) refl) goes)
  where
    by_answer : {answer : Option (Option Outcome)} → answer ≡ Some None → GoToAnswer (entered old q) (peer_call old (small q (on_answer 1 0)) []) 1 (0 ∷ []) answer (Ok done)
        → ◌≡◌ {A = Result Done PeerFault} (Ok done) (Ok ([], held_at (entered old q) (peer_call old (small q (on_answer 1 0)) []) (gates.Answer 1 (0 ∷ []))))
    by_answer is goes = rw (is) at goes

pub only_s_3 : (new : State) → Step s_2' (events.Receive (small_call 2 (on_answer 1 0))) (Ok values.Nothing) [] new → new ≡ s_3'
only_s_3 new step = pinned s_2' new (small_call 2 (on_answer 1 0)) [] ([], s_3) refl (λ done does. waits_at s_2' 2 entry_1 done kept_1_after refl ungiven_1_after does) refl step

-- a second call that waits
abbrev pub s_4 : State
s_4 = held_at (entered s_3' 3) (peer_call s_3' (small 3 (on_answer 1 0)) []) (gates.Answer 1 (0 ∷ []))

abbrev pub s_4' : State
s_4' = with_over s_4 none_over

pub kept_1_again : get (entered s_3' 3).entries.answers 1 ≡ Some entry_1
kept_1_again = simp (get-insert {X = Exchange AnswerEntry} nat_cmp_total) refl

pub ungiven_1_again : get (entered s_3' 3).values.answers 1 ≡ Some None
ungiven_1_again = simp (get-insert {X = Option Outcome} nat_cmp_total) refl

pub only_s_4 : (new : State) → Step s_3' (events.Receive (small_call 3 (on_answer 1 0))) (Ok values.Nothing) [] new → new ≡ s_4'
only_s_4 new step = pinned s_3' new (small_call 3 (on_answer 1 0)) [] ([], s_4) refl (λ done does. waits_at s_3' 3 entry_1 done kept_1_again refl ungiven_1_again does) refl step

-- The first call is answered with an object: its Return goes out, and its gate has ended.
pub answers_object : (old : State) (content : Node) (k : ℕ) (first : List Effect) (mid : State) → get old.entries.answers 1 ≡ Some entry_1
    → DoAnswer old (origins.Answer 1) (outcomes.Results content (caps.Object k ∷ [])) (Ok (values.Nothing, first, mid))
    → GivesObject old 1 k content entry_1.kept (first, mid)
answers_object old content k first mid is_kept does =
    let origin = origins.Answer 1 in
    let outcome = outcomes.Results content (caps.Object k ∷ []) in
    let fits = unless_ok (answer_refusals old origin outcome) (OrFull (Quietly (Give old origin outcome))) (values.Nothing, first, mid) does in
    by_entry (quietly_ok (Give old origin outcome) values.Nothing first mid fits)
  where
    by_entry : GiveAnswer old 1 (outcomes.Results content (caps.Object k ∷ [])) (Ok (first, mid)) → GivesObject old 1 k content entry_1.kept (first, mid)
    by_entry (entry, was_kept, gives) = gives_object old 1 k content entry_1.kept (first, mid) refl (rw (some_inj (sym was_kept ∙ is_kept)) at gives)

-- Of the calls that wait for the first one's answer the one with ticket 1 goes first, to the object that the answer gave.
ticket_1 : (s : State) (call : WaitingCall) (ticket : ℕ) → get s.waiting.calls 0 ≡ None → get s.waiting.calls 1 ≡ Some held_2 → ticket ≤ 1 → get s.waiting.calls ticket ≡ Some call → call ≡ held_2
ticket_1 s call zero none one below waits = absurd (none_not_some (sym none ∙ waits))
ticket_1 s call (suc zero) none one below waits = some_inj (sym waits ∙ one)
ticket_1 s call (suc (suc n)) none one below waits = absurd (omega (arith, below))

delivers_5 : (s : State) (call : WaitingCall) (given : Cap) (first : List Effect) (mid : State) → call ≡ held_2 → given ≡ caps.Object 5
    → GoTo (without_call s call) (underway call) given (Ok (first, mid))
    → first ≡ delivered_to 2 1 ∷ []
delivers_5 s call given first mid call_is given_is goes =
    ap {A = Done} (λ d. d.0) (delivers (without_call s held_2) (underway held_2) 5 (first, mid) (moved call given call_is given_is goes))
  where
    moved : (call : WaitingCall) (given : Cap) → call ≡ held_2 → given ≡ caps.Object 5 → GoTo (without_call s call) (underway call) given (Ok (first, mid))
        → GoTo (without_call s held_2) (underway held_2) (caps.Object 5) (Ok (first, mid))
    moved call given call_is given_is goes = rw (call_is, given_is) at goes

pub goes_first : (s new : State) (all : List Effect) → get s.waiting.calls 0 ≡ None → get s.waiting.calls 1 ≡ Some held_2 → gave s.waiting.over held_2.gate ≡ Some (caps.Object 5)
    → Leave s all (Ok new)
    → (rest : List Effect) × (all ≡ delivered_to 2 1 ∷ rest)
goes_first s new all none one ended leaving = by_shown (leave_ok leaving)
  where
    at_call : (o : Option WaitingCall) → o ≡ Some held_2 → IfSome o (λ other. gave s.waiting.over other.gate ≡ None) → ⊥
    at_call (Some other) is still = absurd (none_not_some (sym still ∙ ap (λ call. gave s.waiting.over call.gate) (some_inj is) ∙ ended))
    at_call None is still = absurd (none_not_some is)

    by_shown : (NoneOver s × (all ≡ []) × (new ≡ with_over s none_over)) ⊎ NextGoes s all new → (rest : List Effect) × (all ≡ delivered_to 2 1 ∷ rest)
    by_shown (inl (still, is, new_is)) = absurd (at_call (get s.waiting.calls 1) one (still 1))
    by_shown (inr (call, given, first, rest, mid, next, went, later, is)) =
        let call_is = ticket_1 s call call.ticket none one (next.lowest 1 held_2 (caps.Object 5) one ended) next.waits in
        let given_is = some_inj (sym next.ended ∙ ap (λ c. gave s.waiting.over c.gate) call_is ∙ ended) in
        (rest, is ∙ ap (λ f. f ++ rest) (delivers_5 s call given first mid call_is given_is went))

-- the two Releases
pub released_by : (old new : State) (e n : ℕ) → old.waiting.calls ≡ empty → Step old (events.Receive (messages.Release (record { id = e; reference_count = n }))) (Ok values.Nothing) [] new
    → (exports : Table (Counted Cap)) × (released old.counts.exports e n ≡ Ok exports) × (new ≡ with_over (with_exports old exports) none_over)
released_by old new e n none step =
    let (first, rest, mid, receives, leaving, is) = shows step refl in
    let (exports, is_released, done_is) = then_ok (λ exports. exports ≡ released old.counts.exports e n) (λ exports out. out ≡ Ok ([], with_exports old exports)) (first, mid) receives in
    let mid_is = ap {A = Done} (λ d. d.1) (ok_inj done_is) in
    let (rest_is, new_is) = quiet (none_waits mid (ap (λ s. s.waiting.calls) mid_is ∙ none)) leaving in
    (exports, sym is_released, new_is ∙ ap (λ s. with_over s none_over) mid_is)

-- the second Bootstrap counts the export twice
again_gives : (first : List Effect) (mid : State) → OnBootstrap s_1 1 (Ok (first, mid)) → GivesObject (with_answer s_1 1 None) 1 0 (cap 0) boot_kept (first, mid)
again_gives first mid does = boot_gives s_1 1 (first, mid) (get-insert nat_cmp_total s_1.entries.answers 1 (new_exchange boot_kept) 1) (boot_given s_1 1 (first, mid) does)

count_of_0 : (o : Option (Counted Cap)) → o ≡ Some (new_counted (caps.Object 0)) → IfSome o (λ entry. entry.kept ≢ caps.Object 0) → ⊥
count_of_0 (Some entry) is none = none (ap (λ e. e.kept) (some_inj is))
count_of_0 None is none = none_not_some is

counted_again : (exports : Table (Counted Cap)) → Raised s_1.counts.exports (caps.Object 0) 0 exports → get exports 0 ≡ Some (record { count = 2; kept = caps.Object 0 })
counted_again exports (inl (count, is, new_is)) =
    ap (λ table. get table 0) new_is
    ∙ get-insert nat_cmp_total s_1.counts.exports 0 (record { count = count + 1; kept = caps.Object 0 }) 0
    ∙ ap (λ entry. Some (record { count = entry.count + 1; kept = caps.Object 0 })) (some_inj (sym is ∙ export_0))
counted_again exports (inr (none, new_is)) = absurd (count_of_0 (get s_1.counts.exports 0) export_0 (none 0))

pub second_boot : (new : State) → Step s_1 (events.Receive (messages.Bootstrap (record { question_id = 1 }))) (Ok values.Nothing) (return_of 1 (object_returned (cap 0) 0) ∷ []) new
    → (new.waiting.calls ≡ empty) × (get new.counts.exports 0 ≡ Some (record { count = 2; kept = caps.Object 0 }))
second_boot new step =
    let (first, rest, mid, receives, leaving, is) = shows step refl in
    let (exports, how, new_is) = booted_by s_1 new mid 1 first rest refl (again_gives first mid receives) leaving is in
    (ap (λ s. s.waiting.calls) new_is, ap (λ s. get s.counts.exports 0) new_is ∙ counted_again exports how)
