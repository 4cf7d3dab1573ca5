-- A call of the peer's enters.
use Rattle.std.specs.Prelude.{◌≡◌, refl, ℕ, ◌+◌, not, ◌&&◌, true, false, List, [], ◌∷◌, ◌++◌, Option, Some, None, is_some, is_none, Ok}
use Rattle.std.specs.FinMap.{get, insert}
use Rattle.std.proofs.Common.{arith, ap, subst, ◌∙◌, true≢false}
use Rattle.cp_tables.specs.Exchange.{new_exchange}
use Rattle.cp_tables.specs.declared.counted.Counted.{Counted}
use Rattle.cp_tables.specs.declared.exchange.Exchange.{Exchange}
use Rattle.cp_messages.specs.declared.call.Call.{Call}
use Rattle.cp_messages.specs.declared.target.Target.{Target}
use Rattle.cp_messages.specs.declared.target.Target.TheVariants as targets
use Rattle.cp_messages.specs.declared.message.Message.TheVariants as messages
use Rattle.cp_refs.specs.At.{cap_at}
use Rattle.cp_refs.specs.Route.{Routes}
use Rattle.cp_refs.specs.declared.cap.Cap.{Cap}
use Rattle.cp_refs.specs.declared.cap.Cap.TheVariants as caps
use Rattle.cp_refs.specs.declared.call.Origin.TheVariants as origins
use Rattle.cp_refs.specs.declared.outcome.Outcome.{Outcome}
use Rattle.cp_refs.specs.declared.route.Gate.{Gate}
use Rattle.cp_refs.specs.declared.route.Gate.TheVariants as gates
use Rattle.cp_refs.specs.declared.route.Route.{Route}
use Rattle.cp_refs.specs.declared.route.Route.TheVariants as routes
use Rattle.cp_vat_machine.specs.State.{State, none_over}
use Rattle.cp_vat_machine.specs.Then.{Done, fault_if}
use Rattle.cp_vat_machine.specs.Supported.{is_supported}
use Rattle.cp_vat_machine.specs.Receiving.{answer_of, path_of, ReceivesCaps}
use Rattle.cp_vat_machine.specs.Answering.{is_answering, target_faults, GoToExport, GoToAnswer, GoToTarget, peer_call, entered, call_faults, OnCall}
use Rattle.cp_vat_machine.specs.Go.{PendingCall, Go}
use Rattle.cp_vat_machine.specs.Local.{IsExportable, AnswerIs}
use Rattle.cp_vat_machine.specs.Trace.{Turn}
use Rattle.cp_vat_machine.specs.Ports.{Name, answer_path, capability, named, NameRoute, entry_of_event}
use Rattle.cp_vat_machine.specs.declared.effect.Effect.{Effect}
use Rattle.cp_vat_machine.specs.declared.entry.AnswerEntry.{AnswerEntry}
use Rattle.cp_vat_machine.specs.declared.event.Event.TheVariants as events
use Rattle.cp_vat_machine.specs.declared.event.Value.TheVariants as values
use Rattle.cp_vat_machine.specs.declared.fault.PeerFault.{PeerFault}
use Rattle.cp_vat_machine.specs.declared.fault.PeerFault.TheVariants as faults
use Rattle.cp_vat_machine.specs.Capacity.{has_capacity, has_ticket}
use Rattle.cp_vat_laws.specs.Within.{Within}
use Rattle.cp_vat_laws.specs.OrderKept.{OrderHolds}
use Rattle.cp_vat_machine.proofs.Basics.{is_itself, then_out, unless_out, put_at}
use Rattle.cp_vat_laws.proofs.order.Basics.{there_is}
use Rattle.cp_vat_laws.proofs.order.Passes.{Sound}
use Rattle.cp_vat_laws.proofs.order.Same.{marks_same}
use Rattle.cp_vat_laws.proofs.order.Sound.{sound_within}
use Rattle.cp_vat_laws.proofs.order.Grows.{GrowsTo, put_grows, grows_passes}
use Rattle.cp_vat_laws.proofs.order.Enters.{owning}
use Rattle.cp_vat_laws.proofs.order.EntersThen.{IsCome, no_embargo, routed_holds}
use Rattle.cp_vat_laws.proofs.Tables.{no_faults, front_empty, back_empty, not_met}
use Rattle.cp_vat_laws.proofs.within.Take.{Grows, take_all_keeps, answer_given}

-- a number without an entry has no value
pub free_answer : (s : State) (a : ℕ) → Within s None [] → is_answering s a ≡ false → get s.values.answers a ≡ None
free_answer s a w free = by (get s.entries.answers a) (get s.values.answers a) refl free (w.answers_valued a)
  where
    by : (e : Option (Exchange AnswerEntry)) (o : Option (Option Outcome)) → get s.values.answers a ≡ o → is_some e ≡ false → AnswerIs e o → get s.values.answers a ≡ None
    by None None is none h = is
    by None (Some x) is none h = absurd h
    by (Some e) o is none h = absurd (true≢false none)

module _ (old : State) (c : Call) (taken : List Cap × State) (within : Within old None []) (none : old.waiting.over ≡ none_over) (grows : Grows old taken.1)
    (free : get old.values.answers c.question_id ≡ None) where
  abbrev between : State
  between = entered taken.1 c.question_id

  abbrev call : PendingCall
  call = peer_call taken.1 c taken.0

  abbrev its_entry : Exchange AnswerEntry
  its_entry = new_exchange (record { ticket = Some taken.1.next_ticket; is_delivered = false; mentions = []; tied = [] })

  values_grow : GrowsTo old.values between.values
  values_grow =
      record {
        promises = λ p x is. grows.promises p x is;
        imports = λ i x is. grows.imports i x is;
        answers = λ a x is. put_grows taken.1.values.answers c.question_id None (ap (λ t. get t c.question_id) grows.answers ∙ free) a x (ap (λ t. get t a) grows.answers ∙ is);
        questions = λ q x is. ap (λ t. get t q) grows.questions ∙ is;
      }

  entry_is : get between.entries.answers c.question_id ≡ Some its_entry
  entry_is = put_at taken.1.entries.answers c.question_id c.question_id its_entry true (is_itself c.question_id)

  over_same : between.waiting.over ≡ old.waiting.over
  over_same = ap (λ w. w.over) grows.waiting

  pub is_come : IsCome old between call
  is_come =
      record {
        passes =
            grows_passes old between values_grow over_same (λ n v is. ap (λ m. get m.embargoes n) grows.marks ∙ is)
            (λ x g there off fits. marks_same old between x g grows.marks (ap (λ o. o.embargoes) over_same) fits) (omega (arith, grows.tickets));
        grows = values_grow;
        over = over_same ∙ none;
        calls = ap (λ w. w.calls) grows.waiting;
        next = ap (λ n. n + 1) grows.tickets;
        ticket = grows.tickets;
        whose = (its_entry, entry_is, refl, refl);
        ungiven = (
          put_at taken.1.values.answers c.question_id c.question_id None true (is_itself c.question_id),
          ap (λ o. get o.answers c.question_id) (over_same ∙ none) ∙ Rattle.std.specs.FinMap.get-empty {X = Outcome} Rattle.std.specs.Ordering.nat_cmp c.question_id,
          rw (entry_is) tt,
        );
        fresh = (its_entry, entry_is, refl, refl);
      }

  module _ (past : List Turn) (h : OrderHolds past old) (supported : is_supported (messages.Call c) ≡ true) (first : List Effect) (mid : State) (later : Sound mid) where
    sound : Sound old
    sound = sound_within old None [] within

    entry_for : (name : Name) → named old c.target ≡ Some name
        → entry_of_event old (events.Receive (messages.Call c)) values.Nothing ≡ Some (record { ticket = old.next_ticket; origin = origins.Answer c.question_id; name = name })
    entry_for name is = rw (supported, is) refl

    -- a call on an export
    on_export : (kept : Cap) → named old c.target ≡ Some (capability kept) → IsExportable old kept → (route : Route) → Routes between.values kept route
        → Go between call route (Ok (first, mid)) → OrderHolds (owning (events.Receive (messages.Call c)) values.Nothing old first mid ∷ past) mid
    on_export (caps.Object k) is there route way goes =
        routed_holds past (events.Receive (messages.Call c)) values.Nothing old between call (capability (caps.Object k)) h sound (entry_for (capability (caps.Object k)) is) none is_come refl
        first mid later refl refl refl route way (λ g e. no_embargo between.values (caps.Object k) g (subst (Routes between.values (caps.Object k)) e way)) goes
    on_export (caps.Promise p) is there route way goes =
        routed_holds past (events.Receive (messages.Call c)) values.Nothing old between call (capability (caps.Promise p)) h sound (entry_for (capability (caps.Promise p)) is) none is_come there
        first mid later refl refl refl route way (λ g e. no_embargo between.values (caps.Promise p) g (subst (Routes between.values (caps.Promise p)) e way)) goes
    on_export caps.None is there route way goes = absurd there
    on_export (caps.Import i) is there route way goes = absurd there
    on_export (caps.Pipelined q path) is there route way goes = absurd there
    on_export (caps.Broken x) is there route way goes = absurd there

    export_by : (e : ℕ) (o : Option (Counted Cap)) → get old.counts.exports e ≡ o → c.target ≡ targets.ImportedCap e → GoToExport between call o (Ok (first, mid))
        → OrderHolds (owning (events.Receive (messages.Call c)) values.Nothing old first mid ∷ past) mid
    export_by e None is at goes = absurd goes
    export_by e (Some entry) is at goes =
        on_export entry.kept (rw (at, is) refl) (there_is (λ (x : Counted Cap). IsExportable old x.kept) (get old.counts.exports e) entry is (within.exports e)) goes.0 goes.1 goes.2

    -- a call on what an answer will give
    module _ (a : ℕ) (path : List ℕ) (is : named old c.target ≡ Some (answer_path a path)) (there : is_some (get old.values.answers a) ≡ true) where
      on_answer : (route : Route) → NameRoute between.values (answer_path a path) route → ((g : Gate) → route ≡ routes.Wait g → (n : ℕ) → g ≡ gates.Embargo n → ⊥)
          → Go between call route (Ok (first, mid)) → OrderHolds (owning (events.Receive (messages.Call c)) values.Nothing old first mid ∷ past) mid
      on_answer route way never goes =
          routed_holds past (events.Receive (messages.Call c)) values.Nothing old between call (answer_path a path) h sound (entry_for (answer_path a path) is) none is_come there
          first mid later tt tt tt route way never goes

      answer_gate : (g : Gate) → routes.Wait (gates.Answer a path) ≡ routes.Wait g → (n : ℕ) → g ≡ gates.Embargo n → ⊥
      answer_gate g e n at = cc

      answer_by : (o : Option (Option Outcome)) → answer_of between a ≡ o → GoToAnswer between call a path o (Ok (first, mid))
          → OrderHolds (owning (events.Receive (messages.Call c)) values.Nothing old first mid ∷ past) mid
      answer_by None at goes = absurd goes
      answer_by (Some None) at goes = on_answer (routes.Wait (gates.Answer a path)) (rw (answer_given between a None at) refl) answer_gate goes
      answer_by (Some (Some outcome)) at goes =
          on_answer goes.0 (rw (answer_given between a (Some outcome) at) goes.1)
          (λ g e. no_embargo between.values (cap_at outcome path) g (subst (Routes between.values (cap_at outcome path)) e goes.1)) goes.2

    some_answer : (a : ℕ) (o : Option (Option Outcome)) → answer_of old a ≡ o → is_none o ≡ false → is_some (get old.values.answers a) ≡ true
    some_answer a None at none = absurd (true≢false none)
    some_answer a (Some o) at none = ap is_some (answer_given old a o at)

    target_by : (target : Target) → c.target ≡ target → target_faults old target ≡ [] → GoToTarget between call target (Ok (first, mid))
        → OrderHolds (owning (events.Receive (messages.Call c)) values.Nothing old first mid ∷ past) mid
    target_by (targets.ImportedCap e) at fine goes =
        export_by e (get old.counts.exports e) refl at (subst (λ t. GoToExport between call (get t e) (Ok (first, mid))) grows.exports goes)
    target_by (targets.PromisedAnswer answer) at fine goes =
        answer_by answer.question_id (path_of answer.transform) (rw (at) refl)
        (some_answer answer.question_id (answer_of old answer.question_id) refl (not_met (is_none (answer_of old answer.question_id)) _ fine))
        (answer_of between answer.question_id) refl goes
    target_by (targets.Unknown n) at fine goes = absurd goes

abbrev pub use_faults : State → Call → List PeerFault
use_faults s c = fault_if (is_answering s c.question_id) faults.QuestionInUse

abbrev pub room_faults : State → List PeerFault
room_faults s = fault_if (not (has_capacity s.entries.answers && has_ticket s)) faults.TableFull

-- The turn of a Call.
pub on_call : (past : List Turn) (old : State) (c : Call) (first : List Effect) (mid : State) → OrderHolds past old → Within old None [] → old.waiting.over ≡ none_over
    → is_supported (messages.Call c) ≡ true → Sound mid → OnCall old c (Ok (first, mid))
    → OrderHolds (owning (events.Receive (messages.Call c)) values.Nothing old first mid ∷ past) mid
on_call past old c first mid h within none supported later does =
    let fine = no_faults (call_faults old c) _ (first, mid) does in
    let early = front_empty (use_faults old c ++ target_faults old c.target) (room_faults old) fine in
    let unused = front_empty (use_faults old c) (target_faults old c.target) early in
    let aimed = back_empty (use_faults old c) (target_faults old c.target) early in
    let free = free_answer old c.question_id within (not_met (is_answering old c.question_id) _ unused) in
    let parts = then_out {A = List Cap × State} {B = Done} (ReceivesCaps old c.params.cap_table) _ (first, mid) (unless_out (call_faults old c) _ (first, mid) does) in
    let well = take_all_keeps None [] c.params.cap_table old parts.0 within none parts.1 in
    target_by old c parts.0 within none well.1 free past h supported first mid later c.target refl aimed parts.2
