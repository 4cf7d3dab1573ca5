-- A call that enters tells what it gives.
use Rattle.std.specs.Prelude.{◌≡◌, refl, ℕ, cond, Bool, true, false, List, [], ◌∷◌, ◌++◌, filter, flat_map, Option, Some, None, is_some, Ok, Err}
use Rattle.std.specs.FinMap.{get}
use Rattle.std.proofs.Common.{ap, subst, sym, ◌∙◌, true≢false}
use Rattle.cp_tables.specs.declared.counted.Counted.{Counted}
use Rattle.cp_tables.specs.declared.exchange.Exchange.{Exchange}
use Rattle.cp_messages.specs.declared.call.Call.{Call}
use Rattle.cp_messages.specs.declared.target.Target.{Target}
use Rattle.cp_messages.specs.declared.target.Target.TheVariants as targets
use Rattle.cp_messages.specs.declared.message.Message.TheVariants as messages
use Rattle.cp_refs.specs.declared.cap.Cap.{Cap}
use Rattle.cp_refs.specs.declared.cap.Cap.TheVariants as caps
use Rattle.cp_refs.specs.declared.call.Origin.{Origin}
use Rattle.cp_refs.specs.declared.call.Origin.TheVariants as origins
use Rattle.cp_refs.specs.declared.call.Request.{Request}
use Rattle.cp_refs.specs.declared.outcome.Outcome.{Outcome}
use Rattle.cp_refs.specs.declared.route.Gate.TheVariants as gates
use Rattle.cp_refs.specs.declared.route.Route.{Route}
use Rattle.cp_refs.specs.declared.route.Route.TheVariants as routes
use Rattle.cp_refs.specs.declared.values.QuestionKind.TheVariants as kinds
use Rattle.cp_vat_machine.specs.State.{State, none_over}
use Rattle.cp_vat_machine.specs.Then.{Done}
use Rattle.cp_vat_machine.specs.Capacity.{Fresh}
use Rattle.cp_vat_machine.specs.Supported.{is_supported}
use Rattle.cp_vat_machine.specs.Receiving.{answer_of, path_of, ReceivesCaps}
use Rattle.cp_vat_machine.specs.Answering.{is_answering, target_faults, GoToExport, GoToAnswer, GoToTarget, peer_call, entered, call_faults, OnCall}
use Rattle.cp_vat_machine.specs.Calling.{Standing, plain, on_wire, came_to, reference_of, called, own_call, mark_of, marked, has_mark_capacity, disembargo_of, GoBack, GoByValue, GoFrom, OwnDone, Opens, call_refusals, DoCall}
use Rattle.cp_vat_machine.specs.Go.{PendingCall, held_at, Go, GoTo}
use Rattle.cp_vat_machine.specs.Trace.{Turn}
use Rattle.cp_vat_machine.specs.Ports.{Name, answer_path, capability, named, is_there}
use Rattle.cp_vat_machine.specs.Exits.{exits_in, exit_by, given_to, subject_of}
use Rattle.cp_vat_machine.specs.Telling.{was_finished, is_finished, failed_with, is_telling}
use Rattle.cp_vat_machine.specs.declared.effect.Effect.{Effect}
use Rattle.cp_vat_machine.specs.declared.event.Event.TheVariants as events
use Rattle.cp_vat_machine.specs.declared.event.Value.{Value}
use Rattle.cp_vat_machine.specs.declared.event.Value.TheVariants as values
use Rattle.cp_vat_machine.specs.declared.fault.PeerFault.TheVariants as faults
use Rattle.cp_vat_laws.specs.Within.{Within}
use Rattle.cp_vat_machine.proofs.Basics.{ok_in, ok_out, then_out, unless_out, or_full_out}
use Rattle.cp_vat_laws.proofs.order.WaitingStays.{no_failure}
use Rattle.cp_vat_laws.proofs.order.NewCall.{IsFresh}
use Rattle.cp_vat_laws.proofs.order.Enters.{owning}
use Rattle.cp_vat_laws.proofs.order.EntersThen.{IsCome}
use Rattle.cp_vat_laws.proofs.order.CallComes.{free_answer, use_faults, room_faults}
use Rattle.cp_vat_laws.proofs.order.CallComes as peers
use Rattle.cp_vat_laws.proofs.order.Call as calls
use Rattle.cp_vat_laws.proofs.order.Call.{free_at}
use Rattle.cp_vat_laws.proofs.telling.Told.{SameStage, TellsFailure, go_tells}
use Rattle.cp_vat_laws.proofs.order.Mark.{mark_got}
use Rattle.cp_vat_laws.proofs.Tables.{no_faults, front_empty, not_met}
use Rattle.cp_vat_laws.proofs.within.Take.{Grows, take_all_keeps}

-- An origin that just came wasn't finished, before or now.
abbrev NotFinished : State → Origin → Type 0
NotFinished s (origins.Answer a) = was_finished (get s.entries.answers a) ≡ false
NotFinished s (origins.Own q) = was_finished (get s.entries.questions q) ≡ false

fresh_stage : (before s : State) (origin : Origin) → NotFinished before origin → IsFresh s origin → SameStage before s origin
fresh_stage before s (origins.Answer a) was fresh = was ∙ sym (ap was_finished fresh.1 ∙ ap is_finished fresh.2)
fresh_stage before s (origins.Own q) was fresh = was ∙ sym (ap was_finished fresh.1 ∙ ap is_finished fresh.2)

-- A call that waits from its turn on gives nothing.
pub held_tells : (turn : Turn) (origin : Origin) (ticket : ℕ) → subject_of turn ≡ Some (ticket, origin) → ((s : State) → flat_map (exit_by s) turn.effects ≡ [])
    → filter is_telling turn.effects ≡ [] → given_to turn.after.waiting.over origin ≡ None → TellsFailure turn
held_tells turn origin ticket subject quiet silent ungiven =
    let exits : exits_in turn ≡ [] = rw (quiet turn.after, subject) (no_failure ticket (given_to turn.after.waiting.over origin) ungiven) in
    (None, sym (ap (λ e. failed_with e (subject_of turn)) exits ∙ ap (λ k. failed_with [] k) subject), silent)

module _ (turn : Turn) (between : State) (call : PendingCall) (come : IsCome turn.before between call) (was : NotFinished turn.before call.origin)
    (subject : subject_of turn ≡ Some (turn.before.next_ticket, call.origin)) where
  its_subject : subject_of turn ≡ Some (call.ticket, call.origin)
  its_subject = subject ∙ ap (λ t. Some (t, call.origin)) (sym come.ticket)

  pub come_tells : (route : Route) → Go between call route (Ok (turn.effects, turn.after)) → TellsFailure turn
  come_tells route goes = go_tells turn between call come.whose come.ungiven (fresh_stage turn.before between call.origin was come.fresh) its_subject route goes

-- The application's call.
module _ (old : State) (q : ℕ) (request : Request) (cap : Cap) (within : Within old None []) (none : old.waiting.over ≡ none_over) (unused : get old.entries.questions q ≡ None)
    (there : is_there old.values (capability cap) ≡ true) (first : List Effect) (mid : State) where
  abbrev its_turn : Turn
  its_turn = owning (events.Call cap request) (values.Question q) old first mid

  not_finished : was_finished (get old.entries.questions q) ≡ false
  not_finished = ap was_finished unused

  asks : (between : State) → IsCome old between (own_call old q request) → (route : Route) → Go between (own_call old q request) route (Ok (first, mid)) → TellsFailure its_turn
  asks between come route goes = come_tells its_turn between (own_call old q request) come not_finished refl route goes

  come : (kind : Rattle.cp_refs.specs.declared.values.QuestionKind.QuestionKind) → IsCome old (called old q kind) (own_call old q request)
  come kind = calls.called_come old q request cap within none unused there kind

  -- a Disembargo goes out, and the call waits
  embargo_tells : (n : ℕ) (s : State) → s.waiting.over ≡ none_over
      → ◌≡◌ {A = List Effect × State} (first, mid) (disembargo_of n cap ∷ [], held_at s (own_call old q request) (gates.Embargo n)) → TellsFailure its_turn
  embargo_tells n s over is =
      held_tells its_turn (origins.Own q) old.next_ticket refl (λ t. ap (flat_map (exit_by t)) (ap (λ d. d.0) is)) (ap (filter is_telling) (ap (λ d. d.0) is))
      (ap (λ d. get d.1.waiting.over.questions q) is ∙ ap (λ o. get o.questions q) over ∙ Rattle.std.specs.FinMap.get-empty {X = Outcome} Rattle.std.specs.Ordering.nat_cmp q)

  back_tells : (v : Cap) (mark : Option (Option ℕ)) → GoBack (called old q kinds.Local) (own_call old q request) cap v mark (Ok (first, mid)) → TellsFailure its_turn
  back_tells v None goes = asks (called old q kinds.Local) (come kinds.Local) goes.0 goes.2
  back_tells v (Some None) goes =
      let parts = then_out {A = ℕ} {B = Done} (Fresh old.marks.embargoes) _ (first, mid) goes in
      embargo_tells parts.0 _ (marked_over parts.0) (ok_in _ _ parts.2)
    where
      marked_over : (n : ℕ) → (Rattle.cp_vat_machine.specs.Calling.with_mark
          (record (called old q kinds.Local) { marks = record (called old q kinds.Local).marks { embargoes = Rattle.std.specs.FinMap.insert (called old q kinds.Local).marks.embargoes n v } })
          cap (Some n)).waiting.over ≡ none_over
      marked_over n = ap (λ s. s.waiting.over) (Rattle.cp_vat_laws.proofs.order.Mark.mark_only _ cap (Some n)) ∙ none
  back_tells v (Some (Some n)) goes = asks (called old q kinds.Local) (come kinds.Local) (routes.Wait (gates.Embargo n)) goes

  value_tells : (v : Cap) → GoByValue old q request cap v (Ok (first, mid)) → TellsFailure its_turn
  value_tells (caps.Import j) goes = asks (called old q kinds.Wire) (come kinds.Wire) (routes.Import j) goes
  value_tells (caps.Object k) goes = back_tells (caps.Object k) (mark_of old cap) goes
  value_tells (caps.Promise p) goes = back_tells (caps.Promise p) (mark_of old cap) goes
  value_tells caps.None goes = asks (called old q kinds.Local) (come kinds.Local) goes.0 goes.2
  value_tells (caps.Pipelined r path) goes = asks (called old q kinds.Local) (come kinds.Local) goes.0 goes.2
  value_tells (caps.Broken x) goes = asks (called old q kinds.Local) (come kinds.Local) goes.0 goes.2

  wire_new : reference_of old.values cap ≡ on_wire → (between : State) → GoTo between (own_call old q request) cap (Ok (first, mid)) → (b : Bool)
      → Ok between ≡ cond b (Ok (Rattle.cp_vat_machine.specs.Calling.with_mark (called old q kinds.Wire) cap None)) (Err faults.TableFull) → TellsFailure its_turn
  wire_new is between goes true e = asks between (rw (ok_in _ _ e) (calls.wire_come old q request cap within none unused there is)) goes.0 goes.2
  wire_new is between goes false e = ok_out e

  wire_tells : reference_of old.values cap ≡ on_wire → (mark : Option (Option ℕ)) → (between : State) → Ok between ≡ marked (called old q kinds.Wire) cap mark
      → GoTo between (own_call old q request) cap (Ok (first, mid)) → TellsFailure its_turn
  wire_tells is (Some embargo) between sets goes = asks between (rw (ok_in _ _ sets) (come kinds.Wire)) goes.0 goes.2
  wire_tells is None between sets goes = wire_new is between goes (has_mark_capacity (called old q kinds.Wire) cap) sets

  from_tells : (reference : Standing) → reference_of old.values cap ≡ reference → GoFrom old q request cap reference (Ok (first, mid)) → TellsFailure its_turn
  from_tells plain is goes = asks (called old q kinds.Local) (come kinds.Local) goes.0 goes.2
  from_tells on_wire is goes =
      let parts = then_out {A = State} {B = Done} (λ mid. mid ≡ marked (called old q kinds.Wire) cap (mark_of old cap)) _ (first, mid) goes in
      wire_tells is (mark_of old cap) parts.0 parts.1 parts.2
  from_tells (came_to v) is goes = value_tells v goes

pub call_tells : (old : State) (cap : Cap) (request : Request) (value : Value) (first : List Effect) (mid : State) → Within old None [] → old.waiting.over ≡ none_over
    → DoCall old cap request (Ok (value, first, mid)) → TellsFailure (owning (events.Call cap request) value old first mid)
call_tells old cap request value first mid within none does =
    let there = calls.call_there old cap request within (no_faults (call_refusals old cap request) _ (value, first, mid) does) in
    let opens = or_full_out {A = OwnDone} (Opens old cap request) (value, first, mid) (unless_out (call_refusals old cap request) _ (value, first, mid) does) in
    let fresh = then_out {A = ℕ} {B = OwnDone} (Fresh old.entries.questions) _ (value, first, mid) opens in
    let goes = then_out {A = Done} {B = OwnDone} (GoFrom old fresh.0 request cap (reference_of old.values cap)) _ (value, first, mid) fresh.2 in
    by fresh.0 (free_at old.entries.questions fresh.0 fresh.1) there goes.0.0 goes.0.1 goes.1 value first mid (ok_in _ _ goes.2)
  where
    by : (q : ℕ) → get old.entries.questions q ≡ None → is_there old.values (capability cap) ≡ true → (f : List Effect) (m : State)
        → GoFrom old q request cap (reference_of old.values cap) (Ok (f, m)) → (v : Value) (x : List Effect) (y : State)
        → ◌≡◌ {A = OwnDone} (v, x, y) (values.Question q, f, m) → TellsFailure (owning (events.Call cap request) v old x y)
    by q unused there f m goes v x y e =
        subst (λ (d : OwnDone). TellsFailure (owning (events.Call cap request) d.0 old d.1 d.2)) (sym e)
        (from_tells old q request cap within none unused there f m (reference_of old.values cap) refl goes)

pub none_before : (o : Option (Exchange Rattle.cp_vat_machine.specs.declared.entry.AnswerEntry.AnswerEntry)) → is_some o ≡ false → was_finished o ≡ false
none_before None e = refl
none_before (Some entry) e = absurd (true≢false e)

-- A call of the peer's.
module _ (old : State) (c : Call) (taken : List Cap × State) (within : Within old None []) (none : old.waiting.over ≡ none_over) (grows : Grows old taken.1)
    (unused : is_answering old c.question_id ≡ false) (supported : is_supported (messages.Call c) ≡ true) (first : List Effect) (mid : State) where
  abbrev peer_turn : Turn
  peer_turn = owning (events.Receive (messages.Call c)) values.Nothing old first mid

  goes_in : (name : Name) → named old c.target ≡ Some name → (route : Route) → Go (entered taken.1 c.question_id) (peer_call taken.1 c taken.0) route (Ok (first, mid)) → TellsFailure peer_turn
  goes_in name is route goes =
      come_tells peer_turn (entered taken.1 c.question_id) (peer_call taken.1 c taken.0)
      (peers.is_come old c taken within none grows (free_answer old c.question_id within unused)) (none_before (get old.entries.answers c.question_id) unused)
      (rw (supported, is) refl) route goes

  export_tells : (e : ℕ) (o : Option (Counted Cap)) → get old.counts.exports e ≡ o → c.target ≡ targets.ImportedCap e
      → GoToExport (entered taken.1 c.question_id) (peer_call taken.1 c taken.0) o (Ok (first, mid)) → TellsFailure peer_turn
  export_tells e None is at goes = absurd goes
  export_tells e (Some entry) is at goes = goes_in (capability entry.kept) (rw (at, is) refl) goes.0 goes.2

  answer_tells : (a : ℕ) (path : List ℕ) → named old c.target ≡ Some (answer_path a path) → (o : Option (Option Outcome))
      → GoToAnswer (entered taken.1 c.question_id) (peer_call taken.1 c taken.0) a path o (Ok (first, mid)) → TellsFailure peer_turn
  answer_tells a path is None goes = absurd goes
  answer_tells a path is (Some None) goes = goes_in (answer_path a path) is (routes.Wait (gates.Answer a path)) goes
  answer_tells a path is (Some (Some outcome)) goes = goes_in (answer_path a path) is goes.0 goes.2

  target_tells : (target : Target) → c.target ≡ target → GoToTarget (entered taken.1 c.question_id) (peer_call taken.1 c taken.0) target (Ok (first, mid)) → TellsFailure peer_turn
  target_tells (targets.ImportedCap e) at goes =
      export_tells e (get old.counts.exports e) refl at
      (subst (λ t. GoToExport (entered taken.1 c.question_id) (peer_call taken.1 c taken.0) (get t e) (Ok (first, mid))) grows.exports goes)
  target_tells (targets.PromisedAnswer answer) at goes =
      answer_tells answer.question_id (path_of answer.transform) (rw (at) refl) (answer_of (entered taken.1 c.question_id) answer.question_id) goes
  target_tells (targets.Unknown n) at goes = absurd goes

pub on_call_tells : (old : State) (c : Call) (first : List Effect) (mid : State) → Within old None [] → old.waiting.over ≡ none_over → is_supported (messages.Call c) ≡ true
    → OnCall old c (Ok (first, mid)) → TellsFailure (owning (events.Receive (messages.Call c)) values.Nothing old first mid)
on_call_tells old c first mid within none supported does =
    let fine = no_faults (call_faults old c) _ (first, mid) does in
    let early = front_empty (use_faults old c ++ target_faults old c.target) (room_faults old) fine in
    let unused = not_met (is_answering old c.question_id) faults.QuestionInUse (front_empty (use_faults old c) (target_faults old c.target) early) in
    let parts = then_out {A = List Cap × State} {B = Done} (ReceivesCaps old c.params.cap_table) _ (first, mid) (unless_out (call_faults old c) _ (first, mid) does) in
    let well = take_all_keeps None [] c.params.cap_table old parts.0 within none parts.1 in
    target_tells old c parts.0 within none well.1 unused supported first mid c.target refl parts.2
