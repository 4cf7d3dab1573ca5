-- What holds between events, and what was checked, shows what the rules need.
use Rattle.std.specs.Prelude.{◌≡◌, refl, ℕ, ◌+◌, ◌-◌, ◌^◌, ◌<◌, ◌==◌, not, ◌&&◌, if◌then◌else◌, ltb, Bool, true, false, List, [], ◌∷◌, ◌++◌, Option, Some, None, is_some, is_none, IsTrue, Ok}
use Rattle.std.specs.List.{list_any, AllByRecursion}
use Rattle.std.specs.Ordering.{nat_cmp}
use Rattle.std.specs.FinMap.{get, get-empty}
use Rattle.std.proofs.Common.{arith, ap, sym, ◌∙◌, true≢false}
use Rattle.std.proofs.lemmas.Bool.Decides.{nat_tests}
use Rattle.cp_tree.specs.Node.{Node}
use Rattle.cp_tables.specs.Table.{Table}
use Rattle.cp_tables.specs.declared.counted.Counted.{Counted}
use Rattle.cp_tables.specs.declared.exchange.Exchange.{Exchange}
use Rattle.cp_tables.specs.declared.exchange.Stage.{Stage}
use Rattle.cp_tables.specs.declared.exchange.Stage.TheVariants as stages
use Rattle.cp_messages.specs.declared.call.Call.{Call}
use Rattle.cp_messages.specs.declared.returned.Return.{Return}
use Rattle.cp_messages.specs.declared.returned.Returned.{Returned}
use Rattle.cp_messages.specs.declared.target.Target.{Target}
use Rattle.cp_messages.specs.declared.target.Target.TheVariants as targets
use Rattle.cp_refs.specs.At.{cap_at}
use Rattle.cp_refs.specs.Route.{HasRoute}
use Rattle.cp_refs.specs.declared.cap.Cap.{Cap}
use Rattle.cp_refs.specs.declared.cap.Cap.TheVariants as caps
use Rattle.cp_refs.specs.declared.call.Origin.{Origin}
use Rattle.cp_refs.specs.declared.call.Origin.TheVariants as origins
use Rattle.cp_refs.specs.declared.call.Request.{Request}
use Rattle.cp_refs.specs.declared.outcome.Outcome.{Outcome}
use Rattle.cp_refs.specs.declared.values.QuestionKind.{QuestionKind}
use Rattle.cp_vat_machine.specs.State.{State, none_over, with_exports}
use Rattle.cp_vat_machine.specs.Then.{fault_if}
use Rattle.cp_vat_machine.specs.Capacity.{cap_fits, has_capacity, has_ticket, outcome_fits, request_fits}
use Rattle.cp_vat_machine.specs.InUse.{caps_of, has_question, has_promise, has_import, is_local_path, is_pipelined}
use Rattle.cp_vat_machine.specs.Receiving.{ReceivesCaps, answer_of, release_exports}
use Rattle.cp_vat_machine.specs.Give.{without_question}
use Rattle.cp_vat_machine.specs.Go.{PendingCall}
use Rattle.cp_vat_machine.specs.Calling.{called, own_call, call_refusals, not_all, reference_of}
use Rattle.cp_vat_machine.specs.Answering.{call_faults, entered, is_answering, peer_call, target_faults, with_answer}
use Rattle.cp_vat_machine.specs.Asking.{ReceivesReturned, is_asked}
use Rattle.cp_vat_machine.specs.Doing.{awaits, answer_refusals, is_made, is_settled, is_ungiven_answer, is_ungiven_question, resolve_refusals}
use Rattle.cp_vat_machine.specs.Doing as machine
use Rattle.cp_vat_machine.specs.Local.{Local, is_open_stage, ForwardsRightly, IsExportable, IsThere}
use Rattle.cp_vat_machine.specs.declared.entry.AnswerEntry.{AnswerEntry}
use Rattle.cp_vat_machine.specs.declared.entry.QuestionEntry.{QuestionEntry}
use Rattle.cp_vat_machine.specs.declared.fault.PeerFault.{PeerFault}
use Rattle.cp_vat_machine.specs.declared.fault.PeerFault.TheVariants as faults
use Rattle.cp_vat_machine.specs.declared.fault.VatFault.TheVariants as refusals
use Rattle.cp_vat_machine.proofs.Basics.{not_false, put_at}
use Rattle.cp_vat_laws.specs.Within.{Within, IsFit, IsInHand}
use Rattle.cp_vat_laws.proofs.Tables.{there_of, all_of, front_empty, back_empty, not_met}
use Rattle.cp_vat_laws.proofs.within.Between.{local_is_within}
use Rattle.cp_vat_laws.proofs.within.Follows.{there_ends, forwards_open}
use Rattle.cp_vat_laws.proofs.within.Exports.{fewer_exports, lower_if}
use Rattle.cp_vat_laws.proofs.within.Take.{Grows, export_fit, fit_at, fit_table, answer_given, take_all_keeps, get_put}
use Rattle.cp_vat_laws.proofs.within.CallComes.{next_free, entered_within, peer_in_hand}
use Rattle.cp_vat_laws.proofs.within.ReturnComes.{returned_keeps, back_in_hand, back_fit}
use Rattle.cp_vat_laws.proofs.within.Asks.{own_asked_ends, own_stays}
use Rattle.cp_vat_laws.proofs.within.Call.{all_pass, all_named, came_fit, named_there}
use Rattle.cp_vat_rules.specs.Going.{MayGo}
use Rattle.cp_vat_rules.specs.Ungiven.{AllEnd, IsUngiven}
use Rattle.cp_vat_rules.proofs.Ready.{is_ungiven, tied_once}
use Rattle.cp_vat.specs.Judging.{judged}
use Rattle.cp_vat.specs.Returning.{AwaitsReturn, MaySettle}
use Rattle.cp_vat.specs.Ways.{WayEnds, seen}
use Rattle.cp_vat.specs.declared.going.Standing.{Standing}
use Rattle.cp_vat.specs.declared.going.Standing.TheVariants as references
use Rattle.cp_vat.proofs.Judged.{none_judged}
use Rattle.cp_vat.proofs.Taking.{takes_keep}

both_true : (a b : Bool) → (a && b) ≡ true → (a ≡ true) × (b ≡ true)
both_true true b is = (refl, is)
both_true false b is = absurd (true≢false (sym is))

not_true : (b : Bool) → not b ≡ true → b ≡ false
not_true true is = absurd (true≢false (sym is))
not_true false is = refl

less : (a b : ℕ) → ltb a b ≡ true → a < b
less a b is = grind (arith, nat_tests)

module _ (s : State) (h : Within s None []) where
  -- What the application names has a way that ends.
  pub named_ends : (c : Cap) → has_question s c ≡ true → has_promise s c ≡ true → HasRoute s.values c
  named_ends caps.None question promise = (1, refl)
  named_ends (caps.Object k) question promise = (1, refl)
  named_ends (caps.Promise p) question promise = there_ends s h.ends.values_ (caps.Promise p) promise
  named_ends (caps.Import i) question promise = (1, refl)
  named_ends (caps.Pipelined q path) question promise = there_ends s h.ends.values_ (caps.Pipelined q path) (named_there h (caps.Pipelined q path) question promise refl)
  named_ends (caps.Broken x) question promise = (1, refl)

  all_named_end : (table : List Cap) → AllByRecursion (λ c. has_question s c ≡ true) table → AllByRecursion (λ c. has_promise s c ≡ true) table → AllEnd s.values table
  all_named_end [] question promise = tt
  all_named_end (c ∷ table) question promise = (named_ends c question.0 promise.0, all_named_end table question.1 promise.1)

  -- what awaits its outcome isn't given
  awaited : (origin : Origin) → awaits s origin ≡ true → IsUngiven s origin
  awaited (origins.Answer a) is = by (get s.entries.answers a) refl is
    where
      at : (b : Bool) (stage : Stage) → machine.is_ungiven b stage ≡ true → IsTrue (is_open_stage stage)
      at b stages.Open e = refl
      at b stages.Finished e = refl
      at b stages.Returned e = absurd (true≢false (sym e))

      by : (o : Option (Exchange AnswerEntry)) → get s.entries.answers a ≡ o → is_ungiven_answer o ≡ true → IsUngiven s (origins.Answer a)
      by None was e = absurd (true≢false (sym e))
      by (Some entry) was e = (entry, was, at entry.kept.is_delivered entry.stage e, tied_once s None h a entry was)
  awaited (origins.Own q) is = by (get s.entries.questions q) refl is
    where
      at : (b : Bool) (stage : Stage) → machine.is_ungiven b stage ≡ true → IsTrue (is_open_stage stage)
      at b stages.Open e = refl
      at b stages.Finished e = refl
      at b stages.Returned e = absurd (true≢false (sym e))

      by : (o : Option (Exchange QuestionEntry)) → get s.entries.questions q ≡ o → is_ungiven_question o ≡ true → IsUngiven s (origins.Own q)
      by None was e = absurd (true≢false (sym e))
      by (Some entry) was e = (entry, was, at entry.kept.is_delivered entry.stage e)

  -- `answer` that isn't refused gives an outcome that is awaited
  module _ (origin : Origin) (outcome : Outcome) (passed : Ok tt ≡ judged (answer_refusals s origin outcome)) where
    abbrev table : List Cap
    table = caps_of outcome

    first_two : fault_if (not (awaits s origin && not (not_all (has_question s) table))) refusals.UnknownQuestion ++ fault_if (not_all (has_promise s) table) refusals.UnknownPromise ≡ []
    first_two =
        let none = none_judged (answer_refusals s origin outcome) passed in
        let four = front_empty _ (fault_if (not_all (has_import s) table) refusals.UnknownImport) none in
        let three = front_empty _ (fault_if (not (outcome_fits outcome)) refusals.TooLarge) four in
        front_empty _ (fault_if (list_any is_pipelined table) refusals.Unsettled) three

    first : (awaits s origin ≡ true) × (not (not_all (has_question s) table) ≡ true)
    first =
        both_true (awaits s origin) (not (not_all (has_question s) table))
        (not_false _ (not_met _ refusals.UnknownQuestion (front_empty (fault_if (not (awaits s origin && not (not_all (has_question s) table))) refusals.UnknownQuestion) (fault_if (not_all (has_promise s) table) refusals.UnknownPromise) first_two)))

    pub answer_ungiven : IsUngiven s origin
    answer_ungiven = awaited origin first.0

    pub answer_ends : AllEnd s.values table
    answer_ends =
        all_named_end table (all_pass (has_question s) table (not_true (not_all (has_question s) table) first.1))
        (all_pass (has_promise s) table (not_met _ refusals.UnknownPromise (back_empty _ (fault_if (not_all (has_promise s) table) refusals.UnknownPromise) first_two)))

  -- `resolve` that isn't refused settles an open promise
  module _ (p : ℕ) (value : Cap) (passed : Ok tt ≡ judged (resolve_refusals s p value)) where
    resolve_two : fault_if (not (has_question s value)) refusals.UnknownQuestion ++ fault_if (not (is_made s p && has_promise s value)) refusals.UnknownPromise ≡ []
    resolve_two = front_empty _ (fault_if (is_settled (get s.values.promises p)) refusals.AlreadyResolved) (none_judged (resolve_refusals s p value) passed)

    made : (is_made s p ≡ true) × (has_promise s value ≡ true)
    made =
        both_true (is_made s p) (has_promise s value)
        (not_false _ (not_met _ refusals.UnknownPromise (back_empty _ (fault_if (not (is_made s p && has_promise s value)) refusals.UnknownPromise) resolve_two)))

    pub resolve_ends : HasRoute s.values value
    resolve_ends =
        named_ends value
        (not_false _ (not_met _ refusals.UnknownQuestion (front_empty (fault_if (not (has_question s value)) refusals.UnknownQuestion) (fault_if (not (is_made s p && has_promise s value)) refusals.UnknownPromise) resolve_two)))
        made.1

    pub resolve_unsettled : get s.values.promises p ≡ Some None
    resolve_unsettled =
        unsettled_is (get s.values.promises p) (h.owned p made.0)
        (not_met _ refusals.AlreadyResolved (back_empty _ (fault_if (is_settled (get s.values.promises p)) refusals.AlreadyResolved) (none_judged (resolve_refusals s p value) passed)))
      where
        unsettled_is : (o : Option (Option Cap)) → is_some o ≡ true → is_settled o ≡ false → o ≡ Some None
        unsettled_is None there unset = absurd (true≢false (sym there))
        unsettled_is (Some None) there unset = refl
        unsettled_is (Some (Some v)) there unset = absurd (true≢false unset)

-- an answer that was opened isn't given
pub opened_ungiven : (s : State) (a : ℕ) (ticket : Option ℕ) → IsUngiven (with_answer s a ticket) (origins.Answer a)
opened_ungiven s a ticket = (_, get_put s.entries.answers a _, refl, λ p. omega arith)

-- no gate is over between events
over_none : {s : State} → Local s → (q : ℕ) → get s.waiting.over.questions q ≡ None
over_none h q = ap (λ o. get o.questions q) h.none_over_ ∙ get-empty {X = Outcome} nat_cmp q

-- A call of the application's that isn't refused may go, once it opened a question.
module _ (s : State) (h : Local s) (cap : Cap) (request : Request) (none : call_refusals s cap request ≡ []) where
  abbrev named : List Cap
  named = cap ∷ request.caps

  five : fault_if (not_all (has_question s) named) refusals.UnknownQuestion ++ fault_if (not_all (has_promise s) named) refusals.UnknownPromise
      ++ fault_if (list_any (is_local_path s) request.caps) refusals.Unsettled ++ fault_if (not (cap_fits cap && request_fits request)) refusals.TooLarge
      ++ fault_if (not (has_capacity s.entries.questions && has_ticket s)) refusals.Full ≡ []
  five = front_empty _ (fault_if (not_all (has_import s) named) refusals.UnknownImport) none

  pub call_ticket : s.next_ticket < 2 ^ 64 - 1
  call_ticket =
      let room = both_true (has_capacity s.entries.questions) (has_ticket s)
      (not_false _ (not_met _ refusals.Full (back_empty _ (fault_if (not (has_capacity s.entries.questions && has_ticket s)) refusals.Full) five))) in
      less s.next_ticket (2 ^ 64 - 1) room.1

  all_there : AllByRecursion (IsThere s) named
  all_there =
      let four = front_empty _ (fault_if (not (has_capacity s.entries.questions && has_ticket s)) refusals.Full) five in
      let three = front_empty _ (fault_if (not (cap_fits cap && request_fits request)) refusals.TooLarge) four in
      let two = front_empty _ (fault_if (list_any (is_local_path s) request.caps) refusals.Unsettled) three in
      let held = all_pass (has_import s) named (not_met _ refusals.UnknownImport (back_empty _ (fault_if (not_all (has_import s) named) refusals.UnknownImport) none)) in
      let promise = all_pass (has_promise s) named (not_met _ refusals.UnknownPromise (back_empty _ (fault_if (not_all (has_promise s) named) refusals.UnknownPromise) two)) in
      let question = all_pass (has_question s) named (not_met _ refusals.UnknownQuestion
      (front_empty (fault_if (not_all (has_question s) named) refusals.UnknownQuestion) (fault_if (not_all (has_promise s) named) refusals.UnknownPromise) two)) in
      all_named (local_is_within s h) named question promise held

  module _ (q : ℕ) (fresh : get s.entries.questions q ≡ None) (kind : QuestionKind) where
    there_on : (c : Cap) → IsThere s c → HasRoute (called s q kind).values c
    there_on c there =
        let within = local_is_within s h in
        there_ends (called s q kind) (own_asked_ends within q kind fresh (over_none h q)) c (own_stays within q kind fresh (over_none h q) c there)

    pub call_may : MayGo (called s q kind) (own_call s q request)
    call_may =
        record {
          free = next_free (local_is_within s h);
          given = one_more s.next_ticket;
          ungiven = (_, get_put s.entries.questions q _, refl);
          ends = all_of (IsThere s) (HasRoute (called s q kind).values) request.caps there_on all_there.1;
        }
      where
        one_more : (n : ℕ) → n < n + 1
        one_more n = omega arith

    -- and the way of what it goes on ends
    pub call_ends : (r : Standing) → seen r ≡ reference_of s.values cap → WayEnds (called s q kind).values cap r
    call_ends references.Plain is = there_on cap all_there.0
    call_ends references.OnWire is = there_on cap all_there.0
    call_ends (references.CameTo value) is = there_on value (came_fit (local_is_within s h) cap value (sym is)).1

-- A call of the peer's that isn't at fault is in hand, once it opened an answer, and its target is there.
module _ (old mid : State) (c : Call) (table : List Cap) (h : Local old) (passed : Ok tt ≡ judged (call_faults old c)) (taken : ReceivesCaps old c.params.cap_table (Ok (table, mid))) where
  one : Within mid None [] × Grows old mid × AllByRecursion (IsFit mid) table
  one = take_all_keeps None [] c.params.cap_table old (table, mid) (local_is_within old h) h.none_over_ taken

  still : mid.waiting.over ≡ none_over
  still = ap (λ w. w.over) one.1.waiting ∙ h.none_over_

  abbrev front : List PeerFault
  front = fault_if (is_answering old c.question_id) faults.QuestionInUse ++ target_faults old c.target

  front_none : front ≡ []
  front_none = front_empty front (fault_if (not (has_capacity old.entries.answers && has_ticket old)) faults.TableFull) (none_judged (call_faults old c) passed)

  fresh_then : get mid.entries.answers c.question_id ≡ None
  fresh_then =
      one.1.answering c.question_id
      (lacking (get old.entries.answers c.question_id) (not_met _ faults.QuestionInUse (front_empty (fault_if (is_answering old c.question_id) faults.QuestionInUse) (target_faults old c.target) front_none)))
    where
      lacking : (o : Option (Exchange AnswerEntry)) → is_some o ≡ false → o ≡ None
      lacking None e = refl
      lacking (Some x) e = absurd (true≢false e)

  pub call_within : Within (entered mid c.question_id) (Some (origins.Answer c.question_id)) []
  call_within = entered_within mid c table one.0 still fresh_then one.2

  pub call_in_hand : IsInHand (entered mid c.question_id) (peer_call mid c table)
  call_in_hand = peer_in_hand mid c table one.0 still fresh_then one.2

  pub call_in_hand_as : (s : State) (ticket : ℕ) → s ≡ entered mid c.question_id → ticket ≡ mid.next_ticket → IsInHand s (record (peer_call mid c table) { ticket = ticket })
  call_in_hand_as s ticket is next = rw (is, next) call_in_hand

  -- what an answer came to that is kept, it came to further
  answer_there : (b : ℕ) → is_none (answer_of old b) ≡ false → is_none (answer_of (entered mid c.question_id) b) ≡ false
  answer_there b there = by (c.question_id == b) refl
    where
      by : (t : Bool) → (c.question_id == b) ≡ t → is_none (answer_of (entered mid c.question_id) b) ≡ false
      by true t = rw (put_at mid.entries.answers c.question_id b _ true t, put_at mid.values.answers c.question_id b None true t) refl
      by false t =
          let kept = (takes_keep b c.params.cap_table old mid table taken).3 in
          rw (put_at mid.entries.answers c.question_id b _ false t, put_at mid.values.answers c.question_id b None false t) (ap is_none kept ∙ there)

  target_by : (target : Target) → target_faults old target ≡ [] → target_faults (entered mid c.question_id) target ≡ []
  target_by (targets.ImportedCap e) none = ap (λ t. fault_if (is_none (get t e)) faults.UnknownExport) one.1.exports ∙ none
  target_by (targets.PromisedAnswer answer) none =
      ap (λ b. fault_if b faults.UnknownAnswer) (answer_there answer.question_id (not_met _ faults.UnknownAnswer none))
  target_by (targets.Unknown n) none = refl

  pub call_target : target_faults (entered mid c.question_id) c.target ≡ []
  call_target = target_by c.target (back_empty (fault_if (is_answering old c.question_id) faults.QuestionInUse) (target_faults old c.target) front_none)

-- What a call carries as its content doesn't matter to whether it may go.
pub may_go_carrying : (s : State) (u : PendingCall) (content : Node) → MayGo s u → MayGo s (record u { request = record u.request { content = content } })
may_go_carrying s u content may = record { free = may.free; given = may.given; ungiven = may.ungiven; ends = may.ends }

-- where a target leads that is there
module _ (s : State) (hand : Option Origin) (h : Within s hand []) where
  pub export_ends : (e : ℕ) (entry : Counted Cap) → get s.counts.exports e ≡ Some entry → HasRoute s.values entry.kept
  export_ends e entry is = (export_fit h entry.kept (there_of (λ (x : Counted Cap). IsExportable s x.kept) (get s.counts.exports e) entry is (h.exports e))).2

  pub given_ends : (a : ℕ) (path : List ℕ) (outcome : Outcome) → answer_of s a ≡ Some (Some outcome) → HasRoute s.values (cap_at outcome path)
  given_ends a path outcome is = (fit_at s outcome path (fit_table h a outcome (answer_given s a (Some outcome) is))).2

pub none_there : {X : Type 0} (o : Option X) (fault : PeerFault) → fault_if (is_none o) fault ≡ [] → o ≡ None → ⊥
none_there o fault none is = true≢false (sym (ap is_none is) ∙ not_met (is_none o) fault none)

-- A question that is asked awaits its Return, once the exports that its params named were lowered.
pub asked_awaits : (old : State) (r : Return) (entry : Exchange QuestionEntry) (exports : Table (Counted Cap)) → Local old → Some entry ≡ get old.entries.questions r.answer_id
    → true ≡ is_asked entry.kept.is_sent entry.stage → entry.stage ≡ stages.Open
    → Ok exports ≡ (if r.release_param_caps then release_exports old.counts.exports entry.kept.mentions else Ok old.counts.exports)
    → AwaitsReturn (with_exports old exports) r.answer_id entry.kept.forwards
asked_awaits old r entry exports h there asked is_open lowered =
    record {
      within = fewer_exports (local_is_within old h) exports (lower_if r.release_param_caps old.counts.exports exports entry.kept.mentions h.counts lowered);
      still = h.none_over_;
      entry = entry;
      there = sym there;
      unsettled = rw is_open refl;
      sent = sym (rw is_open at asked);
      forwards_ = refl;
    }

-- One that awaits its Return may be settled to what its Return is taken in as.
pub returned_may : (mid last : State) (q : ℕ) (forwards : Option ℕ) (returned : Returned) (outcome : Outcome) → AwaitsReturn mid q forwards → ReceivesReturned mid returned (Ok (outcome, last))
    → MaySettle last q forwards outcome
returned_may mid last q forwards returned outcome awaited taken =
    let one = returned_keeps mid returned (outcome, last) awaited.within awaited.still taken in
    record {
      within = one.0;
      entry = awaited.entry;
      there = ap (λ m. get m q) one.1.asked ∙ awaited.there;
      unsettled = awaited.unsettled;
      sent = awaited.sent;
      forwards_ = awaited.forwards_;
      fit = one.2;
    }

-- the question is open
pub settles_own : (s : State) (q : ℕ) (forwards : Option ℕ) (outcome : Outcome) → MaySettle s q forwards outcome → IsUngiven s (origins.Own q)
settles_own s q forwards outcome may = (may.entry, may.there, may.unsettled)

-- or the answer whose call it forwards
module _ (s : State) (q a : ℕ) (outcome : Outcome) (may : MaySettle s q (Some a) outcome) where
  pub settles_answer : IsUngiven (without_question s q) (origins.Answer a)
  settles_answer =
      let within = back_in_hand may.within q may.entry may.there may.unsettled may.sent a may.forwards_ in
      let right = there_of (λ (e : Exchange QuestionEntry). ForwardsRightly s e.kept.forwards e.kept.ticket) (get s.entries.questions q) may.entry may.there (may.within.forwards q) in
      let ticket = forwards_open may.within a may.entry.kept.forwards may.entry.kept.ticket may.forwards_ right in
      is_ungiven (without_question s q) (Some (origins.Answer a)) within (origins.Answer a) ticket.0 ticket.1

  pub settles_ends : AllEnd (without_question s q).values (caps_of outcome)
  settles_ends =
      all_of (IsFit s) (HasRoute (without_question s q).values) (caps_of outcome)
      (λ c fit. (back_fit may.within q may.entry may.there may.unsettled may.sent a may.forwards_ c fit).2) may.fit
