-- A question of the application's is opened.
use Rattle.std.specs.Prelude.{◌≡◌, refl, ℕ, ◌+◌, ◌<◌, ◌==◌, ◌⊎◌, not, cond, Bool, true, false, List, [], ◌∷◌, Option, Some, None, is_some, IfSome}
use Rattle.std.specs.List.{list_any, AllByRecursion}
use Rattle.std.specs.FinMap.{get, insert}
use Rattle.std.proofs.Common.{inl, inr, arith, ap, sym, ◌∙◌, true≢false}
use Rattle.cp_tables.specs.Exchange.{new_exchange}
use Rattle.cp_tables.specs.declared.exchange.Exchange.{Exchange}
use Rattle.cp_tables.specs.declared.exchange.Stage.TheVariants as stages
use Rattle.cp_refs.specs.Route.{HasRoute}
use Rattle.cp_refs.specs.declared.cap.Cap.{Cap}
use Rattle.cp_refs.specs.declared.cap.Cap.TheVariants as caps
use Rattle.cp_refs.specs.declared.call.WaitingCall.{WaitingCall}
use Rattle.cp_refs.specs.declared.call.Origin.{Origin}
use Rattle.cp_refs.specs.declared.call.Origin.TheVariants as origins
use Rattle.cp_refs.specs.declared.outcome.Outcome.{Outcome}
use Rattle.cp_refs.specs.declared.values.QuestionState.{QuestionState}
use Rattle.cp_refs.specs.declared.values.QuestionKind.{QuestionKind}
use Rattle.cp_refs.specs.declared.call.Request.{Request}
use Rattle.cp_vat_machine.specs.State.{State}
use Rattle.cp_vat_machine.specs.InUse.{is_pipelined_of, is_local_path}
use Rattle.cp_vat_machine.specs.Local.{is_forwarding, forwarding_of, one_if, IsTicketOf, ForwardsRightly, IsThere, QuestionIs, is_wire, IsSentIf, IsOpenIf, IsPathMark, is_wire_kind}
use Rattle.cp_vat_machine.specs.declared.entry.QuestionEntry.{QuestionEntry}
use Rattle.cp_vat_machine.specs.Calling.{asked, called, own_call}
use Rattle.cp_vat_machine.proofs.Basics.{none_out, is_equal, is_itself, other_number, put_at}
use Rattle.cp_vat_laws.specs.Within.{Within, is_in_hand, HasAnswerPlace, HasQuestionPlace, WaitsFor, AllKept, AreValues, IsPlain, IsOff, IsInHand, NamesNoneFinished}
use Rattle.cp_vat_laws.proofs.Tables.{here_of, there_of, put_cases, each_put, each_kept, put_sum, all_of}
use Rattle.cp_vat_laws.proofs.within.Follows.{none_valued, never_finished, all_end, none_waits, there_ends}
use Rattle.cp_vat_laws.proofs.within.Tickets.{tickets_stay, forwards_stay, question_opens}
use Rattle.cp_vat_laws.proofs.within.InHand.{IsAlone, alone_some, answer_place, question_place, is_held}
use Rattle.cp_vat_laws.proofs.within.AllKept.{both_all, kept_map, question_put}
use Rattle.cp_vat_laws.proofs.within.StaysThere.{there_stays, put_stays, plain_route, plain_routes}
use Rattle.cp_vat_laws.proofs.within.Take.{get_put}
use Rattle.cp_vat_laws.proofs.within.CallComes.{ticket_taken, next_free}

module _ {s : State} (h : Within s None []) (q : ℕ) (kind : QuestionKind) (ticket : Option ℕ) (is_sent : Bool) (later : Option Origin)
    (fresh : get s.entries.questions q ≡ None)
    (not_over : get s.waiting.over.questions q ≡ None) (alone : IsAlone later (origins.Own q))
    (placed : one_if (is_in_hand later (origins.Own q)) + one_if is_sent ≡ 1)
    (went : is_in_hand later (origins.Own q) ≡ false
    → IsSentIf (is_wire_kind kind) (record { forwards = None; ticket = ticket; is_sent = is_sent; is_delivered = false; mentions = [] })) where
  abbrev opened : Exchange QuestionEntry
  opened = new_exchange (record { forwards = None; ticket = ticket; is_sent = is_sent; is_delivered = false; mentions = [] })

  abbrev asked_question : QuestionState
  asked_question = record { kind = kind; outcome = None }

  abbrev asked_state : State
  asked_state = asked s q kind ticket is_sent

  no_value : get s.values.questions q ≡ None
  no_value = none_valued h q fresh

  no_ticket : (t : ℕ) → IsTicketOf s (origins.Own q) t → ⊥
  no_ticket t it = none_out (sym fresh ∙ it.1)

  over_at : (r : ℕ) (o : Outcome) (question : QuestionState) (b : Bool) → (q == r) ≡ b → get s.waiting.over.questions r ≡ Some o
      → get (insert s.values.questions q asked_question) r ≡ Some question
      → question.outcome ≡ None → ⊥
  over_at r o question true t is there unset = let over : get s.waiting.over.questions q ≡ Some o = rw (is_equal q r t) is in none_out (sym not_over ∙ over)
  over_at r o question false t is there unset = h.over_questions r o question is (sym (put_at s.values.questions q r asked_question false t) ∙ there) unset

  asked_stays : (c : Cap) → IsThere s c → IsThere asked_state c
  asked_stays = there_stays s asked_state (λ p x. x) (λ i x. x) (put_stays s.values.questions q asked_question)

  forwarding_same : (a : ℕ) → forwarding_of asked_state a ≡ forwarding_of s a
  forwarding_same a =
      let sum : forwarding_of asked_state a + 0 ≡ forwarding_of s a + 0 = put_sum (λ e. cond (is_forwarding a e) 1 0) s.entries.questions q opened None fresh in
      omega (arith, sum)

  -- what is there is no path of the new question
  there_sendable : (c : Cap) → IsThere s c → is_local_path s c ≡ false → is_local_path asked_state c ≡ false
  there_sendable caps.None there is = refl
  there_sendable (caps.Object k) there is = refl
  there_sendable (caps.Promise p) there is = refl
  there_sendable (caps.Import i) there is = refl
  there_sendable (caps.Pipelined r path) there is = by (q == r) refl
    where
      by : (b : Bool) → (q == r) ≡ b → is_local_path asked_state (caps.Pipelined r path) ≡ false
      by true t =
          let none : get s.values.questions r ≡ None = rw (← is_equal q r t) no_value in
          absurd (true≢false (sym there ∙ ap is_some none))
      by false t = rw (put_at s.values.questions q r asked_question false t) is
  there_sendable (caps.Broken x) there is = refl

  pub table_sendable : (table : List Cap) → AllByRecursion (IsThere s) table → AllByRecursion (λ x. is_local_path s x ≡ false) table
      → AllByRecursion (λ x. is_local_path asked_state x ≡ false) table
  table_sendable table there may =
      all_of (λ x. IsThere s x × (is_local_path s x ≡ false)) (λ x. is_local_path asked_state x ≡ false) table (λ x both. there_sendable x both.0 both.1)
      (both_all (IsThere s) (λ x. is_local_path s x ≡ false) table there may)

  asked_there : AllKept (IsThere asked_state) asked_state
  asked_there =
      let moved = kept_map (IsThere s) (IsThere asked_state) s.values s.waiting.calls s.marks.embargoes s.counts.exports asked_stays h.there in
      record {
        values_ = question_put (IsThere asked_state) s.values moved.values_ q asked_question (λ o e. none_out e);
        calls_ = moved.calls_;
        embargoes_ = moved.embargoes_;
        exports_ = moved.exports_;
      }

  pub asked_ends : AreValues (HasRoute asked_state.values) asked_state.values
  asked_ends = question_put (HasRoute asked_state.values) s.values
      (plain_routes s.values asked_state.values h.plain (λ p o x. x) h.ends.values_) q asked_question (λ o e. none_out e)

  finished_else : (r : ℕ) (e : Exchange QuestionEntry) → ((q ≡ r) × (opened ≡ e)) ⊎ (((q == r) ≡ false) × (get s.entries.questions r ≡ Some e))
      → e.stage ≡ stages.Finished
      → (t : ℕ) → IfSome (get s.waiting.calls t) (IsOff r)
  finished_else r e (inl new) at = never_finished (ap (λ (x : Exchange QuestionEntry). x.stage) new.1 ∙ at)
  finished_else r e (inr old) at = h.finished r e old.1 at

  valued : (r : ℕ) (b : Bool) → (q == r) ≡ b → QuestionIs (get (insert s.entries.questions q opened) r) (get (insert s.values.questions q asked_question) r)
  valued r true t = rw (put_at s.entries.questions q r opened true t, put_at s.values.questions q r asked_question true t) refl
  valued r false t = rw (put_at s.entries.questions q r opened false t, put_at s.values.questions q r asked_question false t) (h.questions_valued r)

  mark_asked : (key : List ℕ) (embargo : Option ℕ) → IsPathMark s key embargo → IsPathMark asked_state key embargo
  mark_asked [] embargo mark = absurd mark
  mark_asked (r ∷ path) embargo mark = by (q == r) refl
    where
      by : (b : Bool) → (q == r) ≡ b → IsPathMark asked_state (r ∷ path) embargo
      by true t =
          let none : get s.values.questions r ≡ None = rw (← is_equal q r t) no_value in
          let off : is_wire (get s.values.questions r) ≡ false = rw (none) refl in
          absurd (true≢false (sym mark.0 ∙ off))
      by false t = rw (put_at s.values.questions q r asked_question false t) mark

  pub question_asked : Within asked_state later []
  question_asked =
      let new : State = asked_state in
      record {
        over_answers = h.over_answers;
        over_promises = h.over_promises;
        over_questions = λ r o question is there unset. over_at r o question (q == r) refl is there unset;
        over_embargoes = h.over_embargoes;
        gifts = λ gate cap is. let fit = h.gifts gate cap is in
            (fit.0, asked_stays cap fit.1, plain_route s.values new.values h.plain (λ p o x. x) cap fit.0 fit.2);
        answers = each_kept (HasAnswerPlace s None) (HasAnswerPlace new later) s.entries.answers 0 h.answers
            (λ a e is. answer_place s new None later a e (alone (origins.Answer a) refl) refl (forwarding_same a));
        questions = each_put (HasQuestionPlace s None) (HasQuestionPlace new later) s.entries.questions q opened h.questions
            (λ open_. omega (arith, placed, none_waits h (origins.Own q) no_ticket))
            (λ r e other is. question_place s new None later r e (alone (origins.Own r) (other_number q r other)) refl);
        waiting = each_kept (WaitsFor s) (WaitsFor new) s.waiting.calls 0 h.waiting
            (λ t call is w. (w.0, w.1, tickets_stay s new (λ b u x. x) (question_opens s.entries.questions q opened fresh) call.origin t w.2));
        forwards = each_put (λ r e. ForwardsRightly s e.kept.forwards e.kept.ticket)
            (λ r e. ForwardsRightly new e.kept.forwards e.kept.ticket) s.entries.questions q opened h.forwards tt
            (λ r e other is. forwards_stay s new (λ b u x. x) e.kept.forwards e.kept.ticket);
        wire = each_put (λ r e. is_in_hand None (origins.Own r) ≡ false → IsSentIf (is_wire (get s.values.questions r)) e.kept)
            (λ r e. is_in_hand later (origins.Own r) ≡ false → IsSentIf (is_wire (get new.values.questions r)) e.kept)
            s.entries.questions q opened h.wire (λ not. rw (put_at s.values.questions q q asked_question true (is_itself q)) (went not))
            (λ r e other is x not. rw (put_at s.values.questions q r asked_question false other) (x refl));
        forwarding = each_put (λ r (e : Exchange QuestionEntry). IsOpenIf e.kept.forwards e)
            (λ r (e : Exchange QuestionEntry). IsOpenIf e.kept.forwards e) s.entries.questions q opened h.forwarding tt (λ r e other is x. x);
        gates_kept = h.gates_kept;
        sendable = λ t. here_of _ (get s.waiting.calls t) (λ (call : WaitingCall) is. table_sendable call.request.caps
            (there_of (λ (c : WaitingCall). AllByRecursion (IsThere s) c.request.caps) (get s.waiting.calls t) call is (h.there.calls_ t))
            (there_of (λ (c : WaitingCall). AllByRecursion (λ x. is_local_path s x ≡ false) c.request.caps) (get s.waiting.calls t) call is (h.sendable t)));
        tied = h.tied;
        untied = h.untied;
        owned = h.owned;
        counts = h.counts;
        imported = h.imported;
        exports = h.exports;
        one_export = h.one_export;
        there = asked_there;
        ends = all_end new asked_ends asked_there;
        embargoed = h.embargoed;
        plain = question_put IsPlain s.values h.plain q asked_question (λ o e. none_out e);
        finished = λ r e is at. finished_else r e (put_cases s.entries.questions q r opened e is) at;
        answers_valued = h.answers_valued;
        questions_valued = λ r. valued r (q == r) refl;
        imports_valued = h.imports_valued;
        import_marks = h.import_marks;
        path_marks = λ key. here_of _ (get s.marks.paths key) (λ embargo is.
            mark_asked key embargo (there_of (IsPathMark s key) (get s.marks.paths key) embargo is (h.path_marks key)));
        one_mark = h.one_mark;
        waited_for = h.waited_for;
      }

-- a call of the application's is in hand
module _ {s : State} (h : Within s None []) (q : ℕ) (kind : QuestionKind) (fresh : get s.entries.questions q ≡ None)
    (not_over : get s.waiting.over.questions q ≡ None) where
  abbrev called_state : State
  called_state = called s q kind

  held_one : one_if (is_in_hand (Some (origins.Own q)) (origins.Own q)) + one_if false ≡ 1
  held_one = rw (is_held (origins.Own q)) refl

  not_other : (kept : QuestionEntry) → is_in_hand (Some (origins.Own q)) (origins.Own q) ≡ false → IsSentIf (is_wire_kind kind) kept
  not_other kept not = absurd (true≢false (sym (is_held (origins.Own q)) ∙ not))

  pub own_called : Within called_state (Some (origins.Own q)) []
  own_called =
      ticket_taken (question_asked h q kind (Some s.next_ticket) false (Some (origins.Own q)) fresh not_over (alone_some (origins.Own q)) held_one
      (not_other _))

  pub own_asked_ends : AreValues (HasRoute called_state.values) called_state.values
  own_asked_ends = asked_ends h q kind (Some s.next_ticket) false (Some (origins.Own q)) fresh not_over (alone_some (origins.Own q)) held_one (not_other _)

  pub own_stays : (c : Cap) → IsThere s c → IsThere called_state c
  own_stays = there_stays s called_state (λ p x. x) (λ i x. x) (put_stays s.values.questions q (record { kind = kind; outcome = None }))

  pub own_sendable : (table : List Cap) → AllByRecursion (IsThere s) table → AllByRecursion (λ x. is_local_path s x ≡ false) table
      → AllByRecursion (λ x. is_local_path called_state x ≡ false) table
  own_sendable = table_sendable h q kind (Some s.next_ticket) false (Some (origins.Own q)) fresh not_over (alone_some (origins.Own q)) held_one (not_other _)

  own_unfinished : (table : List Cap) → NamesNoneFinished s table → NamesNoneFinished called_state table
  own_unfinished table none r e is at = by (put_cases s.entries.questions q r _ e is)
    where
      by : ((q ≡ r) × (new_exchange (record { forwards = None; ticket = Some s.next_ticket; is_sent = false; is_delivered = false; mentions = [] }) ≡ e))
          ⊎ (((q == r) ≡ false) × (get s.entries.questions r ≡ Some e)) → list_any (is_pipelined_of r) table ≡ false
      by (inl new) = never_finished (ap (λ (x : Exchange QuestionEntry). x.stage) new.1 ∙ at)
      by (inr old) = none r e old.1 at

  pub own_in_hand_now : (request : Request) → AllByRecursion (IsThere s) request.caps → AllByRecursion (λ x. is_local_path s x ≡ false) request.caps
      → NamesNoneFinished s request.caps
      → IsInHand called_state (own_call s q request)
  own_in_hand_now request there may none =
      let there_now = all_of (IsThere s) (IsThere called_state) request.caps own_stays there in
      record {
        whose = (_, get_put s.entries.questions q _, refl, refl, refl);
        given = less s.next_ticket;
        free = next_free h;
        sendable = own_sendable request.caps there may;
        there = there_now;
        ends = all_of (IsThere called_state) (HasRoute called_state.values) request.caps (there_ends called_state own_asked_ends) there_now;
        unfinished = own_unfinished request.caps none;
      }
    where
      less : (n : ℕ) → n < n + 1
      less n = omega arith
