-- Where a call comes to rest: at a gate, at an object, or with the peer.
use Rattle.std.specs.Prelude.{◌≡◌, refl, ℕ, ◌+◌, ◌==◌, ◌||◌, ◌⊎◌, cond, Bool, true, false, [], Option, Some, None, IfSome, IsTrue, option_to_list}
use Rattle.std.specs.List.{list_any, AllByRecursion}
use Rattle.std.specs.FinMap.{get, insert}
use Rattle.std.proofs.Common.{inl, inr, arith, ap, sym, ◌∙◌, true≢false}
use Rattle.cp_tables.specs.Exchange.{new_exchange}
use Rattle.cp_tables.specs.declared.exchange.Exchange.{Exchange}
use Rattle.cp_tables.specs.declared.exchange.Stage.TheVariants as stages
use Rattle.cp_refs.specs.declared.call.WaitingCall.{WaitingCall}
use Rattle.cp_refs.specs.declared.call.Origin.{Origin}
use Rattle.cp_refs.specs.declared.call.Origin.TheVariants as origins
use Rattle.cp_refs.specs.declared.route.Gate.{Gate}
use Rattle.cp_refs.specs.declared.values.QuestionState.{QuestionState}
use Rattle.cp_vat_machine.specs.State.{State, gave, with_questions, with_answers}
use Rattle.cp_vat_machine.specs.Go.{PendingCall, held_at}
use Rattle.cp_vat_machine.specs.InUse.{is_at_question, is_local_path}
use Rattle.cp_vat_machine.specs.Local.{is_open_stage, is_origin, is_forwarding, waiting_of, forwarding_of, one_if, IsTicketOf, ForwardsRightly, tied_to, tied_in, HasNoTied, IsThere, AnswerIs, QuestionIs, is_wire, IsSentIf, IsOpenIf, HasWaiting}
use Rattle.cp_vat_machine.specs.declared.entry.AnswerEntry.{AnswerEntry}
use Rattle.cp_vat_machine.specs.declared.entry.QuestionEntry.{QuestionEntry}
use Rattle.cp_vat_machine.proofs.Basics.{none_out, is_equal, other_number, put_at}
use Rattle.cp_vat_laws.specs.Within.{Within, is_in_hand, HasAnswerPlace, HasQuestionPlace, WaitsFor, AllKept, IsUngivenIf, IsOff, IsInHand}
use Rattle.cp_vat_laws.proofs.Tables.{here_of, there_of, put_cases, each_put, each_kept, put_sum}
use Rattle.cp_vat_laws.proofs.within.Follows.{none_valued, never_finished, all_end, same_origin, none_waits}
use Rattle.cp_vat_laws.proofs.within.Tickets.{AnswerTicket, QuestionTicket, tickets_stay, forwards_stay, answer_changes, question_changes, question_opens}
use Rattle.cp_vat_laws.proofs.within.Take.{same_stage}
use Rattle.cp_vat_laws.proofs.within.InHand.{alone_some, answer_place, question_place, is_held}

-- a question of this end, which nothing was sent of
abbrev pub IsHere : State → Origin → Type 0
IsHere s (origins.Answer a) = Unit {0}
IsHere s (origins.Own q) = is_wire (get s.values.questions q) ≡ false

pub hand_is : (b : Bool) → one_if (b || false) ≡ cond b 1 0
hand_is true = refl
hand_is false = refl

here_at : (s : State) (origin : Origin) (q : ℕ) → origin ≡ origins.Own q → IsHere s origin → is_wire (get s.values.questions q) ≡ false
here_at s origin q is here = rw is at here

in_hand_true : (b : Bool) → (b || false) ≡ true → b ≡ true
in_hand_true true is = refl
in_hand_true false is = is

not_sent : (wire : Bool) (kept : QuestionEntry) → wire ≡ false → IsSentIf wire kept
not_sent true kept is = absurd (true≢false is)
not_sent false kept is = tt

-- The call in hand waits at a gate.
module _ {s : State} (call : PendingCall) (h : Within s (Some call.origin) []) (i : IsInHand s call) (here : IsHere s call.origin) (gate : Gate)
    (at : IsUngivenIf s (gave s.waiting.over gate) gate)
    (off_gate : (q : ℕ) (entry : Exchange QuestionEntry) → get s.entries.questions q ≡ Some entry → entry.stage ≡ stages.Finished
    → is_at_question q gate ≡ false) where
  abbrev held_here : WaitingCall
  held_here = record { ticket = call.ticket; origin = call.origin; request = call.request; gate = gate }

  abbrev held_on : State
  held_on = held_at s call gate

  waiting_more : (origin : Origin) → waiting_of held_on origin ≡ waiting_of s origin + cond (is_origin origin call.origin) 1 0
  waiting_more origin =
      let sum : waiting_of held_on origin + 0 ≡ waiting_of s origin + cond (is_origin origin call.origin) 1 0 =
      put_sum (λ (c : WaitingCall). cond (is_origin origin c.origin) 1 0) s.waiting.calls call.ticket held_here None i.free in
      omega (arith, sum)

  wire_at : (q : ℕ) (e : Exchange QuestionEntry) (b : Bool) → is_in_hand (Some call.origin) (origins.Own q) ≡ b
      → (is_in_hand (Some call.origin) (origins.Own q) ≡ false → IsSentIf (is_wire (get s.values.questions q)) e.kept)
      → IsSentIf (is_wire (get s.values.questions q)) e.kept
  wire_at q e true t old =
      let same : origins.Own q ≡ call.origin = same_origin (origins.Own q) call.origin (in_hand_true _ t) in
      not_sent (is_wire (get s.values.questions q)) e.kept (here_at s call.origin q (sym same) here)
  wire_at q e false t old = old t

  held_there : AllKept (IsThere held_on) held_on
  held_there = record {
    values_ = h.there.values_;
    calls_ = each_put (λ t (c : WaitingCall). AllByRecursion (IsThere s) c.request.caps)
        (λ t (c : WaitingCall). AllByRecursion (IsThere held_on) c.request.caps) s.waiting.calls call.ticket held_here h.there.calls_ i.there
        (λ t other differs is w. w);
    embargoes_ = h.there.embargoes_;
    exports_ = h.there.exports_;
  }

  waited_on : (n : ℕ) → HasWaiting s n → HasWaiting held_on n
  waited_on n w = by (call.ticket == w.0) refl
    where
      by : (b : Bool) → (call.ticket == w.0) ≡ b → HasWaiting held_on n
      by true t = let there : get s.waiting.calls call.ticket ≡ Some w.1 = rw (is_equal call.ticket w.0 t) w.2 in none_out (sym i.free ∙ there)
      by false t = (w.0, w.1, put_at s.waiting.calls call.ticket w.0 held_here false t ∙ w.2, w.3)

  pub held_within : Within held_on None []
  held_within =
      let new : State = held_on in
      record {
        over_answers = h.over_answers;
        over_promises = h.over_promises;
        over_questions = h.over_questions;
        over_embargoes = h.over_embargoes;
        gifts = h.gifts;
        answers = each_kept (HasAnswerPlace s (Some call.origin)) (HasAnswerPlace new None) s.entries.answers 0 h.answers
            (λ a e is place open_. omega (arith, place open_, waiting_more (origins.Answer a), hand_is (is_origin (origins.Answer a) call.origin)));
        questions = each_kept (HasQuestionPlace s (Some call.origin)) (HasQuestionPlace new None) s.entries.questions 0 h.questions
            (λ q e is place open_. omega (arith, place open_, waiting_more (origins.Own q), hand_is (is_origin (origins.Own q) call.origin)));
        waiting = each_put (WaitsFor s) (WaitsFor new) s.waiting.calls call.ticket held_here h.waiting (refl, i.given, i.whose) (λ t other differs is w. w);
        forwards = h.forwards;
        wire = λ q. here_of _ (get s.entries.questions q) (λ e is not. wire_at q e (is_in_hand (Some call.origin) (origins.Own q)) refl (rw is at (h.wire q)));
        forwarding = h.forwarding;
        gates_kept = each_put (λ t (c : WaitingCall). IsUngivenIf s (gave s.waiting.over c.gate) c.gate)
            (λ t (c : WaitingCall). IsUngivenIf new (gave new.waiting.over c.gate) c.gate) s.waiting.calls call.ticket held_here h.gates_kept at
            (λ t other differs is w. w);
        sendable = each_put (λ t (c : WaitingCall). AllByRecursion (λ x. is_local_path s x ≡ false) c.request.caps)
            (λ t (c : WaitingCall). AllByRecursion (λ x. is_local_path new x ≡ false) c.request.caps) s.waiting.calls call.ticket held_here h.sendable i.sendable
            (λ t other differs is w. w);
        tied = h.tied;
        untied = h.untied;
        owned = h.owned;
        counts = h.counts;
        imported = h.imported;
        exports = h.exports;
        one_export = h.one_export;
        there = held_there;
        ends = all_end new h.ends.values_ held_there;
        embargoed = h.embargoed;
        plain = h.plain;
        finished = λ q e is stage. each_put (λ t. IsOff q) (λ t. IsOff q) s.waiting.calls call.ticket held_here (h.finished q e is stage)
            (off_gate q e is stage, i.unfinished q e is stage) (λ t other differs was w. w);
        answers_valued = h.answers_valued;
        questions_valued = h.questions_valued;
        imports_valued = h.imports_valued;
        import_marks = h.import_marks;
        path_marks = h.path_marks;
        one_mark = h.one_mark;
        waited_for = λ n. here_of _ (get s.marks.embargoes n) (λ value is.
            waited_on n (there_of (λ v. HasWaiting s n) (get s.marks.embargoes n) value is (h.waited_for n)));
      }

-- The call of an answer is delivered.
module _ {s : State} (a : ℕ) (h : Within s (Some (origins.Answer a)) []) (entry : Exchange AnswerEntry) (was : get s.entries.answers a ≡ Some entry) where
  abbrev delivered_entry : Exchange AnswerEntry
  delivered_entry = record entry { kept = record entry.kept { is_delivered = true } }

  abbrev delivered_answer : State
  delivered_answer = with_answers s (insert s.entries.answers a delivered_entry)

  stay : (b t : ℕ) → AnswerTicket s.entries.answers b t → AnswerTicket (insert s.entries.answers a delivered_entry) b t
  stay = answer_changes s.entries.answers a entry delivered_entry was (λ x. x) refl

  place_here : IsTrue (is_open_stage entry.stage) → 1 + waiting_of s (origins.Answer a) + one_if entry.kept.is_delivered + forwarding_of s a ≡ 1
  place_here open_ =
      let place = there_of (HasAnswerPlace s (Some (origins.Answer a)) a) (get s.entries.answers a) entry was (h.answers a) open_ in
      rw (is_held (origins.Answer a)) at place

  tied_same : (p : ℕ) → tied_in delivered_answer p ≡ tied_in s p
  tied_same p =
      let sum : tied_in delivered_answer p + tied_to p entry.kept.tied ≡ tied_in s p + tied_to p entry.kept.tied =
      put_sum (λ (e : Exchange AnswerEntry). tied_to p e.kept.tied) s.entries.answers a delivered_entry (Some entry) was in
      omega (arith, sum)

  valued : (b : ℕ) (c : Bool) → (a == b) ≡ c → AnswerIs (get (insert s.entries.answers a delivered_entry) b) (get s.values.answers b)
  valued b true t =
      let at_b : get s.entries.answers b ≡ Some entry = rw (← is_equal a b t) was in
      rw (put_at s.entries.answers a b delivered_entry true t)
      (same_stage entry delivered_entry (get s.values.answers b) refl (rw (at_b) at (h.answers_valued b)))
  valued b false t = rw (put_at s.entries.answers a b delivered_entry false t) (h.answers_valued b)

  pub answer_delivered : Within delivered_answer None []
  answer_delivered =
      let new : State = delivered_answer in
      record {
        over_answers = h.over_answers;
        over_promises = h.over_promises;
        over_questions = h.over_questions;
        over_embargoes = h.over_embargoes;
        gifts = h.gifts;
        answers = each_put (HasAnswerPlace s (Some (origins.Answer a))) (HasAnswerPlace new None) s.entries.answers a delivered_entry h.answers
            (λ open_. omega (arith, place_here open_))
            (λ b e other is. answer_place s new (Some (origins.Answer a)) None b e
            (sym (alone_some (origins.Answer a) (origins.Answer b) (other_number a b other))) refl refl);
        questions = each_kept (HasQuestionPlace s (Some (origins.Answer a))) (HasQuestionPlace new None) s.entries.questions 0 h.questions
            (λ q e is place open_. place open_);
        waiting = each_kept (WaitsFor s) (WaitsFor new) s.waiting.calls 0 h.waiting
            (λ t call is w. (w.0, w.1, tickets_stay s new stay (λ q u x. x) call.origin t w.2));
        forwards = each_kept (λ q e. ForwardsRightly s e.kept.forwards e.kept.ticket)
            (λ q e. ForwardsRightly new e.kept.forwards e.kept.ticket) s.entries.questions 0 h.forwards
            (λ q e is. forwards_stay s new stay e.kept.forwards e.kept.ticket);
        wire = λ q. here_of _ (get s.entries.questions q) (λ e is not. (rw is at (h.wire q)) refl);
        forwarding = h.forwarding;
        gates_kept = h.gates_kept;
        sendable = h.sendable;
        tied = λ p. omega (arith, tied_same p, h.tied p);
        untied = each_put (λ b. HasNoTied) (λ b. HasNoTied) s.entries.answers a delivered_entry h.untied
            (there_of HasNoTied (get s.entries.answers a) entry was (h.untied a)) (λ b e other is x. x);
        owned = h.owned;
        counts = h.counts;
        imported = h.imported;
        exports = h.exports;
        one_export = h.one_export;
        there = h.there;
        ends = h.ends;
        embargoed = h.embargoed;
        plain = h.plain;
        finished = h.finished;
        answers_valued = λ b. valued b (a == b) refl;
        questions_valued = h.questions_valued;
        imports_valued = h.imports_valued;
        import_marks = h.import_marks;
        path_marks = h.path_marks;
        one_mark = h.one_mark;
        waited_for = h.waited_for;
      }

pub same_question : (entry new : Exchange QuestionEntry) (o : Option QuestionState) → new.stage ≡ entry.stage → new.kept.forwards ≡ entry.kept.forwards
    → QuestionIs (Some entry) o → QuestionIs (Some new) o
same_question entry new o stage forwards is = rw (stage, forwards) is

forwards_here : (s : State) (o ticket : Option ℕ) → o ≡ None → ForwardsRightly s o ticket
forwards_here s None ticket is = tt
forwards_here s (Some a) ticket is = none_out (sym is)

-- The call of an own question is delivered, or sent.
module _ {s : State} (q : ℕ) (h : Within s (Some (origins.Own q)) []) (entry changed : Exchange QuestionEntry) (was : get s.entries.questions q ≡ Some entry)
    (same : changed.stage ≡ entry.stage)
    (ticket : changed.kept.ticket ≡ entry.kept.ticket) (alike : changed.kept.forwards ≡ entry.kept.forwards) (own : entry.kept.forwards ≡ None)
    (placed : IsTrue (is_open_stage changed.stage) → waiting_of s (origins.Own q) + one_if changed.kept.is_delivered + one_if changed.kept.is_sent ≡ 1)
    (sent_here : IsSentIf (is_wire (get s.values.questions q)) changed.kept) where
  abbrev rested : State
  rested = with_questions s (insert s.entries.questions q changed)

  unforwarded : changed.kept.forwards ≡ None
  unforwarded = alike ∙ own

  open_still : IsTrue (is_open_stage entry.stage) → IsTrue (is_open_stage changed.stage)
  open_still open_ = rw (same) open_

  stay_asked : (p t : ℕ) → QuestionTicket s.entries.questions p t → QuestionTicket (insert s.entries.questions q changed) p t
  stay_asked = question_changes s.entries.questions q entry changed was open_still ticket alike

  forwarding_same : (a : ℕ) → forwarding_of rested a ≡ forwarding_of s a
  forwarding_same a =
      let sum : forwarding_of rested a + cond (is_forwarding a entry) 1 0 ≡ forwarding_of s a + cond (is_forwarding a changed) 1 0 =
      put_sum (λ e. cond (is_forwarding a e) 1 0) s.entries.questions q changed (Some entry) was in
      let one : is_forwarding a changed ≡ is_forwarding a entry = ap (λ o. list_any (λ b. b == a) (option_to_list o)) alike in
      let both : ◌≡◌ {A = ℕ} (cond (is_forwarding a changed) 1 0) (cond (is_forwarding a entry) 1 0) = ap (λ b. cond b 1 0) one in
      omega (arith, sum, both)

  finished_still : (r : ℕ) (e : Exchange QuestionEntry) → ((q ≡ r) × (changed ≡ e)) ⊎ (((q == r) ≡ false) × (get s.entries.questions r ≡ Some e))
      → e.stage ≡ stages.Finished
      → (t : ℕ) → IfSome (get s.waiting.calls t) (IsOff r)
  finished_still r e (inl new) stage = h.finished r entry (rw (← new.0) was) (sym same ∙ ap (λ (x : Exchange QuestionEntry). x.stage) new.1 ∙ stage)
  finished_still r e (inr old) stage = h.finished r e old.1 stage

  valued_still : (r : ℕ) (c : Bool) → (q == r) ≡ c → QuestionIs (get (insert s.entries.questions q changed) r) (get s.values.questions r)
  valued_still r true t =
      let at_r : get s.entries.questions r ≡ Some entry = rw (← is_equal q r t) was in
      rw (put_at s.entries.questions q r changed true t) (same_question entry changed (get s.values.questions r) same alike
      (rw (at_r) at (h.questions_valued r)))
  valued_still r false t = rw (put_at s.entries.questions q r changed false t) (h.questions_valued r)

  pub own_rests : Within rested None []
  own_rests =
      let new : State = rested in
      record {
        over_answers = h.over_answers;
        over_promises = h.over_promises;
        over_questions = h.over_questions;
        over_embargoes = h.over_embargoes;
        gifts = h.gifts;
        answers = each_kept (HasAnswerPlace s (Some (origins.Own q))) (HasAnswerPlace new None) s.entries.answers 0 h.answers
            (λ a e is. answer_place s new (Some (origins.Own q)) None a e refl refl (forwarding_same a));
        questions = each_put (HasQuestionPlace s (Some (origins.Own q))) (HasQuestionPlace new None) s.entries.questions q changed h.questions
            (λ open_. omega (arith, placed open_))
            (λ r e other is. question_place s new (Some (origins.Own q)) None r e
            (sym (alone_some (origins.Own q) (origins.Own r) (other_number q r other))) refl);
        waiting = each_kept (WaitsFor s) (WaitsFor new) s.waiting.calls 0 h.waiting
            (λ t call is w. (w.0, w.1, tickets_stay s new (λ b u x. x) stay_asked call.origin t w.2));
        forwards = each_put (λ r e. ForwardsRightly s e.kept.forwards e.kept.ticket)
            (λ r e. ForwardsRightly new e.kept.forwards e.kept.ticket) s.entries.questions q changed h.forwards
            (forwards_here new changed.kept.forwards changed.kept.ticket unforwarded)
            (λ r e other is. forwards_stay s new (λ b u x. x) e.kept.forwards e.kept.ticket);
        wire = each_put (λ r e. is_in_hand (Some (origins.Own q)) (origins.Own r) ≡ false → IsSentIf (is_wire (get s.values.questions r)) e.kept)
            (λ r e. is_in_hand None (origins.Own r) ≡ false → IsSentIf (is_wire (get new.values.questions r)) e.kept)
            s.entries.questions q changed h.wire (λ not. sent_here)
            (λ r e other is x not. x (alone_some (origins.Own q) (origins.Own r) (other_number q r other)));
        forwarding = each_put (λ r (e : Exchange QuestionEntry). IsOpenIf e.kept.forwards e)
            (λ r (e : Exchange QuestionEntry). IsOpenIf e.kept.forwards e) s.entries.questions q changed h.forwarding (rw (unforwarded) tt)
            (λ r e other is x. x);
        gates_kept = h.gates_kept;
        sendable = h.sendable;
        tied = h.tied;
        untied = h.untied;
        owned = h.owned;
        counts = h.counts;
        imported = h.imported;
        exports = h.exports;
        one_export = h.one_export;
        there = h.there;
        ends = h.ends;
        embargoed = h.embargoed;
        plain = h.plain;
        finished = λ r e is stage. finished_still r e (put_cases s.entries.questions q r changed e is) stage;
        answers_valued = h.answers_valued;
        questions_valued = λ r. valued_still r (q == r) refl;
        imports_valued = h.imports_valued;
        import_marks = h.import_marks;
        path_marks = h.path_marks;
        one_mark = h.one_mark;
        waited_for = h.waited_for;
      }

-- The call of an answer is forwarded under a new question.
module _ {s : State} (a q : ℕ) (h : Within s (Some (origins.Answer a)) []) (kept : QuestionEntry) (fresh : get s.entries.questions q ≡ None)
    (it : kept.forwards ≡ Some a) (went : kept.is_sent ≡ true)
    (held_back : kept.is_delivered ≡ false) (whose : ForwardsRightly s kept.forwards kept.ticket) where
  abbrev opened_entry : Exchange QuestionEntry
  opened_entry = new_exchange kept

  abbrev forwarded : State
  forwarded = with_questions s (insert s.entries.questions q opened_entry)

  no_ticket : (t : ℕ) → IsTicketOf s (origins.Own q) t → ⊥
  no_ticket t ticket = none_out (sym fresh ∙ ticket.1)

  waits_none : waiting_of s (origins.Own q) ≡ 0
  waits_none = none_waits h (origins.Own q) no_ticket

  forwarding_more : (b : ℕ) → forwarding_of forwarded b ≡ forwarding_of s b + one_if (is_in_hand (Some (origins.Answer a)) (origins.Answer b))
  forwarding_more b =
      let sum : forwarding_of forwarded b + 0 ≡ forwarding_of s b + cond (is_forwarding b opened_entry) 1 0 =
      put_sum (λ e. cond (is_forwarding b e) 1 0) s.entries.questions q opened_entry None fresh in
      let one : is_forwarding b opened_entry ≡ ((a == b) || false) = rw (it) refl in
      let both : ◌≡◌ {A = ℕ} (cond (is_forwarding b opened_entry) 1 0) (one_if (is_in_hand (Some (origins.Answer a)) (origins.Answer b))) = ap
      (λ c. cond c 1 0) one in
      omega (arith, sum, both)

  no_value : get s.values.questions q ≡ None
  no_value = none_valued h q fresh

  finished_else : (r : ℕ) (e : Exchange QuestionEntry) → ((q ≡ r) × (opened_entry ≡ e)) ⊎ (((q == r) ≡ false) × (get s.entries.questions r ≡ Some e))
      → e.stage ≡ stages.Finished
      → (t : ℕ) → IfSome (get s.waiting.calls t) (IsOff r)
  finished_else r e (inl new) stage = never_finished (ap (λ (x : Exchange QuestionEntry). x.stage) new.1 ∙ stage)
  finished_else r e (inr old) stage = h.finished r e old.1 stage

  valued_else : (r : ℕ) (c : Bool) → (q == r) ≡ c → QuestionIs (get (insert s.entries.questions q opened_entry) r) (get s.values.questions r)
  valued_else r true t =
      let none_r : get s.values.questions r ≡ None = rw (← is_equal q r t) no_value in
      rw (put_at s.entries.questions q r opened_entry true t, none_r, it) tt
  valued_else r false t = rw (put_at s.entries.questions q r opened_entry false t) (h.questions_valued r)

  pub answer_forwarded : Within forwarded None []
  answer_forwarded =
      let new : State = forwarded in
      record {
        over_answers = h.over_answers;
        over_promises = h.over_promises;
        over_questions = h.over_questions;
        over_embargoes = h.over_embargoes;
        gifts = h.gifts;
        answers = each_kept (HasAnswerPlace s (Some (origins.Answer a))) (HasAnswerPlace new None) s.entries.answers 0 h.answers
            (λ b e is place open_. omega (arith, place open_, forwarding_more b));
        questions = each_put (HasQuestionPlace s (Some (origins.Answer a))) (HasQuestionPlace new None) s.entries.questions q opened_entry h.questions
            (λ open_. rw (went, held_back) (omega (arith, waits_none)))
            (λ r e other is place open_. place open_);
        waiting = each_kept (WaitsFor s) (WaitsFor new) s.waiting.calls 0 h.waiting
            (λ t call is w. (w.0, w.1, tickets_stay s new (λ b u x. x) (question_opens s.entries.questions q opened_entry fresh) call.origin t w.2));
        forwards = each_put (λ r e. ForwardsRightly s e.kept.forwards e.kept.ticket)
            (λ r e. ForwardsRightly new e.kept.forwards e.kept.ticket) s.entries.questions q opened_entry h.forwards whose
            (λ r e other is. forwards_stay s new (λ b u x. x) e.kept.forwards e.kept.ticket);
        wire = each_put (λ r e. is_in_hand (Some (origins.Answer a)) (origins.Own r) ≡ false → IsSentIf (is_wire (get s.values.questions r)) e.kept)
            (λ r e. is_in_hand None (origins.Own r) ≡ false → IsSentIf (is_wire (get new.values.questions r)) e.kept)
            s.entries.questions q opened_entry h.wire (λ not. rw (no_value) tt) (λ r e other is x not. x refl);
        forwarding = each_put (λ r (e : Exchange QuestionEntry). IsOpenIf e.kept.forwards e)
            (λ r (e : Exchange QuestionEntry). IsOpenIf e.kept.forwards e) s.entries.questions q opened_entry h.forwarding (rw (it) (refl, went))
            (λ r e other is x. x);
        gates_kept = h.gates_kept;
        sendable = h.sendable;
        tied = h.tied;
        untied = h.untied;
        owned = h.owned;
        counts = h.counts;
        imported = h.imported;
        exports = h.exports;
        one_export = h.one_export;
        there = h.there;
        ends = h.ends;
        embargoed = h.embargoed;
        plain = h.plain;
        finished = λ r e is stage. finished_else r e (put_cases s.entries.questions q r opened_entry e is) stage;
        answers_valued = h.answers_valued;
        questions_valued = λ r. valued_else r (q == r) refl;
        imports_valued = h.imports_valued;
        import_marks = h.import_marks;
        path_marks = h.path_marks;
        one_mark = h.one_mark;
        waited_for = h.waited_for;
      }
