-- How waiting calls leave.
use Rattle.std.specs.Prelude.{◌≡◌, refl, ℕ, ◌+◌, ◌==◌, cond, Bool, true, false, List, [], Some, None, Result, Ok, Err}
use Rattle.std.specs.List.{AllByRecursion}
use Rattle.std.specs.FinMap.{get}
use Rattle.std.proofs.Common.{arith, ap, sym, ◌∙◌}
use Rattle.cp_tables.specs.declared.exchange.Exchange.{Exchange}
use Rattle.cp_refs.specs.Route.{HasRoute}
use Rattle.cp_refs.specs.declared.cap.Cap.{Cap}
use Rattle.cp_refs.specs.declared.call.WaitingCall.{WaitingCall}
use Rattle.cp_refs.specs.declared.call.Origin.{Origin}
use Rattle.cp_refs.specs.declared.call.Origin.TheVariants as origins
use Rattle.cp_refs.specs.declared.route.Gate.TheVariants as gates
use Rattle.cp_vat_machine.specs.State.{State, gave}
use Rattle.cp_vat_machine.specs.Then.{Done}
use Rattle.cp_vat_machine.specs.Go.{GoTo, IsNext, without_call, underway, Leave, stays, leaves, finds_table_full}
use Rattle.cp_vat_machine.specs.InUse.{is_local_path}
use Rattle.cp_vat_machine.specs.Local.{Local, is_origin, waiting_of, one_if, IsTicketOf, IsThere, is_wire, IsSentIf, HasWaiting}
use Rattle.cp_vat_machine.specs.declared.effect.Effect.{Effect}
use Rattle.cp_vat_machine.specs.declared.entry.QuestionEntry.{QuestionEntry}
use Rattle.cp_vat_machine.specs.declared.fault.PeerFault.{PeerFault}
use Rattle.cp_vat_machine.proofs.Basics.{some_out, none_out, is_equal, is_itself, gone_at}
use Rattle.cp_vat_laws.specs.Within.{Within, is_in_hand, HasAnswerPlace, HasQuestionPlace, WaitsFor, AllKept, IsUngivenIf, IsOff, IsInHand}
use Rattle.cp_vat_laws.specs.Keeping.{LeavesLocal, TurnKeeps}
use Rattle.cp_vat_laws.proofs.Tables.{here_of, there_of, each_gone, each_kept, gone_sum, within_sum}
use Rattle.cp_vat_laws.proofs.within.Between.{within_is_local}
use Rattle.cp_vat_laws.proofs.within.Follows.{all_end}
use Rattle.cp_vat_laws.proofs.within.Rest.{IsHere, hand_is}
use Rattle.cp_vat_laws.proofs.within.Go.{plain_target, go_to_keeps}

-- A call whose gate is over is in hand.
module _ {s : State} (h : Within s None []) (call : WaitingCall) (given : Cap) (next : IsNext s call given) where
  abbrev in_hand : State
  in_hand = without_call s call

  waits : WaitsFor s call.ticket call
  waits = there_of (WaitsFor s call.ticket) (get s.waiting.calls call.ticket) call next.waits (h.waiting call.ticket)

  waiting_less : (origin : Origin) → waiting_of in_hand origin + cond (is_origin origin call.origin) 1 0 ≡ waiting_of s origin
  waiting_less origin = gone_sum (λ (c : WaitingCall). cond (is_origin origin c.origin) 1 0) s.waiting.calls call.ticket call next.waits

  gone_there : AllKept (IsThere in_hand) in_hand
  gone_there = record {
    values_ = h.there.values_;
    calls_ = each_gone (λ t (c : WaitingCall). AllByRecursion (IsThere s) c.request.caps)
        (λ t (c : WaitingCall). AllByRecursion (IsThere in_hand) c.request.caps) s.waiting.calls call.ticket h.there.calls_ (λ t other differs is w. w);
    embargoes_ = h.there.embargoes_;
    exports_ = h.there.exports_;
  }

  -- an open embargo isn't over, so another call waits for it
  at_embargo : (n : ℕ) (value : Cap) → get s.marks.embargoes n ≡ Some value → call.gate ≡ gates.Embargo n → ⊥
  at_embargo n value is at =
      let over : get s.waiting.over.embargoes n ≡ Some given = rw at at next.ended in
      none_out (sym (h.over_embargoes n given over) ∙ is)

  waited_else : (n : ℕ) (value : Cap) → get s.marks.embargoes n ≡ Some value → HasWaiting s n → HasWaiting in_hand n
  waited_else n value is w = by (call.ticket == w.0) refl
    where
      by : (b : Bool) → (call.ticket == w.0) ≡ b → HasWaiting in_hand n
      by true t =
          let same : call ≡ w.1 = some_out (sym next.waits ∙ rw (is_equal call.ticket w.0 t) w.2) in
          absurd (at_embargo n value is (ap (λ (c : WaitingCall). c.gate) same ∙ w.3))
      by false t = (w.0, w.1, gone_at s.waiting.calls call.ticket w.0 false t ∙ w.2, w.3)

  pub in_hand_within : Within in_hand (Some call.origin) []
  in_hand_within =
      let new : State = in_hand in
      record {
        over_answers = h.over_answers;
        over_promises = h.over_promises;
        over_questions = h.over_questions;
        over_embargoes = h.over_embargoes;
        gifts = h.gifts;
        answers = each_kept (HasAnswerPlace s None) (HasAnswerPlace new (Some call.origin)) s.entries.answers 0 h.answers
            (λ a e is place open_. omega (arith, place open_, waiting_less (origins.Answer a), hand_is (is_origin (origins.Answer a) call.origin)));
        questions = each_kept (HasQuestionPlace s None) (HasQuestionPlace new (Some call.origin)) s.entries.questions 0 h.questions
            (λ q e is place open_. omega (arith, place open_, waiting_less (origins.Own q), hand_is (is_origin (origins.Own q) call.origin)));
        waiting = each_gone (WaitsFor s) (WaitsFor new) s.waiting.calls call.ticket h.waiting (λ t other differs is w. w);
        forwards = h.forwards;
        wire = λ q. here_of _ (get s.entries.questions q) (λ e is not. (rw is at (h.wire q)) refl);
        forwarding = h.forwarding;
        gates_kept = each_gone (λ t (c : WaitingCall). IsUngivenIf s (gave s.waiting.over c.gate) c.gate)
            (λ t (c : WaitingCall). IsUngivenIf new (gave new.waiting.over c.gate) c.gate) s.waiting.calls call.ticket h.gates_kept (λ t other differs is w. w);
        sendable = each_gone (λ t (c : WaitingCall). AllByRecursion (λ x. is_local_path s x ≡ false) c.request.caps)
            (λ t (c : WaitingCall). AllByRecursion (λ x. is_local_path new x ≡ false) c.request.caps) s.waiting.calls call.ticket h.sendable
            (λ t other differs is w. w);
        tied = h.tied;
        untied = h.untied;
        owned = h.owned;
        counts = h.counts;
        imported = h.imported;
        exports = h.exports;
        one_export = h.one_export;
        there = gone_there;
        ends = all_end new h.ends.values_ gone_there;
        embargoed = h.embargoed;
        plain = h.plain;
        finished = λ q e is stage. each_gone (λ t. IsOff q) (λ t. IsOff q) s.waiting.calls call.ticket (h.finished q e is stage) (λ t other differs was w. w);
        answers_valued = h.answers_valued;
        questions_valued = h.questions_valued;
        imports_valued = h.imports_valued;
        import_marks = h.import_marks;
        path_marks = h.path_marks;
        one_mark = h.one_mark;
        waited_for = λ n. here_of _ (get s.marks.embargoes n) (λ value is.
            waited_else n value is (there_of (λ v. HasWaiting s n) (get s.marks.embargoes n) value is (h.waited_for n)));
      }

  pub is_in_hand_now : IsInHand in_hand (underway call)
  is_in_hand_now =
      record {
        whose = waits.2;
        given = waits.1;
        free = gone_at s.waiting.calls call.ticket call.ticket true (is_itself call.ticket);
        sendable = there_of (λ (c : WaitingCall). AllByRecursion (λ x. is_local_path s x ≡ false) c.request.caps) (get s.waiting.calls call.ticket) call next.waits
            (h.sendable call.ticket);
        there = there_of (λ (c : WaitingCall). AllByRecursion (IsThere s) c.request.caps) (get s.waiting.calls call.ticket) call next.waits
            (h.there.calls_ call.ticket);
        ends = there_of (λ (c : WaitingCall). AllByRecursion (HasRoute s.values) c.request.caps) (get s.waiting.calls call.ticket) call next.waits
            (h.ends.calls_ call.ticket);
        unfinished = λ q entry is at. (there_of (IsOff q) (get s.waiting.calls call.ticket) call next.waits (h.finished q entry is at call.ticket)).1;
      }

  -- a call that waits was not sent, so its question isn't on the wire
  not_wire : (q : ℕ) → call.origin ≡ origins.Own q → is_wire (get s.values.questions q) ≡ false
  not_wire q is = by (is_wire (get s.values.questions q)) refl
    where
      by : (b : Bool) → is_wire (get s.values.questions q) ≡ b → b ≡ false
      by true wire =
          let ticket : IsTicketOf s (origins.Own q) call.ticket = rw is at waits.2 in
          let place = there_of (HasQuestionPlace s None q) (get s.entries.questions q) ticket.0 ticket.1 (h.questions q) ticket.2 in
          let sent_ = there_of (λ (e : Exchange QuestionEntry). is_in_hand None (origins.Own q) ≡ false → IsSentIf (is_wire (get s.values.questions q)) e.kept)
          (get s.entries.questions q) ticket.0 ticket.1 (h.wire q) refl in
          let went : (ticket.0.kept.is_sent ≡ true) × (ticket.0.kept.is_delivered ≡ false) = rw wire at sent_ in
          let one : ◌≡◌ {A = ℕ} (cond (is_origin (origins.Own q) call.origin) 1 0) 1 = rw (is, is_itself q) refl in
          let within = within_sum (λ (c : WaitingCall). cond (is_origin (origins.Own q) c.origin) 1 0) s.waiting.calls call.ticket call next.waits in
          let counted : ◌≡◌ {A = ℕ} (one_if ticket.0.kept.is_sent) 1 = rw (went.0) refl in
          absurd (omega (arith, place, one, within, counted))
      by false wire = refl

  here_by : (origin : Origin) → call.origin ≡ origin → IsHere s origin
  here_by (origins.Answer a) is = tt
  here_by (origins.Own q) is = not_wire q is

  pub turn_within : (done : Done) → GoTo in_hand (underway call) given (Ok done) → Within done.1 None []
  turn_within done goes =
      go_to_keeps in_hand (underway call) given done in_hand_within is_in_hand_now (plain_target in_hand given (h.gifts call.gate given next.ended).0)
      (here_by call.origin refl) goes

-- where they come to
abbrev LeftLocal : Result State PeerFault → Type 0
LeftLocal (Ok last) = Local last
LeftLocal (Err fault) = Unit {0}

leave_by : {old : State} {all : List Effect} {out : Result State PeerFault} → Within old None [] → Leave old all out → LeftLocal out
leave_by {old = old} h (stays none) = within_is_local old h none
leave_by h (leaves {mid = mid} {first = first} call given next goes more same) = leave_by (turn_within h call given next (first, mid) goes) more
leave_by h (finds_table_full call given next goes) = tt

pub leaves_local : LeavesLocal
leaves_local old last all h leave = leave_by h leave

pub turn_keeps : TurnKeeps
turn_keeps s mid call given first h next goes = turn_within h call given next (first, mid) goes
