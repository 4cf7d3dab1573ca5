-- How the application finishes a question.
use Rattle.std.specs.Prelude.{◌≡◌, refl, ℕ, ◌+◌, ◌==◌, ◌⊎◌, not, cond, Bool, true, false, List, [], Option, Some, None, is_some, IfSome, IsTrue, Result, Ok, ◌++◌}
use Rattle.std.specs.List.{list_any}
use Rattle.std.specs.FinMap.{get, insert}
use Rattle.std.proofs.Common.{inl, inr, arith, sym, ◌∙◌, true≢false}
use Rattle.cp_tables.specs.declared.exchange.Exchange.{Exchange}
use Rattle.cp_tables.specs.declared.exchange.Stage.{Stage}
use Rattle.cp_tables.specs.declared.exchange.Stage.TheVariants as stages
use Rattle.cp_refs.specs.declared.call.WaitingCall.{WaitingCall}
use Rattle.cp_refs.specs.declared.call.Origin.TheVariants as origins
use Rattle.cp_refs.specs.declared.values.QuestionState.{QuestionState}
use Rattle.cp_vat_machine.specs.State.{State, with_questions}
use Rattle.cp_vat_machine.specs.Give.{without_question}
use Rattle.cp_vat_machine.specs.InUse.{is_pipelined_of, is_unfinished, is_own, is_own_question, is_question_used}
use Rattle.cp_vat_machine.specs.Local.{is_open_stage, is_forwarding, forwarding_of, IsTicketOf, ForwardsRightly, QuestionIs, OwnIs, is_wire, IsSentIf, IsOpenIf}
use Rattle.cp_vat_machine.specs.declared.entry.QuestionEntry.{QuestionEntry}
use Rattle.cp_vat_machine.specs.Then.{fault_if}
use Rattle.cp_vat_machine.specs.Calling.{OwnDone}
use Rattle.cp_vat_machine.specs.Doing.{FinishBy, Finishes, DoFinish}
use Rattle.cp_vat_machine.specs.declared.fault.VatFault.{VatFault}
use Rattle.cp_vat_machine.specs.declared.fault.VatFault.TheVariants as refusals
use Rattle.cp_vat_machine.proofs.Basics.{not_false, some_out, ok_in, is_equal, put_at, unless_out}
use Rattle.cp_vat_laws.specs.Within.{Within, is_in_hand, HasAnswerPlace, HasQuestionPlace, WaitsFor, IsOff}
use Rattle.cp_vat_laws.proofs.Tables.{there_of, put_cases, each_put, each_kept, put_sum, no_faults, front_empty, back_empty, not_met}
use Rattle.cp_vat_laws.proofs.within.Follows.{none_waits}
use Rattle.cp_vat_laws.proofs.within.Tickets.{QuestionTicket, tickets_stay, forwards_stay, question_changes}
use Rattle.cp_vat_laws.proofs.within.InHand.{answer_place, alone_none}
use Rattle.cp_vat_laws.proofs.within.Between.{unused_off}
use Rattle.cp_vat_laws.proofs.within.GiveOwn.{own_leaves}
use Rattle.cp_vat_laws.proofs.within.Call.{own_parts, not_forwards}

module _ {s : State} (h : Within s None []) (q : ℕ) (entry : Exchange QuestionEntry) (was : get s.entries.questions q ≡ Some entry)
    (own : entry.kept.forwards ≡ None)
    (off : (t : ℕ) → IfSome (get s.waiting.calls t) (IsOff q)) where
  -- before its outcome
  module _ (at : entry.stage ≡ stages.Open) where
    abbrev changed : Exchange QuestionEntry
    changed = record entry { stage = stages.Finished }

    abbrev finished_state : State
    finished_state = with_questions s (insert s.entries.questions q changed)

    still_open : IsTrue (is_open_stage entry.stage)
    still_open = rw (at) refl

    stay_asked : (p t : ℕ) → QuestionTicket s.entries.questions p t → QuestionTicket (insert s.entries.questions q changed) p t
    stay_asked = question_changes s.entries.questions q entry changed was (λ x. refl) refl refl

    forwarding_same : (a : ℕ) → forwarding_of finished_state a ≡ forwarding_of s a
    forwarding_same a =
        let sum : forwarding_of finished_state a + cond (is_forwarding a entry) 1 0 ≡ forwarding_of s a + cond (is_forwarding a entry) 1 0 =
        put_sum (λ e. cond (is_forwarding a e) 1 0) s.entries.questions q changed (Some entry) was in
        omega (arith, sum)

    finished_now : (r : ℕ) (e : Exchange QuestionEntry) → ((q ≡ r) × (changed ≡ e)) ⊎ (((q == r) ≡ false) × (get s.entries.questions r ≡ Some e))
        → e.stage ≡ stages.Finished
        → (t : ℕ) → IfSome (get s.waiting.calls t) (IsOff r)
    finished_now r e (inl new) stage = rw (← new.0) off
    finished_now r e (inr old) stage = h.finished r e old.1 stage

    finished_as : (o : Option ℕ) (v : Option QuestionState) → OwnIs o stages.Open v → OwnIs o stages.Finished v
    finished_as None None is = absurd is
    finished_as None (Some question) is = is
    finished_as (Some a) None is = tt
    finished_as (Some a) (Some question) is = absurd is

    valued : (r : ℕ) (b : Bool) → (q == r) ≡ b → QuestionIs (get (insert s.entries.questions q changed) r) (get s.values.questions r)
    valued r true t =
        let at_r : get s.entries.questions r ≡ Some entry = rw (← is_equal q r t) was in
        let old : OwnIs entry.kept.forwards entry.stage (get s.values.questions r) = rw at_r at (h.questions_valued r) in
        rw (put_at s.entries.questions q r changed true t) (finished_as entry.kept.forwards (get s.values.questions r) (rw at at old))
    valued r false t = rw (put_at s.entries.questions q r changed false t) (h.questions_valued r)

    pub own_finished : Within finished_state None []
    own_finished =
        let new : State = finished_state in
        record {
          over_answers = h.over_answers;
          over_promises = h.over_promises;
          over_questions = h.over_questions;
          over_embargoes = h.over_embargoes;
          gifts = h.gifts;
          answers = each_kept (HasAnswerPlace s None) (HasAnswerPlace new None) s.entries.answers 0 h.answers
              (λ a e is. answer_place s new None None a e refl refl (forwarding_same a));
          questions = each_put (HasQuestionPlace s None) (HasQuestionPlace new None) s.entries.questions q changed h.questions
              (λ open_. there_of (HasQuestionPlace s None q) (get s.entries.questions q) entry was (h.questions q) still_open) (λ r e other is x. x);
          waiting = each_kept (WaitsFor s) (WaitsFor new) s.waiting.calls 0 h.waiting
              (λ t call is w. (w.0, w.1, tickets_stay s new (λ b u x. x) stay_asked call.origin t w.2));
          forwards = each_put (λ r e. ForwardsRightly s e.kept.forwards e.kept.ticket)
              (λ r e. ForwardsRightly new e.kept.forwards e.kept.ticket) s.entries.questions q changed h.forwards
              (forwards_stay s new (λ b u x. x) entry.kept.forwards entry.kept.ticket
              (there_of (λ (e : Exchange QuestionEntry). ForwardsRightly s e.kept.forwards e.kept.ticket) (get s.entries.questions q) entry was
              (h.forwards q)))
              (λ r e other is. forwards_stay s new (λ b u x. x) e.kept.forwards e.kept.ticket);
          wire = each_put (λ r e. is_in_hand None (origins.Own r) ≡ false → IsSentIf (is_wire (get s.values.questions r)) e.kept)
              (λ r e. is_in_hand None (origins.Own r) ≡ false → IsSentIf (is_wire (get new.values.questions r)) e.kept)
              s.entries.questions q changed h.wire (there_of (λ (e : Exchange QuestionEntry). is_in_hand None (origins.Own q) ≡ false
              → IsSentIf (is_wire (get s.values.questions q)) e.kept) (get s.entries.questions q) entry was (h.wire q)) (λ r e other is x. x);
          forwarding = each_put (λ r (e : Exchange QuestionEntry). IsOpenIf e.kept.forwards e)
              (λ r (e : Exchange QuestionEntry). IsOpenIf e.kept.forwards e) s.entries.questions q changed h.forwarding (rw (own) tt) (λ r e other is x. x);
          gates_kept = h.gates_kept;
          sendable = h.sendable;
          tied = h.tied;
          untied = h.untied;
          owned = h.owned;
          counts = h.counts;
          imported = h.imported;
          exports = h.exports;
          one_export = h.one_export;
          there = h.there;
          ends = h.ends;
          embargoed = h.embargoed;
          plain = h.plain;
          finished = λ r e is stage. finished_now r e (put_cases s.entries.questions q r changed e is) stage;
          answers_valued = h.answers_valued;
          questions_valued = λ r. valued r (q == r) refl;
          imports_valued = h.imports_valued;
          import_marks = h.import_marks;
          path_marks = h.path_marks;
          one_mark = h.one_mark;
          waited_for = h.waited_for;
        }

  -- after it
  pub returned_leaves : entry.stage ≡ stages.Returned → Within (without_question s q) None []
  returned_leaves at =
      own_leaves h q entry was own (alone_none (origins.Own q)) (none_waits h (origins.Own q) no_ticket)
      (each_kept (λ t. IsOff q) (λ t (c : WaitingCall). list_any (is_pipelined_of q) c.request.caps ≡ false) s.waiting.calls 0 off (λ t c is f. f.1))
    where
      no_ticket : (t : ℕ) → IsTicketOf s (origins.Own q) t → ⊥
      no_ticket t it =
          let closed : is_open_stage it.0.stage ≡ false = rw (← some_out (sym was ∙ it.1), at) refl in
          true≢false (sym it.2 ∙ closed)

finish_by : (s : State) (q : ℕ) (entry : Exchange QuestionEntry) (stage : Stage) (done : OwnDone) → Within s None [] → get s.entries.questions q ≡ Some entry
    → entry.stage ≡ stage
    → entry.kept.forwards ≡ None → ((t : ℕ) → IfSome (get s.waiting.calls t) (IsOff q)) → FinishBy s q entry.kept stage (Ok done) → Within done.2 None []
finish_by s q entry stages.Open done h was at own off does = rw (ok_in _ _ does, was) (own_finished h q entry was own off at)
finish_by s q entry stages.Returned done h was at own off does = rw (ok_in _ _ does) (returned_leaves h q entry was own off at)
finish_by s q entry stages.Finished done h was at own off does = absurd does

finishes_by : (s : State) (q : ℕ) (o : Option (Exchange QuestionEntry)) (done : OwnDone) → Within s None [] → get s.entries.questions q ≡ o → is_own o ≡ true
    → ((t : ℕ) → IfSome (get s.waiting.calls t) (IsOff q)) → Finishes s q o (Ok done) → Within done.2 None []
finishes_by s q None done h was own off does = absurd does
finishes_by s q (Some entry) done h was own off does =
    finish_by s q entry entry.stage done h was refl (not_forwards entry.kept.forwards
    (own_parts (is_some entry.kept.forwards) (is_unfinished entry.stage) own).0) off does

pub do_finish_keeps : (s : State) (q : ℕ) (done : OwnDone) → Within s None [] → DoFinish s q (Ok done) → Within done.2 None []
do_finish_keeps s q done h does =
    let faults_of : List VatFault = fault_if (not (is_own_question s q)) refusals.UnknownQuestion ++ fault_if (is_question_used s q) refusals.InUse in
    let Rule : Result OwnDone VatFault → Type 0 = Finishes s q (get s.entries.questions q) in
    let rule = unless_out {A = OwnDone} {F = VatFault} faults_of Rule done does in
    let none = no_faults {A = OwnDone} {F = VatFault} faults_of Rule done does in
    let own = not_false (is_own_question s q) (not_met (not (is_own_question s q)) refusals.UnknownQuestion
    (front_empty (fault_if (not (is_own_question s q)) refusals.UnknownQuestion) (fault_if (is_question_used s q) refusals.InUse) none)) in
    let unused = not_met (is_question_used s q) refusals.InUse
    (back_empty (fault_if (not (is_own_question s q)) refusals.UnknownQuestion) (fault_if (is_question_used s q) refusals.InUse) none) in
    finishes_by s q (get s.entries.questions q) done h refl own (unused_off s q unused) rule
