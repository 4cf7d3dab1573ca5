-- A Bootstrap, a Call and a Finish that come.
use Rattle.std.specs.Prelude.{◌≡◌, refl, ℕ, ◌+◌, ◌<◌, ◌==◌, not, if◌then◌else◌, Bool, true, false, List, [], Option, Some, None, is_some, IfSome, IsTrue, Result, Ok, ◌++◌}
use Rattle.std.specs.List.{AllByRecursion}
use Rattle.std.specs.FinMap.{get, insert, remove, get-empty}
use Rattle.std.specs.Ordering.{nat_cmp}
use Rattle.std.proofs.Common.{arith, ap, sym, ◌∙◌, true≢false}
use Rattle.cp_tables.specs.Table.{Table}
use Rattle.cp_tables.specs.Exchange.{new_exchange}
use Rattle.cp_tables.specs.declared.counted.Counted.{Counted}
use Rattle.cp_tables.specs.declared.exchange.Exchange.{Exchange}
use Rattle.cp_tables.specs.declared.exchange.Stage.{Stage}
use Rattle.cp_tables.specs.declared.exchange.Stage.TheVariants as stages
use Rattle.cp_messages.specs.declared.target.Target.{Target}
use Rattle.cp_messages.specs.declared.target.Target.TheVariants as targets
use Rattle.cp_messages.specs.declared.call.Call.{Call}
use Rattle.cp_messages.specs.declared.small.Finish.{Finish}
use Rattle.cp_refs.specs.At.{cap_at}
use Rattle.cp_refs.specs.Route.{HasRoute}
use Rattle.cp_refs.specs.declared.cap.Cap.{Cap}
use Rattle.cp_refs.specs.declared.call.WaitingCall.{WaitingCall}
use Rattle.cp_refs.specs.declared.call.Origin.{Origin}
use Rattle.cp_refs.specs.declared.call.Origin.TheVariants as origins
use Rattle.cp_refs.specs.declared.outcome.Outcome.{Outcome}
use Rattle.cp_refs.specs.declared.route.Gate.{Gate}
use Rattle.cp_refs.specs.declared.route.Gate.TheVariants as gates
use Rattle.cp_refs.specs.declared.route.Route.TheVariants as routes
use Rattle.cp_vat_machine.specs.State.{State, gave, none_over, with_answers}
use Rattle.cp_vat_machine.specs.Then.{Done, Then, fault_if}
use Rattle.cp_vat_machine.specs.InUse.{caps_of, is_pipelined_of, is_local_path}
use Rattle.cp_vat_machine.specs.Local.{is_open_stage, waiting_of, forwarding_of, one_if, IsTicketOf, ForwardsRightly, tied_to, tied_in, HasNoTied, IsThere, AnswerIs, IsExportable}
use Rattle.cp_vat_machine.specs.declared.entry.AnswerEntry.{AnswerEntry}
use Rattle.cp_vat_machine.specs.declared.entry.Tied.{Tied}
use Rattle.cp_vat_machine.specs.declared.fault.PeerFault.{PeerFault}
use Rattle.cp_vat_machine.specs.Capacity.{has_capacity}
use Rattle.cp_vat_machine.specs.Receiving.{answer_of, path_of, ReceivesCaps, release_exports}
use Rattle.cp_vat_machine.specs.Give.{GiveAnswer}
use Rattle.cp_vat_machine.specs.Answering.{with_answer, bootstrap_outcome, is_answering, OnBootstrap, target_faults, GoToExport, GoToAnswer, GoToTarget, peer_call, entered, call_faults, OnCall, without_answer, AtStage, FinishedBy, OnFinish}
use Rattle.cp_vat_machine.specs.declared.fault.PeerFault.TheVariants as faults
use Rattle.cp_vat_machine.proofs.Basics.{some_out, none_out, ok_in, then_out, is_equal, other_number, put_at, gone_at, unless_out, ok_out}
use Rattle.cp_vat_laws.specs.Within.{Within, is_in_hand, HasAnswerPlace, WaitsFor, AllKept, IsPlain, IsFit, IsUngivenIf, IsInHand}
use Rattle.cp_vat_laws.proofs.Tables.{here_of, there_of, gone_cases, each_put, each_gone, each_kept, put_sum, gone_sum, all_of, no_faults, front_empty, not_met, pass_none}
use Rattle.cp_vat_laws.proofs.within.Follows.{all_end, none_waits, plain_of, none_forwards, waits_of_other, forwards_other, exportable_plain, plain_sendable}
use Rattle.cp_vat_laws.proofs.within.Tickets.{tickets_stay, forwards_stay, answer_changes, AnswerTicket, answer_opens, tickets_of_others, answer_left}
use Rattle.cp_vat_laws.proofs.within.InHand.{alone_some, answer_place, is_held}
use Rattle.cp_vat_laws.proofs.within.Give.{IsToGive, give_answer_keeps, forwards_others}
use Rattle.cp_vat_laws.proofs.within.AllKept.{values_map, answer_put, answer_gone}
use Rattle.cp_vat_laws.proofs.within.Between.{none_gave, ungiven_if}
use Rattle.cp_vat_laws.proofs.within.StaysThere.{same_route}
use Rattle.cp_vat_laws.proofs.within.Exports.{fewer_exports, lower_if}
use Rattle.cp_vat_laws.proofs.within.Take.{get_put, fit_table, fit_at, answer_given, take_all_keeps}
use Rattle.cp_vat_laws.proofs.within.Go.{go_keeps, go_to_keeps, plain_target}

-- an answer is open from now on, and its call is in hand
module _ {s : State} (h : Within s None []) (a : ℕ) (ticket : Option ℕ) (fresh : get s.entries.answers a ≡ None)
    (not_over : get s.waiting.over.answers a ≡ None) where
  abbrev opened_entry : Exchange AnswerEntry
  opened_entry = new_exchange (record { ticket = ticket; is_delivered = false; mentions = []; tied = [] })

  abbrev opened_state : State
  opened_state = with_answer s a ticket

  opened_fit : (c : Cap) → IsFit s c → IsFit opened_state c
  opened_fit c f = (f.0, f.1, same_route s.values opened_state.values refl refl c f.2)

  over_at : (b : ℕ) (o : Outcome) (t : Bool) → (a == b) ≡ t → get s.waiting.over.answers b ≡ Some o → get (insert s.values.answers a None) b ≡ Some None → ⊥
  over_at b o true t is none = let over : get s.waiting.over.answers a ≡ Some o = rw (is_equal a b t) is in none_out (sym not_over ∙ over)
  over_at b o false t is none = h.over_answers b o is (sym (put_at s.values.answers a b None false t) ∙ none)

  no_ticket : (t : ℕ) → IsTicketOf s (origins.Answer a) t → ⊥
  no_ticket t it = none_out (sym fresh ∙ it.1)

  place_here : one_if (is_in_hand (Some (origins.Answer a)) (origins.Answer a)) + waiting_of s (origins.Answer a) + one_if false + forwarding_of s a ≡ 1
  place_here = rw (is_held (origins.Answer a)) (omega (arith, none_waits h (origins.Answer a) no_ticket, none_forwards h a no_ticket))

  stay : (b t : ℕ) → AnswerTicket s.entries.answers b t → AnswerTicket (insert s.entries.answers a opened_entry) b t
  stay = answer_opens s.entries.answers a opened_entry fresh

  gate_opened : (gate : Gate) (o : Option Cap) → IsUngivenIf s o gate → IsUngivenIf opened_state o gate
  gate_opened gate (Some c) was = tt
  gate_opened (gates.Answer b path) None was = by (a == b) refl
    where
      by : (t : Bool) → (a == b) ≡ t → get (insert s.values.answers a None) b ≡ Some None
      by true t = put_at s.values.answers a b None true t
      by false t = put_at s.values.answers a b None false t ∙ was
  gate_opened (gates.Promise p) None was = tt
  gate_opened (gates.Question q path) None was = tt
  gate_opened (gates.Embargo n) None was = tt

  tied_same : (p : ℕ) → tied_in opened_state p ≡ tied_in s p
  tied_same p =
      let sum : tied_in opened_state p + 0 ≡ tied_in s p + 0 = put_sum
      (λ (e : Exchange AnswerEntry). tied_to p e.kept.tied) s.entries.answers a opened_entry None fresh in
      omega (arith, sum)

  opened_there : AllKept (IsThere opened_state) opened_state
  opened_there = record {
    values_ = answer_put (IsThere opened_state) s.values h.there.values_ a None (λ o e. none_out e);
    calls_ = h.there.calls_;
    embargoes_ = h.there.embargoes_;
    exports_ = h.there.exports_;
  }

  valued : (b : ℕ) (t : Bool) → (a == b) ≡ t → AnswerIs (get (insert s.entries.answers a opened_entry) b) (get (insert s.values.answers a None) b)
  valued b true t = rw (put_at s.entries.answers a b opened_entry true t, put_at s.values.answers a b None true t) refl
  valued b false t = rw (put_at s.entries.answers a b opened_entry false t, put_at s.values.answers a b None false t) (h.answers_valued b)

  pub answer_opened : Within opened_state (Some (origins.Answer a)) []
  answer_opened =
      let new : State = opened_state in
      record {
        over_answers = λ b o is none. over_at b o (a == b) refl is none;
        over_promises = h.over_promises;
        over_questions = h.over_questions;
        over_embargoes = h.over_embargoes;
        gifts = λ gate cap is. opened_fit cap (h.gifts gate cap is);
        answers = each_put (HasAnswerPlace s None) (HasAnswerPlace new (Some (origins.Answer a))) s.entries.answers a opened_entry h.answers
            (λ open_. place_here)
            (λ b e other is. answer_place s new None (Some (origins.Answer a)) b e
            (alone_some (origins.Answer a) (origins.Answer b) (other_number a b other)) refl refl);
        questions = h.questions;
        waiting = each_kept (WaitsFor s) (WaitsFor new) s.waiting.calls 0 h.waiting
            (λ t call is w. (w.0, w.1, tickets_stay s new stay (λ q u x. x) call.origin t w.2));
        forwards = each_kept (λ q e. ForwardsRightly s e.kept.forwards e.kept.ticket)
            (λ q e. ForwardsRightly new e.kept.forwards e.kept.ticket) s.entries.questions 0 h.forwards
            (λ q e is. forwards_stay s new stay e.kept.forwards e.kept.ticket);
        wire = λ q. here_of _ (get s.entries.questions q) (λ e is not. (rw is at (h.wire q)) refl);
        forwarding = h.forwarding;
        gates_kept = each_kept (λ t (c : WaitingCall). IsUngivenIf s (gave s.waiting.over c.gate) c.gate)
            (λ t (c : WaitingCall). IsUngivenIf new (gave new.waiting.over c.gate) c.gate) s.waiting.calls 0 h.gates_kept
            (λ t call is. gate_opened call.gate (gave s.waiting.over call.gate));
        sendable = h.sendable;
        tied = λ p. omega (arith, tied_same p, h.tied p);
        untied = each_put (λ b. HasNoTied) (λ b. HasNoTied) s.entries.answers a opened_entry h.untied (λ closed. refl) (λ b e other is x. x);
        owned = h.owned;
        counts = h.counts;
        imported = h.imported;
        exports = h.exports;
        one_export = h.one_export;
        there = opened_there;
        ends = all_end new (answer_put (HasRoute new.values) s.values
            (values_map (HasRoute s.values) (HasRoute new.values) s.values (same_route s.values new.values refl refl) h.ends.values_) a None
            (λ o e. none_out e)) opened_there;
        embargoed = h.embargoed;
        plain = answer_put IsPlain s.values h.plain a None (λ o e. none_out e);
        finished = h.finished;
        answers_valued = λ b. valued b (a == b) refl;
        questions_valued = h.questions_valued;
        imports_valued = h.imports_valued;
        import_marks = h.import_marks;
        path_marks = h.path_marks;
        one_mark = h.one_mark;
        waited_for = h.waited_for;
      }

-- a ticket is given
pub ticket_taken : {s : State} {hand : Option Origin} {next : List Tied} → Within s hand next → Within (record s { next_ticket = s.next_ticket + 1 }) hand next
ticket_taken {s = s} h =
    let new : State = record s { next_ticket = s.next_ticket + 1 } in
    record {
      over_answers = h.over_answers;
      over_promises = h.over_promises;
      over_questions = h.over_questions;
      over_embargoes = h.over_embargoes;
      gifts = h.gifts;
      answers = h.answers;
      questions = h.questions;
      waiting = each_kept (WaitsFor s) (WaitsFor new) s.waiting.calls 0 h.waiting (λ t call is w. (w.0, omega (arith, w.1), w.2));
      forwards = h.forwards;
      wire = h.wire;
      forwarding = h.forwarding;
      gates_kept = h.gates_kept;
      sendable = h.sendable;
      tied = h.tied;
      untied = h.untied;
      owned = h.owned;
      counts = h.counts;
      imported = h.imported;
      exports = h.exports;
      one_export = h.one_export;
      there = h.there;
      ends = h.ends;
      embargoed = h.embargoed;
      plain = h.plain;
      finished = h.finished;
      answers_valued = h.answers_valued;
      questions_valued = h.questions_valued;
      imports_valued = h.imports_valued;
      import_marks = h.import_marks;
      path_marks = h.path_marks;
      one_mark = h.one_mark;
      waited_for = h.waited_for;
    }

-- no call waits under the next ticket
pub next_free : {s : State} {hand : Option Origin} {next : List Tied} → Within s hand next → get s.waiting.calls s.next_ticket ≡ None
next_free {s = s} h = by (get s.waiting.calls s.next_ticket) (h.waiting s.next_ticket)
  where
    never : (n : ℕ) → n < n → ⊥
    never n less = omega (arith, less)

    by : (o : Option WaitingCall) → IfSome o (WaitsFor s s.next_ticket) → o ≡ None
    by None waits = refl
    by (Some call) waits = absurd (never s.next_ticket waits.1)

no_answer : (s : State) (a : ℕ) → is_answering s a ≡ false → get s.entries.answers a ≡ None
no_answer s a is = by (get s.entries.answers a) is
  where
    by : (o : Option (Exchange AnswerEntry)) → is_some o ≡ false → o ≡ None
    by None e = refl
    by (Some x) e = absurd (true≢false e)

no_over : (s : State) (a : ℕ) → s.waiting.over ≡ none_over → get s.waiting.over.answers a ≡ None
no_over s a still = ap (λ o. get o.answers a) still ∙ get-empty {X = Outcome} nat_cmp a

bootstrap_fit : (s : State) (o : Option ℕ) → AllByRecursion (IsFit s) (caps_of (bootstrap_outcome o))
bootstrap_fit s None = tt
bootstrap_fit s (Some k) = ((refl, tt, (1, refl)), tt)

pub bootstrap_keeps : (s : State) (a : ℕ) (done : Done) → Within s None [] → s.waiting.over ≡ none_over → OnBootstrap s a (Ok done) → Within done.1 None []
bootstrap_keeps s a done h still does =
    let refusals : List PeerFault = fault_if (is_answering s a) faults.QuestionInUse ++ fault_if (not (has_capacity s.entries.answers)) faults.TableFull in
    let rule = unless_out {A = Done} {F = PeerFault} refusals (GiveAnswer (with_answer s a None) a (bootstrap_outcome s.bootstrap)) done does in
    let none : refusals ≡ [] = no_faults {A = Done} {F = PeerFault} refusals (GiveAnswer (with_answer s a None) a (bootstrap_outcome s.bootstrap)) done does in
    let fresh = no_answer s a (not_met (is_answering s a) faults.QuestionInUse (front_empty (fault_if (is_answering s a) faults.QuestionInUse) _ none)) in
    let opened = answer_opened h a None fresh (no_over s a still) in
    give_answer_keeps (with_answer s a None) (Some (origins.Answer a)) a (bootstrap_outcome s.bootstrap) done opened (opened_to_give opened)
    (bootstrap_fit (with_answer s a None) s.bootstrap) rule
  where
    opened_to_give : Within (with_answer s a None) (Some (origins.Answer a)) [] → IsToGive (with_answer s a None) (Some (origins.Answer a)) a
    opened_to_give opened =
        let there = get_put s.entries.answers a (new_exchange (record { ticket = None; is_delivered = false; mentions = []; tied = [] })) in
        let place = there_of (HasAnswerPlace (with_answer s a None) (Some (origins.Answer a)) a) _ _ there (opened.answers a) refl in
        let here : 1 + waiting_of s (origins.Answer a) + 0 + forwarding_of s a ≡ 1 = rw (is_held (origins.Answer a)) at place in
        record { alone = alone_some (origins.Answer a); waits = omega (arith, here); forwarded = omega (arith, here) }

-- The peer's call is in hand, and goes by its target's route.
module _ (s : State) (c : Call) (table : List Cap) (h : Within s None []) (still : s.waiting.over ≡ none_over)
    (fresh : get s.entries.answers c.question_id ≡ None)
    (fit : AllByRecursion (IsFit s) table) where
  abbrev entered_state : State
  entered_state = entered s c.question_id

  pub entered_within : Within entered_state (Some (origins.Answer c.question_id)) []
  entered_within = ticket_taken (answer_opened h c.question_id (Some s.next_ticket) fresh (no_over s c.question_id still))

  entered_fit : (x : Cap) → IsFit s x → IsFit entered_state x
  entered_fit x f = (f.0, f.1, same_route s.values entered_state.values refl refl x f.2)

  pub peer_in_hand : IsInHand entered_state (peer_call s c table)
  peer_in_hand =
      record {
        whose = (_, get_put s.entries.answers c.question_id _, refl, refl);
        given = less s.next_ticket;
        free = next_free h;
        sendable = all_of (IsFit s) (λ x. is_local_path entered_state x ≡ false) table (λ x f. plain_sendable entered_state x f.0) fit;
        there = all_of (IsFit s) (IsThere entered_state) table (λ x f. (entered_fit x f).1) fit;
        ends = all_of (IsFit s) (HasRoute entered_state.values) table (λ x f. (entered_fit x f).2) fit;
        unfinished = λ q entry is at. pass_none (is_pipelined_of q) table
            (all_of (IsFit s) (λ x. is_pipelined_of q x ≡ false) table (λ x f. plain_of q x f.0) fit);
      }
    where
      less : (n : ℕ) → n < n + 1
      less n = omega arith

  export_goes : (e : ℕ) (o : Option (Counted Cap)) (done : Done) → get s.counts.exports e ≡ o → GoToExport entered_state (peer_call s c table) o (Ok done)
      → Within done.1 None []
  export_goes e None done at goes = absurd goes
  export_goes e (Some entry) done at goes =
      let plain = exportable_plain s entry.kept (there_of (λ (x : Counted Cap). IsExportable s x.kept) (get s.counts.exports e) entry at (h.exports e)) in
      go_to_keeps entered_state (peer_call s c table) entry.kept done entered_within peer_in_hand (plain_target entered_state entry.kept plain) tt goes

  answer_goes : (b : ℕ) (path : List ℕ) (o : Option (Option Outcome)) (done : Done) → answer_of entered_state b ≡ o
      → GoToAnswer entered_state (peer_call s c table) b path o (Ok done)
      → Within done.1 None []
  answer_goes b path None done at goes = absurd goes
  answer_goes b path (Some None) done at goes =
      go_keeps entered_state (peer_call s c table) (routes.Wait (gates.Answer b path)) done entered_within peer_in_hand (
        tt,
        record {
          ungiven = ungiven_if entered_state (gates.Answer b path) (gave s.waiting.over (gates.Answer b path))
              (ap (λ o. gave o (gates.Answer b path)) still ∙ none_gave (gates.Answer b path))
              (answer_given entered_state b None at);
          off = λ q entry is stage. refl;
        },
      )
      goes
  answer_goes b path (Some (Some outcome)) done at goes =
      let all = fit_table entered_within b outcome (answer_given entered_state b (Some outcome) at) in
      go_to_keeps entered_state (peer_call s c table) (cap_at outcome path) done entered_within peer_in_hand
      (plain_target entered_state (cap_at outcome path) (fit_at entered_state outcome path all).0) tt goes

  target_goes : (target : Target) (done : Done) → GoToTarget entered_state (peer_call s c table) target (Ok done) → Within done.1 None []
  target_goes (targets.ImportedCap e) done goes = export_goes e (get s.counts.exports e) done refl goes
  target_goes (targets.PromisedAnswer answer) done goes = answer_goes answer.question_id (path_of answer.transform)
      (answer_of entered_state answer.question_id) done refl goes
  target_goes (targets.Unknown n) done goes = absurd goes

pub call_keeps : (s : State) (c : Call) (done : Done) → Within s None [] → s.waiting.over ≡ none_over → OnCall s c (Ok done) → Within done.1 None []
call_keeps s c done h still does =
    let Rule : Result Done PeerFault → Type 0 = Then (ReceivesCaps s c.params.cap_table)
    (λ taken. GoToTarget (entered taken.1 c.question_id) (peer_call taken.1 c taken.0) c.target) in
    let rule = unless_out {A = Done} {F = PeerFault} (call_faults s c) Rule done does in
    let none : call_faults s c ≡ [] = no_faults {A = Done} {F = PeerFault} (call_faults s c) Rule done does in
    let taken = then_out {A = List Cap × State} {B = Done} (ReceivesCaps s c.params.cap_table) _ done rule in
    let one = take_all_keeps None [] c.params.cap_table s taken.0 h still taken.1 in
    let fresh = no_answer s c.question_id
    (not_met (is_answering s c.question_id) faults.QuestionInUse
    (front_empty (fault_if (is_answering s c.question_id) faults.QuestionInUse) (target_faults s c.target) (front_empty _ _ none))) in
    target_goes taken.0.1 c taken.0.0 one.0 (ap (λ w. w.over) one.1.waiting ∙ still) (one.1.answering c.question_id fresh) one.2 c.target done taken.2

-- A Finish is noted of an answer that isn't given.
module _ {s : State} (h : Within s None []) (a : ℕ) (entry : Exchange AnswerEntry) (was : get s.entries.answers a ≡ Some entry) where
  module _ (at : entry.stage ≡ stages.Open) where
    abbrev noted : Exchange AnswerEntry
    noted = record entry { stage = stages.Finished }

    abbrev noted_state : State
    noted_state = with_answers s (insert s.entries.answers a noted)

    still_open : IsTrue (is_open_stage entry.stage)
    still_open = rw (at) refl

    stay_noted : (b t : ℕ) → AnswerTicket s.entries.answers b t → AnswerTicket (insert s.entries.answers a noted) b t
    stay_noted = answer_changes s.entries.answers a entry noted was (λ x. refl) refl

    tied_noted : (p : ℕ) → tied_in noted_state p ≡ tied_in s p
    tied_noted p =
        let sum : tied_in noted_state p + tied_to p entry.kept.tied ≡ tied_in s p + tied_to p entry.kept.tied =
        put_sum (λ (e : Exchange AnswerEntry). tied_to p e.kept.tied) s.entries.answers a noted (Some entry) was in
        omega (arith, sum)

    noted_as : (o : Option (Option Outcome)) → AnswerIs (Some entry) o → AnswerIs (Some noted) o
    noted_as None is = absurd is
    noted_as (Some outcome) is = rw at at is

    valued_noted : (b : ℕ) (t : Bool) → (a == b) ≡ t → AnswerIs (get (insert s.entries.answers a noted) b) (get s.values.answers b)
    valued_noted b true t =
        let at_b : get s.entries.answers b ≡ Some entry = rw (← is_equal a b t) was in
        rw (put_at s.entries.answers a b noted true t) (noted_as (get s.values.answers b) (rw (at_b) at (h.answers_valued b)))
    valued_noted b false t = rw (put_at s.entries.answers a b noted false t) (h.answers_valued b)

    pub finish_noted : Within noted_state None []
    finish_noted =
        let new : State = noted_state in
        record {
          over_answers = h.over_answers;
          over_promises = h.over_promises;
          over_questions = h.over_questions;
          over_embargoes = h.over_embargoes;
          gifts = h.gifts;
          answers = each_put (HasAnswerPlace s None) (HasAnswerPlace new None) s.entries.answers a noted h.answers
              (λ open_. there_of (HasAnswerPlace s None a) (get s.entries.answers a) entry was (h.answers a) still_open) (λ b e other is x. x);
          questions = h.questions;
          waiting = each_kept (WaitsFor s) (WaitsFor new) s.waiting.calls 0 h.waiting
              (λ t call is w. (w.0, w.1, tickets_stay s new stay_noted (λ q u x. x) call.origin t w.2));
          forwards = each_kept (λ q e. ForwardsRightly s e.kept.forwards e.kept.ticket)
              (λ q e. ForwardsRightly new e.kept.forwards e.kept.ticket) s.entries.questions 0 h.forwards
              (λ q e is. forwards_stay s new stay_noted e.kept.forwards e.kept.ticket);
          wire = h.wire;
          forwarding = h.forwarding;
          gates_kept = h.gates_kept;
          sendable = h.sendable;
          tied = λ p. omega (arith, tied_noted p, h.tied p);
          untied = each_put (λ b. HasNoTied) (λ b. HasNoTied) s.entries.answers a noted h.untied (λ closed. absurd (true≢false (sym closed)))
              (λ b e other is x. x);
          owned = h.owned;
          counts = h.counts;
          imported = h.imported;
          exports = h.exports;
          one_export = h.one_export;
          there = h.there;
          ends = h.ends;
          embargoed = h.embargoed;
          plain = h.plain;
          finished = h.finished;
          answers_valued = λ b. valued_noted b (a == b) refl;
          questions_valued = h.questions_valued;
          imports_valued = h.imports_valued;
          import_marks = h.import_marks;
          path_marks = h.path_marks;
          one_mark = h.one_mark;
          waited_for = h.waited_for;
        }

  -- That of one that was given lets it go.
  module _ (at : entry.stage ≡ stages.Returned) where
    abbrev left_state : State
    left_state = without_answer s a

    no_open : (t : ℕ) → IsTicketOf s (origins.Answer a) t → ⊥
    no_open t it =
        let closed : is_open_stage it.0.stage ≡ false = rw (← some_out (sym was ∙ it.1), at) refl in
        true≢false (sym it.2 ∙ closed)

    waits_none : waiting_of s (origins.Answer a) ≡ 0
    waits_none = none_waits h (origins.Answer a) no_open

    forwards_none : forwarding_of s a ≡ 0
    forwards_none = none_forwards h a no_open

    given_as : (o : Option (Option Outcome)) → AnswerIs (Some entry) o → o ≡ Some None → ⊥
    given_as None is none = none_out none
    given_as (Some outcome) is none =
        let valued : is_some outcome ≡ true = rw at at is in
        true≢false (sym valued ∙ ap is_some (some_out none))

    gate_left : (gate : Gate) (o : Option Cap) → IsUngivenIf s o gate → IsUngivenIf left_state o gate
    gate_left gate (Some c) was_so = tt
    gate_left (gates.Answer b path) None was_so = by (a == b) refl
      where
        by : (t : Bool) → (a == b) ≡ t → get (remove s.values.answers a) b ≡ Some None
        by true t =
            let at_b : get s.entries.answers b ≡ Some entry = rw (← is_equal a b t) was in
            absurd (given_as (get s.values.answers b) (rw (at_b) at (h.answers_valued b)) was_so)
        by false t = gone_at s.values.answers a b false t ∙ was_so
    gate_left (gates.Promise p) None was_so = tt
    gate_left (gates.Question q path) None was_so = tt
    gate_left (gates.Embargo n) None was_so = tt

    tied_left : (p : ℕ) → tied_in left_state p ≡ tied_in s p
    tied_left p =
        let sum : tied_in left_state p + tied_to p entry.kept.tied ≡ tied_in s p = gone_sum
        (λ (e : Exchange AnswerEntry). tied_to p e.kept.tied) s.entries.answers a entry was in
        let none : entry.kept.tied ≡ [] = there_of HasNoTied (get s.entries.answers a) entry was (h.untied a) (rw (at) refl) in
        let zero : ◌≡◌ {A = ℕ} (tied_to p entry.kept.tied) 0 = rw (none) refl in
        omega (arith, sum, zero)

    answer_left_there : AllKept (IsThere left_state) left_state
    answer_left_there = record {
      values_ = answer_gone (IsThere left_state) s.values h.there.values_ a;
      calls_ = h.there.calls_;
      embargoes_ = h.there.embargoes_;
      exports_ = h.there.exports_;
    }

    valued_left : (b : ℕ) (t : Bool) → (a == b) ≡ t → AnswerIs (get (remove s.entries.answers a) b) (get (remove s.values.answers a) b)
    valued_left b true t = rw (gone_at s.entries.answers a b true t, gone_at s.values.answers a b true t) tt
    valued_left b false t = rw (gone_at s.entries.answers a b false t, gone_at s.values.answers a b false t) (h.answers_valued b)

    pub answer_leaves : Within left_state None []
    answer_leaves =
        let new : State = left_state in
        record {
          over_answers = λ b o is none. h.over_answers b o is (gone_cases s.values.answers a b None none).1;
          over_promises = h.over_promises;
          over_questions = h.over_questions;
          over_embargoes = h.over_embargoes;
          gifts = λ gate cap is. let fit = h.gifts gate cap is in (fit.0, fit.1, same_route s.values new.values refl refl cap fit.2);
          answers = each_gone (HasAnswerPlace s None) (HasAnswerPlace new None) s.entries.answers a h.answers (λ b e other is x. x);
          questions = h.questions;
          waiting = each_kept (WaitsFor s) (WaitsFor new) s.waiting.calls 0 h.waiting (λ t call is w. (
            w.0,
            w.1,
            tickets_of_others s new (origins.Answer a) (λ b u other. answer_left s.entries.answers a b u (other_number b a other))
                (λ q u other x. x) call.origin t (waits_of_other h (origins.Answer a) t call waits_none is) w.2,
          ));
          forwards = each_kept (λ q e. ForwardsRightly s e.kept.forwards e.kept.ticket)
              (λ q e. ForwardsRightly new e.kept.forwards e.kept.ticket) s.entries.questions 0 h.forwards
              (λ q e is. forwards_others s new a (λ b u other. answer_left s.entries.answers a b u other) e.kept.forwards e.kept.ticket
              (forwards_other h a q e forwards_none is));
          wire = h.wire;
          forwarding = h.forwarding;
          gates_kept = each_kept (λ t (c : WaitingCall). IsUngivenIf s (gave s.waiting.over c.gate) c.gate)
              (λ t (c : WaitingCall). IsUngivenIf new (gave new.waiting.over c.gate) c.gate) s.waiting.calls 0 h.gates_kept
              (λ t call is. gate_left call.gate (gave s.waiting.over call.gate));
          sendable = h.sendable;
          tied = λ p. omega (arith, tied_left p, h.tied p);
          untied = each_gone (λ b. HasNoTied) (λ b. HasNoTied) s.entries.answers a h.untied (λ b e other is x. x);
          owned = h.owned;
          counts = h.counts;
          imported = h.imported;
          exports = h.exports;
          one_export = h.one_export;
          there = answer_left_there;
          ends = all_end new (answer_gone (HasRoute new.values) s.values
              (values_map (HasRoute s.values) (HasRoute new.values) s.values (same_route s.values new.values refl refl) h.ends.values_) a) answer_left_there;
          embargoed = h.embargoed;
          plain = answer_gone IsPlain s.values h.plain a;
          finished = h.finished;
          answers_valued = λ b. valued_left b (a == b) refl;
          questions_valued = h.questions_valued;
          imports_valued = h.imports_valued;
          import_marks = h.import_marks;
          path_marks = h.path_marks;
          one_mark = h.one_mark;
          waited_for = h.waited_for;
        }

finish_at : (s : State) (f : Finish) (entry : Exchange AnswerEntry) (stage : Stage) (done : Done) → Within s None []
    → get s.entries.answers f.question_id ≡ Some entry → entry.stage ≡ stage
    → AtStage s f entry.kept stage (Ok done) → Within done.1 None []
finish_at s f entry stages.Open done h was at does = rw (ok_in _ _ does, was) (finish_noted h f.question_id entry was at)
finish_at s f entry stages.Returned done h was at does =
    let lowers = then_out {A = Table (Counted Cap)} {B = Done}
    (λ exports. exports ≡ (if f.release_result_caps then release_exports s.counts.exports entry.kept.mentions else Ok s.counts.exports)) _ done does in
    let fewer = fewer_exports h lowers.0 (lower_if f.release_result_caps s.counts.exports lowers.0 entry.kept.mentions h.counts lowers.1) in
    rw (ok_in _ _ lowers.2) (answer_leaves fewer f.question_id entry was at)
finish_at s f entry stages.Finished done h was at does = ok_out does

finished_by : (s : State) (f : Finish) (o : Option (Exchange AnswerEntry)) (done : Done) → Within s None [] → get s.entries.answers f.question_id ≡ o
    → FinishedBy s f o (Ok done) → Within done.1 None []
finished_by s f None done h was does = ok_out does
finished_by s f (Some entry) done h was does = finish_at s f entry entry.stage done h was refl does

pub finish_keeps : (s : State) (f : Finish) (done : Done) → Within s None [] → OnFinish s f (Ok done) → Within done.1 None []
finish_keeps s f done h does = finished_by s f (get s.entries.answers f.question_id) done h refl does
