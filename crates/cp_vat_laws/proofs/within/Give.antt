-- How an answer is given.
use Rattle.std.specs.Prelude.{◌≡◌, refl, ℕ, ◌+◌, ◌==◌, ◌||◌, Bool, true, false, List, [], Option, Some, None, option_to_list, Ok}
use Rattle.std.specs.Option.{option_map}
use Rattle.std.specs.List.{list_any, AllByRecursion}
use Rattle.std.specs.FinMap.{get, insert, remove}
use Rattle.std.proofs.Common.{arith, ap, sym, ◌∙◌, true≢false}
use Rattle.cp_tables.specs.Table.{Table}
use Rattle.cp_tables.specs.declared.counted.Counted.{Counted}
use Rattle.cp_tables.specs.declared.exchange.Exchange.{Exchange}
use Rattle.cp_tables.specs.declared.exchange.Stage.{Stage}
use Rattle.cp_tables.specs.declared.exchange.Stage.TheVariants as stages
use Rattle.cp_messages.specs.declared.descriptor.Descriptor.{Descriptor}
use Rattle.cp_messages.specs.declared.returned.Returned.{Returned}
use Rattle.cp_refs.specs.At.{cap_at}
use Rattle.cp_refs.specs.Route.{HasRoute}
use Rattle.cp_refs.specs.declared.cap.Cap.{Cap}
use Rattle.cp_refs.specs.declared.call.WaitingCall.{WaitingCall}
use Rattle.cp_refs.specs.declared.call.Origin.{Origin}
use Rattle.cp_refs.specs.declared.call.Origin.TheVariants as origins
use Rattle.cp_refs.specs.declared.outcome.Outcome.{Outcome}
use Rattle.cp_refs.specs.declared.outcome.Outcome.TheVariants as outcomes
use Rattle.cp_refs.specs.declared.route.Gate.{Gate}
use Rattle.cp_refs.specs.declared.route.Gate.TheVariants as gates
use Rattle.cp_vat_machine.specs.State.{State, gave, with_exports}
use Rattle.cp_vat_machine.specs.Then.{Done}
use Rattle.cp_vat_machine.specs.Writing.{WritesDescriptors}
use Rattle.cp_vat_machine.specs.Give.{SettleTied, Returns, returned_mentions, given, gone, GiveBy, GiveAnswer}
use Rattle.cp_vat_machine.specs.InUse.{caps_of}
use Rattle.cp_vat_machine.specs.Local.{waiting_of, forwarding_of, ForwardsRightly, tied_to, tied_in, HasNoTied, IsThere, AnswerIs}
use Rattle.cp_vat_machine.specs.declared.entry.AnswerEntry.{AnswerEntry}
use Rattle.cp_vat_machine.proofs.Basics.{some_out, none_out, ok_in, then_out, other_number, put_at, gone_at}
use Rattle.cp_vat_laws.specs.Within.{Within, HasAnswerPlace, HasQuestionPlace, WaitsFor, AreTiedRightly, AllKept, IsPlain, IsFit, IsUngivenIf}
use Rattle.cp_vat_laws.proofs.Tables.{here_of, each_put, each_gone, each_kept, put_sum, gone_sum, all_of}
use Rattle.cp_vat_laws.proofs.within.AllKept.{values_map, answer_put, answer_gone}
use Rattle.cp_vat_laws.proofs.within.Follows.{all_end, waits_of_other, forwards_other}
use Rattle.cp_vat_laws.proofs.within.StaysThere.{same_route}
use Rattle.cp_vat_laws.proofs.within.Tickets.{AnswerTicket, tickets_of_others, answer_other, answer_left}
use Rattle.cp_vat_laws.proofs.within.Exports.{OnlyExports, say_all_keeps}
use Rattle.cp_vat_laws.proofs.within.Take.{fit_at}
use Rattle.cp_vat_laws.proofs.within.Settle.{any_promise, any_question, any_embargo, settle_tied_keeps}
use Rattle.cp_vat_laws.proofs.within.InHand.{IsAlone, answer_place, question_place}

-- what forwards other answers does so rightly
pub forwards_others : (s new : State) (a : ℕ) → ((b t : ℕ) → (a == b) ≡ false → AnswerTicket s.entries.answers b t → AnswerTicket new.entries.answers b t)
    → (o ticket : Option ℕ)
    → list_any (λ b. b == a) (option_to_list o) ≡ false → ForwardsRightly s o ticket → ForwardsRightly new o ticket
forwards_others s new a answers None ticket other f = tt
forwards_others s new a answers (Some b) None other f = absurd f
forwards_others s new a answers (Some b) (Some t) other f = answers b t (other_number b a (only (b == a) other)) f
  where
    only : (c : Bool) → (c || false) ≡ false → c ≡ false
    only true is = is
    only false is = refl

-- An answer whose call is in no other place than in hand, or was delivered.
pub record IsToGive (s : State) (hand : Option Origin) (a : ℕ) : Type 0 where
  pub alone : IsAlone hand (origins.Answer a)
  pub waits : waiting_of s (origins.Answer a) ≡ 0
  pub forwarded : forwarding_of s a ≡ 0

-- what an outcome gave at a path
pub gave_at : (path : List ℕ) (o : Option Outcome) (cap : Cap) (P : Cap → Type 0) → ((outcome : Outcome) → o ≡ Some outcome → P (cap_at outcome path))
    → option_map (λ outcome. cap_at outcome path) o ≡ Some cap → P cap
gave_at path None cap P h is = none_out is
gave_at path (Some outcome) cap P h is = rw (← some_out is) (h outcome refl)

module _ {s : State} {hand : Option Origin} (h : Within s hand []) (a : ℕ) (entry : Exchange AnswerEntry) (was : get s.entries.answers a ≡ Some entry)
    (to : IsToGive s hand a) (outcome : Outcome)
    (fit : AllByRecursion (IsFit s) (caps_of outcome)) where
  alone : IsAlone hand (origins.Answer a)
  alone = to.alone

  waits_none : waiting_of s (origins.Answer a) ≡ 0
  waits_none = to.waits

  forwards_none : forwarding_of s a ≡ 0
  forwards_none = to.forwarded

  -- it is kept for its Finish
  module _ (returned : Returned) where
    abbrev kept_on : Exchange AnswerEntry
    kept_on = record { stage = stages.Returned; kept = record entry.kept { mentions = returned_mentions returned; tied = [] } }

    abbrev given_on : State
    given_on = given s a entry.kept outcome returned

    pub given_fit : (c : Cap) → IsFit s c → IsFit given_on c
    given_fit c f = (f.0, f.1, same_route s.values given_on.values refl refl c f.2)

    over_given : (b : ℕ) (o : Outcome) (t : Bool) → (a == b) ≡ t → get (insert s.waiting.over.answers a outcome) b ≡ Some o
        → get (insert s.values.answers a (Some outcome)) b ≡ Some None → ⊥
    over_given b o true t is none = none_out (sym (some_out (sym (put_at s.values.answers a b (Some outcome) true t) ∙ none)))
    over_given b o false t is none =
        h.over_answers b o (sym (put_at s.waiting.over.answers a b outcome false t) ∙ is) (sym (put_at s.values.answers a b (Some outcome) false t) ∙ none)

    gift_given : (b : ℕ) (path : List ℕ) (o : Outcome) (t : Bool) → (a == b) ≡ t → get (insert s.waiting.over.answers a outcome) b ≡ Some o
        → IsFit given_on (cap_at o path)
    gift_given b path o true t is = rw (← some_out (sym (put_at s.waiting.over.answers a b outcome true t) ∙ is))
        (given_fit (cap_at outcome path) (fit_at s outcome path fit))
    gift_given b path o false t is =
        let old : get s.waiting.over.answers b ≡ Some o = sym (put_at s.waiting.over.answers a b outcome false t) ∙ is in
        given_fit (cap_at o path) (h.gifts (gates.Answer b path) (cap_at o path) (ap (option_map (λ x. cap_at x path)) old))

    gifts_given : (gate : Gate) (cap : Cap) → gave given_on.waiting.over gate ≡ Some cap → IsFit given_on cap
    gifts_given (gates.Answer b path) cap is = gave_at path (get (insert s.waiting.over.answers a outcome) b) cap (IsFit given_on)
        (λ o at. gift_given b path o (a == b) refl at) is
    gifts_given (gates.Promise p) cap is = given_fit cap (h.gifts (gates.Promise p) cap is)
    gifts_given (gates.Question q path) cap is = given_fit cap (h.gifts (gates.Question q path) cap is)
    gifts_given (gates.Embargo n) cap is = given_fit cap (h.gifts (gates.Embargo n) cap is)

    answer_gate : (b : ℕ) (path : List ℕ) (t : Bool) → (a == b) ≡ t → IsUngivenIf s (gave s.waiting.over (gates.Answer b path)) (gates.Answer b path)
        → IsUngivenIf given_on (gave given_on.waiting.over (gates.Answer b path)) (gates.Answer b path)
    answer_gate b path true t was = rw (put_at s.waiting.over.answers a b outcome true t) tt
    answer_gate b path false t was = rw (put_at s.waiting.over.answers a b outcome false t) (same (gave s.waiting.over (gates.Answer b path)) was)
      where
        same : (o : Option Cap) → IsUngivenIf s o (gates.Answer b path) → IsUngivenIf given_on o (gates.Answer b path)
        same None is = put_at s.values.answers a b (Some outcome) false t ∙ is
        same (Some c) is = tt

    gate_given : (gate : Gate) → IsUngivenIf s (gave s.waiting.over gate) gate → IsUngivenIf given_on (gave given_on.waiting.over gate) gate
    gate_given (gates.Answer b path) was = answer_gate b path (a == b) refl was
    gate_given (gates.Promise p) was = any_promise given_on p (gave given_on.waiting.over (gates.Promise p))
    gate_given (gates.Question q path) was = any_question given_on q path (gave given_on.waiting.over (gates.Question q path))
    gate_given (gates.Embargo n) was = any_embargo given_on n (gave given_on.waiting.over (gates.Embargo n))

    tied_given : (q : ℕ) → AreTiedRightly given_on entry.kept.tied q
    tied_given q =
        let sum : tied_in given_on q + tied_to q entry.kept.tied ≡ tied_in s q + 0 = put_sum
        (λ (e : Exchange AnswerEntry). tied_to q e.kept.tied) s.entries.answers a kept_on (Some entry) was in
        sum ∙ h.tied q

    given_there : AllKept (IsThere given_on) given_on
    given_there =
        let moved = h.there in
        record {
          values_ = answer_put (IsThere given_on) s.values moved.values_ a (Some outcome)
              (λ o e. rw (← some_out e) (all_of (IsFit s) (IsThere given_on) (caps_of outcome) (λ c f. f.1) fit));
          calls_ = moved.calls_;
          embargoes_ = moved.embargoes_;
          exports_ = moved.exports_;
        }

    valued_given : (b : ℕ) (t : Bool) → (a == b) ≡ t → AnswerIs (get (insert s.entries.answers a kept_on) b) (get (insert s.values.answers a (Some outcome)) b)
    valued_given b true t = rw (put_at s.entries.answers a b kept_on true t, put_at s.values.answers a b (Some outcome) true t) refl
    valued_given b false t = rw (put_at s.entries.answers a b kept_on false t, put_at s.values.answers a b (Some outcome) false t) (h.answers_valued b)

    pub given_within : Within given_on None entry.kept.tied
    given_within =
        let new : State = given_on in
        record {
          over_answers = λ b o is none. over_given b o (a == b) refl is none;
          over_promises = h.over_promises;
          over_questions = h.over_questions;
          over_embargoes = h.over_embargoes;
          gifts = gifts_given;
          answers = each_put (HasAnswerPlace s hand) (HasAnswerPlace new None) s.entries.answers a kept_on h.answers (λ open_. absurd (true≢false (sym open_)))
              (λ b e other is. answer_place s new hand None b e (sym (alone (origins.Answer b) (other_number a b other))) refl refl);
          questions = each_kept (HasQuestionPlace s hand) (HasQuestionPlace new None) s.entries.questions 0 h.questions
              (λ q e is. question_place s new hand None q e (sym (alone (origins.Own q) refl)) refl);
          waiting = each_kept (WaitsFor s) (WaitsFor new) s.waiting.calls 0 h.waiting (λ t call is w. (
            w.0,
            w.1,
            tickets_of_others s new (origins.Answer a) (λ b u other. answer_other s.entries.answers a kept_on b u (other_number b a other))
                (λ q u other x. x) call.origin t (waits_of_other h (origins.Answer a) t call waits_none is) w.2,
          ));
          forwards = each_kept (λ q e. ForwardsRightly s e.kept.forwards e.kept.ticket)
              (λ q e. ForwardsRightly new e.kept.forwards e.kept.ticket) s.entries.questions 0 h.forwards
              (λ q e is. forwards_others s new a (λ b u other. answer_other s.entries.answers a kept_on b u other) e.kept.forwards e.kept.ticket
              (forwards_other h a q e forwards_none is));
          wire = λ q. here_of _ (get s.entries.questions q) (λ e is not. (rw is at (h.wire q)) (alone (origins.Own q) refl));
          forwarding = h.forwarding;
          gates_kept = each_kept (λ t (call : WaitingCall). IsUngivenIf s (gave s.waiting.over call.gate) call.gate)
              (λ t (call : WaitingCall). IsUngivenIf new (gave new.waiting.over call.gate) call.gate) s.waiting.calls 0 h.gates_kept
              (λ t call is. gate_given call.gate);
          sendable = h.sendable;
          tied = tied_given;
          untied = each_put (λ b. HasNoTied) (λ b. HasNoTied) s.entries.answers a kept_on h.untied (λ closed. refl) (λ b e other is x. x);
          owned = h.owned;
          counts = h.counts;
          imported = h.imported;
          exports = h.exports;
          one_export = h.one_export;
          there = given_there;
          ends = all_end new (answer_put (HasRoute new.values) s.values
              (values_map (HasRoute s.values) (HasRoute new.values) s.values (same_route s.values new.values refl refl) h.ends.values_) a (Some outcome)
              (λ o e. rw (← some_out e) (all_of (IsFit s) (HasRoute new.values) (caps_of outcome)
              (λ c f. same_route s.values new.values refl refl c f.2) fit))) given_there;
          embargoed = h.embargoed;
          plain = answer_put IsPlain s.values h.plain a (Some outcome) (λ o e. rw (← some_out e) (all_of (IsFit s) IsPlain (caps_of outcome) (λ c f. f.0) fit));
          finished = h.finished;
          answers_valued = λ b. valued_given b (a == b) refl;
          questions_valued = h.questions_valued;
          imports_valued = h.imports_valued;
          import_marks = h.import_marks;
          path_marks = h.path_marks;
          one_mark = h.one_mark;
          waited_for = h.waited_for;
        }

  -- or it is gone
  abbrev gone_off : State
  gone_off = gone s a outcome

  pub gone_fit : (c : Cap) → IsFit s c → IsFit gone_off c
  gone_fit c f = (f.0, f.1, same_route s.values gone_off.values refl refl c f.2)

  over_gone : (b : ℕ) (o : Outcome) (t : Bool) → (a == b) ≡ t → get (insert s.waiting.over.answers a outcome) b ≡ Some o
      → get (remove s.values.answers a) b ≡ Some None → ⊥
  over_gone b o true t is none = none_out (sym (gone_at s.values.answers a b true t) ∙ none)
  over_gone b o false t is none =
      h.over_answers b o (sym (put_at s.waiting.over.answers a b outcome false t) ∙ is) (sym (gone_at s.values.answers a b false t) ∙ none)

  gift_gone : (b : ℕ) (path : List ℕ) (o : Outcome) (t : Bool) → (a == b) ≡ t → get (insert s.waiting.over.answers a outcome) b ≡ Some o
      → IsFit gone_off (cap_at o path)
  gift_gone b path o true t is = rw (← some_out (sym (put_at s.waiting.over.answers a b outcome true t) ∙ is))
      (gone_fit (cap_at outcome path) (fit_at s outcome path fit))
  gift_gone b path o false t is =
      let old : get s.waiting.over.answers b ≡ Some o = sym (put_at s.waiting.over.answers a b outcome false t) ∙ is in
      gone_fit (cap_at o path) (h.gifts (gates.Answer b path) (cap_at o path) (ap (option_map (λ x. cap_at x path)) old))

  gifts_gone : (gate : Gate) (cap : Cap) → gave gone_off.waiting.over gate ≡ Some cap → IsFit gone_off cap
  gifts_gone (gates.Answer b path) cap is = gave_at path (get (insert s.waiting.over.answers a outcome) b) cap (IsFit gone_off)
      (λ o at. gift_gone b path o (a == b) refl at) is
  gifts_gone (gates.Promise p) cap is = gone_fit cap (h.gifts (gates.Promise p) cap is)
  gifts_gone (gates.Question q path) cap is = gone_fit cap (h.gifts (gates.Question q path) cap is)
  gifts_gone (gates.Embargo n) cap is = gone_fit cap (h.gifts (gates.Embargo n) cap is)

  answer_gate_gone : (b : ℕ) (path : List ℕ) (t : Bool) → (a == b) ≡ t → IsUngivenIf s (gave s.waiting.over (gates.Answer b path)) (gates.Answer b path)
      → IsUngivenIf gone_off (gave gone_off.waiting.over (gates.Answer b path)) (gates.Answer b path)
  answer_gate_gone b path true t was = rw (put_at s.waiting.over.answers a b outcome true t) tt
  answer_gate_gone b path false t was = rw (put_at s.waiting.over.answers a b outcome false t) (same (gave s.waiting.over (gates.Answer b path)) was)
    where
      same : (o : Option Cap) → IsUngivenIf s o (gates.Answer b path) → IsUngivenIf gone_off o (gates.Answer b path)
      same None is = gone_at s.values.answers a b false t ∙ is
      same (Some c) is = tt

  gate_gone : (gate : Gate) → IsUngivenIf s (gave s.waiting.over gate) gate → IsUngivenIf gone_off (gave gone_off.waiting.over gate) gate
  gate_gone (gates.Answer b path) was = answer_gate_gone b path (a == b) refl was
  gate_gone (gates.Promise p) was = any_promise gone_off p (gave gone_off.waiting.over (gates.Promise p))
  gate_gone (gates.Question q path) was = any_question gone_off q path (gave gone_off.waiting.over (gates.Question q path))
  gate_gone (gates.Embargo n) was = any_embargo gone_off n (gave gone_off.waiting.over (gates.Embargo n))

  tied_gone : (q : ℕ) → AreTiedRightly gone_off entry.kept.tied q
  tied_gone q =
      let sum : tied_in gone_off q + tied_to q entry.kept.tied ≡ tied_in s q = gone_sum
      (λ (e : Exchange AnswerEntry). tied_to q e.kept.tied) s.entries.answers a entry was in
      omega (arith, sum, h.tied q)

  gone_there : AllKept (IsThere gone_off) gone_off
  gone_there =
      let moved = h.there in
      record {
        values_ = answer_gone (IsThere gone_off) s.values moved.values_ a;
        calls_ = moved.calls_;
        embargoes_ = moved.embargoes_;
        exports_ = moved.exports_;
      }

  valued_gone : (b : ℕ) (t : Bool) → (a == b) ≡ t → AnswerIs (get (remove s.entries.answers a) b) (get (remove s.values.answers a) b)
  valued_gone b true t = rw (gone_at s.entries.answers a b true t, gone_at s.values.answers a b true t) tt
  valued_gone b false t = rw (gone_at s.entries.answers a b false t, gone_at s.values.answers a b false t) (h.answers_valued b)

  pub gone_within : Within gone_off None entry.kept.tied
  gone_within =
      let new : State = gone_off in
      record {
        over_answers = λ b o is none. over_gone b o (a == b) refl is none;
        over_promises = h.over_promises;
        over_questions = h.over_questions;
        over_embargoes = h.over_embargoes;
        gifts = gifts_gone;
        answers = each_gone (HasAnswerPlace s hand) (HasAnswerPlace new None) s.entries.answers a h.answers
            (λ b e other is. answer_place s new hand None b e (sym (alone (origins.Answer b) (other_number a b other))) refl refl);
        questions = each_kept (HasQuestionPlace s hand) (HasQuestionPlace new None) s.entries.questions 0 h.questions
            (λ q e is. question_place s new hand None q e (sym (alone (origins.Own q) refl)) refl);
        waiting = each_kept (WaitsFor s) (WaitsFor new) s.waiting.calls 0 h.waiting (λ t call is w. (
          w.0,
          w.1,
          tickets_of_others s new (origins.Answer a) (λ b u other. answer_left s.entries.answers a b u (other_number b a other))
              (λ q u other x. x) call.origin t (waits_of_other h (origins.Answer a) t call waits_none is) w.2,
        ));
        forwards = each_kept (λ q e. ForwardsRightly s e.kept.forwards e.kept.ticket)
            (λ q e. ForwardsRightly new e.kept.forwards e.kept.ticket) s.entries.questions 0 h.forwards
            (λ q e is. forwards_others s new a (λ b u other. answer_left s.entries.answers a b u other) e.kept.forwards e.kept.ticket
            (forwards_other h a q e forwards_none is));
        wire = λ q. here_of _ (get s.entries.questions q) (λ e is not. (rw is at (h.wire q)) (alone (origins.Own q) refl));
        forwarding = h.forwarding;
        gates_kept = each_kept (λ t (call : WaitingCall). IsUngivenIf s (gave s.waiting.over call.gate) call.gate)
            (λ t (call : WaitingCall). IsUngivenIf new (gave new.waiting.over call.gate) call.gate) s.waiting.calls 0 h.gates_kept
            (λ t call is. gate_gone call.gate);
        sendable = h.sendable;
        tied = tied_gone;
        untied = each_gone (λ b. HasNoTied) (λ b. HasNoTied) s.entries.answers a h.untied (λ b e other is x. x);
        owned = h.owned;
        counts = h.counts;
        imported = h.imported;
        exports = h.exports;
        one_export = h.one_export;
        there = gone_there;
        ends = all_end new (answer_gone (HasRoute new.values) s.values
            (values_map (HasRoute s.values) (HasRoute new.values) s.values (same_route s.values new.values refl refl) h.ends.values_) a) gone_there;
        embargoed = h.embargoed;
        plain = answer_gone IsPlain s.values h.plain a;
        finished = h.finished;
        answers_valued = λ b. valued_gone b (a == b) refl;
        questions_valued = h.questions_valued;
        imports_valued = h.imports_valued;
        import_marks = h.import_marks;
        path_marks = h.path_marks;
        one_mark = h.one_mark;
        waited_for = h.waited_for;
      }

-- What is returned is sent, and changes nothing but exports.
returns_keeps : (s : State) (hand : Option Origin) (outcome : Outcome) (said : Returned × State) → Within s hand [] → Returns s outcome (Ok said)
    → OnlyExports s hand [] said.1
returns_keeps s hand (outcomes.Results content table) said h is =
    let parts = then_out {A = List Descriptor × State} {B = Returned × State} (WritesDescriptors s table) _ said is in
    rw (ok_in _ _ parts.2) (say_all_keeps hand [] table s parts.0 h parts.1)
returns_keeps s hand (outcomes.Failed x) said h is = rw (ok_in _ _ is) (h, refl)
returns_keeps s hand outcomes.Canceled said h is = rw (ok_in _ _ is) (h, refl)

pub to_give_exports : (s : State) (exports : Table (Counted Cap)) (hand : Option Origin) (a : ℕ) → IsToGive s hand a → IsToGive (with_exports s exports) hand a
to_give_exports s exports hand a to = record { alone = to.alone; waits = to.waits; forwarded = to.forwarded }

-- after the exports that its Return names
open_given : (s mid : State) (hand : Option Origin) (a : ℕ) (outcome : Outcome) (entry : Exchange AnswerEntry) (returned : Returned) (done : Done)
    → OnlyExports s hand [] mid → get s.entries.answers a ≡ Some entry → IsToGive s hand a → AllByRecursion (IsFit s) (caps_of outcome)
    → SettleTied (given mid a entry.kept outcome returned) outcome entry.kept.tied (Ok done) → Within done.1 None []
open_given s mid hand a outcome entry returned done said was to fit settles =
    let was_mid : get mid.entries.answers a ≡ Some entry = rw (said.1) was in
    let to_mid : IsToGive mid hand a = rw (said.1) (to_give_exports s mid.counts.exports hand a to) in
    let fit_mid : AllByRecursion (IsFit mid) (caps_of outcome) = rw (said.1) fit in
    (settle_tied_keeps entry.kept.tied (given mid a entry.kept outcome returned) None outcome done
    (given_within said.0 a entry was_mid to_mid outcome fit_mid returned)
    (all_of (IsFit mid) (IsFit (given mid a entry.kept outcome returned)) (caps_of outcome)
    (given_fit said.0 a entry was_mid to_mid outcome fit_mid returned) fit_mid) settles).0

give_by_keeps : (s : State) (hand : Option Origin) (a : ℕ) (outcome : Outcome) (entry : Exchange AnswerEntry) (stage : Stage) (done : Done) → Within s hand []
    → get s.entries.answers a ≡ Some entry → IsToGive s hand a → AllByRecursion (IsFit s) (caps_of outcome) → GiveBy s a outcome entry.kept stage (Ok done)
    → Within done.1 None []
give_by_keeps s hand a outcome entry stages.Open done h was to fit gives =
    let said = then_out {A = Returned × State} {B = Done} (Returns s outcome) _ done gives in
    let rest = then_out {A = Done} {B = Done} (SettleTied (given said.0.1 a entry.kept outcome said.0.0) outcome entry.kept.tied) _ done said.2 in
    rw (ok_in _ _ rest.2) (open_given s said.0.1 hand a outcome entry said.0.0 rest.0 (returns_keeps s hand outcome said.0 h said.1) was to fit rest.1)
give_by_keeps s hand a outcome entry stages.Finished done h was to fit gives =
    let rest = then_out {A = Done} {B = Done} (SettleTied (gone s a outcome) outcome entry.kept.tied) _ done gives in
    rw
    (ok_in _ _ rest.2)
    (settle_tied_keeps entry.kept.tied (gone s a outcome) None outcome rest.0 (gone_within h a entry was to outcome fit)
    (all_of (IsFit s) (IsFit (gone s a outcome)) (caps_of outcome) (gone_fit h a entry was to outcome fit) fit) rest.1).0
give_by_keeps s hand a outcome entry stages.Returned done h was to fit gives = absurd gives

-- an answer is given
pub give_answer_keeps : (s : State) (hand : Option Origin) (a : ℕ) (outcome : Outcome) (done : Done) → Within s hand [] → IsToGive s hand a
    → AllByRecursion (IsFit s) (caps_of outcome)
    → GiveAnswer s a outcome (Ok done) → Within done.1 None []
give_answer_keeps s hand a outcome done h to fit gives = give_by_keeps s hand a outcome gives.0 gives.0.stage done h gives.1 to fit gives.2
