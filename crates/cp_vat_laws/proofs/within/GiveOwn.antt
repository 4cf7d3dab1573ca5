-- How an own question is settled, and how a question goes.
use Rattle.std.specs.Prelude.{◌≡◌, refl, ℕ, ◌+◌, ◌==◌, not, cond, ◌⊎◌, Bool, true, false, List, [], ◌∷◌, Option, Some, None, is_some, IfSome, IsTrue, Ok}
use Rattle.std.specs.Option.{option_map}
use Rattle.std.specs.List.{list_any, AllByRecursion}
use Rattle.std.specs.Ordering.{nat_cmp}
use Rattle.std.specs.Cmp.Lexicographic.{slice_cmp}
use Rattle.std.specs.FinMap.{FinMap, get, insert, remove, retain_keys, get-retain_keys, slice_cmp-IsAntisymmetric, nat_cmp-IsAntisymmetric}
use Rattle.std.proofs.Common.{inl, inr, arith, ap, sym, ◌∙◌, true≢false}
use Rattle.cp_tables.specs.declared.counted.Counted.{Counted}
use Rattle.cp_tables.specs.declared.exchange.Exchange.{Exchange}
use Rattle.cp_tables.specs.declared.exchange.Stage.{Stage}
use Rattle.cp_tables.specs.declared.exchange.Stage.TheVariants as stages
use Rattle.cp_refs.specs.At.{cap_at}
use Rattle.cp_refs.specs.Route.{HasRoute}
use Rattle.cp_refs.specs.declared.cap.Cap.{Cap}
use Rattle.cp_refs.specs.declared.cap.Cap.TheVariants as caps
use Rattle.cp_refs.specs.declared.call.WaitingCall.{WaitingCall}
use Rattle.cp_refs.specs.declared.call.Origin.{Origin}
use Rattle.cp_refs.specs.declared.call.Origin.TheVariants as origins
use Rattle.cp_refs.specs.declared.outcome.Outcome.{Outcome}
use Rattle.cp_refs.specs.declared.route.Gate.{Gate}
use Rattle.cp_refs.specs.declared.route.Gate.TheVariants as gates
use Rattle.cp_refs.specs.declared.values.QuestionState.{QuestionState}
use Rattle.cp_refs.specs.declared.values.QuestionKind.{QuestionKind}
use Rattle.cp_refs.specs.declared.values.QuestionKind.TheVariants as kinds
use Rattle.cp_vat_machine.specs.State.{State, gave}
use Rattle.cp_vat_machine.specs.Then.{Done}
use Rattle.cp_vat_machine.specs.Give.{is_path_of, without_question, question_over, GiveOwnBy, GiveOwn}
use Rattle.cp_vat_machine.specs.Calling.{mark_of}
use Rattle.cp_vat_machine.specs.InUse.{caps_of, is_pipelined_of, is_open_here, is_local_path}
use Rattle.cp_vat_machine.specs.Local.{is_forwarding, waiting_of, forwarding_of, ForwardsRightly, IsThere, IsExportable, QuestionIs, OwnIs, IsEmbargoOf, path_value, is_wire, IsSentIf, IsOpenIf, IsPathMark}
use Rattle.cp_vat_machine.specs.declared.entry.QuestionEntry.{QuestionEntry}
use Rattle.cp_vat_machine.specs.declared.entry.Tied.{Tied}
use Rattle.cp_vat_machine.proofs.Basics.{some_out, none_out, ok_in, is_equal, is_itself, other_number, put_at, gone_at}
use Rattle.cp_vat_laws.specs.Within.{Within, is_in_hand, HasAnswerPlace, HasQuestionPlace, WaitsFor, AllKept, IsPlain, IsFit, IsUngivenIf, IsOff}
use Rattle.cp_vat_laws.proofs.Tables.{here_of, there_of, put_cases, gone_cases, each_put, each_gone, each_kept, put_sum, gone_sum, all_of, none_pass}
use Rattle.cp_vat_laws.proofs.within.AllKept.{values_map, values_both, both_all, kept_map, question_put, question_gone}
use Rattle.cp_vat_laws.proofs.within.Follows.{all_end, waits_of_other, exportable_plain}
use Rattle.cp_vat_laws.proofs.within.StaysThere.{plain_there, there_stays, put_stays, plain_route, plain_routes}
use Rattle.cp_vat_laws.proofs.within.Tickets.{tickets_of_others, forwards_stay, question_other, question_left}
use Rattle.cp_vat_laws.proofs.within.Take.{fit_at}
use Rattle.cp_vat_laws.proofs.within.Settle.{any_promise, any_question, any_embargo}
use Rattle.cp_vat_laws.proofs.within.Give.{gave_at}
use Rattle.cp_vat_laws.proofs.within.InHand.{IsAlone, answer_place, question_place}

-- the marks that are left where those of a question go
kept_mark : (m : FinMap (slice_cmp nat_cmp) (Option ℕ)) (q : ℕ) (key : List ℕ)
    → get (retain_keys m (λ k. not (is_path_of q k))) key ≡ cond (not (is_path_of q key)) (get m key) None
kept_mark m q key =
    get-retain_keys m (λ k. not (is_path_of q k)) key
    (λ x tie. ap (λ k. not (is_path_of q k)) (sym (slice_cmp-IsAntisymmetric nat_cmp-IsAntisymmetric key x tie)))

-- A question goes that no waiting call names.
module _ {s : State} {hand : Option Origin} {next : List Tied} (h : Within s hand next) (q : ℕ) (later : Option Origin)
    (off : (t : ℕ) → IfSome (get s.waiting.calls t) (λ call. list_any (is_pipelined_of q) call.request.caps ≡ false))
    (waits : waiting_of s (origins.Own q) ≡ 0) (owns : (r : ℕ) → (q == r) ≡ false → is_in_hand later (origins.Own r) ≡ is_in_hand hand (origins.Own r))
    (placed : (a : ℕ) → IfSome (get s.entries.answers a) (HasAnswerPlace (without_question s q) later a)) where
  abbrev left_by : State
  left_by = without_question s q

  left_plain : (c : Cap) → IsPlain c → IsThere s c → IsThere left_by c
  left_plain = plain_there s left_by (λ p x. x) (λ i x. x)

  pub left_fit : (c : Cap) → IsFit s c → IsFit left_by c
  left_fit c f = (f.0, left_plain c f.0 f.1, plain_route s.values left_by.values h.plain (λ p o is. is) c f.0 f.2)

  left_off : (c : Cap) → is_pipelined_of q c ≡ false → IsThere s c → IsThere left_by c
  left_off caps.None other there = tt
  left_off (caps.Object k) other there = tt
  left_off (caps.Promise p) other there = there
  left_off (caps.Import i) other there = there
  left_off (caps.Pipelined r path) other there = ap is_some (gone_at s.values.questions q r false (other_number r q other)) ∙ there
  left_off (caps.Broken x) other there = tt

  left_sendable : (c : Cap) → is_local_path s c ≡ false → is_local_path left_by c ≡ false
  left_sendable caps.None is = refl
  left_sendable (caps.Object k) is = refl
  left_sendable (caps.Promise p) is = refl
  left_sendable (caps.Import i) is = refl
  left_sendable (caps.Pipelined r path) is = by (q == r) refl
    where
      by : (b : Bool) → (q == r) ≡ b → is_local_path left_by (caps.Pipelined r path) ≡ false
      by true t = rw (gone_at s.values.questions q r true t) refl
      by false t = rw (gone_at s.values.questions q r false t) is
  left_sendable (caps.Broken x) is = refl

  left_table : (table : List Cap) → list_any (is_pipelined_of q) table ≡ false → AllByRecursion (IsThere s) table → AllByRecursion (IsThere left_by) table
  left_table table other there =
      all_of (λ c. (is_pipelined_of q c ≡ false) × IsThere s c) (IsThere left_by) table (λ c x. left_off c x.0 x.1)
      (both_all (λ c. is_pipelined_of q c ≡ false) (IsThere s) table (none_pass (is_pipelined_of q) table other) there)

  left_there : AllKept (IsThere left_by) left_by
  left_there = record {
    values_ = question_gone (IsThere left_by) s.values (values_map (λ c. IsPlain c × IsThere s c) (IsThere left_by) s.values (λ c x. left_plain c x.0 x.1)
        (values_both IsPlain (IsThere s) s.values h.plain h.there.values_)) q;
    calls_ = λ t. here_of _ (get s.waiting.calls t) (λ (call : WaitingCall) is.
        left_table call.request.caps (there_of (λ (c : WaitingCall). list_any (is_pipelined_of q) c.request.caps ≡ false) (get s.waiting.calls t) call is (off t))
        (there_of (λ (c : WaitingCall). AllByRecursion (IsThere s) c.request.caps) (get s.waiting.calls t) call is (h.there.calls_ t)));
    embargoes_ = λ n. here_of _ (get s.marks.embargoes n) (λ c is.
        left_plain c (exportable_plain s c (there_of (IsExportable s) (get s.marks.embargoes n) c is (h.embargoed n)))
        (there_of (IsThere s) (get s.marks.embargoes n) c is (h.there.embargoes_ n)));
    exports_ = λ e. here_of _ (get s.counts.exports e) (λ (x : Counted Cap) is.
        left_plain x.kept (exportable_plain s x.kept (there_of (λ (y : Counted Cap). IsExportable s y.kept) (get s.counts.exports e) x is (h.exports e)))
        (there_of (λ (y : Counted Cap). IsThere s y.kept) (get s.counts.exports e) x is (h.there.exports_ e)));
  }

  valued_left : (r : ℕ) (b : Bool) → (q == r) ≡ b → QuestionIs (get (remove s.entries.questions q) r) (get (remove s.values.questions q) r)
  valued_left r true t = rw (gone_at s.entries.questions q r true t, gone_at s.values.questions q r true t) tt
  valued_left r false t = rw (gone_at s.entries.questions q r false t, gone_at s.values.questions q r false t) (h.questions_valued r)

  path_left : (r : ℕ) (path : List ℕ) (b : Bool) → (r == q) ≡ b → IfSome (cond (not b) (get s.marks.paths (r ∷ path)) None) (IsPathMark left_by (r ∷ path))
  path_left r path true t = tt
  path_left r path false t = here_of _ (get s.marks.paths (r ∷ path)) (λ embargo is.
      let mark = there_of (IsPathMark s (r ∷ path)) (get s.marks.paths (r ∷ path)) embargo is (h.path_marks (r ∷ path)) in
      rw (gone_at s.values.questions q r false (other_number r q t)) mark)

  marks_left : (key : List ℕ) → IfSome (get left_by.marks.paths key) (IsPathMark left_by key)
  marks_left [] = rw (kept_mark s.marks.paths q []) (h.path_marks [])
  marks_left (r ∷ path) = rw (kept_mark s.marks.paths q (r ∷ path)) (path_left r path (r == q) refl)

  mark_left : (c : Cap) (n : ℕ) → mark_of left_by c ≡ Some (Some n) → mark_of s c ≡ Some (Some n)
  mark_left (caps.Import i) n is = is
  mark_left (caps.Pipelined r path) n is = by (r == q) refl (sym (kept_mark s.marks.paths q (r ∷ path)) ∙ is)
    where
      by : (b : Bool) → (r == q) ≡ b → cond (not b) (get s.marks.paths (r ∷ path)) None ≡ Some (Some n) → get s.marks.paths (r ∷ path) ≡ Some (Some n)
      by true t at = none_out at
      by false t at = at
  mark_left caps.None n is = none_out is
  mark_left (caps.Object k) n is = none_out is
  mark_left (caps.Promise p) n is = none_out is
  mark_left (caps.Broken x) n is = none_out is

  pub question_leaves : Within left_by later next
  question_leaves =
      let new : State = left_by in
      record {
        over_answers = h.over_answers;
        over_promises = h.over_promises;
        over_questions = λ r o question is at none. h.over_questions r o question is (gone_cases s.values.questions q r question at).1 none;
        over_embargoes = h.over_embargoes;
        gifts = λ gate cap is. left_fit cap (h.gifts gate cap is);
        answers = placed;
        questions = each_gone (HasQuestionPlace s hand) (HasQuestionPlace new later) s.entries.questions q h.questions
            (λ r e other is. question_place s new hand later r e (owns r other) refl);
        waiting = each_kept (WaitsFor s) (WaitsFor new) s.waiting.calls 0 h.waiting (λ t call is w. (
          w.0,
          w.1,
          tickets_of_others s new (origins.Own q) (λ b u other x. x)
              (λ r u other. question_left s.entries.questions q r u (other_number r q other)) call.origin t
              (waits_of_other h (origins.Own q) t call waits is) w.2,
        ));
        forwards = each_gone (λ r e. ForwardsRightly s e.kept.forwards e.kept.ticket)
            (λ r e. ForwardsRightly new e.kept.forwards e.kept.ticket) s.entries.questions q h.forwards
            (λ r e other is. forwards_stay s new (λ b u x. x) e.kept.forwards e.kept.ticket);
        wire = each_gone (λ r e. is_in_hand hand (origins.Own r) ≡ false → IsSentIf (is_wire (get s.values.questions r)) e.kept)
            (λ r e. is_in_hand later (origins.Own r) ≡ false → IsSentIf (is_wire (get new.values.questions r)) e.kept)
            s.entries.questions q h.wire (λ r e other is x not. rw (gone_at s.values.questions q r false other) (x (sym (owns r other) ∙ not)));
        forwarding = each_gone (λ r (e : Exchange QuestionEntry). IsOpenIf e.kept.forwards e)
            (λ r (e : Exchange QuestionEntry). IsOpenIf e.kept.forwards e) s.entries.questions q h.forwarding (λ r e other is x. x);
        gates_kept = h.gates_kept;
        sendable = each_kept (λ t (call : WaitingCall). AllByRecursion (λ c. is_local_path s c ≡ false) call.request.caps)
            (λ t (call : WaitingCall). AllByRecursion (λ c. is_local_path new c ≡ false) call.request.caps) s.waiting.calls 0 h.sendable
            (λ t call is. all_of (λ c. is_local_path s c ≡ false) (λ c. is_local_path new c ≡ false) call.request.caps left_sendable);
        tied = h.tied;
        untied = h.untied;
        owned = h.owned;
        counts = h.counts;
        imported = h.imported;
        exports = h.exports;
        one_export = h.one_export;
        there = left_there;
        ends = all_end new (question_gone (HasRoute new.values) s.values (plain_routes s.values new.values h.plain (λ p o is. is) h.ends.values_) q) left_there;
        embargoed = h.embargoed;
        plain = question_gone IsPlain s.values h.plain q;
        finished = λ r e is at. h.finished r e (gone_cases s.entries.questions q r e is).1 at;
        answers_valued = h.answers_valued;
        questions_valued = λ r. valued_left r (q == r) refl;
        imports_valued = h.imports_valued;
        import_marks = h.import_marks;
        path_marks = marks_left;
        one_mark = λ c d n is also. h.one_mark c d n (mark_left c n is) (mark_left d n also);
        waited_for = h.waited_for;
      }

-- The gate of a question ends that isn't there any more.
module _ {s : State} {hand : Option Origin} {next : List Tied} (h : Within s hand next) (q : ℕ) (gone : get s.values.questions q ≡ None) (outcome : Outcome)
    (fit : AllByRecursion (IsFit s) (caps_of outcome)) where
  abbrev over_by : State
  over_by = question_over s q outcome

  over_at : (r : ℕ) (o : Outcome) (question : QuestionState) (b : Bool) → (q == r) ≡ b → get (insert s.waiting.over.questions q outcome) r ≡ Some o
      → get s.values.questions r ≡ Some question → question.outcome ≡ None → ⊥
  over_at r o question true t is at unset = let there : get s.values.questions q ≡ Some question = rw (is_equal q r t) at in none_out (sym gone ∙ there)
  over_at r o question false t is at unset = h.over_questions r o question (sym (put_at s.waiting.over.questions q r outcome false t) ∙ is) at unset

  gift_over : (r : ℕ) (path : List ℕ) (o : Outcome) (b : Bool) → (q == r) ≡ b → get (insert s.waiting.over.questions q outcome) r ≡ Some o
      → IsFit over_by (cap_at o path)
  gift_over r path o true t is = rw (← some_out (sym (put_at s.waiting.over.questions q r outcome true t) ∙ is)) (fit_at s outcome path fit)
  gift_over r path o false t is =
      let old : get s.waiting.over.questions r ≡ Some o = sym (put_at s.waiting.over.questions q r outcome false t) ∙ is in
      h.gifts (gates.Question r path) (cap_at o path) (ap (option_map (λ x. cap_at x path)) old)

  gifts_over : (gate : Gate) (cap : Cap) → gave over_by.waiting.over gate ≡ Some cap → IsFit over_by cap
  gifts_over (gates.Answer a path) cap is = h.gifts (gates.Answer a path) cap is
  gifts_over (gates.Promise p) cap is = h.gifts (gates.Promise p) cap is
  gifts_over (gates.Question r path) cap is = gave_at path (get (insert s.waiting.over.questions q outcome) r) cap (IsFit over_by)
      (λ o at. gift_over r path o (q == r) refl at) is
  gifts_over (gates.Embargo n) cap is = h.gifts (gates.Embargo n) cap is

  gate_over : (gate : Gate) → IsUngivenIf s (gave s.waiting.over gate) gate → IsUngivenIf over_by (gave over_by.waiting.over gate) gate
  gate_over (gates.Answer a path) was = was
  gate_over (gates.Promise p) was = any_promise over_by p (gave over_by.waiting.over (gates.Promise p))
  gate_over (gates.Question r path) was = any_question over_by r path (gave over_by.waiting.over (gates.Question r path))
  gate_over (gates.Embargo n) was = any_embargo over_by n (gave over_by.waiting.over (gates.Embargo n))

  pub question_ends : Within over_by hand next
  question_ends =
      let new : State = over_by in
      record {
        over_answers = h.over_answers;
        over_promises = h.over_promises;
        over_questions = λ r o question is at unset. over_at r o question (q == r) refl is at unset;
        over_embargoes = h.over_embargoes;
        gifts = gifts_over;
        answers = h.answers;
        questions = h.questions;
        waiting = h.waiting;
        forwards = h.forwards;
        wire = h.wire;
        forwarding = h.forwarding;
        gates_kept = each_kept (λ t (call : WaitingCall). IsUngivenIf s (gave s.waiting.over call.gate) call.gate)
            (λ t (call : WaitingCall). IsUngivenIf new (gave new.waiting.over call.gate) call.gate) s.waiting.calls 0 h.gates_kept
            (λ t call is. gate_over call.gate);
        sendable = h.sendable;
        tied = h.tied;
        untied = h.untied;
        owned = h.owned;
        counts = h.counts;
        imported = h.imported;
        exports = h.exports;
        one_export = h.one_export;
        there = h.there;
        ends = h.ends;
        embargoed = h.embargoed;
        plain = h.plain;
        finished = h.finished;
        answers_valued = h.answers_valued;
        questions_valued = h.questions_valued;
        imports_valued = h.imports_valued;
        import_marks = h.import_marks;
        path_marks = h.path_marks;
        one_mark = h.one_mark;
        waited_for = h.waited_for;
      }

-- An own question goes, and its call is in no other place than in hand.
module _ {s : State} {hand : Option Origin} (h : Within s hand []) (q : ℕ) (entry : Exchange QuestionEntry) (was : get s.entries.questions q ≡ Some entry)
    (own : entry.kept.forwards ≡ None)
    (alone : IsAlone hand (origins.Own q)) (waits : waiting_of s (origins.Own q) ≡ 0)
    (off : (t : ℕ) → IfSome (get s.waiting.calls t) (λ call. list_any (is_pipelined_of q) call.request.caps ≡ false)) where
  forwarding_left : (a : ℕ) → forwarding_of (without_question s q) a ≡ forwarding_of s a
  forwarding_left a =
      let sum : forwarding_of (without_question s q) a + cond (is_forwarding a entry) 1 0 ≡ forwarding_of s a = gone_sum
      (λ e. cond (is_forwarding a e) 1 0) s.entries.questions q entry was in
      let none : ◌≡◌ {A = ℕ} (cond (is_forwarding a entry) 1 0) 0 = rw (own) refl in
      omega (arith, sum, none)

  owns : (r : ℕ) → (q == r) ≡ false → is_in_hand None (origins.Own r) ≡ is_in_hand hand (origins.Own r)
  owns r other = sym (alone (origins.Own r) (other_number q r other))

  placed : (a : ℕ) → IfSome (get s.entries.answers a) (HasAnswerPlace (without_question s q) None a)
  placed =
      each_kept (HasAnswerPlace s hand) (HasAnswerPlace (without_question s q) None) s.entries.answers 0 h.answers
      (λ a e is. answer_place s (without_question s q) hand None a e (sym (alone (origins.Answer a) refl)) refl (forwarding_left a))

  pub own_leaves : Within (without_question s q) None []
  own_leaves = question_leaves h q None off waits owns placed

  pub own_fit : (c : Cap) → IsFit s c → IsFit (without_question s q) c
  own_fit = left_fit h q None off waits owns placed

-- An own question whose call is in no other place than in hand, or was delivered, or sent.
pub record IsToSettle (s : State) (hand : Option Origin) (q : ℕ) : Type 0 where
  pub alone : IsAlone hand (origins.Own q)
  pub waits : waiting_of s (origins.Own q) ≡ 0
  pub own : (entry : Exchange QuestionEntry) → get s.entries.questions q ≡ Some entry → entry.kept.forwards ≡ None
  pub sent : (entry : Exchange QuestionEntry) → get s.entries.questions q ≡ Some entry → IsSentIf (is_wire (get s.values.questions q)) entry.kept

-- a question of the application's has a value
pub its_question : (forwards : Option ℕ) (stage : Stage) (o : Option QuestionState) → forwards ≡ None → OwnIs forwards stage o
    → (question : QuestionState) × (o ≡ Some question)
its_question None stage None is valued = absurd valued
its_question None stage (Some question) is valued = (question, refl)
its_question (Some a) stage o is valued = none_out (sym is)

own_valued : (forwards : Option ℕ) (question : QuestionState) (outcome : Outcome) → forwards ≡ None
    → OwnIs forwards stages.Returned (Some (record question { outcome = Some outcome }))
own_valued None question outcome is = refl
own_valued (Some a) question outcome is = none_out (sym is)

never_open : (kind : QuestionKind) (outcome : Outcome) → is_open_here kind (Some outcome) ≡ false
never_open kinds.Wire outcome = refl
never_open kinds.Local outcome = refl

no_stage : {Y : Type 0} → stages.Returned ≡ stages.Finished → Y
no_stage is = absurd (cc)

module _ {s : State} {hand : Option Origin} (h : Within s hand []) (q : ℕ) (entry : Exchange QuestionEntry) (was : get s.entries.questions q ≡ Some entry)
    (to : IsToSettle s hand q) (outcome : Outcome)
    (fit : AllByRecursion (IsFit s) (caps_of outcome)) where
  alone : IsAlone hand (origins.Own q)
  alone = to.alone

  own : entry.kept.forwards ≡ None
  own = to.own entry was

  -- it is kept until it is finished
  module _ (question : QuestionState) (is_question : get s.values.questions q ≡ Some question) (unset : question.outcome ≡ None) where
    waits : waiting_of s (origins.Own q) ≡ 0
    waits = to.waits

    abbrev given_entry : Exchange QuestionEntry
    given_entry = record entry { stage = stages.Returned }

    abbrev given_question : QuestionState
    given_question = record question { outcome = Some outcome }

    abbrev settled_by : State
    settled_by =
        record (question_over s q outcome) {
          values = record s.values { questions = insert s.values.questions q given_question };
          entries = record s.entries { questions = insert s.entries.questions q given_entry };
        }

    settled_stays : (c : Cap) → IsThere s c → IsThere settled_by c
    settled_stays = there_stays s settled_by (λ p x. x) (λ i x. x) (put_stays s.values.questions q given_question)

    settled_fit : (c : Cap) → IsFit s c → IsFit settled_by c
    settled_fit c f = (f.0, settled_stays c f.1, plain_route s.values settled_by.values h.plain (λ p o is. is) c f.0 f.2)

    over_settled : (r : ℕ) (o : Outcome) (x : QuestionState) (b : Bool) → (q == r) ≡ b → get (insert s.waiting.over.questions q outcome) r ≡ Some o
        → get (insert s.values.questions q given_question) r ≡ Some x → x.outcome ≡ None → ⊥
    over_settled r o x true t is at none =
        none_out (sym (ap (λ (y : QuestionState). y.outcome) (some_out (sym (put_at s.values.questions q r given_question true t) ∙ at)) ∙ none))
    over_settled r o x false t is at none =
        h.over_questions r o x (sym (put_at s.waiting.over.questions q r outcome false t) ∙ is)
        (sym (put_at s.values.questions q r given_question false t) ∙ at) none

    gift_settled : (r : ℕ) (path : List ℕ) (o : Outcome) (b : Bool) → (q == r) ≡ b → get (insert s.waiting.over.questions q outcome) r ≡ Some o
        → IsFit settled_by (cap_at o path)
    gift_settled r path o true t is = rw (← some_out (sym (put_at s.waiting.over.questions q r outcome true t) ∙ is))
        (settled_fit (cap_at outcome path) (fit_at s outcome path fit))
    gift_settled r path o false t is =
        let old : get s.waiting.over.questions r ≡ Some o = sym (put_at s.waiting.over.questions q r outcome false t) ∙ is in
        settled_fit (cap_at o path) (h.gifts (gates.Question r path) (cap_at o path) (ap (option_map (λ x. cap_at x path)) old))

    gifts_settled : (gate : Gate) (cap : Cap) → gave settled_by.waiting.over gate ≡ Some cap → IsFit settled_by cap
    gifts_settled (gates.Answer a path) cap is = settled_fit cap (h.gifts (gates.Answer a path) cap is)
    gifts_settled (gates.Promise p) cap is = settled_fit cap (h.gifts (gates.Promise p) cap is)
    gifts_settled (gates.Question r path) cap is = gave_at path (get (insert s.waiting.over.questions q outcome) r) cap (IsFit settled_by)
        (λ o at. gift_settled r path o (q == r) refl at) is
    gifts_settled (gates.Embargo n) cap is = settled_fit cap (h.gifts (gates.Embargo n) cap is)

    forwarding_same : (a : ℕ) → forwarding_of settled_by a ≡ forwarding_of s a
    forwarding_same a =
        let sum : forwarding_of settled_by a + cond (is_forwarding a entry) 1 0 ≡ forwarding_of s a + cond (is_forwarding a entry) 1 0 =
        put_sum (λ e. cond (is_forwarding a e) 1 0) s.entries.questions q given_entry (Some entry) was in
        omega (arith, sum)

    gate_settled : (gate : Gate) → IsUngivenIf s (gave s.waiting.over gate) gate → IsUngivenIf settled_by (gave settled_by.waiting.over gate) gate
    gate_settled (gates.Answer a path) was = was
    gate_settled (gates.Promise p) was = any_promise settled_by p (gave settled_by.waiting.over (gates.Promise p))
    gate_settled (gates.Question r path) was = any_question settled_by r path (gave settled_by.waiting.over (gates.Question r path))
    gate_settled (gates.Embargo n) was = any_embargo settled_by n (gave settled_by.waiting.over (gates.Embargo n))

    settled_sendable : (c : Cap) → is_local_path s c ≡ false → is_local_path settled_by c ≡ false
    settled_sendable caps.None is = refl
    settled_sendable (caps.Object k) is = refl
    settled_sendable (caps.Promise p) is = refl
    settled_sendable (caps.Import i) is = refl
    settled_sendable (caps.Pipelined r path) is = by (q == r) refl
      where
        by : (b : Bool) → (q == r) ≡ b → is_local_path settled_by (caps.Pipelined r path) ≡ false
        by true t = rw (put_at s.values.questions q r given_question true t) (never_open question.kind outcome)
        by false t = rw (put_at s.values.questions q r given_question false t) is
    settled_sendable (caps.Broken x) is = refl

    settled_there : AllKept (IsThere settled_by) settled_by
    settled_there =
        let moved = kept_map (IsThere s) (IsThere settled_by) s.values s.waiting.calls s.marks.embargoes s.counts.exports settled_stays h.there in
        record {
          values_ = question_put (IsThere settled_by) s.values moved.values_ q given_question
              (λ o e. rw (← some_out e) (all_of (IsFit s) (IsThere settled_by) (caps_of outcome) (λ c f. settled_stays c f.1) fit));
          calls_ = moved.calls_;
          embargoes_ = moved.embargoes_;
          exports_ = moved.exports_;
        }

    sent_here : IsSentIf (is_wire (Some given_question)) entry.kept
    sent_here = rw is_question at (to.sent entry was)

    finished_still : (r : ℕ) (e : Exchange QuestionEntry) → ((q ≡ r) × (given_entry ≡ e)) ⊎ (((q == r) ≡ false) × (get s.entries.questions r ≡ Some e))
        → e.stage ≡ stages.Finished
        → (t : ℕ) → IfSome (get s.waiting.calls t) (IsOff r)
    finished_still r e (inl new) at = no_stage (ap (λ (x : Exchange QuestionEntry). x.stage) new.1 ∙ at)
    finished_still r e (inr old) at = h.finished r e old.1 at

    valued_settled : (r : ℕ) (b : Bool) → (q == r) ≡ b → QuestionIs (get (insert s.entries.questions q given_entry) r)
        (get (insert s.values.questions q given_question) r)
    valued_settled r true t =
        rw (put_at s.entries.questions q r given_entry true t, put_at s.values.questions q r given_question true t)
        (own_valued entry.kept.forwards question outcome own)
    valued_settled r false t = rw (put_at s.entries.questions q r given_entry false t, put_at s.values.questions q r given_question false t)
        (h.questions_valued r)

    -- a mark on an open question has no embargo
    no_embargo : (path : List ℕ) (embargo : Option ℕ) (value : Option Cap) → IsEmbargoOf s (path_value (Some question) path) embargo
        → IsEmbargoOf settled_by value embargo
    no_embargo path None value is = tt
    no_embargo path (Some n) value is =
        let none : path_value (Some question) path ≡ None = rw (unset) refl in
        absurd (true≢false (sym is.1 ∙ ap is_some none))

    mark_settled : (key : List ℕ) (embargo : Option ℕ) → IsPathMark s key embargo → IsPathMark settled_by key embargo
    mark_settled [] embargo mark = absurd mark
    mark_settled (r ∷ path) embargo mark = by (q == r) refl
      where
        by : (b : Bool) → (q == r) ≡ b → IsPathMark settled_by (r ∷ path) embargo
        by true t =
            let there : get s.values.questions r ≡ Some question = rw (← is_equal q r t) is_question in
            let old : IsTrue (is_wire (Some question)) × IsEmbargoOf s (path_value (Some question) path) embargo = rw there at mark in
            rw (put_at s.values.questions q r given_question true t) (old.0, no_embargo path embargo (path_value (Some given_question) path) old.1)
        by false t = rw (put_at s.values.questions q r given_question false t) mark

    pub settled_within : Within settled_by None []
    settled_within =
        let new : State = settled_by in
        record {
          over_answers = h.over_answers;
          over_promises = h.over_promises;
          over_questions = λ r o question is at unset. over_settled r o question (q == r) refl is at unset;
          over_embargoes = h.over_embargoes;
          gifts = gifts_settled;
          answers = each_kept (HasAnswerPlace s hand) (HasAnswerPlace new None) s.entries.answers 0 h.answers
              (λ a e is. answer_place s new hand None a e (sym (alone (origins.Answer a) refl)) refl (forwarding_same a));
          questions = each_put (HasQuestionPlace s hand) (HasQuestionPlace new None) s.entries.questions q given_entry h.questions
              (λ open_. absurd (true≢false (sym open_)))
              (λ r e other is. question_place s new hand None r e (sym (alone (origins.Own r) (other_number q r other))) refl);
          waiting = each_kept (WaitsFor s) (WaitsFor new) s.waiting.calls 0 h.waiting (λ t call is w. (
            w.0,
            w.1,
            tickets_of_others s new (origins.Own q) (λ b u other x. x)
                (λ r u other. question_other s.entries.questions q given_entry r u (other_number r q other)) call.origin t
                (waits_of_other h (origins.Own q) t call waits is) w.2,
          ));
          forwards = each_put (λ r e. ForwardsRightly s e.kept.forwards e.kept.ticket)
              (λ r e. ForwardsRightly new e.kept.forwards e.kept.ticket) s.entries.questions q given_entry h.forwards
              (forwards_stay s new (λ b u x. x) entry.kept.forwards entry.kept.ticket
              (there_of (λ (e : Exchange QuestionEntry). ForwardsRightly s e.kept.forwards e.kept.ticket) (get s.entries.questions q) entry was
              (h.forwards q)))
              (λ r e other is. forwards_stay s new (λ b u x. x) e.kept.forwards e.kept.ticket);
          wire = each_put (λ r e. is_in_hand hand (origins.Own r) ≡ false → IsSentIf (is_wire (get s.values.questions r)) e.kept)
              (λ r e. is_in_hand None (origins.Own r) ≡ false → IsSentIf (is_wire (get new.values.questions r)) e.kept)
              s.entries.questions q given_entry h.wire (λ not. rw (put_at s.values.questions q q given_question true (is_itself q)) sent_here)
              (λ r e other is x not. rw (put_at s.values.questions q r given_question false other) (x (alone (origins.Own r) (other_number q r other))));
          forwarding = each_put (λ r (e : Exchange QuestionEntry). IsOpenIf e.kept.forwards e)
              (λ r (e : Exchange QuestionEntry). IsOpenIf e.kept.forwards e) s.entries.questions q given_entry h.forwarding (rw (own) tt) (λ r e other is x. x);
          gates_kept = each_kept (λ t (call : WaitingCall). IsUngivenIf s (gave s.waiting.over call.gate) call.gate)
              (λ t (call : WaitingCall). IsUngivenIf new (gave new.waiting.over call.gate) call.gate) s.waiting.calls 0 h.gates_kept
              (λ t call is. gate_settled call.gate);
          sendable = each_kept (λ t (call : WaitingCall). AllByRecursion (λ c. is_local_path s c ≡ false) call.request.caps)
              (λ t (call : WaitingCall). AllByRecursion (λ c. is_local_path new c ≡ false) call.request.caps) s.waiting.calls 0 h.sendable
              (λ t call is. all_of (λ c. is_local_path s c ≡ false) (λ c. is_local_path new c ≡ false) call.request.caps settled_sendable);
          tied = h.tied;
          untied = h.untied;
          owned = h.owned;
          counts = h.counts;
          imported = h.imported;
          exports = h.exports;
          one_export = h.one_export;
          there = settled_there;
          ends = all_end new (question_put (HasRoute new.values) s.values
              (plain_routes s.values new.values h.plain (λ p o is. is) h.ends.values_) q given_question
              (λ o e. rw (← some_out e) (all_of (IsFit s) (HasRoute new.values) (caps_of outcome) (λ c f. (settled_fit c f).2) fit))) settled_there;
          embargoed = h.embargoed;
          plain = question_put IsPlain s.values h.plain q given_question
              (λ o e. rw (← some_out e) (all_of (IsFit s) IsPlain (caps_of outcome) (λ c f. f.0) fit));
          finished = λ r e is at. finished_still r e (put_cases s.entries.questions q r given_entry e is) at;
          answers_valued = h.answers_valued;
          questions_valued = λ r. valued_settled r (q == r) refl;
          imports_valued = h.imports_valued;
          import_marks = h.import_marks;
          path_marks = λ key. here_of _ (get s.marks.paths key) (λ embargo is. mark_settled key embargo (rw is at (h.path_marks key)));
          one_mark = h.one_mark;
          waited_for = h.waited_for;
        }

  -- or it is gone
  pub gone_within : entry.stage ≡ stages.Finished → Within (question_over (without_question s q) q outcome) None []
  gone_within finished =
      let off : (t : ℕ) → IfSome (get s.waiting.calls t) (λ call. list_any (is_pipelined_of q) call.request.caps ≡ false) =
      each_kept (λ t. IsOff q) (λ t (c : WaitingCall). list_any (is_pipelined_of q) c.request.caps ≡ false) s.waiting.calls 0 (h.finished q entry was finished)
      (λ t c is off. off.1) in
      question_ends (own_leaves h q entry was own alone to.waits off) q (gone_at s.values.questions q q true (is_itself q)) outcome
      (all_of (IsFit s) (IsFit (without_question s q)) (caps_of outcome) (own_fit h q entry was own alone to.waits off) fit)

open_unset : (forwards : Option ℕ) (question : QuestionState) → forwards ≡ None → OwnIs forwards stages.Open (Some question) → question.outcome ≡ None
open_unset None question is valued = by question.outcome valued
  where
    by : (o : Option Outcome) → is_some o ≡ false → o ≡ None
    by None e = refl
    by (Some x) e = absurd (true≢false e)
open_unset (Some a) question is valued = none_out (sym is)

module _ (s : State) (hand : Option Origin) (q : ℕ) (outcome : Outcome) (entry : Exchange QuestionEntry) (done : Done) (h : Within s hand [])
    (was : get s.entries.questions q ≡ Some entry)
    (to : IsToSettle s hand q) (fit : AllByRecursion (IsFit s) (caps_of outcome)) where
  valued_as : OwnIs entry.kept.forwards entry.stage (get s.values.questions q)
  valued_as = rw was at (h.questions_valued q)

  give_own_by : (stage : Stage) → entry.stage ≡ stage → GiveOwnBy s q outcome stage (Ok done) → Within done.1 None []
  give_own_by stages.Open at gives =
      let found = its_question entry.kept.forwards entry.stage (get s.values.questions q) (to.own entry was) valued_as in
      let unset = open_unset entry.kept.forwards found.0 (to.own entry was) (rw (at, found.1) at valued_as) in
      rw (ok_in _ _ gives, was, found.1) (settled_within h q entry was to outcome fit found.0 found.1 unset)
  give_own_by stages.Finished at gives = rw (ok_in _ _ gives) (gone_within h q entry was to outcome fit at)
  give_own_by stages.Returned at gives = absurd gives

-- an own question is settled
pub give_own_keeps : (s : State) (hand : Option Origin) (q : ℕ) (outcome : Outcome) (done : Done) → Within s hand [] → IsToSettle s hand q
    → AllByRecursion (IsFit s) (caps_of outcome)
    → GiveOwn s q outcome (Ok done) → Within done.1 None []
give_own_keeps s hand q outcome done h to fit gives = give_own_by s hand q outcome gives.0 done h gives.1 to fit gives.0.stage refl gives.2
