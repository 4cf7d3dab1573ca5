-- Calls wait on rightly after an exception that is given to whom a call's outcome is for.
use Rattle.std.specs.Prelude.{◌≡◌, refl, ℕ, ◌==◌, Bool, true, false, List, Option, Some, None, IfSome, Ok}
use Rattle.std.specs.Option.{option_map}
use Rattle.std.specs.FinMap.{get, insert, remove}
use Rattle.std.proofs.Common.{ap, subst, sym, ◌∙◌}
use Rattle.cp_tables.specs.Table.{Table, with_change}
use Rattle.cp_tables.specs.declared.exchange.Exchange.{Exchange}
use Rattle.cp_tables.specs.declared.exchange.Stage.{Stage}
use Rattle.cp_tables.specs.declared.exchange.Stage.TheVariants as stages
use Rattle.cp_messages.specs.declared.exception.Exception.{Exception}
use Rattle.cp_messages.specs.declared.returned.Returned.{Returned}
use Rattle.cp_refs.specs.At.{cap_at}
use Rattle.cp_refs.specs.Route.{Way, ends, leads, missing, promise_way, open_way, outcome_way, question_way, way, Routes}
use Rattle.cp_refs.specs.Values.{ValueMaps}
use Rattle.cp_refs.specs.declared.cap.Cap.{Cap}
use Rattle.cp_refs.specs.declared.cap.Cap.TheVariants as caps
use Rattle.cp_refs.specs.declared.call.WaitingCall.{WaitingCall}
use Rattle.cp_refs.specs.declared.call.Origin.{Origin}
use Rattle.cp_refs.specs.declared.call.Origin.TheVariants as origins
use Rattle.cp_refs.specs.declared.outcome.Outcome.{Outcome}
use Rattle.cp_refs.specs.declared.outcome.Outcome.TheVariants as outcomes
use Rattle.cp_refs.specs.declared.route.Gate.{Gate}
use Rattle.cp_refs.specs.declared.route.Gate.TheVariants as gates
use Rattle.cp_refs.specs.declared.route.Route.{Route}
use Rattle.cp_refs.specs.declared.route.Route.TheVariants as routes
use Rattle.cp_refs.specs.declared.values.QuestionState.{QuestionState}
use Rattle.cp_refs.specs.declared.values.QuestionKind.{QuestionKind}
use Rattle.cp_refs.specs.declared.values.QuestionKind.TheVariants as kinds
use Rattle.cp_vat_machine.specs.State.{State, Exchanges, gave}
use Rattle.cp_vat_machine.specs.Then.{Done}
use Rattle.cp_vat_machine.specs.Give.{SettleTied, Returns, given, gone, GiveBy, GiveAnswer, answer_over, question_over, question_settled, without_question, GiveOwnBy, GiveOwn, Give}
use Rattle.cp_vat_machine.specs.Go.{without_call}
use Rattle.cp_vat_machine.specs.InUse.{is_pipelined_of, is_at_question}
use Rattle.cp_vat_machine.specs.Waits.{Port, on, on_answer, LeadsBy, PortRoutes, WaitsBy, WaitsAt, WaitRightly}
use Rattle.cp_vat_machine.specs.declared.entry.AnswerEntry.{AnswerEntry}
use Rattle.cp_vat_machine.specs.declared.entry.QuestionEntry.{QuestionEntry}
use Rattle.cp_vat_machine.proofs.Basics.{some_out, none_out, is_equal, other_number, ok_in, then_out, put_at, gone_at}
use Rattle.cp_vat_pair_laws.specs.Turns.{AreOpen, IsNoPortOf, NobodyWaitsFor, IsOpenQuestion, IsUngiven}
use Rattle.cp_vat_pair_laws.proofs.waiting.Routes.{Moves, moved_rightly, Any, WayMoves, all_move, each_way, move_where, way_off, off_promise, off_question, NoOpenOver}
use Rattle.cp_vat_pair_laws.proofs.waiting.Settle.{same_back, MovesOn, both_on, tied_keeps}

-- an answer gets its exception
abbrev at_answer : ℕ → Route → Bool
at_answer a (routes.Wait (gates.Answer b path)) = b == a
at_answer a other = false

abbrev answer_ended : State → ℕ → Exception → Table (Option Outcome) → Exchanges → State
answer_ended s a x answers entries = record (answer_over s a (outcomes.Failed x)) { values = record s.values { answers = answers }; entries = entries }

module _ (s : State) (a : ℕ) (x : Exception) (answers : Table (Option Outcome)) (entries : Exchanges) (ungiven : get s.waiting.over.answers a ≡ None) where
  abbrev answered : ValueMaps
  answered = record s.values { answers = answers }

  answer_way : (c : Cap) → Any c → WayMoves answered Any Any (move_where (at_answer a) (routes.Fail x)) (way s.values c) (way answered c)
  answer_way =
      each_way s.values answered Any Any (move_where (at_answer a) (routes.Fail x)) (λ y. refl) (λ k. refl) (λ i. refl)
      (λ p. way_off answered (at_answer a) (routes.Fail x) _ (off_promise (at_answer a) p (get s.values.promises p) refl))
      (λ q path any. way_off answered (at_answer a) (routes.Fail x) _ (off_question (at_answer a) q path refl refl (get s.values.questions q)))

  answer_waited : (b : ℕ) (path : List ℕ) (c : Bool) → (a == b) ≡ c → option_map (λ outcome. cap_at outcome path) (get s.waiting.over.answers b) ≡ None
      → LeadsBy (answer_ended s a x answers entries) (gates.Answer b path)
      (option_map (λ outcome. cap_at outcome path) (get (insert s.waiting.over.answers a (outcomes.Failed x)) b))
      (move_where (at_answer a) (routes.Fail x) (routes.Wait (gates.Answer b path)))
  answer_waited b path true t e = rw (put_at s.waiting.over.answers a b (outcomes.Failed x) true t, same_back a b t) (1, refl)
  answer_waited b path false t e = rw (put_at s.waiting.over.answers a b (outcomes.Failed x) false t, e, other_number a b t) refl

  gate_waited : (g : Gate) → gave s.waiting.over g ≡ None
      → LeadsBy (answer_ended s a x answers entries) g (gave (answer_ended s a x answers entries).waiting.over g) (move_where (at_answer a) (routes.Fail x) (routes.Wait g))
  gate_waited (gates.Answer b path) e = answer_waited b path (a == b) refl e
  gate_waited (gates.Promise q) e = rw (e) refl
  gate_waited (gates.Question q path) e = rw (e) refl
  gate_waited (gates.Embargo n) e = rw (e) refl

  answer_stays : (b : ℕ) (path : List ℕ) (t : Bool) (c : Cap) → (a == b) ≡ t → option_map (λ outcome. cap_at outcome path) (get s.waiting.over.answers b) ≡ Some c
      → option_map (λ outcome. cap_at outcome path) (get (insert s.waiting.over.answers a (outcomes.Failed x)) b) ≡ Some c
  answer_stays b path true c t e =
      let none : get s.waiting.over.answers b ≡ None = rw (← is_equal a b t) ungiven in
      none_out (ap (λ o. option_map (λ outcome. cap_at outcome path) o) (sym none) ∙ e)
  answer_stays b path false c t e =
      ap (λ o. option_map (λ outcome. cap_at outcome path) o) (put_at s.waiting.over.answers a b (outcomes.Failed x) false t) ∙ e

  gate_stays : (g : Gate) (c : Cap) → gave s.waiting.over g ≡ Some c → gave (answer_ended s a x answers entries).waiting.over g ≡ Some c
  gate_stays (gates.Answer b path) c e = answer_stays b path (a == b) c refl e
  gate_stays (gates.Promise q) c e = e
  gate_stays (gates.Question q path) c e = e
  gate_stays (gates.Embargo n) c e = e

  answer_moves : Moves s (answer_ended s a x answers entries) (move_where (at_answer a) (routes.Fail x))
  answer_moves =
      record {
        moved = λ c r h. all_move s.values answered Any Any (move_where (at_answer a) (routes.Fail x)) answer_way c r tt tt h;
        waited = gate_waited;
        ended = gate_stays;
        embargoes = refl;
        over = refl;
        calls = refl;
      }

  answer_none_over : NoOpenOver s → NoOpenOver (answer_ended s a x answers entries)
  answer_none_over h (gates.Answer b path) is = absurd is
  answer_none_over h (gates.Promise q) is = h (gates.Promise q) is
  answer_none_over h (gates.Question q path) is = h (gates.Question q path) is
  answer_none_over h (gates.Embargo n) is = absurd is

answer_on : (s : State) (a : ℕ) (x : Exception) (answers : Table (Option Outcome)) (entries : Exchanges) → get s.waiting.over.answers a ≡ None → NoOpenOver s
    → MovesOn s (answer_ended s a x answers entries)
answer_on s a x answers entries ungiven over =
    (move_where (at_answer a) (routes.Fail x), answer_moves s a x answers entries ungiven, answer_none_over s a x answers entries ungiven over)

answer_open : (s from : State) (a : ℕ) (x : Exception) (kept : AnswerEntry) (returned : Returned) (rest : Done) → from ≡ s
    → SettleTied (given from a kept (outcomes.Failed x) returned) (outcomes.Failed x) kept.tied (Ok rest)
    → get s.waiting.over.answers a ≡ None → AreOpen s.values kept.tied → NoOpenOver s → MovesOn s rest.1
answer_open s from a x kept returned rest same settles ungiven are over =
    let mid : State = given s a kept (outcomes.Failed x) returned in
    let here = answer_on s a x mid.values.answers mid.entries ungiven over in
    both_on s mid rest.1 here (tied_keeps kept.tied mid (outcomes.Failed x) rest (rw (← same) settles) are here.2)

answer_by : (s : State) (a : ℕ) (x : Exception) (kept : AnswerEntry) (stage : Stage) (done : Done) → GiveBy s a (outcomes.Failed x) kept stage (Ok done)
    → get s.waiting.over.answers a ≡ None → AreOpen s.values kept.tied → NoOpenOver s → MovesOn s done.1
answer_by s a x kept stages.Open done gives ungiven are over =
    let said = then_out {A = Returned × State} {B = Done} (Returns s (outcomes.Failed x)) _ done gives in
    let rest = then_out {A = Done} {B = Done} (SettleTied (given said.0.1 a kept (outcomes.Failed x) said.0.0) (outcomes.Failed x) kept.tied) _ done said.2 in
    rw (ok_in _ _ rest.2) (answer_open s said.0.1 a x kept said.0.0 rest.0 (ap (λ d. d.1) (ok_in _ _ said.1)) rest.1 ungiven are over)
answer_by s a x kept stages.Finished done gives ungiven are over =
    let mid : State = gone s a (outcomes.Failed x) in
    let rest = then_out {A = Done} {B = Done} (SettleTied mid (outcomes.Failed x) kept.tied) _ done gives in
    let here = answer_on s a x mid.values.answers mid.entries ungiven over in
    rw (ok_in _ _ rest.2) (both_on s mid rest.0.1 here (tied_keeps kept.tied mid (outcomes.Failed x) rest.0 rest.1 are here.2))
answer_by s a x kept stages.Returned done gives ungiven are over = absurd gives

there_is : {X : Type 0} (P : X → Type 0) (o : Option X) (x : X) → o ≡ Some x → IfSome o P → P x
there_is P None x e h = none_out e
there_is P (Some y) x e h = rw (← some_out e) h

answer_keeps : (s : State) (ports : Table Port) (a : ℕ) (x : Exception) (done : Done) → GiveAnswer s a (outcomes.Failed x) (Ok done)
    → IsUngiven s ports (origins.Answer a) → NoOpenOver s → MovesOn s done.1
answer_keeps s ports a x done (entry, is, gives) may over =
    answer_by s a x entry.kept entry.stage done gives may.0 (there_is (λ e. AreOpen s.values e.kept.tied) (get s.entries.answers a) entry is may.1) over

-- a question gets its exception
abbrev at_question : ℕ → Route → Bool
at_question q (routes.Wait (gates.Question r path)) = r == q
at_question q (routes.Pipe r path) = r == q
at_question q other = false

abbrev question_ended : State → ℕ → Exception → Table QuestionState → Exchanges → State
question_ended s q x questions entries = record (question_over s q (outcomes.Failed x)) { values = record s.values { questions = questions }; entries = entries }

open_fails : (new : ValueMaps) (q r : ℕ) (path : List ℕ) (kind : QuestionKind) (x : Exception) → (r == q) ≡ true
    → Routes new (caps.Broken x) (move_where (at_question q) (routes.Fail x) (open_way kind r path))
open_fails new q r path kinds.Wire x t = rw (t) (1, refl)
open_fails new q r path kinds.Local x t = rw (t) (1, refl)

-- the question's results, in place of none
abbrev failed_question : QuestionState → Exception → QuestionState
failed_question question x = record question { outcome = Some (outcomes.Failed x) }

fails_by : (new : ValueMaps) (q r : ℕ) (path : List ℕ) (kind : QuestionKind) (o : Option Outcome) (x : Exception) → (r == q) ≡ true → o ≡ None
    → WayMoves new Any Any (move_where (at_question q) (routes.Fail x)) (outcome_way kind r path o) (leads (caps.Broken x))
fails_by new q r path kind None x t e = λ any. open_fails new q r path kind x t
fails_by new q r path kind (Some outcome) x t e = none_out (sym e)

module _ (s : State) (q : ℕ) (x : Exception) (question : QuestionState) (entries : Exchanges) (ungiven : get s.waiting.over.questions q ≡ None)
    (is : get s.values.questions q ≡ Some question) (none : question.outcome ≡ None) where
  abbrev new_questions : Table QuestionState
  new_questions = insert s.values.questions q (failed_question question x)

  abbrev later : ValueMaps
  later = record s.values { questions = new_questions }

  abbrev ended : State
  ended = question_ended s q x new_questions entries

  path_way : (r : ℕ) (path : List ℕ) (b : Bool) → (q == r) ≡ b
      → WayMoves later Any Any (move_where (at_question q) (routes.Fail x)) (question_way r path (get s.values.questions r)) (question_way r path (get new_questions r))
  path_way r path true t =
      let there : get s.values.questions r ≡ Some question = rw (← is_equal q r t) is in
      rw
      (put_at s.values.questions q r (failed_question question x) true t, there)
      (fails_by later q r path question.kind question.outcome x (same_back q r t) none)
  path_way r path false t =
      rw
      (put_at s.values.questions q r (failed_question question x) false t)
      (way_off later (at_question q) (routes.Fail x) _ (off_question (at_question q) r path (other_number q r t) (other_number q r t) (get s.values.questions r)))

  question_moved : (c : Cap) → Any c → WayMoves later Any Any (move_where (at_question q) (routes.Fail x)) (way s.values c) (way later c)
  question_moved =
      each_way s.values later Any Any (move_where (at_question q) (routes.Fail x)) (λ y. refl) (λ k. refl) (λ i. refl)
      (λ p. way_off later (at_question q) (routes.Fail x) _ (off_promise (at_question q) p (get s.values.promises p) refl))
      (λ r path any. path_way r path (q == r) refl)

  path_waited : (r : ℕ) (path : List ℕ) (b : Bool) → (q == r) ≡ b → option_map (λ outcome. cap_at outcome path) (get s.waiting.over.questions r) ≡ None
      → LeadsBy ended (gates.Question r path) (option_map (λ outcome. cap_at outcome path) (get (insert s.waiting.over.questions q (outcomes.Failed x)) r))
      (move_where (at_question q) (routes.Fail x) (routes.Wait (gates.Question r path)))
  path_waited r path true t e = rw (put_at s.waiting.over.questions q r (outcomes.Failed x) true t, same_back q r t) (1, refl)
  path_waited r path false t e = rw (put_at s.waiting.over.questions q r (outcomes.Failed x) false t, e, other_number q r t) refl

  question_waited : (g : Gate) → gave s.waiting.over g ≡ None → LeadsBy ended g (gave ended.waiting.over g) (move_where (at_question q) (routes.Fail x) (routes.Wait g))
  question_waited (gates.Answer b path) e = rw (e) refl
  question_waited (gates.Promise p) e = rw (e) refl
  question_waited (gates.Question r path) e = path_waited r path (q == r) refl e
  question_waited (gates.Embargo n) e = rw (e) refl

  path_stays : (r : ℕ) (path : List ℕ) (b : Bool) (c : Cap) → (q == r) ≡ b → option_map (λ outcome. cap_at outcome path) (get s.waiting.over.questions r) ≡ Some c
      → option_map (λ outcome. cap_at outcome path) (get (insert s.waiting.over.questions q (outcomes.Failed x)) r) ≡ Some c
  path_stays r path true c t e =
      let none_there : get s.waiting.over.questions r ≡ None = rw (← is_equal q r t) ungiven in
      none_out (ap (λ o. option_map (λ outcome. cap_at outcome path) o) (sym none_there) ∙ e)
  path_stays r path false c t e =
      ap (λ o. option_map (λ outcome. cap_at outcome path) o) (put_at s.waiting.over.questions q r (outcomes.Failed x) false t) ∙ e

  question_stays : (g : Gate) (c : Cap) → gave s.waiting.over g ≡ Some c → gave ended.waiting.over g ≡ Some c
  question_stays (gates.Answer b path) c e = e
  question_stays (gates.Promise p) c e = e
  question_stays (gates.Question r path) c e = path_stays r path (q == r) c refl e
  question_stays (gates.Embargo n) c e = e

  question_moves : Moves s ended (move_where (at_question q) (routes.Fail x))
  question_moves =
      record {
        moved = λ c r h. all_move s.values later Any Any (move_where (at_question q) (routes.Fail x)) question_moved c r tt tt h;
        waited = question_waited;
        ended = question_stays;
        embargoes = refl;
        over = refl;
        calls = refl;
      }

  path_over : NoOpenOver s → (r : ℕ) (path : List ℕ) (b : Bool) → (q == r) ≡ b → get new_questions r ≡ Some (record { kind = kinds.Local; outcome = None })
      → option_map (λ outcome. cap_at outcome path) (get (insert s.waiting.over.questions q (outcomes.Failed x)) r) ≡ None
  path_over h r path true t e =
      let both : failed_question question x ≡ record { kind = kinds.Local; outcome = None } = some_out (sym (put_at s.values.questions q r (failed_question question x) true t) ∙ e) in
      none_out (sym (ap (λ v. v.outcome) both))
  path_over h r path false t e =
      ap (λ o. option_map (λ outcome. cap_at outcome path) o) (put_at s.waiting.over.questions q r (outcomes.Failed x) false t)
      ∙ h (gates.Question r path) (sym (put_at s.values.questions q r (failed_question question x) false t) ∙ e)

  question_none_over : NoOpenOver s → NoOpenOver ended
  question_none_over h (gates.Answer b path) e = absurd e
  question_none_over h (gates.Promise p) e = h (gates.Promise p) e
  question_none_over h (gates.Question r path) e = path_over h r path (q == r) refl e
  question_none_over h (gates.Embargo n) e = absurd e

  question_on : NoOpenOver s → MovesOn s ended
  question_on over = (move_where (at_question q) (routes.Fail x), question_moves, question_none_over over)

changed_question : (s : State) (q : ℕ) (x : Exception) (question : QuestionState) → get s.values.questions q ≡ Some question
    → with_change s.values.questions q (λ one. record one { outcome = Some (outcomes.Failed x) }) ≡ insert s.values.questions q (failed_question question x)
changed_question s q x question is = rw (is) refl

-- one that was finished is gone, and nobody waited for it
module _ (s : State) (ports : Table Port) (q : ℕ) (x : Exception) (alone : NobodyWaitsFor s ports q) where
  abbrev without : State
  without = without_question (question_over s q (outcomes.Failed x)) q

  abbrev NotOf : Cap → Type 0
  NotOf c = is_pipelined_of q c ≡ false

  way_same : (w : Way) → ((c : Cap) → w ≡ leads c → NotOf c) → WayMoves without.values Any NotOf (λ r. r) w w
  way_same (ends r) h = λ any. (0, refl)
  way_same (leads c) h = (refl, h c refl)
  way_same missing h = tt

  abbrev next_of : Way → Option Cap
  next_of (leads c) = Some c
  next_of other = None

  promise_next : (p : ℕ) (o : Option (Option Cap)) (c : Cap) → get s.values.promises p ≡ o → next_of (promise_way p o) ≡ Some c → NotOf c
  promise_next p None c e h = none_out h
  promise_next p (Some None) c e h = none_out h
  promise_next p (Some (Some v)) c e h = rw (← some_out h) (alone.values p v e)

  outcome_next : (r : ℕ) (path : List ℕ) (question : QuestionState) (o : Option Outcome) (c : Cap) → get s.values.questions r ≡ Some question → question.outcome ≡ o
      → next_of (outcome_way question.kind r path o) ≡ Some c → NotOf c
  outcome_next r path question None c e is h = none_out h
  outcome_next r path question (Some outcome) c e is h = rw (← some_out h) (alone.results r question outcome path e is)

  question_next : (r : ℕ) (path : List ℕ) (o : Option QuestionState) (c : Cap) → get s.values.questions r ≡ o → next_of (question_way r path o) ≡ Some c → NotOf c
  question_next r path None c e h = none_out h
  question_next r path (Some question) c e h = outcome_next r path question question.outcome c e refl h

  path_same : (r : ℕ) (path : List ℕ) → NotOf (caps.Pipelined r path)
      → WayMoves without.values Any NotOf (λ r. r) (question_way r path (get s.values.questions r)) (question_way r path (get without.values.questions r))
  path_same r path not_of =
      rw
      (gone_at s.values.questions q r false (other_number r q not_of))
      (way_same (question_way r path (get s.values.questions r)) (λ c e. question_next r path (get s.values.questions r) c refl (ap next_of e)))

  each_same : (c : Cap) → NotOf c → WayMoves without.values Any NotOf (λ r. r) (way s.values c) (way without.values c)
  each_same =
      each_way s.values without.values Any NotOf (λ r. r) (λ y. refl) (λ k. refl) (λ i. refl)
      (λ p. way_same (promise_way p (get s.values.promises p)) (λ c e. promise_next p (get s.values.promises p) c refl (ap next_of e)))
      path_same

  stay : (c : Cap) (r : Route) → NotOf c → Routes s.values c r → Routes without.values c r
  stay c r not_of h = all_move s.values without.values Any NotOf (λ r. r) each_same c r not_of tt h

  gate_same : (g : Gate) → is_at_question q g ≡ false → gave without.waiting.over g ≡ gave s.waiting.over g
  gate_same (gates.Answer b path) t = refl
  gate_same (gates.Promise p) t = refl
  gate_same (gates.Question r path) t =
      ap (λ o. option_map (λ outcome. cap_at outcome path) o) (put_at s.waiting.over.questions q r (outcomes.Failed x) false (other_number r q t))
  gate_same (gates.Embargo n) t = refl

  leads_same : (g : Gate) (o : Option Cap) (r : Route) → gave s.waiting.over g ≡ o → LeadsBy s g o r → LeadsBy without g o r
  leads_same g None r e h = h
  leads_same g (Some c) r e h = stay c r (alone.gifts g c e) h

  port_same : (port : Port) (r : Route) → IsNoPortOf q (Some port) → PortRoutes s port r → PortRoutes without port r
  port_same (on c) r away h = stay c r away h
  port_same (on_answer a path) r away h = leads_same (gates.Answer a path) (gave s.waiting.over (gates.Answer a path)) r refl h

  waits_same : (port : Port) (g : Gate) (o : Option Cap) → gave s.waiting.over g ≡ o → IsNoPortOf q (Some port) → WaitsBy s port g o → WaitsBy without port g o
  waits_same port (gates.Answer a path) o e away h = (h.0, leads_same (gates.Answer a path) o h.0 e h.1, port_same port h.0 away h.2)
  waits_same port (gates.Promise p) o e away h = (h.0, leads_same (gates.Promise p) o h.0 e h.1, port_same port h.0 away h.2)
  waits_same port (gates.Question r path) o e away h = (h.0, leads_same (gates.Question r path) o h.0 e h.1, port_same port h.0 away h.2)
  waits_same port (gates.Embargo n) (Some c) e away h = (h.0, leads_same (gates.Embargo n) (Some c) h.0 e h.1, port_same port h.0 away h.2)
  waits_same port (gates.Embargo n) None e away h = h

  at_same : (port : Option Port) (g : Gate) → is_at_question q g ≡ false → IsNoPortOf q port → WaitsAt s port g → WaitsAt without port g
  at_same None g t away h = h
  at_same (Some port) g t away h = rw (gate_same g t) (waits_same port g (gave s.waiting.over g) refl away h)

  each_call : (port : Option Port) (o : Option WaitingCall) → IfSome o (λ call. (is_at_question q call.gate ≡ false) × IsNoPortOf q port)
      → IfSome o (λ call. WaitsAt s port call.gate) → IfSome o (λ call. WaitsAt without port call.gate)
  each_call port None away h = tt
  each_call port (Some call) away h = at_same port call.gate away.0 away.1 h

  finished_rightly : WaitRightly s ports → WaitRightly without ports
  finished_rightly h u = each_call (get ports u) (get s.waiting.calls u) (alone.calls u) (h u)

  question_gone : NoOpenOver s → (r : ℕ) (path : List ℕ) (b : Bool) → (q == r) ≡ b
      → get (remove s.values.questions q) r ≡ Some (record { kind = kinds.Local; outcome = None }) → gave without.waiting.over (gates.Question r path) ≡ None
  question_gone h r path true t e = none_out (sym (gone_at s.values.questions q r true t) ∙ e)
  question_gone h r path false t e =
      gate_same (gates.Question r path) (other_number q r t) ∙ h (gates.Question r path) (sym (gone_at s.values.questions q r false t) ∙ e)

  finished_over : NoOpenOver s → NoOpenOver without
  finished_over h (gates.Answer b path) e = absurd e
  finished_over h (gates.Promise p) e = h (gates.Promise p) e
  finished_over h (gates.Question r path) e = question_gone h r path (q == r) refl e
  finished_over h (gates.Embargo n) e = absurd e

-- after what is given calls wait on rightly
abbrev KeepsOn : State → State → Table Port → Type 0
KeepsOn s mid ports = (WaitRightly s ports → WaitRightly mid ports) × NoOpenOver mid

own_by : (s : State) (ports : Table Port) (q : ℕ) (x : Exception) (stage : Stage) (done : Done) → GiveOwnBy s q (outcomes.Failed x) stage (Ok done)
    → get s.waiting.over.questions q ≡ None → IsOpenQuestion s ports q stage → NoOpenOver s → KeepsOn s done.1 ports
own_by s ports q x stages.Open done gives ungiven may over =
    let mid : State = question_settled s q (outcomes.Failed x) in
    let here = question_on s q x may.0 mid.entries ungiven may.1 may.2 over in
    let same : mid ≡ question_ended s q x (insert s.values.questions q (failed_question may.0 x)) mid.entries =
    ap (λ t. question_ended s q x t mid.entries) (changed_question s q x may.0 may.1) in
    subst (λ m. KeepsOn s m ports) (sym (ap (λ d. d.1) (ok_in _ _ gives) ∙ same)) (moved_rightly here.1 ports, here.2)
own_by s ports q x stages.Finished done gives ungiven may over =
    rw (ok_in _ _ gives) (finished_rightly s ports q x may, finished_over s ports q x may over)
own_by s ports q x stages.Returned done gives ungiven may over = absurd gives

own_keeps : (s : State) (ports : Table Port) (q : ℕ) (x : Exception) (done : Done) → GiveOwn s q (outcomes.Failed x) (Ok done)
    → IsUngiven s ports (origins.Own q) → NoOpenOver s → KeepsOn s done.1 ports
own_keeps s ports q x done (entry, is, gives) may over =
    own_by s ports q x entry.stage done gives may.0 (there_is (λ e. IsOpenQuestion s ports q e.stage) (get s.entries.questions q) entry is may.1) over

pub given_keeps : (s : State) (ports : Table Port) (origin : Origin) (x : Exception) (done : Done) → Give s origin (outcomes.Failed x) (Ok done)
    → IsUngiven s ports origin → NoOpenOver s → KeepsOn s done.1 ports
given_keeps s ports (origins.Answer a) x done gives may over =
    let here = answer_keeps s ports a x done gives may over in (moved_rightly here.1 ports, here.2)
given_keeps s ports (origins.Own q) x done gives may over = own_keeps s ports q x done gives may over

-- what is so of a call's origin is so without the call
alone_left : (s : State) (ports : Table Port) (call : WaitingCall) (q : ℕ) → NobodyWaitsFor s ports q → NobodyWaitsFor (without_call s call) ports q
alone_left s ports call q h =
    record { values = h.values; results = h.results; gifts = h.gifts; calls = λ ticket. each ticket (call.ticket == ticket) refl (h.calls ticket) }
  where
    each : (ticket : ℕ) (b : Bool) → (call.ticket == ticket) ≡ b
        → IfSome (get s.waiting.calls ticket) (λ held. (is_at_question q held.gate ≡ false) × IsNoPortOf q (get ports ticket))
        → IfSome (get (remove s.waiting.calls call.ticket) ticket) (λ held. (is_at_question q held.gate ≡ false) × IsNoPortOf q (get ports ticket))
    each ticket true t k = rw (gone_at s.waiting.calls call.ticket ticket true t) tt
    each ticket false t k = rw (gone_at s.waiting.calls call.ticket ticket false t) k

open_left : (s : State) (ports : Table Port) (call : WaitingCall) (q : ℕ) (stage : Stage) → IsOpenQuestion s ports q stage → IsOpenQuestion (without_call s call) ports q stage
open_left s ports call q stages.Open h = h
open_left s ports call q stages.Finished h = alone_left s ports call q h
open_left s ports call q stages.Returned h = h

entry_left : (s : State) (ports : Table Port) (call : WaitingCall) (q : ℕ) (o : Option (Exchange QuestionEntry)) → IfSome o (λ entry. IsOpenQuestion s ports q entry.stage)
    → IfSome o (λ entry. IsOpenQuestion (without_call s call) ports q entry.stage)
entry_left s ports call q None h = tt
entry_left s ports call q (Some entry) h = open_left s ports call q entry.stage h

pub left_ungiven : (s : State) (ports : Table Port) (call : WaitingCall) (origin : Origin) → IsUngiven s ports origin → IsUngiven (without_call s call) ports origin
left_ungiven s ports call (origins.Answer a) h = h
left_ungiven s ports call (origins.Own q) h = (h.0, entry_left s ports call q (get s.entries.questions q) h.1)
