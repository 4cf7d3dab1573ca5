-- What waiting calls wait for, after an outcome or a value that moves routes.
use Rattle.std.specs.Prelude.{◌≡◌, refl, ℕ, zero, suc, if◌then◌else◌, Bool, false, List, Option, Some, None, IfSome}
use Rattle.std.specs.FinMap.{get}
use Rattle.std.proofs.Common.{ap, sym, ◌∙◌}
use Rattle.cp_tables.specs.Table.{Table}
use Rattle.cp_messages.specs.declared.exception.Exception.{Exception}
use Rattle.cp_refs.specs.At.{null_capability}
use Rattle.cp_refs.specs.Route.{Way, ends, leads, missing, promise_way, open_way, outcome_way, question_way, way, route_by, route_within, Routes}
use Rattle.cp_refs.specs.Values.{ValueMaps}
use Rattle.cp_refs.specs.declared.cap.Cap.{Cap}
use Rattle.cp_refs.specs.declared.cap.Cap.TheVariants as caps
use Rattle.cp_refs.specs.declared.call.WaitingCall.{WaitingCall}
use Rattle.cp_refs.specs.declared.outcome.Outcome.{Outcome}
use Rattle.cp_refs.specs.declared.route.Gate.{Gate}
use Rattle.cp_refs.specs.declared.route.Gate.TheVariants as gates
use Rattle.cp_refs.specs.declared.route.Route.{Route}
use Rattle.cp_refs.specs.declared.route.Route.TheVariants as routes
use Rattle.cp_refs.specs.declared.values.QuestionState.{QuestionState}
use Rattle.cp_refs.specs.declared.values.QuestionKind.{QuestionKind}
use Rattle.cp_refs.specs.declared.values.QuestionKind.TheVariants as kinds
use Rattle.cp_vat_machine.specs.State.{State, gave}
use Rattle.cp_vat_machine.specs.Waits.{Port, on, on_answer, LeadsBy, PortRoutes, WaitsBy, WaitsAt, WaitRightly}
use Rattle.cp_vat_machine.proofs.Basics.{some_out, none_out}
use Rattle.cp_vat_pair_laws.specs.Turns.{NoneLeadsToOver}

-- Each capability's route moves to another, and what a gate gives by then is what a route to it moves to.
pub record Moves (old mid : State) (move : Route → Route) : Type 0 where
  pub moved : (c : Cap) (r : Route) → Routes old.values c r → Routes mid.values c (move r)
  pub waited : (g : Gate) → gave old.waiting.over g ≡ None → LeadsBy mid g (gave mid.waiting.over g) (move (routes.Wait g))
  pub ended : (g : Gate) (c : Cap) → gave old.waiting.over g ≡ Some c → gave mid.waiting.over g ≡ Some c
  pub embargoes : mid.marks.embargoes ≡ old.marks.embargoes
  pub over : mid.waiting.over.embargoes ≡ old.waiting.over.embargoes
  pub calls : mid.waiting.calls ≡ old.waiting.calls

module _ {old mid : State} {move : Route → Route} (m : Moves old mid move) where
  leads_on : (g : Gate) (o : Option Cap) (r : Route) → gave old.waiting.over g ≡ o → LeadsBy old g o r → LeadsBy mid g (gave mid.waiting.over g) (move r)
  leads_on g None r e h = rw (h) (m.waited g e)
  leads_on g (Some c) r e h = rw (m.ended g c e) (m.moved c r h)

  port_on : (port : Port) (r : Route) → PortRoutes old port r → PortRoutes mid port (move r)
  port_on (on c) r h = m.moved c r h
  port_on (on_answer a path) r h = leads_on (gates.Answer a path) (gave old.waiting.over (gates.Answer a path)) r refl h

  waits_on : (port : Port) (g : Gate) (o : Option Cap) → gave old.waiting.over g ≡ o → WaitsBy old port g o → WaitsBy mid port g (gave mid.waiting.over g)
  waits_on port (gates.Answer a path) o e h = (move h.0, leads_on (gates.Answer a path) o h.0 e h.1, port_on port h.0 h.2)
  waits_on port (gates.Promise p) o e h = (move h.0, leads_on (gates.Promise p) o h.0 e h.1, port_on port h.0 h.2)
  waits_on port (gates.Question q path) o e h = (move h.0, leads_on (gates.Question q path) o h.0 e h.1, port_on port h.0 h.2)
  waits_on port (gates.Embargo n) (Some c) e h = rw (m.ended (gates.Embargo n) c e) (move h.0, m.moved c h.0 h.1, port_on port h.0 h.2)
  waits_on port (gates.Embargo n) None e h = rw (m.over, e) (h.0, rw (m.embargoes) h.1, h.2)

  waits_there : (port : Option Port) (g : Gate) → WaitsAt old port g → WaitsAt mid port g
  waits_there None g h = h
  waits_there (Some port) g h = waits_on port g (gave old.waiting.over g) refl h

  each_there : (port : Option Port) (o : Option WaitingCall) → IfSome o (λ call. WaitsAt old port call.gate) → IfSome o (λ call. WaitsAt mid port call.gate)
  each_there port None h = tt
  each_there port (Some call) h = waits_there port call.gate h

  pub moved_rightly : (ports : Table Port) → WaitRightly old ports → WaitRightly mid ports
  moved_rightly ports h u = rw (m.calls) (each_there (get ports u) (get old.waiting.calls u) (h u))

pub moves_both : {old mid last : State} {f g : Route → Route} → Moves old mid f → Moves mid last g → Moves old last (λ r. g (f r))
moves_both {mid = mid} {f = f} one more =
    record {
      moved = λ c r h. more.moved c (f r) (one.moved c r h);
      waited = λ gate e. leads_on more gate (gave mid.waiting.over gate) (f (routes.Wait gate)) refl (one.waited gate e);
      ended = λ gate c e. more.ended gate c (one.ended gate c e);
      embargoes = more.embargoes ∙ one.embargoes;
      over = more.over ∙ one.over;
      calls = more.calls ∙ one.calls;
    }

-- nothing that waiting calls look at changes
leads_by_none : (mid : State) (g : Gate) (o : Option Cap) → o ≡ None → LeadsBy mid g o (routes.Wait g)
leads_by_none mid g None e = refl
leads_by_none mid g (Some c) e = none_out (sym e)

pub same_moves : (old mid : State) → mid.values ≡ old.values → mid.waiting ≡ old.waiting → mid.marks ≡ old.marks → Moves old mid (λ r. r)
same_moves old mid values waiting marks =
    record {
      moved = λ c r h. rw (values) h;
      waited = λ g e. leads_by_none mid g (gave mid.waiting.over g) (ap (λ w. gave w.over g) waiting ∙ e);
      ended = λ g c e. ap (λ w. gave w.over g) waiting ∙ e;
      embargoes = ap (λ x. x.embargoes) marks;
      over = ap (λ x. x.over.embargoes) waiting;
      calls = ap (λ x. x.calls) waiting;
    }

-- The way of a capability moves: the end of each way, if it holds of the route, to what the new way comes to.
abbrev pub WayMoves : ValueMaps → (Route → Type 0) → (Cap → Type 0) → (Route → Route) → Way → Way → Type 0
WayMoves new P Q move (ends x) other = P x → (n : ℕ) × (route_by (λ next. route_within n new next) other ≡ Some (move x))
WayMoves new P Q move (leads c) other = (other ≡ leads c) × Q c
WayMoves new P Q move missing other = Unit {0}

module _ (old new : ValueMaps) (P : Route → Type 0) (Q : Cap → Type 0) (move : Route → Route)
    (each : (c : Cap) → Q c → WayMoves new P Q move (way old c) (way new c)) where
  move_by : (m : ℕ) → ((c : Cap) (r : Route) → Q c → P r → route_within m old c ≡ Some r → Routes new c (move r))
      → (c : Cap) (w : Way) (r : Route) → P r → WayMoves new P Q move w (way new c) → route_by (λ next. route_within m old next) w ≡ Some r → Routes new c (move r)
  move_by m more c (ends x) r p h e =
      let is : x ≡ r = some_out e in
      let there = h (rw (is) p) in
      (suc there.0, there.1 ∙ ap (λ y. Some (move y)) is)
  move_by m deeper c (leads next) r p h e =
      let there = deeper next r h.1 p e in
      (suc there.0, ap (λ w. route_by (λ next. route_within there.0 new next) w) h.0 ∙ there.1)
  move_by m more c missing r p h e = none_out e

  move_within : (m : ℕ) (c : Cap) (r : Route) → Q c → P r → route_within m old c ≡ Some r → Routes new c (move r)
  move_within zero c r q p e = none_out e
  move_within (suc m) c r q p e = move_by m (move_within m) c (way old c) r p (each c q) e

  pub all_move : (c : Cap) (r : Route) → Q c → P r → Routes old c r → Routes new c (move r)
  all_move c r q p h = move_within h.0 c r q p h.1

-- each capability's way, from those of promises and of questions
abbrev pub Any : {A : Type 0} → A → Type 0
Any x = Unit {0}

pub each_way : (values new : ValueMaps) (P : Route → Type 0) (Q : Cap → Type 0) (move : Route → Route)
    → ((x : Exception) → move (routes.Fail x) ≡ routes.Fail x) → ((k : ℕ) → move (routes.Deliver k) ≡ routes.Deliver k) → ((i : ℕ) → move (routes.Import i) ≡ routes.Import i)
    → ((p : ℕ) → WayMoves new P Q move (promise_way p (get values.promises p)) (promise_way p (get new.promises p)))
    → ((q : ℕ) (path : List ℕ) → Q (caps.Pipelined q path) → WayMoves new P Q move (question_way q path (get values.questions q)) (question_way q path (get new.questions q)))
    → (c : Cap) → Q c → WayMoves new P Q move (way values c) (way new c)
each_way values new P Q move fails delivers imports promises questions caps.None q = λ p. (0, ap (λ r. Some r) (sym (fails null_capability)))
each_way values new P Q move fails delivers imports promises questions (caps.Object k) q = λ p. (0, ap (λ r. Some r) (sym (delivers k)))
each_way values new P Q move fails delivers imports promises questions (caps.Promise p) q = promises p
each_way values new P Q move fails delivers imports promises questions (caps.Import i) q = λ p. (0, ap (λ r. Some r) (sym (imports i)))
each_way values new P Q move fails delivers imports promises questions (caps.Pipelined r path) q = questions r path q
each_way values new P Q move fails delivers imports promises questions (caps.Broken x) q = λ p. (0, ap (λ r. Some r) (sym (fails x)))

-- Routes that pass a test move to one, and a way that ends at another stays as it is.
abbrev pub move_where : (Route → Bool) → Route → Route → Route
move_where test to r = if test r then to else r

abbrev pub EndsOff : (Route → Bool) → Way → Type 0
EndsOff test (ends r) = test r ≡ false
EndsOff test other = Unit {0}

pub way_off : (new : ValueMaps) (test : Route → Bool) (to : Route) (w : Way) → EndsOff test w → WayMoves new Any Any (move_where test to) w w
way_off new test to (ends r) h = λ any. (0, rw (h) refl)
way_off new test to (leads c) h = (refl, tt)
way_off new test to missing h = tt

pub off_promise : (test : Route → Bool) (p : ℕ) (o : Option (Option Cap)) → test (routes.Wait (gates.Promise p)) ≡ false → EndsOff test (promise_way p o)
off_promise test p None h = tt
off_promise test p (Some None) h = h
off_promise test p (Some (Some value)) h = tt

module _ (test : Route → Bool) (q : ℕ) (path : List ℕ) (piped : test (routes.Pipe q path) ≡ false) (waits : test (routes.Wait (gates.Question q path)) ≡ false) where
  off_open : (kind : QuestionKind) → test (open_way kind q path) ≡ false
  off_open kinds.Wire = piped
  off_open kinds.Local = waits

  off_outcome : (kind : QuestionKind) (o : Option Outcome) → EndsOff test (outcome_way kind q path o)
  off_outcome kind None = off_open kind
  off_outcome kind (Some outcome) = tt

  pub off_question : (o : Option QuestionState) → EndsOff test (question_way q path o)
  off_question None = tt
  off_question (Some question) = off_outcome question.kind question.outcome

-- the gates that capabilities lead to: open promises, and open questions of this end
abbrev pub IsOpenGate : ValueMaps → Gate → Type 0
IsOpenGate values (gates.Answer a path) = ⊥
IsOpenGate values (gates.Promise p) = get values.promises p ≡ Some None
IsOpenGate values (gates.Question q path) = get values.questions q ≡ Some (record { kind = kinds.Local; outcome = None })
IsOpenGate values (gates.Embargo n) = ⊥

abbrev IsOpenAt : ValueMaps → Route → Type 0
IsOpenAt values (routes.Wait gate) = IsOpenGate values gate
IsOpenAt values other = Unit {0}

abbrev EndsOpen : ValueMaps → Way → Type 0
EndsOpen values (ends route) = IsOpenAt values route
EndsOpen values other = Unit {0}

open_promise : (values : ValueMaps) (p : ℕ) (o : Option (Option Cap)) → get values.promises p ≡ o → EndsOpen values (promise_way p o)
open_promise values p None e = tt
open_promise values p (Some None) e = e
open_promise values p (Some (Some value)) e = tt

open_kind : (values : ValueMaps) (q : ℕ) (path : List ℕ) (kind : QuestionKind) → get values.questions q ≡ Some (record { kind = kind; outcome = None })
    → IsOpenAt values (open_way kind q path)
open_kind values q path kinds.Wire e = tt
open_kind values q path kinds.Local e = e

open_outcome : (values : ValueMaps) (q : ℕ) (path : List ℕ) (kind : QuestionKind) (o : Option Outcome)
    → get values.questions q ≡ Some (record { kind = kind; outcome = o }) → EndsOpen values (outcome_way kind q path o)
open_outcome values q path kind None e = open_kind values q path kind e
open_outcome values q path kind (Some outcome) e = tt

open_question : (values : ValueMaps) (q : ℕ) (path : List ℕ) (o : Option QuestionState) → get values.questions q ≡ o → EndsOpen values (question_way q path o)
open_question values q path None e = tt
open_question values q path (Some question) e = open_outcome values q path question.kind question.outcome e

ends_open : (values : ValueMaps) (c : Cap) → EndsOpen values (way values c)
ends_open values caps.None = tt
ends_open values (caps.Object k) = tt
ends_open values (caps.Promise p) = open_promise values p (get values.promises p) refl
ends_open values (caps.Import i) = tt
ends_open values (caps.Pipelined q path) = open_question values q path (get values.questions q) refl
ends_open values (caps.Broken x) = tt

open_by : (values : ValueMaps) (f : Cap → Option Route) (w : Way) (r : Route) → ((c : Cap) → f c ≡ Some r → IsOpenAt values r) → EndsOpen values w
    → route_by f w ≡ Some r → IsOpenAt values r
open_by values f (ends x) r more here e = rw (← some_out e) here
open_by values f (leads c) r more here e = more c e
open_by values f missing r more here e = none_out e

open_within : (n : ℕ) (values : ValueMaps) (c : Cap) (r : Route) → route_within n values c ≡ Some r → IsOpenAt values r
open_within zero values c r e = none_out e
open_within (suc n) values c r e = open_by values (λ next. route_within n values next) (way values c) r (λ next. open_within n values next r) (ends_open values c) e

pub open_gate : (values : ValueMaps) (c : Cap) (gate : Gate) → Routes values c (routes.Wait gate) → IsOpenGate values gate
open_gate values c gate h = open_within h.0 values c (routes.Wait gate) h.1

-- no open gate is over
abbrev pub NoOpenOver : State → Type 0
NoOpenOver s = (gate : Gate) → IsOpenGate s.values gate → gave s.waiting.over gate ≡ None

pub none_leads : (s : State) → NoOpenOver s → NoneLeadsToOver s
none_leads s h c gate way = h gate (open_gate s.values c gate way)

pub no_open : (s : State) → NoneLeadsToOver s → NoOpenOver s
no_open s h (gates.Answer a path) is = absurd is
no_open s h (gates.Promise p) is = h (caps.Promise p) (gates.Promise p) (1, rw (is) refl)
no_open s h (gates.Question q path) is = h (caps.Pipelined q path) (gates.Question q path) (1, rw (is) refl)
no_open s h (gates.Embargo n) is = absurd is
