-- A call that has just come goes: what is named stays there.
use Rattle.std.specs.Prelude.{◌≡◌, refl, ℕ, ◌==◌, Bool, true, false, List, [], Option, Some, None, is_some, Ok}
use Rattle.std.specs.FinMap.{get, insert}
use Rattle.std.proofs.Common.{ap, subst, sym, ◌∙◌}
use Rattle.cp_tables.specs.Table.{Table, with_change}
use Rattle.cp_tables.specs.declared.exchange.Exchange.{Exchange}
use Rattle.cp_tables.specs.declared.exchange.Stage.{Stage}
use Rattle.cp_tables.specs.declared.exchange.Stage.TheVariants as stages
use Rattle.cp_messages.specs.declared.descriptor.Descriptor.{Descriptor}
use Rattle.cp_messages.specs.declared.returned.Returned.{Returned}
use Rattle.cp_messages.specs.declared.target.Target.{Target}
use Rattle.cp_messages.specs.declared.target.Target.TheVariants as targets
use Rattle.cp_refs.specs.Values.{ValueMaps}
use Rattle.cp_refs.specs.declared.cap.Cap.TheVariants as caps
use Rattle.cp_refs.specs.declared.call.Origin.{Origin}
use Rattle.cp_refs.specs.declared.call.Origin.TheVariants as origins
use Rattle.cp_refs.specs.declared.outcome.Outcome.{Outcome}
use Rattle.cp_refs.specs.declared.outcome.Outcome.TheVariants as outcomes
use Rattle.cp_refs.specs.declared.route.Route.{Route}
use Rattle.cp_refs.specs.declared.route.Route.TheVariants as routes
use Rattle.cp_refs.specs.declared.values.QuestionState.{QuestionState}
use Rattle.cp_vat_machine.specs.State.{State}
use Rattle.cp_vat_machine.specs.Then.{Done}
use Rattle.cp_vat_machine.specs.Capacity.{Fresh}
use Rattle.cp_vat_machine.specs.Writing.{WritesDescriptors, promised}
use Rattle.cp_vat_machine.specs.Give.{SettleTied, Returns, given, GiveBy, GiveOwnBy, Give}
use Rattle.cp_vat_machine.specs.Go.{PendingCall, delivered, GoOut, Go}
use Rattle.cp_vat_machine.specs.Ports.{Name, answer_path, capability, is_there}
use Rattle.cp_vat_machine.specs.declared.entry.AnswerEntry.{AnswerEntry}
use Rattle.cp_vat_machine.specs.declared.entry.QuestionEntry.{QuestionEntry}
use Rattle.cp_vat_machine.proofs.Basics.{some_out, ok_in, then_out, put_at}
use Rattle.cp_vat_laws.proofs.order.Settle.{all_only}
use Rattle.cp_vat_laws.proofs.order.Give.{returned_only}

-- a route by which nothing is given
abbrev pub IsSent : Route → Type 0
IsSent (routes.Fail x) = ⊥
IsSent other = Unit {0}

out_same : (s : State) (call : PendingCall) (target : Target) (origin : Origin) (done : Done) → GoOut s call target origin (Ok done) → done.1.values ≡ s.values
out_same s call target (origins.Answer a) done out =
    let first = then_out {A = ℕ} {B = Done} (Fresh s.entries.questions) _ done out in
    let parts = then_out {A = List Descriptor × State} {B = Done} (WritesDescriptors s call.request.caps) _ done first.2 in
    rw (ok_in _ _ parts.2) (ap (λ x. x.values) (all_only call.request.caps s parts.0 parts.1))
out_same s call target (origins.Own q) done out =
    let parts = then_out {A = List Descriptor × State} {B = Done} (WritesDescriptors s call.request.caps) _ done out.2 in
    rw (ok_in _ _ parts.2) (ap (λ x. x.values) (all_only call.request.caps s parts.0 parts.1))

delivered_same : (s : State) (origin : Origin) → (delivered s origin).values ≡ s.values
delivered_same s (origins.Answer a) = refl
delivered_same s (origins.Own q) = refl

pub go_same : (s : State) (call : PendingCall) (route : Route) (done : Done) → Go s call route (Ok done) → IsSent route → done.1.values ≡ s.values
go_same s call (routes.Deliver k) done goes is_sent = rw (ok_in _ _ goes) (delivered_same s call.origin)
go_same s call (routes.Import i) done goes is_sent = out_same s call (targets.ImportedCap i) call.origin done goes
go_same s call (routes.Pipe q path) done goes is_sent = out_same s call (targets.PromisedAnswer (promised q path)) call.origin done goes
go_same s call (routes.Wait g) done goes is_sent = rw (ok_in _ _ goes) refl
go_same s call (routes.Fail x) done goes is_sent = absurd is_sent

-- what is named stays there
abbrev pub StaysThere : ValueMaps → ValueMaps → Type 0
StaysThere values new = (name : Name) → is_there values name ≡ true → is_there new name ≡ true

put_there : {X : Type 0} (table : Table X) (k : ℕ) (v : X) (q : ℕ) (b : Bool) → (k == q) ≡ b → is_some (get table q) ≡ true → is_some (get (insert table k v) q) ≡ true
put_there table k v q true e some = ap is_some (put_at table k q v true e)
put_there table k v q false e some = ap is_some (put_at table k q v false e) ∙ some

answers_there : (values : ValueMaps) (a : ℕ) (o : Option Outcome) → StaysThere values (record values { answers = insert values.answers a o })
answers_there values a o (answer_path b path) there = put_there values.answers a o b (a == b) refl there
answers_there values a o (capability caps.None) there = refl
answers_there values a o (capability (caps.Object k)) there = refl
answers_there values a o (capability (caps.Promise p)) there = there
answers_there values a o (capability (caps.Import i)) there = there
answers_there values a o (capability (caps.Pipelined q path)) there = there
answers_there values a o (capability (caps.Broken x)) there = refl

change_there : (questions : Table QuestionState) (q r : ℕ) (change : QuestionState → QuestionState) (o : Option QuestionState) → get questions q ≡ o → is_some (get questions r) ≡ true
    → is_some (get (with_change questions q change) r) ≡ true
change_there questions q r change None is some = rw (is) some
change_there questions q r change (Some x) is some = rw (is) (put_there questions q (change x) r (q == r) refl some)

questions_there : (values : ValueMaps) (q : ℕ) (change : QuestionState → QuestionState) → StaysThere values (record values { questions = with_change values.questions q change })
questions_there values q change (answer_path b path) there = there
questions_there values q change (capability caps.None) there = refl
questions_there values q change (capability (caps.Object k)) there = refl
questions_there values q change (capability (caps.Promise p)) there = there
questions_there values q change (capability (caps.Import i)) there = there
questions_there values q change (capability (caps.Pipelined r path)) there = change_there values.questions q r change (get values.questions q) refl there
questions_there values q change (capability (caps.Broken x)) there = refl

-- an origin whose answer or question was just opened
abbrev pub IsFresh : State → Origin → Type 0
IsFresh s (origins.Answer a) = (entry : Exchange AnswerEntry) × (get s.entries.answers a ≡ Some entry) × (entry.stage ≡ stages.Open) × (entry.kept.tied ≡ [])
IsFresh s (origins.Own q) = (entry : Exchange QuestionEntry) × (get s.entries.questions q ≡ Some entry) × (entry.stage ≡ stages.Open)

give_open : (s : State) (a : ℕ) (outcome : Outcome) (kept : AnswerEntry) (stage : Stage) (done : Done) → GiveBy s a outcome kept stage (Ok done) → stage ≡ stages.Open → kept.tied ≡ []
    → done.1.values ≡ record s.values { answers = insert s.values.answers a (Some outcome) }
give_open s a outcome kept stage done gives open_ none =
    let opened : GiveBy s a outcome kept stages.Open (Ok done) = rw (open_) at gives in
    let said = then_out {A = Returned × State} {B = Done} (Returns s outcome) _ done opened in
    let mid : State = given said.0.1 a kept outcome said.0.0 in
    let rest = then_out {A = Done} {B = Done} (SettleTied mid outcome kept.tied) _ done said.2 in
    let only = returned_only s outcome said.0 said.1 in
    let nothing = subst (λ tied. SettleTied mid outcome tied (Ok rest.0)) none rest.1 in
    ap (λ d. d.1.values) (ok_in _ _ rest.2) ∙ ap (λ d. d.1.values) (ok_in _ _ nothing) ∙ ap (λ x. record x.values { answers = insert x.values.answers a (Some outcome) }) only

give_stays : (s : State) (origin : Origin) (outcome : Outcome) (done : Done) → Give s origin outcome (Ok done) → IsFresh s origin → StaysThere s.values done.1.values
give_stays s (origins.Answer a) outcome done (entry, is, gives) fresh name there =
    let same : fresh.0 ≡ entry = some_out (sym fresh.1 ∙ is) in
    let values = give_open s a outcome entry.kept entry.stage done gives (sym (ap (λ e. e.stage) same) ∙ fresh.2) (sym (ap (λ e. e.kept.tied) same) ∙ fresh.3) in
    rw (values) (answers_there s.values a (Some outcome) name there)
give_stays s (origins.Own q) outcome done (entry, is, gives) fresh name there =
    let same : fresh.0 ≡ entry = some_out (sym fresh.1 ∙ is) in
    let opened : GiveOwnBy s q outcome stages.Open (Ok done) = rw (sym (ap (λ e. e.stage) same) ∙ fresh.2) at gives in
    rw (ap (λ d. d.1.values) (ok_in _ _ opened)) (questions_there s.values q (λ question. record question { outcome = Some outcome }) name there)

same_stays : (values new : ValueMaps) → new ≡ values → StaysThere values new
same_stays values new same name there = rw (same) there

pub go_stays : (s : State) (call : PendingCall) (route : Route) (done : Done) → Go s call route (Ok done) → IsFresh s call.origin → StaysThere s.values done.1.values
go_stays s call (routes.Deliver k) done goes fresh = same_stays s.values done.1.values (go_same s call (routes.Deliver k) done goes tt)
go_stays s call (routes.Import i) done goes fresh = same_stays s.values done.1.values (go_same s call (routes.Import i) done goes tt)
go_stays s call (routes.Pipe q path) done goes fresh = same_stays s.values done.1.values (go_same s call (routes.Pipe q path) done goes tt)
go_stays s call (routes.Wait g) done goes fresh = same_stays s.values done.1.values (go_same s call (routes.Wait g) done goes tt)
go_stays s call (routes.Fail x) done goes fresh = give_stays s call.origin (outcomes.Failed x) done goes fresh
