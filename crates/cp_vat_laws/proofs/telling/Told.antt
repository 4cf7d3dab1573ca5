-- What is given is told: by calls that go, and by outcomes that are handed in.
use Rattle.std.specs.Prelude.{◌≡◌, refl, ℕ, List, [], ◌∷◌, filter, Option, Some, None, Ok}
use Rattle.std.specs.FinMap.{get}
use Rattle.std.proofs.Common.{ap, sym, ◌∙◌}
use Rattle.cp_tables.specs.declared.exchange.Stage.{Stage}
use Rattle.cp_tables.specs.declared.exchange.Stage.TheVariants as stages
use Rattle.cp_messages.specs.declared.descriptor.Descriptor.{Descriptor}
use Rattle.cp_messages.specs.declared.exception.Exception.{Exception}
use Rattle.cp_messages.specs.declared.returned.Returned.{Returned}
use Rattle.cp_messages.specs.declared.target.Target.{Target}
use Rattle.cp_messages.specs.declared.target.Target.TheVariants as targets
use Rattle.cp_refs.specs.declared.cap.Cap.{Cap}
use Rattle.cp_refs.specs.declared.call.WaitingCall.{WaitingCall}
use Rattle.cp_refs.specs.declared.call.Origin.{Origin}
use Rattle.cp_refs.specs.declared.call.Origin.TheVariants as origins
use Rattle.cp_refs.specs.declared.outcome.Outcome.{Outcome}
use Rattle.cp_refs.specs.declared.outcome.Outcome.TheVariants as outcomes
use Rattle.cp_refs.specs.declared.route.Route.{Route}
use Rattle.cp_refs.specs.declared.route.Route.TheVariants as routes
use Rattle.cp_vat_machine.specs.State.{State}
use Rattle.cp_vat_machine.specs.Then.{Done}
use Rattle.cp_vat_machine.specs.Capacity.{Fresh}
use Rattle.cp_vat_machine.specs.Writing.{WritesDescriptors, promised}
use Rattle.cp_vat_machine.specs.Give.{Returns, GiveOwnBy, Give}
use Rattle.cp_vat_machine.specs.Go.{PendingCall, finish_after, GoOut, Go, GoTo, IsNext, without_call, underway}
use Rattle.cp_vat_machine.specs.Doing.{is_settled}
use Rattle.cp_vat_machine.specs.Local.{IsTicketOf}
use Rattle.cp_vat_machine.specs.Trace.{Turn}
use Rattle.cp_vat_machine.specs.Ports.{entry_of_event}
use Rattle.cp_vat_machine.specs.Exits.{exits_in, given_to, subject_of}
use Rattle.cp_vat_machine.specs.Telling.{is_finished, Fulfillment, failed_by, failed_with, failed_in, Bears, is_telling, was_finished, QuestionTold, OriginTold, FulfillmentTold, TellsItsFulfillment}
use Rattle.cp_vat_machine.specs.declared.effect.Effect.{Effect}
use Rattle.cp_vat_machine.specs.declared.event.Event.{Event}
use Rattle.cp_vat_machine.specs.declared.event.Value.{Value}
use Rattle.cp_vat_laws.specs.Within.{Within}
use Rattle.cp_vat_machine.proofs.Basics.{ok_in, then_out}
use Rattle.cp_vat_laws.proofs.order.Same.{IsGoing}
use Rattle.cp_vat_laws.proofs.order.Give.{IsUngiven}
use Rattle.cp_vat_laws.proofs.order.Sound.{waiting_ungiven}
use Rattle.cp_vat_laws.proofs.order.Exits.{go_done}
use Rattle.cp_vat_laws.proofs.order.WaitingStays.{no_failure}
use Rattle.cp_vat_laws.proofs.order.EntersThen.{given_none}
use Rattle.cp_vat_laws.proofs.order.WaitingGoes.{going}
use Rattle.cp_vat_laws.proofs.order.Rest.{resting}
use Rattle.cp_vat_laws.proofs.order.Enters.{owning}
use Rattle.cp_vat_laws.proofs.order.Quiet.{NoneLeaves}
use Rattle.cp_vat_laws.proofs.telling.Bears.{ExportsStay, comes_leads, bears, answer_tells}

-- whether the origin was finished is the same in these two states
abbrev pub SameStage : State → State → Origin → Type 0
SameStage before s (origins.Answer a) = was_finished (get before.entries.answers a) ≡ was_finished (get s.entries.answers a)
SameStage before s (origins.Own q) = was_finished (get before.entries.questions q) ≡ was_finished (get s.entries.questions q)

own_tells : (q : ℕ) (s : State) (outcome : Outcome) (stage : Stage) (done : Done) → GiveOwnBy s q outcome stage (Ok done)
    → QuestionTold q outcome (is_finished stage) (filter is_telling done.0)
own_tells q s outcome stages.Open done gives = rw (ok_in _ _ gives) refl
own_tells q s outcome stages.Finished done gives = rw (ok_in _ _ gives) refl
own_tells q s outcome stages.Returned done gives = absurd gives

-- What is given to an origin is told it.
pub give_tells : (turn : Turn) (s : State) (origin : Origin) (outcome : Outcome) (done : Done) → Give s origin outcome (Ok done) → SameStage turn.before s origin
    → ((said : Returned × State) → Returns s outcome (Ok said) → ExportsStay said.1 done.1 → Bears turn said.0 outcome)
    → OriginTold turn origin outcome (filter is_telling done.0)
give_tells turn s (origins.Answer a) outcome done (entry, is, gives) same bears =
    let stage : was_finished (get turn.before.entries.answers a) ≡ is_finished entry.stage = same ∙ ap was_finished is in
    rw (stage) (answer_tells turn s a outcome entry.kept entry.stage done gives bears)
give_tells turn s (origins.Own q) outcome done (entry, is, gives) same bears =
    let stage : was_finished (get turn.before.entries.questions q) ≡ is_finished entry.stage = same ∙ ap was_finished is in
    rw (stage) (own_tells q s outcome entry.stage done gives)

-- an exception is borne as it is
fails_bear : (turn : Turn) (s last : State) (x : Exception) (said : Returned × State) → Returns s (outcomes.Failed x) (Ok said) → ExportsStay said.1 last → Bears turn said.0 (outcomes.Failed x)
fails_bear turn s last x said is stay = ap (λ d. d.0) (ok_in _ _ is)

-- a call that is sent tells no outcome
after_silent : (q : ℕ) (stage : Stage) → filter is_telling (finish_after q stage) ≡ []
after_silent q stages.Open = refl
after_silent q stages.Finished = refl
after_silent q stages.Returned = refl

out_silent : (s : State) (call : PendingCall) (target : Target) (origin : Origin) (done : Done) → GoOut s call target origin (Ok done) → filter is_telling done.0 ≡ []
out_silent s call target (origins.Answer a) done out =
    let first = then_out {A = ℕ} {B = Done} (Fresh s.entries.questions) _ done out in
    let parts = then_out {A = List Descriptor × State} {B = Done} (WritesDescriptors s call.request.caps) _ done first.2 in
    rw (ok_in _ _ parts.2) refl
out_silent s call target (origins.Own q) done out =
    let parts = then_out {A = List Descriptor × State} {B = Done} (WritesDescriptors s call.request.caps) _ done out.2 in
    rw (ok_in _ _ parts.2) (after_silent q out.0.stage)

-- A call that fails gives its exception, and no other gives anything: what is given is told.
abbrev pub TellsFailure : Turn → Type 0
TellsFailure turn = (fulfillment : Option Fulfillment) × (fulfillment ≡ failed_in turn) × FulfillmentTold turn fulfillment (filter is_telling turn.effects)

module _ (turn : Turn) (s : State) (call : PendingCall) (whose : IsTicketOf s call.origin call.ticket) (may : IsUngiven s call.origin) (same : SameStage turn.before s call.origin)
    (subject : subject_of turn ≡ Some (call.ticket, call.origin)) where
  gone_failed : (route : Route) → Go s call route (Ok (turn.effects, turn.after)) → IsGoing route → failed_in turn ≡ failed_by route call.origin
  gone_failed route goes is_going =
      let gone = go_done s call route (turn.effects, turn.after) goes is_going whose may in
      let exits : exits_in turn ≡ record { ticket = call.ticket; route = route } ∷ [] = rw (subject) gone.exits in
      ap (λ e. failed_with e (subject_of turn)) exits ∙ ap (λ k. failed_with (record { ticket = call.ticket; route = route } ∷ []) k) subject

  pub go_tells : (route : Route) → Go s call route (Ok (turn.effects, turn.after)) → TellsFailure turn
  go_tells (routes.Deliver k) goes = (None, sym (gone_failed (routes.Deliver k) goes tt), ap (λ d. filter is_telling d.0) (ok_in _ _ goes))
  go_tells (routes.Import i) goes = (None, sym (gone_failed (routes.Import i) goes tt), out_silent s call (targets.ImportedCap i) call.origin (turn.effects, turn.after) goes)
  go_tells (routes.Pipe q path) goes =
      (None, sym (gone_failed (routes.Pipe q path) goes tt), out_silent s call (targets.PromisedAnswer (promised q path)) call.origin (turn.effects, turn.after) goes)
  go_tells (routes.Wait g) goes =
      let is = ok_in _ _ goes in
      let ungiven : given_to turn.after.waiting.over call.origin ≡ None = ap (λ d. given_to d.1.waiting.over call.origin) is ∙ given_none s call.origin may in
      let effects : turn.effects ≡ [] = ap (λ d. d.0) is in
      let exits : exits_in turn ≡ [] = rw (effects, subject) (no_failure call.ticket (given_to turn.after.waiting.over call.origin) ungiven) in
      (None, sym (ap (λ e. failed_with e (subject_of turn)) exits ∙ ap (λ k. failed_with [] k) subject), ap (filter is_telling) effects)
  go_tells (routes.Fail x) goes = (
    Some (record { origin = call.origin; outcome = outcomes.Failed x }),
    sym (gone_failed (routes.Fail x) goes tt),
    give_tells turn s call.origin (outcomes.Failed x) (turn.effects, turn.after) goes same (fails_bear turn s turn.after x),
  )

-- The turn of a waiting call that goes.
same_without : (old : State) (call : WaitingCall) (origin : Origin) → SameStage old (without_call old call) origin
same_without old call (origins.Answer a) = refl
same_without old call (origins.Own q) = refl

pub going_tells : (old : State) (call : WaitingCall) (cap : Cap) (first : List Effect) (mid : State) → Within old None [] → IsNext old call cap
    → GoTo (without_call old call) (underway call) cap (Ok (first, mid)) → TellsItsFulfillment (going old call first mid)
going_tells old call cap first mid within next goes =
    let may = waiting_ungiven old call within next.waits in
    go_tells (going old call first mid) (without_call old call) (underway call) may.0 may.1 (same_without old call call.origin) refl goes.0 goes.2

pub resting_tells : (s : State) → TellsItsFulfillment (resting s)
resting_tells s = (None, refl, refl)

-- An own part that is silent: nothing fails.
pub silent_fails : (event : Event) (value : Value) (old : State) (first : List Effect) (mid : State) → entry_of_event old event value ≡ None → NoneLeaves first
    → failed_in (owning event value old first mid) ≡ None
silent_fails event value old first mid entry quiet =
    let turn = owning event value old first mid in
    let exits : exits_in turn ≡ [] = rw (entry, quiet mid) refl in
    ap (λ e. failed_with e (subject_of turn)) exits ∙ none (subject_of turn)
  where
    none : (k : Option (ℕ × Origin)) → failed_with [] k ≡ None
    none None = refl
    none (Some k) = refl

-- An outcome that the application hands in.
same_itself : (s : State) (origin : Origin) → SameStage s s origin
same_itself s (origins.Answer a) = refl
same_itself s (origins.Own q) = refl

pub given_tells : (turn : Turn) (origin : Origin) (outcome : Outcome) → Give turn.before origin outcome (Ok (turn.effects, turn.after))
    → OriginTold turn origin outcome (filter is_telling turn.effects)
given_tells turn origin outcome gives =
    give_tells turn turn.before origin outcome (turn.effects, turn.after) gives (same_itself turn.before origin)
    (λ said is stay. bears turn turn.before (λ c last comes. comes_leads turn.before.values c last comes) (λ p open_. ap is_settled open_) outcome said is stay)
