-- What one call that goes sends, delivers or leaves waiting.
use Rattle.std.specs.Prelude.{◌≡◌, refl, ℕ, ◌==◌, ◌<◌, true, false, List, [], ◌∷◌, Some, None, Ok}
use Rattle.std.specs.List.{list_any, AllByRecursion}
use Rattle.std.specs.FinMap.{get, insert}
use Rattle.std.proofs.Common.{ap, sym, ◌∙◌, true≢false}
use Rattle.cp_tables.specs.Exchange.{new_exchange}
use Rattle.cp_tables.specs.declared.exchange.Exchange.{Exchange}
use Rattle.cp_tables.specs.declared.exchange.Stage.{Stage}
use Rattle.cp_tables.specs.declared.exchange.Stage.TheVariants as stages
use Rattle.cp_messages.specs.declared.descriptor.Descriptor.{Descriptor}
use Rattle.cp_messages.specs.declared.target.Target.{Target}
use Rattle.cp_messages.specs.declared.target.Target.TheVariants as targets
use Rattle.cp_refs.specs.declared.call.Origin.{Origin}
use Rattle.cp_refs.specs.declared.call.Origin.TheVariants as origins
use Rattle.cp_refs.specs.declared.cap.Cap.{Cap}
use Rattle.cp_refs.specs.declared.outcome.Outcome.TheVariants as outcomes
use Rattle.cp_refs.specs.declared.route.Gate.{Gate}
use Rattle.cp_refs.specs.declared.route.Route.{Route}
use Rattle.cp_refs.specs.declared.route.Route.TheVariants as routes
use Rattle.cp_vat_machine.specs.State.{State, with_exports, with_questions}
use Rattle.cp_vat_machine.specs.Then.{Done}
use Rattle.cp_vat_machine.specs.Capacity.{Fresh}
use Rattle.cp_vat_machine.specs.Writing.{WritesDescriptors, promised, mentions_of}
use Rattle.cp_vat_machine.specs.Go.{PendingCall, held_at, call_of, forwarding, sent, finish_after, GoOut, Go, GoTo}
use Rattle.cp_vat_machine.specs.declared.effect.Effect.{Effect}
use Rattle.cp_vat_machine.specs.declared.effect.Effect.TheVariants as effects
use Rattle.cp_vat_machine.specs.declared.entry.QuestionEntry.{QuestionEntry}
use Rattle.cp_vat_machine.proofs.Basics.{ok_in, then_out, is_itself, put_at, or_first, or_second}
use Rattle.cp_vat_laws.proofs.Tables.{there_of}
use Rattle.cp_vat_pair_laws.specs.Accounts.{is_finish_noted}
use Rattle.cp_vat_pair_laws.specs.Lane.{own_ticket, answer_forwarded}
use Rattle.cp_vat_pair_laws.specs.Places.{NoneFinished}
use Rattle.cp_vat_pair_laws.proofs.counts.rules.Accounts.{free_out}
use Rattle.cp_vat_pair_laws.proofs.counts.rules.Say.{said_all}
use Rattle.cp_vat_pair_laws.proofs.lane.parts.Silent.{is_delivery, SameBearing, bearing_same, bearing_both, bearing_changed, Silent, give_silent, delivered_silent}

-- A Call under this question is sent for a call of this origin: an own one under its own question, one of the peer's under a new one that gives its answer.
abbrev pub SentFor : Origin → State → ℕ → State → Type 0
SentFor (origins.Own p) old q new = (q ≡ p) × SameBearing old new
SentFor (origins.Answer a) old q new =
    (get old.entries.questions q ≡ None) × (own_ticket (get new.entries.questions q) ≡ []) × (answer_forwarded (get new.entries.questions q) ≡ a ∷ [])
    × ((r : ℕ) → (q == r) ≡ false → get new.entries.questions r ≡ get old.entries.questions r)

-- A call fails, is delivered, waits, or is sent.
pub data Went (call : PendingCall) (old : State) : List Effect → State → Type 0 where
  failed_ : {done : List Effect} {new : State} → Silent old done new → Went call old done new
  delivered_ : {new : State} {done : List Effect} (k : ℕ) → done ≡ effects.Deliver k call.origin call.ticket call.request ∷ [] → Silent old [] new → Went call old done new
  waits_ : {new : State} {done : List Effect} (gate : Gate) → done ≡ [] → new ≡ held_at old call gate → Went call old done new
  sent_ : {new : State} {done : List Effect} (q : ℕ) (target : Target) (table : List Descriptor) → done ≡ call_of q target call.request table ∷ []
      → new.waiting.calls ≡ old.waiting.calls → SentFor call.origin old q new → Went call old done new

pub no_finish : (s : State) (q : ℕ) (entry : Exchange QuestionEntry) (stage : Stage) → NoneFinished s → get s.entries.questions q ≡ Some entry → entry.stage ≡ stage
    → finish_after q stage ≡ []
no_finish s q entry stages.Open none is at = refl
no_finish s q entry stages.Returned none is at = refl
no_finish s q entry stages.Finished none is at =
    let not_ = there_of (λ (x : Exchange QuestionEntry). is_finish_noted x.stage ≡ false) (get s.entries.questions q) entry is (none q) in
    absurd (true≢false (sym (ap is_finish_noted at) ∙ not_))

forwarding_opened : (s mid : State) (q a : ℕ) (call : PendingCall) (table : List Descriptor) → mid ≡ with_exports s mid.counts.exports → get s.entries.questions q ≡ None
    → SentFor (origins.Answer a) s q (with_questions mid (insert mid.entries.questions q (new_exchange (forwarding a call table))))
forwarding_opened s mid q a call table only fresh =
    let here = put_at mid.entries.questions q q (new_exchange (forwarding a call table)) true (is_itself q) in (
      fresh,
      ap own_ticket here,
      ap answer_forwarded here,
      λ r other. put_at mid.entries.questions q r (new_exchange (forwarding a call table)) false other ∙ ap (λ x. get x.entries.questions r) only,
    )

pub out_went : (old : State) (call : PendingCall) (target : Target) (origin : Origin) (done : Done) → NoneFinished old → call.origin ≡ origin
    → GoOut old call target origin (Ok done) → Went call old done.0 done.1
out_went old call target (origins.Answer a) done none is goes =
    let fresh = then_out {A = ℕ} {B = Done} (Fresh old.entries.questions) _ done goes in
    let parts = then_out {A = List Descriptor × State} {B = Done} (WritesDescriptors old call.request.caps) _ done fresh.2 in
    let only = (said_all call.request.caps old parts.0 parts.1).only in
    let mid : State = parts.0.1 in
    let new : State = with_questions mid (insert mid.entries.questions fresh.0 (new_exchange (forwarding a call parts.0.0))) in
    let opened : SentFor call.origin old fresh.0 new =
    rw (is) (forwarding_opened old mid fresh.0 a call parts.0.0 only (free_out old.entries.questions fresh.0 fresh.1)) in
    rw (ok_in _ _ parts.2) (sent_ {new = new} fresh.0 target parts.0.0 refl (ap (λ s. s.waiting.calls) only) opened)
out_went old call target (origins.Own q) done none is goes =
    let parts = then_out {A = List Descriptor × State} {B = Done} (WritesDescriptors old call.request.caps) _ done goes.2 in
    let mid : State = parts.0.1 in
    let only = (said_all call.request.caps old parts.0 parts.1).only in
    let same = bearing_both old mid (sent mid q parts.0.0) (bearing_same old mid (ap (λ s. s.entries.questions) only))
    (bearing_changed (λ x. record x { kept = record x.kept { is_sent = true; mentions = mentions_of parts.0.0 } }) (λ x. (refl, refl)) mid (sent mid q parts.0.0) q refl) in
    let none_after = no_finish old q goes.0 goes.0.stage none goes.1 refl in
    let new : State = sent mid q parts.0.0 in
    let for_ : SentFor call.origin old q new = rw (is) (refl, same) in
    rw
    (ok_in _ _ parts.2)
    (sent_ {new = new} q target parts.0.0 (ap (λ more. call_of q target call.request parts.0.0 ∷ more) none_after) (ap (λ s. s.waiting.calls) only) for_)

pub go_went : (old : State) (call : PendingCall) (route : Route) (done : Done) → NoneFinished old → Go old call route (Ok done) → Went call old done.0 done.1
go_went old call (routes.Deliver k) done none goes = rw (ok_in _ _ goes) (delivered_ k refl (delivered_silent old call.origin))
go_went old call (routes.Import i) done none goes = out_went old call (targets.ImportedCap i) call.origin done none refl goes
go_went old call (routes.Pipe q path) done none goes = out_went old call (targets.PromisedAnswer (promised q path)) call.origin done none refl goes
go_went old call (routes.Wait gate) done none goes = rw (ok_in _ _ goes) (waits_ gate refl refl)
go_went old call (routes.Fail x) done none goes = failed_ (give_silent old call.origin (outcomes.Failed x) done none goes)

pub goes_went : (old : State) (call : PendingCall) (cap : Cap) (done : Done) → NoneFinished old → GoTo old call cap (Ok done) → Went call old done.0 done.1
goes_went old call cap done none goes = go_went old call goes.0 done none goes.2

-- The tickets of own calls that are delivered are below a number.
abbrev pub IsBelow : ℕ → Origin → ℕ → Type 0
IsBelow n (origins.Own q) ticket = ticket < n
IsBelow n (origins.Answer a) ticket = Unit {0}

abbrev pub DeliversBelow : ℕ → Effect → Type 0
DeliversBelow n (effects.Deliver object origin ticket call) = IsBelow n origin ticket
DeliversBelow n other = Unit {0}

pub none_below : (n : ℕ) (done : List Effect) → list_any is_delivery done ≡ false → AllByRecursion (DeliversBelow n) done
none_below n [] none = tt
none_below n (effect ∷ more) none = (by effect (or_first (is_delivery effect) (list_any is_delivery more) none), none_below n more (or_second (is_delivery effect) (list_any is_delivery more) none))
  where
    by : (e : Effect) → is_delivery e ≡ false → DeliversBelow n e
    by (effects.Deliver object origin ticket call) not_ = absurd (true≢false not_)
    by e not_ = tt

pub went_below : {call : PendingCall} {old new : State} {done : List Effect} (n : ℕ) → IsBelow n call.origin call.ticket → Went call old done new
    → AllByRecursion (DeliversBelow n) done
went_below {done = done} n below (failed_ silent) = none_below n done silent.no_delivery
went_below n below (delivered_ k is silent) = rw (is) (below, tt)
went_below n below (waits_ gate is new) = rw (is) tt
went_below n below (sent_ q target table is calls for) = rw (is) (tt, tt)
