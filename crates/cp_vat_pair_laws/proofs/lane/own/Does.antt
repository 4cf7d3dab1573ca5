-- What the application does at its own end, but for its calls, keeps each lane.
use Rattle.std.specs.Prelude.{◌≡◌, refl, ℕ, Bool, true, false, List, [], ◌∷◌, ◌++◌, Option, Some, None, IsTrue, Result, Ok}
use Rattle.std.specs.Ordering.{nat_cmp}
use Rattle.std.specs.FinMap.{get, get-empty}
use Rattle.std.proofs.Common.{inl, inr, arith, ap, sym, ◌∙◌, append-nil, true≢false}
use Rattle.cp_tables.specs.declared.exchange.Exchange.{Exchange}
use Rattle.cp_tables.specs.declared.exchange.Stage.{Stage}
use Rattle.cp_tables.specs.declared.exchange.Stage.TheVariants as stages
use Rattle.cp_messages.specs.declared.message.Message.{Message}
use Rattle.cp_refs.specs.declared.cap.Cap.{Cap}
use Rattle.cp_refs.specs.declared.call.Origin.{Origin}
use Rattle.cp_refs.specs.declared.call.Origin.TheVariants as origins
use Rattle.cp_refs.specs.declared.outcome.Outcome.{Outcome}
use Rattle.cp_refs.specs.declared.values.QuestionState.{QuestionState}
use Rattle.cp_refs.specs.declared.values.QuestionKind.{QuestionKind}
use Rattle.cp_refs.specs.declared.values.QuestionKind.TheVariants as kinds
use Rattle.cp_vat_machine.specs.State.{State, none_over}
use Rattle.cp_vat_machine.specs.Then.{Done, OrFull}
use Rattle.cp_vat_machine.specs.Capacity.{Fresh}
use Rattle.cp_vat_machine.specs.Writing.{IsExport}
use Rattle.cp_vat_machine.specs.Give.{Give, GiveOwnBy, Settle, question_settled}
use Rattle.cp_vat_machine.specs.Calling.{OwnDone}
use Rattle.cp_vat_machine.specs.Doing.{Quietly, DoAnswer, DoPromise, DoResolve, answer_refusals, resolve_refusals, value_refusals, Resolves, awaits, is_ungiven, is_ungiven_question, promise_made}
use Rattle.cp_vat_machine.specs.Local.{Local, is_open_stage, one_if, IsOpenIf, is_wire_kind}
use Rattle.cp_vat_machine.specs.Step.{Does}
use Rattle.cp_vat_machine.specs.declared.effect.Effect.{Effect}
use Rattle.cp_vat_machine.specs.declared.effect.Effect.TheVariants as effects
use Rattle.cp_vat_machine.specs.declared.entry.QuestionEntry.{QuestionEntry}
use Rattle.cp_vat_machine.specs.declared.event.Event.TheVariants as events
use Rattle.cp_vat_machine.specs.declared.fault.VatFault.{VatFault}
use Rattle.cp_vat_machine.proofs.Basics.{ok_in, ok_out, then_out, unless_out, or_full_out}
use Rattle.cp_vat_laws.specs.Within.{Within, HasQuestionPlace}
use Rattle.cp_vat_laws.proofs.Tables.{there_of, no_faults}
use Rattle.cp_vat_laws.proofs.within.Between.{local_is_within}
use Rattle.cp_vat_laws.proofs.within.GiveOwn.{its_question}
use Rattle.cp_vat_pair_laws.specs.Accounts.{is_finish_noted}
use Rattle.cp_vat_pair_laws.specs.VatPair.{End, messages_sent, with_mail}
use Rattle.cp_vat_pair_laws.specs.Lane.{Reference, Delivery}
use Rattle.cp_vat_pair_laws.specs.Phases.{LaneHolds}
use Rattle.cp_vat_pair_laws.specs.Places.{NoneFinished}
use Rattle.cp_vat_pair_laws.proofs.still.Go.{tied_open}
use Rattle.cp_vat_pair_laws.proofs.still.Does.{awaited, awaited_may, does_moved}
use Rattle.cp_vat_pair_laws.proofs.lane.parts.Silent.{Silent, silent_none, bearing_same, settle_silent, answer_silent, own_silent}
use Rattle.cp_vat_pair_laws.proofs.lane.parts.Calm.{Calm, calm_none, none_open_over, settle_calm, answer_calm}
use Rattle.cp_vat_pair_laws.proofs.lane.own.Reference.{ref_calm}
use Rattle.cp_vat_pair_laws.proofs.lane.own.Turn.{lane_delivered}
use Rattle.cp_vat_pair_laws.proofs.lane.own.NoCallMoves.{silent_lane, given_lane}

-- Between events no gate is over.
no_answer_over : (s : State) (a : ℕ) → s.waiting.over ≡ none_over → get s.waiting.over.answers a ≡ None
no_answer_over s a still = ap (λ o. get o.answers a) still ∙ get-empty {X = Outcome} nat_cmp a

no_promise_over : (s : State) (p : ℕ) → s.waiting.over ≡ none_over → get s.waiting.over.promises p ≡ None
no_promise_over s p still = ap (λ o. get o.promises p) still ∙ get-empty {X = Cap} nat_cmp p

no_question_over : (s : State) (q : ℕ) → s.waiting.over ≡ none_over → get s.waiting.over.questions q ≡ None
no_question_over s q still = ap (λ o. get o.questions q) still ∙ get-empty {X = Outcome} nat_cmp q

-- a question whose call was delivered here forwards nothing
module _ {s : State} (h : Within s None []) (q : ℕ) where
  delivered_parts : (is_delivered : Bool) (stage : Stage) → is_ungiven is_delivered stage ≡ true → IsTrue (is_open_stage stage) × (is_delivered ≡ true)
  delivered_parts is_delivered stages.Open e = (refl, e)
  delivered_parts is_delivered stages.Finished e = (refl, e)
  delivered_parts is_delivered stages.Returned e = absurd (true≢false (sym e))

  forwards_none : (entry : Exchange QuestionEntry) → get s.entries.questions q ≡ Some entry → is_ungiven entry.kept.is_delivered entry.stage ≡ true → entry.kept.forwards ≡ None
  forwards_none entry was is =
      let parts = delivered_parts entry.kept.is_delivered entry.stage is in
      let place = there_of (HasQuestionPlace s None q) (get s.entries.questions q) entry was (h.questions q) parts.0 in
      let one : ◌≡◌ {A = ℕ} (one_if entry.kept.is_delivered) 1 = rw (parts.1) refl in
      let unsent : ◌≡◌ {A = ℕ} (one_if entry.kept.is_sent) 0 = omega (arith, place, one) in
      by entry.kept.forwards unsent (there_of (λ (e : Exchange QuestionEntry). IsOpenIf e.kept.forwards e) (get s.entries.questions q) entry was (h.forwarding q))
    where
      never : ◌≡◌ {A = ℕ} 1 0 → ⊥
      never e = omega (arith, e)

      by : (o : Option ℕ) → one_if entry.kept.is_sent ≡ 0 → IsOpenIf o entry → o ≡ None
      by None unsent open_if = refl
      by (Some a) unsent open_if = absurd (never (rw open_if.1 at unsent))

  its_entry : (o : Option (Exchange QuestionEntry)) → get s.entries.questions q ≡ o → is_ungiven_question o ≡ true
      → (entry : Exchange QuestionEntry) × (get s.entries.questions q ≡ Some entry) × (is_ungiven entry.kept.is_delivered entry.stage ≡ true)
  its_entry None was is = absurd (true≢false (sym is))
  its_entry (Some entry) was is = (entry, was, is)

  asked_here : awaits s (origins.Own q) ≡ true → (question : QuestionState) × (get s.values.questions q ≡ Some question)
  asked_here is =
      let found = its_entry (get s.entries.questions q) refl is in
      its_question found.0.kept.forwards found.0.stage (get s.values.questions q) (forwards_none found.0 found.1 found.2) (rw found.1 at (h.questions_valued q))

local_kind : (kind : QuestionKind) → is_wire_kind kind ≡ false → kind ≡ kinds.Local
local_kind kinds.Wire is = absurd (true≢false is)
local_kind kinds.Local is = refl

module _ (s : State) (inbox : List Message) (there : End) (ref : Reference) (made : List ℕ) (delivered : List Delivery) (local_ : Local s) (none : NoneFinished s) where
  abbrev here : End
  here = record { vat = s; inbox = inbox }

  h : Within s None []
  h = local_is_within s local_

  abbrev LaneThen : List Effect → State → Type 0
  LaneThen done new = LaneHolds (record { vat = new; inbox = inbox }) (with_mail there (messages_sent done)) ref made (delivered ++ lane_delivered s there.vat made done)

  calm_then : (done : List Effect) (new : State) → Silent s done new → Calm s done new → ((e : ℕ) (cap : Cap) → IsExport s e cap → IsExport new e cap)
      → LaneHolds here there ref made delivered → LaneThen done new
  calm_then done new silent calm exports holds = silent_lane here there ref made new inbox done silent (ref_calm ref calm) exports (inl refl) delivered holds

  -- an outcome that it gives
  own_then : (q : ℕ) (outcome : Outcome) (entry : Exchange QuestionEntry) (stage : Stage) (done : Done) → awaits s (origins.Own q) ≡ true → get s.entries.questions q ≡ Some entry
      → entry.stage ≡ stage → Silent s done.0 done.1 → GiveOwnBy s q outcome stage (Ok done) → LaneHolds here there ref made delivered → LaneThen done.0 done.1
  own_then q outcome entry stages.Open done is was at silent gives holds =
      let same = ok_in _ _ gives in
      let its = asked_here h q is in
      let may = awaited_may h (origins.Own q) is its.0 its.1 in
      let silent_now : Silent s (effects.Settled q outcome ∷ []) (question_settled s q outcome) = rw same at silent in
      rw
      (same, append-nil delivered)
      (given_lane here there q outcome its.0 its.1 (local_kind its.0.kind may.1) may.0 (no_question_over s q local_.none_over_) h silent_now ref made delivered holds)
  own_then q outcome entry stages.Finished done is was at silent gives holds =
      let not_ = there_of (λ (e : Exchange QuestionEntry). is_finish_noted e.stage ≡ false) (get s.entries.questions q) entry was (none q) in
      absurd (true≢false (sym (ap is_finish_noted at) ∙ not_))
  own_then q outcome entry stages.Returned done is was at silent gives holds = absurd gives

  give_then : (origin : Origin) (outcome : Outcome) (done : Done) → awaits s origin ≡ true → ((e : ℕ) (cap : Cap) → IsExport s e cap → IsExport done.1 e cap)
      → Give s origin outcome (Ok done) → LaneHolds here there ref made delivered → LaneThen done.0 done.1
  give_then (origins.Answer a) outcome done is exports gives holds =
      calm_then done.0 done.1 (answer_silent s a outcome done gives)
      (answer_calm s a outcome done (none_open_over h) (no_answer_over s a local_.none_over_) (λ entry at. tied_open h a entry at) gives) exports holds
  give_then (origins.Own q) outcome done is exports gives holds =
      own_then q outcome gives.0 gives.0.stage done is gives.1 refl (own_silent s q outcome done none gives) gives.2 holds

  answer_lane : (origin : Origin) (outcome : Outcome) (done : OwnDone) → ((e : ℕ) (cap : Cap) → IsExport s e cap → IsExport done.2 e cap)
      → DoAnswer s origin outcome (Ok done) → LaneHolds here there ref made delivered → LaneThen done.1 done.2
  answer_lane origin outcome done exports does holds =
      let Rule : Result OwnDone VatFault → Type 0 = OrFull (Quietly (Give s origin outcome)) in
      let rule = or_full_out (Quietly (Give s origin outcome)) done (unless_out {A = OwnDone} {F = VatFault} (answer_refusals s origin outcome) Rule done does) in
      let faults_none = no_faults {A = OwnDone} {F = VatFault} (answer_refusals s origin outcome) Rule done does in
      let parts = then_out {A = Done} {B = OwnDone} (Give s origin outcome) _ done rule in
      let same = ok_in _ _ parts.2 in
      let exports_then : (e : ℕ) (cap : Cap) → IsExport s e cap → IsExport parts.0.1 e cap = rw same at exports in
      rw (same) (give_then origin outcome parts.0 (awaited h origin outcome faults_none) exports_then parts.1 holds)

  -- a promise that it settles
  resolves_lane : (p : ℕ) (cap : Cap) (done : OwnDone) → ((e : ℕ) (c : Cap) → IsExport s e c → IsExport done.2 e c) → Resolves s p cap (Ok done)
      → LaneHolds here there ref made delivered → LaneThen done.1 done.2
  resolves_lane p cap done exports (inl cycle) holds = ok_out cycle.1
  resolves_lane p cap done exports (inr does) holds =
      let Rule : Result OwnDone VatFault → Type 0 = OrFull (Quietly (Settle s p cap)) in
      let rule = or_full_out (Quietly (Settle s p cap)) done (unless_out {A = OwnDone} {F = VatFault} (value_refusals s cap) Rule done does.1) in
      let parts = then_out {A = Done} {B = OwnDone} (Settle s p cap) _ done rule in
      let same = ok_in _ _ parts.2 in
      let exports_then : (e : ℕ) (c : Cap) → IsExport s e c → IsExport parts.0.1 e c = rw same at exports in
      rw
      (same)
      (calm_then parts.0.0 parts.0.1 (settle_silent s p cap parts.0 parts.1) (settle_calm s p cap parts.0 (no_promise_over s p local_.none_over_) parts.1) exports_then holds)

  -- a promise that it makes
  made_calm : (p : ℕ) → Calm s [] (promise_made s p)
  made_calm p = record { imports = refl; questions = refl; marks = refl; gave_ = λ gate cap is. is; no_open = λ q is. refl; no_loop = λ n. refl }

  made_silent : (p : ℕ) → Silent s [] (promise_made s p)
  made_silent p = record { calls = refl; bearing = bearing_same s (promise_made s p) refl; no_call = refl; no_delivery = refl }

  pub answers_lane : (origin : Origin) (outcome : Outcome) (done : OwnDone) → DoAnswer s origin outcome (Ok done) → LaneHolds here there ref made delivered
      → LaneThen done.1 done.2
  answers_lane origin outcome done does holds =
      answer_lane origin outcome done (does_moved s (events.Answer origin outcome) done h tt does).exports does holds

  pub promises_lane : (done : OwnDone) → DoPromise s (Ok done) → LaneHolds here there ref made delivered → LaneThen done.1 done.2
  promises_lane done does holds =
      let parts = then_out {A = ℕ} {B = OwnDone} (Fresh s.values.promises) _ done (or_full_out _ _ does) in
      rw (ok_in _ _ parts.2) (calm_then [] (promise_made s parts.0) (made_silent parts.0) (made_calm parts.0) (λ e cap is. is) holds)

  pub resolve_lane : (p : ℕ) (cap : Cap) (done : OwnDone) → DoResolve s p cap (Ok done) → LaneHolds here there ref made delivered → LaneThen done.1 done.2
  resolve_lane p cap done does holds =
      resolves_lane p cap done (does_moved s (events.Resolve p cap) done h tt does).exports
      (unless_out {A = OwnDone} {F = VatFault} (resolve_refusals s p cap) (Resolves s p cap) done does) holds

  pub idle_lane : (done : OwnDone) → Does s events.Idle (Ok done) → LaneHolds here there ref made delivered → LaneThen done.1 done.2
  idle_lane done does holds = rw (ok_in _ _ does) (calm_then [] s (silent_none s) (calm_none s) (λ e cap is. is) holds)
