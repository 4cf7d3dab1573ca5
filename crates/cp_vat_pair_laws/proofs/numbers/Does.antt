-- What the application's calls change of what a vat counts.
use Rattle.std.specs.Prelude.{◌≡◌, ℕ, not, ◌++◌, [], ◌∷◌, Option, Some, None, is_none, Ok}
use Rattle.std.specs.FinMap.{get}
use Rattle.std.proofs.Common.{inl, inr}
use Rattle.cp_tables.specs.Counted.{count_of}
use Rattle.cp_tables.specs.declared.exchange.Exchange.{Exchange}
use Rattle.cp_tables.specs.declared.exchange.Stage.{Stage}
use Rattle.cp_tables.specs.declared.exchange.Stage.TheVariants as stages
use Rattle.cp_refs.specs.declared.cap.Cap.{Cap}
use Rattle.cp_refs.specs.declared.call.Origin.{Origin}
use Rattle.cp_refs.specs.declared.outcome.Outcome.{Outcome}
use Rattle.cp_vat_machine.specs.State.{State, Counts}
use Rattle.cp_vat_machine.specs.Then.{Done, fault_if}
use Rattle.cp_vat_machine.specs.Capacity.{Fresh}
use Rattle.cp_vat_machine.specs.InUse.{is_import_used, is_promise_used, is_question_used, is_own_question, is_unsettled}
use Rattle.cp_vat_machine.specs.Give.{Give, Settle}
use Rattle.cp_vat_machine.specs.Calling.{OwnDone}
use Rattle.cp_vat_machine.specs.Doing.{DoAnswer, DoRelease, DoForget, answer_refusals, resolve_refusals, value_refusals, Resolves, Finishes, FinishBy, without_import, without_promise}
use Rattle.cp_vat_machine.specs.Resolving.{release_of}
use Rattle.cp_vat_machine.specs.Step.{Does}
use Rattle.cp_vat_machine.specs.declared.entry.QuestionEntry.{QuestionEntry}
use Rattle.cp_vat_machine.specs.declared.event.Event.{Event}
use Rattle.cp_vat_machine.specs.declared.event.Event.TheVariants as events
use Rattle.cp_vat_machine.specs.declared.event.Value.TheVariants as values
use Rattle.cp_vat_machine.specs.declared.fault.VatFault.{VatFault}
use Rattle.cp_vat_machine.specs.declared.fault.VatFault.TheVariants as refusals
use Rattle.cp_vat_machine.proofs.Basics.{ok_in, ok_out, then_out, unless_out, or_full_out}
use Rattle.cp_vat_pair_laws.specs.Numbers.{taken_again, taken_first, Changes, unchanged, changed, lowering, RulesChange}
use Rattle.cp_vat_pair_laws.specs.Numbers as numbers
use Rattle.cp_vat_pair_laws.proofs.numbers.Go.{To, settle_to, give_to, call_to}

module _ (start : Counts) where
  -- what the application does
  gives_to : (old : State) (origin : Origin) (outcome : Outcome) (done : OwnDone) → To start old → DoAnswer old origin outcome (Ok done) → To start done.2
  gives_to old origin outcome done to does =
      let gives = or_full_out _ _ (unless_out {A = OwnDone} {F = VatFault} (answer_refusals old origin outcome) _ done does) in
      let parts = then_out {A = Done} {B = OwnDone} (Give old origin outcome) _ done gives in
      rw (ok_in _ _ parts.2) (give_to start old origin outcome parts.0 to parts.1)

  resolves_by : (old : State) (p : ℕ) (cap : Cap) (done : OwnDone) → To start old → Resolves old p cap (Ok done) → To start done.2
  resolves_by old p cap done to (inl h) = ok_out h.1
  resolves_by old p cap done to (inr h) =
      let settles = or_full_out _ _ (unless_out {A = OwnDone} {F = VatFault} (value_refusals old cap) _ done h.1) in
      let parts = then_out {A = Done} {B = OwnDone} (Settle old p cap) _ done settles in
      rw (ok_in _ _ parts.2) (settle_to start old p cap parts.0 to parts.1)

  finish_by : (old : State) (q : ℕ) (kept : QuestionEntry) (stage : Stage) (done : OwnDone) → To start old → FinishBy old q kept stage (Ok done) → To start done.2
  finish_by old q kept stages.Open done to does = rw (ok_in _ _ does) to
  finish_by old q kept stages.Returned done to does = rw (ok_in _ _ does) to
  finish_by old q kept stages.Finished done to does = absurd does

  finishes_to : (old : State) (q : ℕ) (o : Option (Exchange QuestionEntry)) (done : OwnDone) → To start old → Finishes old q o (Ok done) → To start done.2
  finishes_to old q None done to does = absurd does
  finishes_to old q (Some entry) done to does = finish_by old q entry.kept entry.stage done to does

  release_to : (old : State) (i : ℕ) (done : OwnDone) → To start old → DoRelease old i (Ok done) → To start done.2
  release_to old i done to does =
      let is = unless_out {A = OwnDone} {F = VatFault}
      (fault_if (is_import_used old i) refusals.InUse ++ fault_if (is_none (get old.counts.imports i)) refusals.UnknownImport)
      (λ out. out ≡ Ok (values.Nothing, release_of i (count_of old.counts.imports i) ∷ [], without_import old i)) done does in
      rw (ok_in _ _ is) (changed to (numbers.given_back i))

  forget_to : (old : State) (p : ℕ) (done : OwnDone) → To start old → DoForget old p (Ok done) → To start done.2
  forget_to old p done to does =
      let is = unless_out {A = OwnDone} {F = VatFault} (fault_if (is_none (get old.values.promises p)) refusals.UnknownPromise
      ++ fault_if (is_unsettled (get old.values.promises p)) refusals.Unsettled
      ++ fault_if (is_promise_used old p) refusals.InUse) (λ out. out ≡ Ok (values.Nothing, [], without_promise old p)) done does in
      rw (ok_in _ _ is) to

  pub does_to : (old : State) (event : Event) (done : OwnDone) → To start old → Does old event (Ok done) → To start done.2
  does_to old (events.Receive m) done to does = absurd does
  does_to old events.Bootstrap done to does =
      let parts = then_out {A = ℕ} {B = OwnDone} (Fresh old.entries.questions) _ done (or_full_out _ _ does) in
      rw (ok_in _ _ parts.2) to
  does_to old (events.Call cap request) done to does = call_to start old cap request done to does
  does_to old (events.Answer origin outcome) done to does = gives_to old origin outcome done to does
  does_to old events.Promise done to does =
      let parts = then_out {A = ℕ} {B = OwnDone} (Fresh old.values.promises) _ done (or_full_out _ _ does) in
      rw (ok_in _ _ parts.2) to
  does_to old (events.Resolve p cap) done to does =
      resolves_by old p cap done to (unless_out {A = OwnDone} {F = VatFault} (resolve_refusals old p cap) (Resolves old p cap) done does)
  does_to old (events.Finish q) done to does =
      finishes_to old q (get old.entries.questions q) done to
      (unless_out {A = OwnDone} {F = VatFault} (fault_if (not (is_own_question old q)) refusals.UnknownQuestion ++ fault_if (is_question_used old q) refusals.InUse)
      (Finishes old q (get old.entries.questions q)) done does)
  does_to old (events.Release i) done to does = release_to old i done to does
  does_to old (events.Forget p) done to does = forget_to old p done to does
  does_to old events.Idle done to does = rw (ok_in _ _ does) to
