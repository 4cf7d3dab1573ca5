-- Promises that are settled, and what is taken back where a table is full.
use Rattle.std.specs.Prelude.{◌≡◌, ℕ, List, [], ◌∷◌, ◌++◌, Option, Some, None, option_to_list, Result, Ok, Err}
use Rattle.std.specs.FinMap.{get, insert}
use Rattle.cp_tables.specs.Table.{Table, with_change}
use Rattle.cp_tables.specs.declared.counted.Counted.{Counted}
use Rattle.cp_tables.specs.declared.exchange.Exchange.{Exchange}
use Rattle.cp_refs.specs.Values.{ValueMaps}
use Rattle.cp_refs.specs.declared.cap.Cap.{Cap}
use Rattle.cp_refs.specs.declared.outcome.Outcome.{Outcome}
use Rattle.cp_vat_machine.specs.Give.{SettleTied, Tells}
use Rattle.cp_vat_machine.specs.State.{State, Over, with_exports}
use Rattle.cp_vat_machine.specs.Receiving.{lowered_by}
use Rattle.cp_vat_machine.specs.Then.{Done}
use Rattle.cp_vat_machine.specs.declared.effect.Effect.{Effect}
use Rattle.cp_vat_machine.specs.declared.entry.AnswerEntry.{AnswerEntry}
use Rattle.cp_vat_machine.specs.declared.entry.Tied.{Tied}
use Rattle.cp_vat_machine.specs.declared.fault.PeerFault.{PeerFault}
use Rattle.cp_vat_state.specs.declared.parts.Core.{Core}
use Rattle.cp_vat_state.specs.declared.step_fault.StepFault.{StepFault}
use Rattle.cp_vat_state.specs.declared.step_fault.StepFault.TheVariants as halts
use Rattle.cp_vat_rules.specs.declared.settle.SettledPromise.{SettledPromise}

-- exports lowered by one for each of these, the last first
abbrev pub lowered_back : Table (Counted Cap) → List ℕ → Table (Counted Cap)
lowered_back exports [] = exports
lowered_back exports (id ∷ ids) = lowered_by (lowered_back exports ids) id 1

-- the exports that the Resolves of settled promises raised
abbrev pub raised_by : List SettledPromise → List ℕ
raised_by [] = []
raised_by (one ∷ more) = option_to_list one.raised ++ raised_by more

-- promises that were settled are open again, the last first
abbrev pub reopened : Table (Option Cap) → List SettledPromise → Table (Option Cap)
reopened promises [] = promises
reopened promises (one ∷ more) = with_change (reopened promises more) one.promise (λ _. None)

-- the gates that ended, with those of settled promises
abbrev pub over_settled : Over → List SettledPromise → Over
over_settled over [] = over
over_settled over (one ∷ more) = over_settled (record over { promises = insert over.promises one.promise one.value }) more

-- the state with these values of promises and these exports, where the gates of settled promises have ended
abbrev pub settling : State → Table (Option Cap) → Table (Counted Cap) → List SettledPromise → State
settling s promises exports settled =
    record s {
      values = record s.values { promises = promises };
      counts = record s.counts { exports = exports };
      waiting = record s.waiting { over = over_settled s.waiting.over settled };
    }

-- what was done, with its effects after those before it, is what the rule says; or it is the fault that was met; where memory ran out anything is
abbrev pub Settles : {A : Type 0} → (Result Done PeerFault → Type 0) → Result A StepFault → List Effect → List Effect → (A → State) → Type 0
Settles Rule (Ok x) before after new = (first : List Effect) × (after ≡ before ++ first) × Rule (Ok (first, new x))
Settles Rule (Err (halts.Fault fault)) before after new = Rule (Err fault)
Settles Rule (Err halts.OutOfMemory) before after new = Unit {0}

-- In any state with these questions promises are settled by a rule: their values and the exports become these, with its effects after those before it. The gates of what it settled are still to be ended.
abbrev pub SettlesBy : {A : Type 0} → (State → Result Done PeerFault → Type 0) → ValueMaps → Table (Counted Cap) → Result A StepFault → List Effect → List Effect → ValueMaps → Table (Counted Cap) → (A → List SettledPromise) → Type 0
SettlesBy Rule old exports result before after new raised settled =
    (s : State) → s.values.questions ≡ old.questions
    → Settles (Rule (settling s old.promises exports [])) result before after (λ x. settling s new.promises raised (settled x))

-- so these promises, which are tied to an answer, by what it was given
abbrev pub SettlesTied : {A : Type 0} → Outcome → List Tied → ValueMaps → Table (Counted Cap) → Result A StepFault → List Effect → List Effect → ValueMaps → Table (Counted Cap) → (A → List SettledPromise) → Type 0
SettlesTied outcome tied = SettlesBy (λ s. SettleTied s outcome tied)

-- the peer is told what a promise came to, if it is exported
abbrev pub TellsOf : ℕ → Cap → Table (Counted Cap) → Result (Option ℕ) StepFault → List Effect → List Effect → Table (Counted Cap) → Type 0
TellsOf promise last old result before after new = (s : State) → Settles (Tells (with_exports s old) promise last) result before after (λ _. with_exports s new)

-- so the promises that are tied to an answer
abbrev pub SettlesTiedTo : {A : Type 0} → Core → ℕ → Outcome → Result A StepFault → List Effect → List Effect → Core → (A → List SettledPromise) → Type 0
SettlesTiedTo old id outcome result before after new settled =
    (entry : Exchange AnswerEntry) → get old.answers id ≡ Some entry
    → SettlesBy (λ s. SettleTied s outcome entry.kept.tied) old.values old.exports result before after new.values new.exports settled

-- no promise is tied to an answer
abbrev pub IsUntied : Core → ℕ → Type 0
IsUntied core id = (entry : Exchange AnswerEntry) → get core.answers id ≡ Some entry → entry.kept.tied ≡ []

-- nothing but promises and exports changed
abbrev pub OnlySettles : Core → Core → Type 0
OnlySettles old new = new ≡ record old { values = record old.values { promises = new.values.promises }; exports = new.exports }
