-- What holds of a vat's questions, and of the Resolves on the way, where nothing is finished or released. (rpc.capnp: "Finish", "Resolve".)
use Rattle.std.specs.Prelude.{◌≡◌, ℕ, false, List, [], ◌∷◌, Some, IfSome}
use Rattle.std.specs.List.{AllByRecursion}
use Rattle.std.specs.FinMap.{get}
use Rattle.cp_messages.specs.declared.message.Message.{Message}
use Rattle.cp_messages.specs.declared.message.Message.TheVariants as messages
use Rattle.cp_refs.specs.declared.cap.Cap.{Cap}
use Rattle.cp_refs.specs.declared.cap.Cap.TheVariants as caps
use Rattle.cp_vat_machine.specs.State.{State}
use Rattle.cp_vat_machine.specs.Writing.{IsExport}
use Rattle.cp_vat_machine.specs.Receiving.{times}
use Rattle.cp_vat_pair_laws.specs.Accounts.{is_finish_noted}
use Rattle.cp_vat_pair_laws.specs.Ledger.{named_by}

-- No question was finished before its outcome came, whether its Call was sent or not.
abbrev pub NoneFinished : State → Type 0
NoneFinished s = (q : ℕ) → IfSome (get s.entries.questions q) (λ entry. is_finish_noted entry.stage ≡ false)

-- After the Resolve of an export nothing names that export, nor does the Resolve itself: its promise was settled.
abbrev pub IsLastOf : State → Message → List Message → Type 0
IsLastOf sender (messages.Resolve r) after =
    (p : ℕ) × (value : Cap) × IsExport sender r.promise_id (caps.Promise p) × (get sender.values.promises p ≡ Some (Some value))
    × AllByRecursion (λ m. times r.promise_id (named_by m) ≡ 0) (messages.Resolve r ∷ after)
IsLastOf sender other after = Unit {0}

abbrev pub AreLast : State → List Message → Type 0
AreLast sender [] = Unit {0}
AreLast sender (m ∷ after) = IsLastOf sender m after × AreLast sender after
