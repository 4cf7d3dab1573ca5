-- What is held by values and outcomes, by calls and by embargoes.
use Rattle.std.specs.Prelude.{◌≡◌, ℕ, ◌+◌, ◌-◌, List, ◌++◌, Option, Some, None, option_to_list}
use Rattle.std.specs.List.{sum_by, flat_map}
use Rattle.std.specs.FinMap.{entries, values}
use Rattle.cp_tables.specs.Table.{Table}
use Rattle.cp_refs.specs.Contents.{call_memory, calls_memory, given_memory, question_memory, value_memory}
use Rattle.cp_refs.specs.Values.{ValueMaps}
use Rattle.cp_refs.specs.declared.cap.Cap.{Cap}
use Rattle.cp_refs.specs.declared.call.WaitingCall.{WaitingCall}
use Rattle.cp_vat_machine.specs.InUse.{caps_given, value_unless}
use Rattle.cp_vat_state.specs.Sought.{awaited_at, named_by}
use Rattle.cp_vat_state.specs.Counts.{number_of, times_named, times_in, IsMore, IsLess, IsSame}
use Rattle.cp_vat_state.specs.declared.sought.Sought.{Sought}
use Rattle.cp_vat_state.specs.declared.sought.Sought.TheVariants as sought
use Rattle.cp_vat_state.specs.declared.holders.Holders.{Holders}
use Rattle.cp_vat_state.specs.declared.kept.KeptContents.{KeptContents}
use Rattle.cp_vat_state.specs.declared.counted_calls.Uses.{Uses}

-- the capabilities that are the value of a promise, or are in what an answer or a question came to
abbrev pub kept_by : ValueMaps → List Cap
kept_by v = flat_map option_to_list (values v.promises) ++ flat_map caps_given (values v.answers) ++ flat_map (λ question. caps_given question.outcome) (values v.questions)

-- the capabilities that are the value of an import, or of an import but this one
abbrev pub import_values : ValueMaps → List Cap
import_values v = flat_map option_to_list (values v.imports)

abbrev pub values_of_others : ValueMaps → ℕ → List Cap
values_of_others v i = flat_map (λ entry. value_unless i entry) (entries v.imports)

-- how often it is held by all entries of a table together, each of which holds it so often
abbrev pub times_held : {X : Type 0} → (X → Sought → ℕ) → Table X → Sought → ℕ
times_held times table s = sum_by (λ x. times x s) (values table)

-- It is counted how often each is the value of a promise or is in what an answer or a question came to, and how often each is the value of an import. So
-- are the bytes of memory that these take.
pub record AreHeld (v : ValueMaps) (kept imported : KeptContents) : Type 0 where
  pub kept_so_often :
      (s : Sought)
      → number_of kept.holders s ≡ times_held (λ value. times_in (option_to_list value)) v.promises s + times_held (λ outcome. times_in (caps_given outcome)) v.answers s + times_held (λ question. times_in (caps_given question.outcome)) v.questions s
  pub imported_so_often : (s : Sought) → number_of imported.holders s ≡ times_held (λ value. times_in (option_to_list value)) v.imports s
  pub kept_bytes : kept.bytes ≡ sum_by value_memory (values v.promises) + sum_by given_memory (values v.answers) + sum_by question_memory (values v.questions)
  pub imported_bytes : imported.bytes ≡ sum_by value_memory (values v.imports)

-- how often an import with this value is its own value
abbrev pub own_uses : Option (Option Cap) → ℕ → ℕ
own_uses None i = 0
own_uses (Some value) i = times_in (option_to_list value) (sought.Import i)

-- It is counted how often each is in calls' tables, how many calls wait for each, and how many bytes of memory the calls take.
pub record AreHeldByCalls (calls : Table WaitingCall) (uses : Uses) : Type 0 where
  pub named : (s : Sought) → number_of uses.named s ≡ times_held (λ call. times_in call.request.caps) calls s
  pub awaited : (s : Sought) → number_of uses.awaited s ≡ times_held (λ call. times_named (awaited_at call.gate)) calls s
  pub bytes : uses.bytes ≡ calls_memory calls

-- what one call holds is counted once more, or once less
pub record IsMoreBy (old new : Uses) (call : WaitingCall) : Type 0 where
  pub named : IsMore old.named new.named (times_in call.request.caps)
  pub awaited : IsMore old.awaited new.awaited (times_named (awaited_at call.gate))
  pub bytes : new.bytes ≡ old.bytes + call_memory call

pub record IsLessBy (old new : Uses) (call : WaitingCall) : Type 0 where
  pub named : IsLess old.named new.named (times_in call.request.caps)
  pub awaited : IsLess old.awaited new.awaited (times_named (awaited_at call.gate))
  pub bytes : new.bytes ≡ old.bytes - call_memory call

pub record IsSameUses (old new : Uses) : Type 0 where
  pub named : IsSame old.named new.named
  pub awaited : IsSame old.awaited new.awaited
  pub bytes : new.bytes ≡ old.bytes

-- it is counted how many embargoes lead to each
abbrev pub AreLedTo : Table Cap → Holders → Type 0
AreLedTo embargoes led_to = (s : Sought) → number_of led_to s ≡ times_held (λ cap. times_named (named_by cap)) embargoes s
