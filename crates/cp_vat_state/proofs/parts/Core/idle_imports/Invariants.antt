use Rattle.std.proofs.Common.{◌≡◌, ◌++◌, filter, not}
use Rattle.cp_vat_machine.specs.InUse.{is_import_used, idle_imports}
use Rattle.cp_vat_state.specs.StateOf.{state_of}
use Rattle.cp_vat_state.proofs.parts.Core.idle_imports.Given as goal

-- what was found, before what is idle of the rest, is what is idle
abbrev pub invariant-loop-id : goal.invariant-loop-id
invariant-loop-id l = l.idle.items ++ filter (λ i. not (is_import_used (state_of l.self) i)) l.id-iterator ≡ idle_imports (state_of l.self)
