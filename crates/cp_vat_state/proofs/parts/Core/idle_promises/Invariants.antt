use Rattle.std.proofs.Common.{◌≡◌, ◌++◌, filter, not, map}
use Rattle.cp_vat_machine.specs.InUse.{is_promise_used, idle_promises}
use Rattle.cp_vat_state.specs.StateOf.{state_of}
use Rattle.cp_vat_state.proofs.parts.Core.idle_promises.Given as goal

-- what was found, before what is idle of the rest, is what is idle
abbrev pub invariant-loop-id : goal.invariant-loop-id
invariant-loop-id l = l.idle.items ++ filter (λ p. not (is_promise_used (state_of l.self) p)) (map (λ e. e.0) l.id-iterator) ≡ idle_promises (state_of l.self)
