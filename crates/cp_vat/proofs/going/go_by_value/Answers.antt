use Rattle.std.proofs.Common.{subst}
use Rattle.cp_vat_machine.specs.Calling.{GoByValue, called}
use Rattle.cp_vat_machine.specs.Go.{GoTo}
use Rattle.cp_vat_state.specs.StateOf.{state_of}
use Rattle.cp_vat_rules.specs.Going.{pending_call_of}
use Rattle.cp_vat.specs.Ways.{value_kind}
use Rattle.cp_vat.proofs.Acting.{acts_by}
use Rattle.cp_vat.proofs.Ways.{other_goes}
use Rattle.cp_vat.proofs.going.go_by_value.Goals as goal

pub returns-in_default-clause-acts : goal.returns-in_default-clause-acts
returns-in_default-clause-acts c old q request is is_call =
    acts_by (GoTo (state_of c.args.core.now) (pending_call_of c.args.call) c.args.value) (GoByValue old q request c.args.cap.now c.args.value) c.go_to.result _ _ _
    (λ out went. other_goes old q request c.args.cap.now c.args.value out c.in_default.not-Import c.in_default.not-Object c.in_default.not-Promise
    (subst (λ u. GoTo (called old q (value_kind c.args.value)) u c.args.value out) is_call (subst (λ s. GoTo s (pending_call_of c.args.call) c.args.value out) is went)))
    c.go_to.ensures.acts
