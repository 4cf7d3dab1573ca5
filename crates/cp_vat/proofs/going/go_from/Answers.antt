use Rattle.std.proofs.Common.{ap, ◌∙◌}
use Rattle.cp_vat_machine.specs.Calling.{called}
use Rattle.cp_vat_state.specs.StateOf.{state_of}
use Rattle.cp_vat_rules.specs.Going.{pending_call_of}
use Rattle.cp_vat.specs.Ways.{kind_of}
use Rattle.cp_vat.proofs.Ways.{from_wire}
use Rattle.cp_vat.proofs.going.go_from.Goals as goal

pub returns-in-OnWire-clause-acts : goal.returns-in-OnWire-clause-acts
returns-in-OnWire-clause-acts c old q request is is_call =
    rw c.in-OnWire.is (from_wire old (state_of c.args.core.now) q request (pending_call_of c.args.call) is_call c.args.cap.now _ _ _ _ (is ∙ ap (λ r. called old q (kind_of r)) c.in-OnWire.is) c.go_marked.ensures.acts)

pub returns-in-CameTo-clause-acts : goal.returns-in-CameTo-clause-acts
returns-in-CameTo-clause-acts c old q request is is_call = rw c.in-CameTo.is (c.go_by_value.ensures.acts old q request (is ∙ ap (λ r. called old q (kind_of r)) c.in-CameTo.is) is_call)

pub go_to-requires-clause-ends : goal.go_to-requires-clause-ends
go_to-requires-clause-ends c = rw c.in-Plain.is at c.requires.ends

pub go_marked-requires-clause-ends : goal.go_marked-requires-clause-ends
go_marked-requires-clause-ends c = rw c.in-OnWire.is at c.requires.ends

pub go_by_value-requires-clause-ends : goal.go_by_value-requires-clause-ends
go_by_value-requires-clause-ends c = rw c.in-CameTo.is at c.requires.ends
