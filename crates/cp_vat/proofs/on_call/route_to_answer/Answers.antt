use Rattle.std.proofs.Common.{Some, sym, ap, ◌∙◌}
use Rattle.cp_vat_state.specs.StateOf.{state_of}
use Rattle.cp_vat.proofs.Ready.{given_ends}
use Rattle.cp_vat.proofs.on_call.route_to_answer.Goals as goal

pub route-requires : goal.route-requires
route-requires c =
    rw (c.values.ensures, c.in_ok-cap-in-Some-Some.ensures)
    (given_ends (state_of c.args.core.now) c.requires.within.0 c.requires.within.1 c.args.id c.fields.result.now c.in-Some-Some.outcome (sym c.in-Some-Some.ensures ∙ ap Some c.in-Some-Some.field-0-is))
