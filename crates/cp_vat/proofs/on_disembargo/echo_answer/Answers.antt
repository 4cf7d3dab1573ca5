use Rattle.std.proofs.Common.{Some, None, sym, ap, ◌∙◌}
use Rattle.cp_vat_laws.proofs.within.Between.{local_is_within}
use Rattle.cp_vat_state.specs.StateOf.{state_of}
use Rattle.cp_vat.proofs.Ready.{given_ends}
use Rattle.cp_vat.proofs.on_disembargo.echo_answer.Goals as goal

pub echo-requires : goal.echo-requires
echo-requires c =
    let s = state_of c.args.core.now in
    rw c.in_ok-cap-in-Some-Some.ensures
    (given_ends s None (local_is_within s c.requires.local) c.args.id c.fields.result.now c.in-Some-Some.outcome (sym c.in-Some-Some.ensures ∙ ap Some c.in-Some-Some.field-0-is))
