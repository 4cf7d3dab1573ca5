use Rattle.std.proofs.Common.{None, sym}
use Rattle.cp_vat_laws.proofs.within.Between.{local_is_within}
use Rattle.cp_vat_state.specs.StateOf.{state_of}
use Rattle.cp_vat.proofs.Ready.{export_ends}
use Rattle.cp_vat.proofs.on_disembargo.echo_export.Goals as goal

pub echo-requires : goal.echo-requires
echo-requires c =
    let s = state_of c.args.core.now in
    export_ends s None (local_is_within s c.requires.local) c.args.id c.in-Some.export.now (sym c.in-Some.ensures)
