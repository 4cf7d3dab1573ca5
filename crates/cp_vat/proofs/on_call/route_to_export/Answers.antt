use Rattle.std.proofs.Common.{sym}
use Rattle.cp_vat_state.specs.StateOf.{state_of}
use Rattle.cp_vat.proofs.Ready.{export_ends}
use Rattle.cp_vat.proofs.on_call.route_to_export.Goals as goal

pub route-requires : goal.route-requires
route-requires c = rw c.values.ensures (export_ends (state_of c.args.core.now) c.requires.within.0 c.requires.within.1 c.args.id c.in-Some.export.now (sym c.in-Some.ensures))
