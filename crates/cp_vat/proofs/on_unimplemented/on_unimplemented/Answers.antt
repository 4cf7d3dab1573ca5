use Rattle.cp_vat_state.specs.StateOf.{state_of}
use Rattle.cp_vat.proofs.Telling.{none_told}
use Rattle.cp_vat.proofs.on_unimplemented.on_unimplemented.Goals as goal

pub returns-in-Err : goal.returns-in-Err
returns-in-Err g c = none_told (state_of c.args.core.now) (g.S.Source.seen c.args.tree.now) _ c.in-Err.ensures.fault
