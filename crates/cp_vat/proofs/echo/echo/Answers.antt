use Rattle.cp_rpc.specs.Viewed.{viewed_message}
use Rattle.cp_vat_state.specs.StateOf.{state_of}
use Rattle.cp_vat.proofs.Echoing.{is_too_dear}
use Rattle.cp_vat.proofs.echo.echo.Goals as goal

pub returns-then-is_none : goal.returns-then-is_none
returns-then-is_none g c =
    is_too_dear (state_of c.args.core.now) (viewed_message g.S.Source.seen c.args.message.now) c.charge_message.result c.charge_message.ensures c.if-is_none.ensures
