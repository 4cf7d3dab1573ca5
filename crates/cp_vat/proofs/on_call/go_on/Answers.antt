use Rattle.cp_vat_state.specs.StateOf.{state_of}
use Rattle.cp_vat.specs.Arriving.{bearing}
use Rattle.cp_vat.proofs.Entering.{goes_carrying}
use Rattle.cp_vat.proofs.Ready.{may_go_carrying}
use Rattle.cp_vat.proofs.on_call.go_on.Goals as goal

pub go-requires : goal.go-requires
go-requires g c = may_go_carrying (state_of c.args.core.now) (bearing c.args.call.now c.args.arrival (g.S.Source.seen c.args.content.now)) c.in_ok-content.content c.requires

pub returns : goal.returns
returns g c =
    goes_carrying (state_of c.args.core.now) (bearing c.args.call.now c.args.arrival (g.S.Source.seen c.args.content.now)) c.in_ok-content.content c.args.arrival.route _ _ _ _
    c.in_ok-content.ensures c.go.ensures.acts
