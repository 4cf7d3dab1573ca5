use Rattle.cp_vat_state.proofs.Asking.{is_value_of_another}
use Rattle.cp_vat_state.proofs.resolutions.Resolutions.is_value_of_another.Goals as goal

pub returns : goal.returns
returns c = rw (← c.self.view_is, c.own_uses.ensures, c.number.ensures) (is_value_of_another c.self.inside.values c.self.inside.kept c.self.inside.imported c.args.id c.self.invariant.0)
