use Rattle.std.proofs.Common.{◌∙◌}
use Rattle.cp_vat_state.proofs.Asking.{leads_to_object}
use Rattle.cp_vat_state.proofs.counted_embargoes.CountedEmbargoes.lead_to_object.Goals as goal

pub returns : goal.returns
returns c = rw (← c.self.view_is) (c.has.ensures ∙ leads_to_object c.self.inside.embargoes c.self.inside.led_to c.args.id c.self.invariant)
