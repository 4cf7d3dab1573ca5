use Rattle.cp_vat_state.proofs.Keeping.{led-open}
use Rattle.cp_vat_state.proofs.counted_embargoes.CountedEmbargoes.open.Goals as goal

pub invariant_of-self-in-Ok : goal.invariant_of-self-in-Ok
invariant_of-self-in-Ok c =
    rw c.in-Ok.ensures.opened (led-open c.self.inside.embargoes c.self.inside.led_to c.raise.new.self c.in-Ok.id c.args.cap c.self.invariant c.in-Ok.ensures.free (rw c.named_by-named.ensures at c.in_ok-raise.ensures.raised))
