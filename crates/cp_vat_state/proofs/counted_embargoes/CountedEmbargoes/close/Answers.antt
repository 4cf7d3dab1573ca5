use Rattle.cp_vat_state.proofs.Keeping.{led-close}
use Rattle.cp_vat_state.proofs.counted_embargoes.CountedEmbargoes.close.Goals as goal

pub invariant_of-self-2 : goal.invariant_of-self-2
invariant_of-self-2 c =
    rw c.in_ok-cap.ensures.closed (led-close c.self.inside.embargoes c.self.inside.led_to c.lower.new.self c.args.id c.in_ok-cap.cap c.self.invariant c.in_ok-cap.ensures.kept (rw c.named_by.ensures at c.lower.ensures))
