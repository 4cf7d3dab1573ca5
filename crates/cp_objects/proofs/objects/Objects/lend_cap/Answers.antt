use Rattle.std.proofs.Common.{refl}
use Rattle.cp_objects.specs.Objects.{objects_of}
use Rattle.cp_objects.proofs.Answering.{after_ok}
use Rattle.cp_objects.proofs.Needing.{is_lent}
use Rattle.cp_objects.proofs.objects.Objects.lend_cap.Goals as goal

pub returns : goal.returns
returns g c =
    after_ok c.lend.result c.lend.ensures (λ lent.
    is_lent c.args.number c.in_ok-forwarder.forwarder c.args.shared (objects_of c.args.self.now) (objects_of c.need_forwarder.new.self) (objects_of c.hold_lent.new.self) _
    c.in_ok-forwarder.ensures.there c.in_ok-forwarder.ensures.number (rw c.cap.ensures at c.in_ok-hold_lent.ensures) (rw (lent, c.in_ok-insert.ensures.put) refl))
