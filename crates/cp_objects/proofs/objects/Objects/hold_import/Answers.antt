use Rattle.cp_objects.specs.Objects.{objects_of}
use Rattle.cp_objects.proofs.Answering.{after_ok}
use Rattle.cp_objects.proofs.Needing.{held_once, held_twice}
use Rattle.cp_objects.proofs.objects.Objects.hold_import.Goals as goal

pub returns-then-holds_twice : goal.returns-then-holds_twice
returns-then-holds_twice g c =
    after_ok c.give_up_held.result c.give_up_held.ensures (λ gave.
    held_twice c.args.number c.args.forwarder c.args.import (objects_of c.args.self.now) _ c.in_ok-hand_over.ensures _ c.if-holds_twice.ensures gave)

pub returns : goal.returns
returns g c = held_once c.args.number c.args.forwarder c.args.import (objects_of c.args.self.now) _ c.in_ok-hand_over.ensures c.if-holds_twice.ensures
