use Rattle.std.proofs.Common.{◌≡◌, sym, ◌∙◌, ap, get_or}
use Rattle.cp_messages.specs.declared.descriptor.Descriptor.TheVariants as descriptors
use Rattle.cp_relay.specs.References.{hosted_number, hosted_numbers}
use Rattle.cp_relay.proofs.Hosted.{taken_at, passed_at}
use Rattle.cp_relay.proofs.numbers.Numbers.of_table.Goals.{in-Some+in_ok-push, in_default}
use Rattle.cp_relay.proofs.numbers.Numbers.of_table.Goals as goal

pub loop-i-preserved : goal.loop-i-preserved
loop-i-preserved c =
    let table = c.args.table.now in
    let i = c.loop-i.i in
    let inside = rw c.len-i-end.ensures at c.loop-i-test.true in
    let at : hosted_number (get_or table i descriptors.None) ≡ c.hosted_number.result = sym (ap hosted_number (c.descriptor.ensures descriptors.None)) ∙ sym c.hosted_number.ensures in
    elim c.match-hosted_number.branch [
      | in-Some+in_ok-push w ↦ rw (w.items-is, w.in_ok-push.ensures.items) (taken_at table c.loop-i.items.items (hosted_numbers table) i w.in-Some.id inside (at ∙ w.in-Some.is) c.loop-i.invariant)
      | in_default w ↦ rw w.items-is (passed_at table c.loop-i.items.items (hosted_numbers table) i inside (at ∙ w.in_default.is) c.loop-i.invariant)
    ]
