use Rattle.std.proofs.Common.{refl, ◌∙◌, map, take, ap}
use Rattle.std.proofs.lemmas.List.{take_more, take_all, map-append}
use Rattle.cp_messages.specs.declared.descriptor.Descriptor.TheVariants as descriptors
use Rattle.cp_relay.specs.State.{without_broken}
use Rattle.cp_relay.proofs.caps.table_without.Goals as goal

pub loop-i-preserved : goal.loop-i-preserved
loop-i-preserved c =
    rw (c.in_ok-push.ensures.items, take_more c.args.table.now c.loop-i.i descriptors.None (rw c.len-count.ensures at c.loop-i-test.true), c.loop-i.invariant, ← c.descriptor.ensures descriptors.None, c.in_ok-without_broken.ensures, map-append (without_broken c.args.refused.now) (take c.loop-i.i c.args.table.now) _) refl

pub descriptor-requires : goal.descriptor-requires
descriptor-requires c = rw (← c.len-count.ensures) c.loop-i-test.true

pub returns : goal.returns
returns c = c.new.ensures ∙ c.loop-i.invariant ∙ ap (map (without_broken c.args.refused.now)) (take_all c.loop-i.i c.args.table.now (rw c.len-count.ensures at c.loop-i-test.false))
