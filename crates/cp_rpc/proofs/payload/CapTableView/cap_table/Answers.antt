use Rattle.std.proofs.Common.{refl, ◌∙◌}
use Rattle.std.proofs.lemmas.List.{take_more, take_all}
use Rattle.cp_messages.specs.declared.descriptor.Descriptor.TheVariants as descriptors
use Rattle.cp_rpc.proofs.payload.CapTableView.cap_table.Goals as goal

pub loop-i-preserved : goal.loop-i-preserved
loop-i-preserved g c =
    rw (c.in_ok-push.ensures.items, take_more c.args.self.now c.loop-i.i descriptors.None (rw c.len-count.ensures at c.loop-i-test.true), c.loop-i.invariant, ← c.descriptor.ensures descriptors.None, c.in_ok-descriptor.ensures) refl

pub descriptor-requires : goal.descriptor-requires
descriptor-requires g c = rw (← c.len-count.ensures) c.loop-i-test.true

pub returns : goal.returns
returns g c = c.new.ensures ∙ c.loop-i.invariant ∙ take_all c.loop-i.i c.args.self.now (rw c.len-count.ensures at c.loop-i-test.false)
