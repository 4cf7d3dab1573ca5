use Rattle.std.proofs.Common.{◌≡◌, ◌==◌, false, length, get_or, ◌∙◌}
use Rattle.std.proofs.lemmas.List.Elements.{All-more}
use Rattle.cp_tree.specs.DraftOf.{draft_body_of}
use Rattle.cp_messages.specs.Representable.{IsDescriptor}
use Rattle.cp_messages.specs.Written.{body_written, descriptor_written}
use Rattle.cp_messages.proofs.Adding.{made_more, made_all}
use Rattle.cp_messages.proofs.payload.CapTable.draft.Goals as goal

pub loop-descriptor-preserved : goal.loop-descriptor-preserved
loop-descriptor-preserved c =
    let xs = c.descriptors-descriptors.result.now in
    let i = c.loop-descriptor.descriptor-index in
    let x = c.descriptor-item.result in
    let one : draft_body_of c.in_ok-body.field-0 ≡ body_written (descriptor_written (get_or xs i x)) = rw (← c.descriptor-item.is) c.in_ok-body.ensures.made in
    let held : IsDescriptor (get_or xs i x) = rw (← c.descriptor-item.is) c.in_ok-body.ensures.held in
    record {
      made = made_more descriptor_written xs i x c.loop-descriptor.items.items c.push.new.self.items c.in_ok-body.field-0 c.loop-descriptor-test.true c.loop-descriptor.invariant.made one c.in_ok-push.ensures.items;
      held = All-more IsDescriptor xs i x c.loop-descriptor-test.true c.loop-descriptor.invariant.held held;
    }

pub returns-clause-made : goal.returns-clause-made
returns-clause-made c =
    let some : (length c.descriptors-descriptors.result.now == 0) ≡ false = cc in
    rw (← c.descriptors-descriptors.ensures) (c.list_of.ensures ∙ made_all descriptor_written 1 1 c.descriptors-descriptors.result.now c.loop-descriptor.descriptor-index c.loop-descriptor.items.items some c.loop-descriptor-test.false c.loop-descriptor.invariant.made)
