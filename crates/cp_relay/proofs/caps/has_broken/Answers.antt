use Rattle.std.proofs.Common.{◌≡◌, true, false, refl, sym, ◌∙◌, ap, subst, get_or}
use Rattle.std.specs.Option.{is_some}
use Rattle.std.proofs.lemmas.List.{take_all}
use Rattle.std.proofs.lemmas.List.Folds.{list_any_more, list_any_at}
use Rattle.cp_messages.specs.declared.descriptor.Descriptor.{Descriptor}
use Rattle.cp_messages.specs.declared.descriptor.Descriptor.TheVariants as descriptors
use Rattle.cp_relay.specs.State.{is_broken}
use Rattle.cp_relay.proofs.caps.has_broken.Goals as goal

pub loop-i-preserved : goal.loop-i-preserved
loop-i-preserved c =
    let refused = c.args.refused.now in
    let table = c.args.table.now in
    let i = c.loop-i.i in
    let one = sym (ap is_some c.descriptor_cause.ensures) ∙ sym c.is_some.ensures ∙ c.if-is_some.false in
    let this : is_broken refused (get_or table i descriptors.None) ≡ false = subst (λ (d : Descriptor). is_broken refused d ≡ false) (c.descriptor.ensures descriptors.None) one in
    rw (list_any_more (is_broken refused) table i descriptors.None (rw c.len-i-end.ensures at c.loop-i-test.true), c.loop-i.invariant, this) refl

pub returns-then-is_some : goal.returns-then-is_some
returns-then-is_some c =
    let refused = c.args.refused.now in
    let table = c.args.table.now in
    let i = c.loop-i.i in
    let one = sym (ap is_some c.descriptor_cause.ensures) ∙ sym c.is_some.ensures ∙ c.if-is_some.true in
    let this : is_broken refused (get_or table i descriptors.None) ≡ true = subst (λ (d : Descriptor). is_broken refused d ≡ true) (c.descriptor.ensures descriptors.None) one in
    sym (list_any_at (is_broken refused) table i descriptors.None (rw c.len-i-end.ensures at c.loop-i-test.true) this)

pub returns : goal.returns
returns c = sym (rw (take_all c.loop-i.i c.args.table.now (rw c.len-i-end.ensures at c.loop-i-test.false)) at c.loop-i.invariant)
