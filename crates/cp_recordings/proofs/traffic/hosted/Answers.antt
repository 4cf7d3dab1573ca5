use Rattle.std.proofs.Common.{◌∙◌, ◌++◌, ap, sym, take, append-nil}
use Rattle.std.specs.Option.{option_to_list}
use Rattle.std.proofs.lemmas.List.{take_all, take_more}
use Rattle.std.proofs.lemmas.List.Concat.{flat_map-append}
use Rattle.cp_messages.specs.declared.descriptor.Descriptor.TheVariants as descriptors
use Rattle.cp_recordings.specs.Traffic.{hosted, hosted_id}
use Rattle.cp_recordings.proofs.traffic.hosted.Goals as goal

pub loop-i-preserved : goal.loop-i-preserved
loop-i-preserved c =
    rw (c.in_ok-add.ensures, c.hosted_id.ensures, c.loop-i.invariant, take_more c.args.table.now c.loop-i.i descriptors.None (rw c.len-i-end.ensures at c.loop-i-test.true), flat_map-append (λ d. option_to_list (hosted_id d)) (take c.loop-i.i c.args.table.now) _, ← c.descriptor.ensures descriptors.None) (ap (λ ids. hosted (take c.loop-i.i c.args.table.now) ++ ids) (sym (append-nil _)))

pub returns : goal.returns
returns c = c.loop-i.invariant ∙ ap hosted (take_all c.loop-i.i c.args.table.now (rw c.len-i-end.ensures at c.loop-i-test.false))
