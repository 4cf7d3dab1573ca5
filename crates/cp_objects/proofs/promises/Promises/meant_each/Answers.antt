use Rattle.std.proofs.Common.{◌<◌, length, slice_index_or, ap, arith}
use Rattle.std.proofs.lemmas.List.Edits.{map_over_more}
use Rattle.cp_objects.specs.Promises.{meant}
use Rattle.cp_objects.proofs.Renaming.{is_inside}
use Rattle.cp_objects.proofs.promises.Promises.meant_each.Goals as goal

pub loop-cap-preserved : goal.loop-cap-preserved
loop-cap-preserved c =
    let l = c.loop-cap in
    let caps = c.args.caps in
    let rename = meant c.args.self.now.ids in
    let inside : l.cap-index < length caps = is_inside rename caps l.cap-items l.cap-index l.invariant (omega arith) in
    let item = slice_index_or l.cap-items l.cap-index c.cap-item.result in
    rw c.mean.ensures (map_over_more rename caps l.cap-items l.cap-index item inside l.invariant (ap (λ d. slice_index_or l.cap-items l.cap-index d) c.cap-item.is))
