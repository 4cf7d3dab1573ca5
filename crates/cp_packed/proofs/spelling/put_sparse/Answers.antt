use Rattle.std.proofs.Common.{◌≡◌, ◌≤◌, ℕ, List, length, slice_set, ap, ◌∙◌, arith}
use lib.Count.{ones}
use Rattle.std.proofs.lemmas.List.{length-set}
use borrow.Rule.Slice.PartMut.{mid_len}
use Rattle.cp_packed.specs.Packed.{written}
use Rattle.cp_packed.specs.Packing.{bytes_that_count}
use Rattle.cp_packed.proofs.Opens.{ones_tag}
use Rattle.cp_packed.proofs.Sparing.{length_count}
use Rattle.cp_packed.proofs.Putting.{few_written, sparse_put}
use Rattle.cp_packed.proofs.spelling.put_sparse.Goals as goal

pub returns-clause-text : goal.returns-clause-text
returns-clause-text c =
    let bytes = c.args.bytes.now in
    let some = written (bytes_that_count bytes) in
    let first : List ℕ = slice_set c.args.block.now 0 c.args.mask in
    let many : ones c.args.mask ≡ length some = ap (λ (m : ℕ). ones m) c.requires.mask ∙ ones_tag (bytes_that_count bytes) in
    let few : ones c.args.mask ≤ 8 = omega (arith, many, few_written (bytes_that_count bytes), length_count bytes, c.told-bytes) in
    let long : length c.copy_from_slice.new.self ≡ 8 = c.copy_from_slice.auto.self ∙ mid_len 1 9 first (omega (arith, length-set c.args.block.now 0 c.args.mask, c.requires.room)) in
    sparse_put c.args.mask (ones c.args.mask) c.args.block.now c.copy_from_slice.new.self c.gathered.result some c.requires.room long c.copy_from_slice.ensures.after many few c.gathered.ensures
