use Rattle.std.proofs.Common.{◌+◌, ◌*◌, arith}
use Rattle.cp_words.specs.declared.kind.BodyKind.TheVariants as kinds
use Rattle.cp_words.specs.declared.pointer.ElementSize.TheVariants as sizes
use Rattle.cp_writing.proofs.Keeps.{place_small}
use Rattle.cp_writing.proofs.lay.begin_elements.Goals as goal

pub overflow_add-result : goal.overflow_add-result
overflow_add-result c =
    let size = c.args.count * (c.args.words + c.args.ptrs) in
    let tag = c.in_ok-tag.ensures in
    omega (arith, place_small c.args.arena.now c.place_list.new.arena c.args.at (kinds.List sizes.Composite size) (size + 1) c.in_ok-tag.tag c.requires.there.0 tag.0.0 tag.0.1 tag.1)
