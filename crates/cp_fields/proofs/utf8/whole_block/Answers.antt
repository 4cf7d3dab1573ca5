use Rattle.std.proofs.Common.{sym, ap, flat_map, ◌∙◌, arith}
use Rattle.std.proofs.lemmas.List.{take_all}
use Rattle.std.specs.Int.{to_le_bytes, w64}
use Rattle.cp_tree.proofs.Numbers.{first_bytes}
use Rattle.cp_fields.proofs.utf8.whole_block.Goals as goal

pub returns : goal.returns
returns c =
    let ws = c.args.words.now in
    c.write_u64_into.ensures ∙ ap (flat_map (to_le_bytes w64)) (sym (take_all 8 ws (omega (arith, c.requires)))) ∙ first_bytes ws 8 (omega (arith, c.requires))
