use Rattle.std.proofs.Common.{arith}
use Rattle.cp_tree.specs.Node.{quads}
use Rattle.cp_writing.proofs.Hanging.{listed}
use Rattle.cp_writing.proofs.lay_list.lay_four_bytes.Goals as goal

pub returns : goal.returns
returns c =
    let placed = c.in_ok-place_list.ensures.0 in
    listed c.args.arena.now c.charge.new.self c.args.levels _ _ c.in_ok-charge.ensures c.place_list.new.arena c.append_four_bytes.new.self c.args.at (quads c.args.items.now) _ c.append_four_bytes.result (omega arith) (omega arith) placed.0 placed.2 c.append_four_bytes.ensures
