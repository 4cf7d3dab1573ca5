use Rattle.std.proofs.Common.{◌≡◌, ◌+◌, ◌/◌, length, arith}
use Rattle.std.proofs.lemmas.Result.{err_from_is_err_and}
use Rattle.cp_tree.specs.Node.{quads}
use Rattle.cp_writing.specs.Packed.{packed}
use Rattle.cp_writing.proofs.Packing.{length_groups}
use Rattle.cp_writing.proofs.Sheets.{counted}
use Rattle.cp_writing.proofs.arena.Arena.append_four_bytes.Goals as goal

pub returns-in_err-count : goal.returns-in_err-count
returns-in_err-count c =
    let p = err_from_is_err_and c.from_residual.result c.from_residual.ensures.1 in
    let past = c.in_err-count.ensures.past in
    rw (p.1, p.2, past.0) (omega (arith, past.1, length_groups 4294967296 2 c.args.items.now))

pub returns : goal.returns
returns c =
    let ws = packed (quads c.args.items.now) in
    let n = (length c.args.items.now + 1) / 2 in
    let long : length ws ≡ n = omega (arith, length_groups 4294967296 2 c.args.items.now) in
    counted c.args.self.now c.count.new.self c.append_four_bytes.new.self ws n c.requires long c.in_ok-count.ensures.within c.in_ok-count.ensures.counted c.in_ok-append_four_bytes.ensures
