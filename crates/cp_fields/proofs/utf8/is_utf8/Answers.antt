use Rattle.std.proofs.Common.{◌≡◌, ◌+◌, ◌*◌, arith}
use Rattle.cp_fields.specs.Blocks.{byte_before}
use Rattle.cp_fields.proofs.Blocks.{range-append, padded, blocks-hold}
use Rattle.cp_fields.proofs.utf8.is_utf8.Goals as goal

pub loop-i-preserved : goal.loop-i-preserved
loop-i-preserved c =
    let next : (c.loop-i.i + 1) * 64 ≡ c.loop-i.i * 64 + 64 = omega arith in
    rw (next, range-append (byte_before c.args.words.now c.args.count) (c.loop-i.i * 64) 64, ← c.next_block-block.ensures) (c.step-checker.ensures _ c.loop-i.invariant)

pub returns : goal.returns
returns c =
    let t = c.finish.ensures _ c.loop-i.invariant in
    let p = padded c.args.words.now c.args.count (c.loop-i.i * 64) (blocks-hold c.args.count c.loop-i.i (rw c.div_ceil-i-end.ensures at c.loop-i-test.false)) in
    (λ h. p.0 (t.0 h), λ u. t.1 (p.1 u))
