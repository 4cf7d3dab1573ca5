use Rattle.std.proofs.Common.{◌-◌, arith}
use Rattle.cp_writing.proofs.Packing.{value_below_drop}
use Rattle.cp_writing.proofs.pack.two_bytes_word.Goals as goal

pub overflow_mul-word : goal.overflow_mul-word
overflow_mul-word c = omega (arith, c.loop-i.invariant.1, value_below_drop 65536 c.args.items.now c.loop-i.i 3 (omega arith) (λ k. omega (arith, c.type_inv.items k)) (omega (arith, c.requires, c.loop-i-test.true)))

pub overflow_add-word : goal.overflow_add-word
overflow_add-word c = omega (arith, c.type_inv.items (c.loop-i.i - 1), c.loop-i.invariant.1, value_below_drop 65536 c.args.items.now c.loop-i.i 3 (omega arith) (λ k. omega (arith, c.type_inv.items k)) (omega (arith, c.requires, c.loop-i-test.true)))
