use Rattle.std.proofs.Common.{map, ap, arith}
use Rattle.std.proofs.lemmas.List.{drop-map, length-map}
use Rattle.cp_writing.specs.Packed.{value, bit_of}
use Rattle.cp_writing.proofs.Packing.{value_below_drop, bit_below}
use Rattle.cp_writing.proofs.pack.bits_word.Goals as goal

pub overflow_mul-word : goal.overflow_mul-word
overflow_mul-word c = omega (arith, c.loop-i.invariant.1, ap (value 2) (drop-map bit_of c.loop-i.i c.args.items.now), length-map c.args.items.now bit_of, value_below_drop 2 (map bit_of c.args.items.now) c.loop-i.i 63 (omega arith) (bit_below c.args.items.now) (omega (arith, c.requires, c.loop-i-test.true, length-map c.args.items.now bit_of)))

pub overflow_add-word : goal.overflow_add-word
overflow_add-word c = omega (arith, c.bit.ensures.small, c.loop-i.invariant.1, ap (value 2) (drop-map bit_of c.loop-i.i c.args.items.now), length-map c.args.items.now bit_of, value_below_drop 2 (map bit_of c.args.items.now) c.loop-i.i 63 (omega arith) (bit_below c.args.items.now) (omega (arith, c.requires, c.loop-i-test.true, length-map c.args.items.now bit_of)))
