use Rattle.std.proofs.Common.{◌++◌, replicate, length-append, arith}
use Rattle.std.proofs.lemmas.Simd.{pick_l_whole}
use Rattle.cp_packed.proofs.gather.widened.Goals as goal

pub returns : goal.returns
returns c = pick_l_whole 0 (c.args.bytes.now ++ replicate 8 0) 16 (omega (arith, length-append c.args.bytes.now (replicate 8 0), c.told-bytes))
