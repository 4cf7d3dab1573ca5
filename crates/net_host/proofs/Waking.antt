-- No two connections have sessions of one number.
use Rattle.std.proofs.Common.{arith}
use Rattle.net_host.specs.Waking.{NamesOne}

pub names_one : NamesOne
names_one number key other place few few_others low low_others same = (omega (arith, few, few_others, same), omega (arith, low, low_others, same))
