use Rattle.std.proofs.Common.{refl}
use Rattle.cp_stream.proofs.Writing.{written_holds}
use Rattle.cp_stream.proofs.laws.read_back.Goals as goal

pub returns : goal.returns
returns c = λ mode limits words segments m b rest allowed h. (b, rest, refl, refl, written_holds mode limits words segments m b allowed h)
