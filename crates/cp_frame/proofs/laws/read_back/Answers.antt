use Rattle.cp_frame.specs.declared.mode.Mode.TheVariants.{Plain, Packed}
use Rattle.cp_frame.proofs.Rests.{read_back_packed}
use Rattle.cp_frame.proofs.Whole.{read_back_plain}
use Rattle.cp_frame.proofs.laws.read_back.Goals as goal

pub returns : goal.returns
returns c Plain = read_back_plain
returns c Packed = read_back_packed
