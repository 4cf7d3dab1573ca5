use Rattle.cp_frame.specs.declared.mode.Mode.TheVariants.{Plain, Packed}
use Rattle.cp_frame.proofs.Groups.{one_front_packed}
use Rattle.cp_frame.proofs.Streams.{cut, one_reading, one_front_plain}
use Rattle.cp_frame.proofs.laws.one_reading.Goals as goal

pub returns-clause-one : goal.returns-clause-one
returns-clause-one c Plain = one_reading Plain one_front_plain
returns-clause-one c Packed = one_reading Packed one_front_packed

pub returns-clause-cut : goal.returns-clause-cut
returns-clause-cut c = cut
