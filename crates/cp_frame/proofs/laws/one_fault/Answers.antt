use Rattle.cp_frame.specs.declared.mode.Mode.TheVariants.{Plain, Packed}
use Rattle.cp_frame.proofs.Rests.{one_fault_packed, fault_stays_packed}
use Rattle.cp_frame.proofs.Streams.{fault_stays_plain}
use Rattle.cp_frame.proofs.Whole.{one_fault_plain}
use Rattle.cp_frame.proofs.laws.one_fault.Goals as goal

pub returns-clause-one : goal.returns-clause-one
returns-clause-one c Plain = one_fault_plain
returns-clause-one c Packed = one_fault_packed

pub returns-clause-stays : goal.returns-clause-stays
returns-clause-stays c Plain = fault_stays_plain
returns-clause-stays c Packed = fault_stays_packed
