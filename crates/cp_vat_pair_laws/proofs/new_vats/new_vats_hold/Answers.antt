use Rattle.cp_vat_machine.proofs.NewVats.{new_local}
use Rattle.cp_vat_pair_laws.proofs.NewVats.{new_waiting, new_looped, new_lanes, new_quiet, new_tickets}
use Rattle.cp_vat_pair_laws.proofs.new_vats.new_vats_hold.Goals as goal

pub returns-clause-local : goal.returns-clause-local
returns-clause-local c = new_local

pub returns-clause-waiting : goal.returns-clause-waiting
returns-clause-waiting c = new_waiting

pub returns-clause-loops : goal.returns-clause-loops
returns-clause-loops c = new_looped

pub returns-clause-lanes : goal.returns-clause-lanes
returns-clause-lanes c = new_lanes

pub returns-clause-quiet : goal.returns-clause-quiet
returns-clause-quiet c = new_quiet

pub returns-clause-tickets : goal.returns-clause-tickets
returns-clause-tickets c = new_tickets
