use Rattle.cp_refs.proofs.Walks.{has_ending}
use Rattle.cp_vat_rules.proofs.resolve.Waypoint.new.Goals as goal

pub invariant_of-result : goal.invariant_of-result
invariant_of-result c = record { ending = has_ending c.args.values.now c.requires.0 c.args.cap c.requires.1 }
