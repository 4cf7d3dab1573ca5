use Rattle.cp_refs.proofs.Walks.{ending_there}
use Rattle.cp_vat_rules.proofs.resolve.Waypoint.on.Goals as goal

pub next_of-requires : goal.next_of-requires
next_of-requires c = ending_there c.args.self.values.now c.args.self.cap c.args.self.ending.0 c.args.self.ending.1
