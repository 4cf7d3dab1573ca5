use Rattle.cp_refs.proofs.Walks.{ending_there}
use Rattle.cp_refs.proofs.walk.Walk.on.Goals as goal

pub step-requires : goal.step-requires
step-requires c = ending_there c.args.self.values.now c.args.self.cap.now c.args.self.ending.0 c.args.self.ending.1
