use Rattle.std.proofs.Common.{arith}
use Rattle.cp_session.proofs.Sharing.{taken_more}
use Rattle.cp_session.proofs.budget.Budget.note.Goals as goal

pub invariant_of-self-2 : goal.invariant_of-self-2
invariant_of-self-2 c =
    let others = rw (← c.self.view_is) at c.others.ensures in
    rw c.in_ok-put.ensures.put (omega (arith, others, c.saturating_sub-own.ensures, c.in-Some.ensures, taken_more c.self.inside.share c.self.inside.kept c.args.session c.args.bytes))
