use Rattle.std.proofs.Common.{◌∙◌}
use Rattle.cp_session.proofs.Sharing.{others_is}
use Rattle.cp_session.proofs.budget.Budget.others.Goals as goal

pub returns : goal.returns
returns c =
    rw (← c.self.view_is) (c.saturating_sub.ensures ∙ others_is c.self.inside.share c.self.inside.kept c.args.session c.self.inside.taken c.own.result c.self.invariant (rw (← c.self.view_is) at c.own.ensures))
