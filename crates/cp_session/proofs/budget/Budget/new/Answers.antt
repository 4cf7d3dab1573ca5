use Rattle.std.proofs.Common.{sym}
use Rattle.cp_session.proofs.Sharing.{none_taken}
use Rattle.cp_session.proofs.budget.Budget.new.Goals as goal

pub invariant_of-result : goal.invariant_of-result
invariant_of-result c = rw c.new.ensures (sym (none_taken c.args.share))
