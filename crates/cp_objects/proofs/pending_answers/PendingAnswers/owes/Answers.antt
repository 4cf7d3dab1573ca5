use Rattle.std.proofs.Common.{◌∙◌}
use Rattle.std.specs.FinMap.{values}
use Rattle.cp_tables.proofs.TableLemmas.{listed}
use Rattle.cp_objects.proofs.Counting.{has_those}
use Rattle.cp_objects.proofs.pending_answers.PendingAnswers.owes.Goals as goal

pub returns : goal.returns
returns c =
    let inside = c.self.inside in
    rw (← c.self.view_is) (c.has.ensures ∙ has_those inside.counts.counts (values (listed inside.owners)) c.args.object c.self.invariant)
