use Rattle.cp_tables.proofs.TableLemmas.{get-listed}
use Rattle.cp_objects.proofs.pending_answers.PendingAnswers.owner.Goals as goal

pub returns : goal.returns
returns c = rw (← c.self.view_is, get-listed, ← c.get.ensures.value) c.copied.ensures
