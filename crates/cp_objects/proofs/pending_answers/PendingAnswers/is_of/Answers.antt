use Rattle.std.proofs.Common.{refl}
use Rattle.cp_tables.proofs.TableLemmas.{get-listed}
use Rattle.cp_objects.proofs.pending_answers.PendingAnswers.is_of.Goals as goal

pub returns-in-Some : goal.returns-in-Some
returns-in-Some c = rw (← c.self.view_is, get-listed, ← c.in-Some.ensures.value) refl

pub returns-in-None : goal.returns-in-None
returns-in-None c = rw (← c.self.view_is, get-listed, ← c.in-None.ensures.value) refl
