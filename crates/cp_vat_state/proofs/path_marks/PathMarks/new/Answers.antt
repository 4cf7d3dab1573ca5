use Rattle.cp_vat_state.proofs.Joining.{joined-empty, counted-empty}
use Rattle.cp_vat_state.proofs.path_marks.PathMarks.new.Goals as goal

pub invariant_of-result : goal.invariant_of-result
invariant_of-result c = rw c.new.ensures counted-empty

pub returns : goal.returns
returns c = rw c.new.ensures joined-empty
