use Rattle.cp_vat_state.specs.Sought.{key_of}
use Rattle.cp_vat_state.proofs.Counting.{counted_none}
use Rattle.cp_vat_state.proofs.holders.Holders.new.Goals as goal

pub returns : goal.returns
returns c = λ s. rw c.new.ensures (counted_none (key_of s))
