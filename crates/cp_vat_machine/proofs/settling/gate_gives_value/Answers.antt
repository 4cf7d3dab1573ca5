use Rattle.cp_tables.proofs.TableLemmas.{get-insert_same}
use Rattle.cp_vat_machine.proofs.settling.gate_gives_value.Goals as goal

pub returns : goal.returns
returns c = λ s p value. get-insert_same s.waiting.over.promises p value
