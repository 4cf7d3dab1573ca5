use Rattle.std.proofs.Common.{sym}
use Rattle.cp_fields.proofs.RowItems.{length-numbers}
use Rattle.cp_fields.proofs.bytes.DataReader.len.Goals as goal

pub returns-in-Words : goal.returns-in-Words
returns-in-Words c = rw (← c.self.view_is, c.in-Words.is) (sym (length-numbers _ 8 _))
