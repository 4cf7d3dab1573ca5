use Rattle.std.proofs.Common.{sym}
use Rattle.std.specs.FinMap.{len-entries}
use Rattle.cp_vat.proofs.vat.Vat.promises.Goals as goal

pub returns : goal.returns
returns c = rw (c.len.ensures.value, c.promises.ensures, c.values.ensures, ← c.self.view_is) (sym (len-entries _))
