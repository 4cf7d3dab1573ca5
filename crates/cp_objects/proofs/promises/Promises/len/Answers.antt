use Rattle.std.proofs.Common.{sym}
use Rattle.std.specs.FinMap.{len-entries}
use Rattle.cp_objects.proofs.promises.Promises.len.Goals as goal

pub returns : goal.returns
returns c = rw (c.len.ensures.value, c.iter.ensures) (sym (len-entries _))
