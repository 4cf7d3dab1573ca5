use Rattle.std.proofs.Common.{sym, ◌∙◌}
use Rattle.cp_tables.proofs.TableLemmas.{len-seen}
use Rattle.cp_tables.proofs.placed.Placed.len.Goals as goal

pub returns : goal.returns
returns g c =
    let k = c.self.invariant in
    rw (← c.self.view_is) (c.len.ensures ∙ sym (len-seen c.self.inside.slots) ∙ k.alike ∙ sym k.counted)
