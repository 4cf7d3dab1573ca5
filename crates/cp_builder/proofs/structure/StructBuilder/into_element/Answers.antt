use Rattle.std.proofs.Common.{List, subst}
use Rattle.cp_tree.specs.Shaped.{AllFit}
use Rattle.cp_builder.proofs.Widened.{item_added, item_even}
use Rattle.cp_builder.proofs.structure.StructBuilder.into_element.Goals as goal

pub returns-clause-added : goal.returns-clause-added
returns-clause-added g c =
    rw (← c.self.view_is) (item_added g.row.W g.row.P c.self.inside.words.items c.self.inside.pointers.items _ c.truncate.ensures.items c.truncate-2.ensures.items)

pub returns-clause-even : goal.returns-clause-even
returns-clause-even g c =
    item_even g.row.W g.row.P c.self.inside.words.items c.self.inside.pointers.items _ c.truncate.ensures.items c.truncate-2.ensures.items c.self.invariant.1 c.self.invariant.2
    (subst (λ ws. AllFit 64 ws) c.deref.ensures.value c.fit.ensures) c.self.invariant.3
