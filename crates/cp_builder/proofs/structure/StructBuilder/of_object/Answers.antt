use Rattle.std.proofs.Common.{ap, sym, subst, ◌∙◌}
use Rattle.cp_tree.specs.Node.{Node}
use Rattle.cp_tree.specs.Shaped.{Shaped}
use Rattle.cp_builder.specs.Drafts.{widened}
use Rattle.cp_builder.proofs.Widened.{widened_is, widened_fits}
use Rattle.cp_builder.proofs.structure.StructBuilder.of_object.Goals as goal

pub invariant_of-result : goal.invariant_of-result
invariant_of-result g c =
    widened_fits g.row.W g.row.P c.body_in-body.result c.in_ok-words.words.items c.in_ok-with_nulls.field-0.items c.in_ok-words.ensures c.in_ok-with_nulls.ensures c.requires.words c.requires.pointers
    (subst (λ (t : Node). Shaped t) (sym c.body_in-body.ensures.body) c.body_in-body.ensures.shaped)

pub returns : goal.returns
returns g c =
    widened_is g.row.W g.row.P c.body_in-body.result c.in_ok-words.words.items c.in_ok-with_nulls.field-0.items c.in_ok-words.ensures c.in_ok-with_nulls.ensures
    ∙ ap (λ (t : Node). widened g.row.W g.row.P t) c.body_in-body.ensures.body
