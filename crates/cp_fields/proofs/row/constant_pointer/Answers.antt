use Rattle.std.proofs.Common.{refl, ap, ◌∙◌}
use Rattle.cp_fields.specs.Items.{pointer_item}
use Rattle.cp_fields.specs.Rows.{tree_item}
use Rattle.cp_fields.proofs.Owned.{read_at}
use Rattle.cp_fields.proofs.row.constant_pointer.Goals as goal

pub returns : goal.returns
returns c =
    c.of_pointer.ensures ∙ ap pointer_item c.of_constant.ensures
    ∙ read_at tree_item c.args.items.now _ c.args.i c.index-items-i.result refl c.requires c.index-items-i.is
