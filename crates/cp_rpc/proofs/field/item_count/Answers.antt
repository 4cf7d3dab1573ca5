use Rattle.std.proofs.Common.{◌∙◌, sym}
use Rattle.cp_rpc.proofs.Items.{source_kind-items}
use Rattle.cp_rpc.proofs.field.item_count.Goals as goal

pub returns-in-Items : goal.returns-in-Items
returns-in-Items g c = source_kind-items (g.S.Source.seen c.args.t.now) _ (sym c.in-Items.is ∙ c.source_kind.ensures)
