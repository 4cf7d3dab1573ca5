use Rattle.std.proofs.Common.{◌∙◌}
use Rattle.cp_vat_state.proofs.Using.{is_object_exported}
use Rattle.cp_vat_state.proofs.in_use.is_object_exported.Goals as goal

pub returns : goal.returns
returns c = c.is_some.ensures ∙ is_object_exported c.args.exports.now c.args.id c.number.result c.number.ensures
