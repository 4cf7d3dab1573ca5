use Rattle.std.proofs.Common.{sym, ◌∙◌}
use Rattle.cp_vat_state.specs.StateOf.{state_of}
use Rattle.cp_vat.proofs.Echoing.{is_echoed, is_too_long}
use Rattle.cp_vat.proofs.echo.send_back.Goals as goal

pub returns-then-not-fits : goal.returns-then-not-fits
returns-then-not-fits c = is_too_long (state_of c.args.core.now) c.args.message.now (sym c.fits.ensures ∙ c.if-not-fits.true)

pub returns : goal.returns
returns c = (
  _,
  c.in_ok-push.ensures.items,
  is_echoed (state_of c.args.core.now) c.args.message.now c.from_shaped-tree.result _ (c.from_shaped-tree.ensures ∙ c.into_tree.ensures.tree ∙ c.in-Ok.ensures.made) (c.tree.ensures.tree ∙ c.in-Ok.ensures.made) c.fits-2.result c.fits-2.ensures c.if-not-fits-2.false,
)
