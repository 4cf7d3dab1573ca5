use Rattle.std.proofs.Common.{sym, ◌∙◌}
use Rattle.cp_messages.proofs.Readback.{message_says}
use Rattle.cp_messages.proofs.Shaping.{message_shaped, too_long}
use Rattle.cp_messages.proofs.write.draft_of.Goals as goal

pub returns-then-not-fits-clause-refused : goal.returns-then-not-fits-clause-refused
returns-then-not-fits-clause-refused c =
    let long = sym c.fits.ensures ∙ c.if-not-fits.true in
    (long, too_long c.args.message.now long)

pub returns-clause-shaped : goal.returns-clause-shaped
returns-clause-shaped c = message_shaped c.args.message.now c.in_ok-draft.ensures.held (sym c.fits.ensures ∙ c.if-not-fits.false)

pub returns-clause-says : goal.returns-clause-says
returns-clause-says c = message_says c.args.message.now c.in_ok-draft.ensures.held
