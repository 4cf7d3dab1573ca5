use Rattle.std.proofs.lemmas.Result.{err_from_is_err_and}
use Rattle.cp_messages.proofs.Shaping.{message_fitting}
use Rattle.cp_messages.proofs.write.tree_of.Goals as goal

pub returns-in_err-whole-clause-refused : goal.returns-in_err-whole-clause-refused
returns-in_err-whole-clause-refused c =
    let p = err_from_is_err_and c.from_residual-in_err-whole.result c.from_residual-in_err-whole.ensures.1 in
    rw (p.1, p.2) (message_fitting c.args.message.now c.in_ok-draft_of.ensures.shaped)
