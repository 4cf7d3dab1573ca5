use Rattle.std.proofs.Common.{Some, None, sym, ◌∙◌}
use Rattle.cp_vat_state.proofs.Joining.{found-at}
use Rattle.cp_vat_state.proofs.path_marks.PathMarks.get.Goals as goal

pub returns-in-Some : goal.returns-in-Some
returns-in-Some c =
    rw (← c.self.view_is) (c.get-in-Some.ensures ∙ sym (found-at c.self.inside.questions c.args.question (Some c.in-Some.paths.now) c.in-Some.ensures c.args.path.now))

pub returns-in-None : goal.returns-in-None
returns-in-None c = rw (← c.self.view_is) (sym (found-at c.self.inside.questions c.args.question None c.in-None.ensures c.args.path.now))
