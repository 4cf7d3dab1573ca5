use Rattle.std.proofs.Common.{sym, ◌∙◌, arith}
use Rattle.cp_vat_state.proofs.Joining.{parted, counted-parted, joined-without, remove-absent}
use Rattle.cp_vat_state.proofs.path_marks.PathMarks.remove_question.Goals as goal

pub overflow_sub-self : goal.overflow_sub-self
overflow_sub-self c =
    rw c.len.ensures (omega (arith, parted c.self.inside.questions c.args.question c.in-Some.paths c.self.inside.count c.in-Some.ensures.value c.self.invariant))

pub invariant_of-self : goal.invariant_of-self
invariant_of-self c =
    rw (c.remove.ensures.removed, c.len.ensures) (counted-parted c.self.inside.questions c.args.question c.in-Some.paths c.self.inside.count c.in-Some.ensures.value c.self.invariant)

pub invariant_of-self-in_default : goal.invariant_of-self-in_default
invariant_of-self-in_default c =
    rw (c.remove.ensures.removed, remove-absent c.self.inside.questions c.args.question (sym c.remove.ensures.value ∙ c.in_default.is)) c.self.invariant

pub returns-in-Some : goal.returns-in-Some
returns-in-Some c = rw (← c.self.view_is, c.remove.ensures.removed) (joined-without c.self.inside.questions c.args.question)

pub returns-in_default : goal.returns-in_default
returns-in_default c = rw (← c.self.view_is, c.remove.ensures.removed) (joined-without c.self.inside.questions c.args.question)
