use Rattle.std.proofs.Common.{sym, subst}
use Rattle.cp_refs.specs.declared.call.Origin.TheVariants as origins
use Rattle.cp_vat_machine.specs.InUse.{caps_of}
use Rattle.cp_vat_rules.specs.Ungiven.{AllEnd, IsUngiven}
use Rattle.cp_vat_state.specs.StateOf.{state_of}
use Rattle.cp_vat.proofs.Ready.{settles_own, settles_answer, settles_ends}
use Rattle.cp_vat.proofs.on_return.settle.Goals as goal

pub give_own-requires : goal.give_own-requires
give_own-requires c = settles_own (state_of c.args.core.now) c.args.id c.args.forwards c.args.outcome c.requires

pub give_answer-requires-clause-ungiven : goal.give_answer-requires-clause-ungiven
give_answer-requires-clause-ungiven c =
    subst (λ s. IsUngiven s (origins.Answer c.in-Some.answer)) (sym c.remove_question.ensures)
    (settles_answer (state_of c.args.core.now) c.args.id c.in-Some.answer c.args.outcome (rw c.in-Some.is at c.requires))

pub give_answer-requires-clause-ends : goal.give_answer-requires-clause-ends
give_answer-requires-clause-ends c =
    subst (λ s. AllEnd s.values (caps_of c.args.outcome)) (sym c.remove_question.ensures)
    (settles_ends (state_of c.args.core.now) c.args.id c.in-Some.answer c.args.outcome (rw c.in-Some.is at c.requires))
