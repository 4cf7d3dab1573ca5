use Rattle.std.proofs.Common.{ℕ, Option, subst, ◌∙◌}
use Rattle.std.proofs.lemmas.Result.{err_from_is_err_and}
use Rattle.cp_frame.specs.Parts.{Takes}
use Rattle.cp_frame.proofs.Opened.{fault_in_part, fault_in_word}
use Rattle.cp_frame.proofs.frame.OpenFrame.take_of_table.Goals as goal

pub returns-in_err-check_part-in-None-clause-fault :
    goal.returns-in_err-check_part-in-None-clause-fault
returns-in_err-check_part-in-None-clause-fault c =
    let p = err_from_is_err_and c.from_residual-in_err-check_part-in-None.result c.from_residual-in_err-check_part-in-None.ensures.1 in
    let takes = subst (λ (word : Option ℕ). Takes c.args.self.now.part.items c.args.left.now c.take_word.new.part.items word c.in_ok-word.back.now) c.in-None.is c.in_ok-word.ensures.takes in
    rw (p.1, p.2) (fault_in_part c.args.limits c.args.self.now c.args.left.now c.deref.result.now c.deref-in-None.result.now c.in_err-check_part-in-None.field-0.0 c.requires.begun c.deref.ensures.value (c.deref-in-None.ensures.value ∙ takes.0) c.in_err-check_part-in-None.ensures.fault)

pub returns-in_err-push_table-in-Some-clause-fault :
    goal.returns-in_err-push_table-in-Some-clause-fault
returns-in_err-push_table-in-Some-clause-fault c =
    let p = err_from_is_err_and c.from_residual-in_err-push_table-in-Some.result c.from_residual-in_err-push_table-in-Some.ensures.1 in
    let takes = subst (λ (word : Option ℕ). Takes c.args.self.now.part.items c.args.left.now c.take_word.new.part.items word c.in_ok-word.back.now) c.in-Some.is c.in_ok-word.ensures.takes in
    rw (p.1, p.2) (fault_in_word c.args.limits c.args.self.now c.args.left.now c.in_ok-word.back.now c.in-Some.word c.in_err-push_table-in-Some.field-0.0 c.requires.begun takes.1 takes.2 c.in_err-push_table-in-Some.ensures.fault)
