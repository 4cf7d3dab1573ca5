use Rattle.std.proofs.Common.{ℕ, List, subst}
use Rattle.std.proofs.lemmas.Result.{err_from_is_err_and}
use Rattle.cp_frame.specs.Parts.{NamesLittle}
use Rattle.cp_frame.specs.Stream.{NamesFault}
use Rattle.cp_frame.proofs.Tables.{whole_word}
use Rattle.cp_frame.proofs.table.check_laid.Goals as goal

pub returns-in_err-judge-clause-fault : goal.returns-in_err-judge-clause-fault
returns-in_err-judge-clause-fault c =
    let p = err_from_is_err_and c.from_residual.result c.from_residual.ensures.1 in
    rw (p.1, p.2) (subst (λ (ns : List ℕ). NamesFault c.args.limits ns c.in_err-judge.field-0.0) (whole_word c.args.table.now c.word_of.result c.args.known.now c.word_of.type_inv c.word_of.ensures) c.in_err-judge.ensures.fault)

pub returns-clause-little : goal.returns-clause-little
returns-clause-little c =
    subst (λ (ns : List ℕ). NamesLittle c.args.limits ns) (whole_word c.args.table.now c.word_of.result c.args.known.now c.word_of.type_inv c.word_of.ensures) c.in_ok-judge.ensures.little
