use Rattle.cp_connection.specs.declared.fault.ConnectionFault.TheVariants as faults
use Rattle.cp_dispatch.specs.Work.{is_taken, had_ended, is_replaced}
use Rattle.cp_dispatch.proofs.Living.{lives_answer, lives_both}
use Rattle.cp_dispatch.proofs.Working.{after_ok}
use Rattle.cp_dispatch.proofs.answers.answer.Goals as goal

pub returns-in-Ok-clause-done : goal.returns-in-Ok-clause-done
returns-in-Ok-clause-done c = is_taken c.in-Ok.ensures

pub returns-in-Ok-clause-lives : goal.returns-in-Ok-clause-lives
returns-in-Ok-clause-lives c = lives_answer c.args.connection.now c.answer.new.self c.args.origin c.args.outcome c.answer.result c.answer.ensures

pub returns-in-OutOfMemory-clause-lives : goal.returns-in-OutOfMemory-clause-lives
returns-in-OutOfMemory-clause-lives c = lives_answer c.args.connection.now c.answer.new.self c.args.origin c.args.outcome c.answer.result c.answer.ensures

pub returns-in-Refused-clause-done : goal.returns-in-Refused-clause-done
returns-in-Refused-clause-done c = after_ok c.answer_badly.result c.answer_badly.ensures.done (λ done. is_replaced _ _ (rw c.in-Refused.is at c.in-Err.ensures) done)

pub returns-in-Refused-clause-lives : goal.returns-in-Refused-clause-lives
returns-in-Refused-clause-lives c =
    lives_both (lives_answer c.args.connection.now c.answer.new.self c.args.origin c.args.outcome c.answer.result c.answer.ensures) c.answer_badly.ensures.lives

pub returns-in-Closed-clause-done : goal.returns-in-Closed-clause-done
returns-in-Closed-clause-done c = had_ended faults.Closed tt (rw c.in-Closed.is at c.in-Err.ensures)

pub returns-in-Closed-clause-lives : goal.returns-in-Closed-clause-lives
returns-in-Closed-clause-lives c = lives_answer c.args.connection.now c.answer.new.self c.args.origin c.args.outcome c.answer.result c.answer.ensures

pub returns-in-Unreadable-clause-done : goal.returns-in-Unreadable-clause-done
returns-in-Unreadable-clause-done c = had_ended (faults.Unreadable _ _) tt (rw c.in-Unreadable.is at c.in-Err.ensures)

pub returns-in-Unreadable-clause-lives : goal.returns-in-Unreadable-clause-lives
returns-in-Unreadable-clause-lives c = lives_answer c.args.connection.now c.answer.new.self c.args.origin c.args.outcome c.answer.result c.answer.ensures
