use Rattle.std.proofs.Common.{refl}
use Rattle.cp_connection.specs.declared.fault.ConnectionFault.TheVariants as faults
use Rattle.cp_dispatch.specs.Work.{is_released, is_refused, had_ended}
use Rattle.cp_dispatch.proofs.Living.{lives_release}
use Rattle.cp_dispatch.proofs.Working.{after_ok}
use Rattle.cp_dispatch.proofs.dispatcher.Dispatcher.release.Goals as goal

pub returns-in-Ok-clause-done : goal.returns-in-Ok-clause-done
returns-in-Ok-clause-done c = is_released _ c.in-Ok.ensures refl

pub returns-in-Ok-clause-lives : goal.returns-in-Ok-clause-lives
returns-in-Ok-clause-lives c = lives_release c.args.connection.now c.release.new.self c.args.import c.release.result c.release.ensures

pub returns-in-OutOfMemory-clause-lives : goal.returns-in-OutOfMemory-clause-lives
returns-in-OutOfMemory-clause-lives c = lives_release c.args.connection.now c.release.new.self c.args.import c.release.result c.release.ensures

pub returns-in-Refused-clause-done : goal.returns-in-Refused-clause-done
returns-in-Refused-clause-done c =
    after_ok c.stay.result c.stay.ensures (λ stays. is_refused c.in-Refused.refusal c.release.new.self (rw c.in-Refused.is at c.in-Err.ensures) (stays c.release.new.self))

pub returns-in-Refused-clause-lives : goal.returns-in-Refused-clause-lives
returns-in-Refused-clause-lives c = lives_release c.args.connection.now c.release.new.self c.args.import c.release.result c.release.ensures

pub returns-in-Closed-clause-done : goal.returns-in-Closed-clause-done
returns-in-Closed-clause-done c = had_ended faults.Closed _ tt (rw c.in-Closed.is at c.in-Err.ensures) refl

pub returns-in-Closed-clause-lives : goal.returns-in-Closed-clause-lives
returns-in-Closed-clause-lives c = lives_release c.args.connection.now c.release.new.self c.args.import c.release.result c.release.ensures

pub returns-in-Unreadable-clause-done : goal.returns-in-Unreadable-clause-done
returns-in-Unreadable-clause-done c = had_ended (faults.Unreadable _ _) _ tt (rw c.in-Unreadable.is at c.in-Err.ensures) refl

pub returns-in-Unreadable-clause-lives : goal.returns-in-Unreadable-clause-lives
returns-in-Unreadable-clause-lives c = lives_release c.args.connection.now c.release.new.self c.args.import c.release.result c.release.ensures
