use Rattle.std.proofs.Common.{refl}
use Rattle.cp_connection.specs.declared.fault.ConnectionFault.TheVariants as faults
use Rattle.cp_dispatch.specs.Calling.{is_made, is_refused, had_ended}
use Rattle.cp_dispatch.proofs.Living.{lives_call}
use Rattle.cp_dispatch.proofs.Working.{after_ok}
use Rattle.cp_dispatch.proofs.dispatcher.Dispatcher.make_call.Goals as goal

pub returns-in-Ok-clause-done : goal.returns-in-Ok-clause-done
returns-in-Ok-clause-done g c = after_ok c.ask.result c.ask.ensures (λ asks. is_made c.in-Ok.question c.call.new.self c.in-Ok.ensures (asks c.call.new.self) refl)

pub returns-in-Ok-clause-lives : goal.returns-in-Ok-clause-lives
returns-in-Ok-clause-lives g c = lives_call c.args.connection.now c.call.new.self c.args.next_call.cap c.args.next_call.request c.call.result c.call.ensures

pub returns-in_err-outcome-in-Refused-clause-lives : goal.returns-in_err-outcome-in-Refused-clause-lives
returns-in_err-outcome-in-Refused-clause-lives g c = lives_call c.args.connection.now c.call.new.self c.args.next_call.cap c.args.next_call.request c.call.result c.call.ensures

pub returns-in-OutOfMemory-clause-lives : goal.returns-in-OutOfMemory-clause-lives
returns-in-OutOfMemory-clause-lives g c = lives_call c.args.connection.now c.call.new.self c.args.next_call.cap c.args.next_call.request c.call.result c.call.ensures

pub returns-in_ok-outcome-in-Refused-clause-done : goal.returns-in_ok-outcome-in-Refused-clause-done
returns-in_ok-outcome-in-Refused-clause-done g c =
    after_ok c.on_response.result c.on_response.ensures (λ heard. is_refused c.in-Refused.field-0 c.call.new.self (rw c.in-Refused.is at c.in-Err.ensures) (rw c.in_ok-outcome-in-Refused.ensures at (heard c.call.new.self)))

pub returns-in_ok-outcome-in-Refused-clause-lives : goal.returns-in_ok-outcome-in-Refused-clause-lives
returns-in_ok-outcome-in-Refused-clause-lives g c = lives_call c.args.connection.now c.call.new.self c.args.next_call.cap c.args.next_call.request c.call.result c.call.ensures

pub returns-in-Closed-clause-done : goal.returns-in-Closed-clause-done
returns-in-Closed-clause-done g c = had_ended faults.Closed _ tt (rw c.in-Closed.is at c.in-Err.ensures) refl refl

pub returns-in-Closed-clause-lives : goal.returns-in-Closed-clause-lives
returns-in-Closed-clause-lives g c = lives_call c.args.connection.now c.call.new.self c.args.next_call.cap c.args.next_call.request c.call.result c.call.ensures

pub returns-in-Unreadable-clause-done : goal.returns-in-Unreadable-clause-done
returns-in-Unreadable-clause-done g c = had_ended (faults.Unreadable _ _) _ tt (rw c.in-Unreadable.is at c.in-Err.ensures) refl refl

pub returns-in-Unreadable-clause-lives : goal.returns-in-Unreadable-clause-lives
returns-in-Unreadable-clause-lives g c = lives_call c.args.connection.now c.call.new.self c.args.next_call.cap c.args.next_call.request c.call.result c.call.ensures
