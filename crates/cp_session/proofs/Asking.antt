-- That a peer was asked.
use Rattle.std.proofs.Common.{ℕ, Result, Ok, Err}
use Rattle.cp_vat_machine.specs.declared.event.Event.TheVariants as events
use Rattle.cp_vat_machine.specs.declared.event.Value.TheVariants as values
use Rattle.cp_connection.specs.declared.fault.ConnectionFault.{ConnectionFault}
use Rattle.cp_connection.specs.Doing.{Acts, answered}
use Rattle.cp_connection.specs.Link.{Link}
use Rattle.cp_session.specs.Asking.{AsksPeer, asks, stays_asked}

-- whatever came of giving the question up
pub asked_by : {A : Type 0} {old asked new : Link} (q : ℕ) (result : Result A ConnectionFault) → Acts old events.Bootstrap (Ok (values.Question q)) asked
    → Acts asked (events.Finish q) (answered (λ (done : A). values.Nothing) result) new → AsksPeer old new
asked_by {asked = asked} q (Ok done) boots finishes = asks q asked boots finishes
asked_by {asked = asked} q (Err fault) boots finishes = stays_asked q asked fault boots finishes
