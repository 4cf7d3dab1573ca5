-- That a silent peer is asked whether it is there.
use Rattle.std.specs.Prelude.{◌≡◌, ℕ, Ok, Err}
use Rattle.cp_vat_machine.specs.declared.event.Event.TheVariants as events
use Rattle.cp_vat_machine.specs.declared.event.Value.TheVariants as values
use Rattle.cp_connection.specs.declared.fault.ConnectionFault.{ConnectionFault}
use Rattle.cp_connection.specs.Doing.{Acts}
use Rattle.cp_connection.specs.Link.{Link}

-- The peer is asked for what it gives, and that is given up at once; or one of both is refused.
pub data AsksPeer (old new : Link) : Type 0 where
  asks : (q : ℕ) (asked : Link) → Acts old events.Bootstrap (Ok (values.Question q)) asked → Acts asked (events.Finish q) (Ok values.Nothing) new → AsksPeer old new
  is_unasked : (fault : ConnectionFault) → Acts old events.Bootstrap (Err fault) new → AsksPeer old new
  stays_asked : (q : ℕ) (asked : Link) (fault : ConnectionFault) → Acts old events.Bootstrap (Ok (values.Question q)) asked → Acts asked (events.Finish q) (Err fault) new
      → AsksPeer old new
