-- What follows of what is done for objects, whatever it is.
use Rattle.std.specs.Prelude.{◌≡◌, ℕ, List, ◌++◌, Option}
use Rattle.cp_words.specs.Limits.{Bounds}
use Rattle.cp_frame.specs.declared.mode.Mode.{Mode}
use Rattle.cp_vat_machine.specs.InOrder.{RunsInOrder}
use Rattle.cp_vat_machine.specs.Run.{Moment}
use Rattle.cp_connection.specs.declared.event.ConnectionEvent.{ConnectionEvent}
use Rattle.cp_connection.specs.Effects.{happened}
use Rattle.cp_connection.specs.Link.{Link, new_link_with_tails}
use Rattle.cp_connection.specs.Lives.{Life}

-- Whatever is done with a connection but aborts, what objects do of promises among it, its vat did a run that is in order. So the calls of one promise wait until
-- it comes to something, and go there in the order in which they came, each once. What happened by the run was handed out, or is still to be, in order.
abbrev pub WaitsInOrder : Type 0
WaitsInOrder =
    (mode : Mode) (limits : Bounds) (bootstrap : Option ℕ) (taken written : List ℕ) (handed : List ConnectionEvent) (last : Link)
    → Life (new_link_with_tails mode limits bootstrap) taken written handed last
    → (history : List Moment) × RunsInOrder bootstrap history × (happened history ≡ handed ++ last.happened)
