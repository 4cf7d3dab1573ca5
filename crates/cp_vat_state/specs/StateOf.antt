-- The machine's state that a vat's parts are.
use Rattle.cp_vat_machine.specs.State.{State}
use Rattle.cp_vat_state.specs.declared.parts.Core.{Core}

abbrev pub state_of : Core → State
state_of c =
    record {
      values = c.values;
      entries = record { questions = c.questions; answers = c.answers; own_promises = c.own_promises };
      counts = record { exports = c.exports; imports = c.imports };
      waiting = c.gates.waiting;
      marks = c.marks;
      bootstrap = c.bootstrap;
      next_ticket = c.gates.next_ticket;
      is_closed = c.is_closed;
    }
