-- A client, as its users see it.
use Rattle.std.specs.Prelude.{ℕ, true, false, List, [], Option, None}
use Rattle.std.specs.FinMap.{empty}
use Rattle.cp_words.specs.Limits.{Bounds}
use Rattle.cp_frame.specs.declared.mode.Mode.{Mode}
use Rattle.cp_refs.specs.declared.outcome.Outcome.{Outcome}
use Rattle.cp_tables.specs.Table.{Table}
use Rattle.cp_vat_machine.specs.declared.effect.Reason.{Reason}
use Rattle.cp_session.specs.declared.options.SessionOptions.{SessionOptions}
use Rattle.cp_session.specs.Limits.{unlimited}
use Rattle.cp_session.specs.State.{State, new_state}
use Rattle.cp_client.specs.Devices.{Device}

-- the questions whose outcome wasn't given out, each with its outcome once that came
abbrev pub Asked : Type 0
Asked = Table (Option Outcome)

-- Its session and the number of that, the bytes that were read and weren't taken, its questions, why its vat closed, its reader and its writer.
pub record Conversation (H : Type 0) : Type 0 where
  pub session : State H
  pub number : ℕ
  pub left : List ℕ
  pub asked : Asked
  pub closed : Option Reason
  pub from : Device
  pub to : Device

-- how the session of a client goes: no byte may wait to be written while more is taken
abbrev pub options_of : Mode → Bounds → Option ℕ → SessionOptions
options_of mode limits bootstrap = record { mode = mode; messages = limits; bootstrap = bootstrap; may_call = true; releases_idle = false; limits = unlimited }

-- a client that asked nothing, of which nothing was read, whose session has this number
abbrev pub beginning : {H : Type 0} → State H → ℕ → Device → Device → Conversation H
beginning session number from to = record { session = session; number = number; left = []; asked = empty; closed = None; from = from; to = to }

-- a client with these objects that asked nothing, whose session has this number
abbrev pub new_conversation : {H : Type 0} → Mode → Bounds → Option ℕ → H → ℕ → Device → Device → Conversation H
new_conversation mode limits bootstrap objects number from to = beginning (new_state (options_of mode limits bootstrap) objects 0) number from to
