-- What was done with a connection, whatever it was.
use Rattle.std.specs.Prelude.{◌≡◌, ℕ, List, [], ◌++◌, Some, None}
use Rattle.cp_frame.specs.Stream.{Open}
use Rattle.cp_messages.specs.declared.message.Message.{Message}
use Rattle.cp_stream.specs.Stream.{Messages}
use Rattle.cp_vat_machine.specs.Run.{Moment, Steps}
use Rattle.cp_tail_calls.specs.Bridging.{HaveDone, messages_of, sent_in}
use Rattle.cp_tail_calls.specs.Runs.{Turn}
use Rattle.cp_connection.specs.declared.fault.ConnectionFault.{ConnectionFault}
use Rattle.cp_connection.specs.declared.event.ConnectionEvent.{ConnectionEvent}
use Rattle.cp_connection.specs.Doing.{served}
use Rattle.cp_connection.specs.Effects.{AreFramesOf, happened}
use Rattle.cp_connection.specs.Link.{Link, HasCome}
use Rattle.cp_connection.specs.Turns.{NoneLost, TellTurns}

-- The bytes that came and those that were taken are the frames of these messages, in order, and then what came of the open frame.
pub record Takes (old : Link) (taken : List ℕ) (messages_ : List Message) (new : Link) (rest : List ℕ) : Type 0 where
  pub left : List ℕ
  pub messages : Messages old.mode old.limits (rest ++ taken) messages_ left
  pub is_open : Open old.mode old.limits left
  pub came : new.fault ≡ None → HasCome new left

-- Nothing is done with a connection that ended, but that it is written and handed out what was left.
pub record StaysEnded (fault : ConnectionFault) (taken : List ℕ) (came : List Message) (history : List Moment) (went : List Message) (new : Link) : Type 0 where
  pub none_taken : taken ≡ []
  pub none_came : came ≡ []
  pub none_done : history ≡ []
  pub none_went : went ≡ []
  pub still : new.fault ≡ Some fault

-- Where no tail calls are served, the vat received the messages that came, and what it sent went out.
pub record IsAlone (came : List Message) (history : List Moment) (went : List Message) (new : Link) : Type 0 where
  pub received : came ≡ messages_of history
  pub sent : went ≡ sent_in history
  pub still : new.fault ≡ None → new.tails ≡ None

-- What was done with a connection: its vat did a history of events. Of these bytes of the peer, which were taken, messages came. The frames of what went out,
-- after the bytes that weren't written, are those that were written and then those that weren't. What happened by the history, after what wasn't taken, is
-- what was handed out and then what wasn't taken. What tail calls did is what their turns say, unless
-- memory ran out.
pub record Moves (old : Link) (taken written : List ℕ) (handed : List ConnectionEvent) (new : Link) : Type 0 where
  pub history : List Moment
  pub steps : Steps old.vat history new.vat
  pub came : List Message
  pub takes : (rest : List ℕ) → HasCome old rest → Takes old taken came new rest
  pub went : List Message
  pub bytes : List ℕ
  pub are_frames : AreFramesOf old.mode went bytes
  pub goes_out : old.unwritten ++ bytes ≡ written ++ new.unwritten
  pub happens : old.happened ++ happened history ≡ handed ++ new.happened
  pub alone : old.tails ≡ None → IsAlone came history went new
  pub turns : (past : List Turn) → HaveDone (served old) past → NoneLost history → TellTurns past came history went (served new)
  pub stays : (fault : ConnectionFault) → old.fault ≡ Some fault → StaysEnded fault taken came history went new
  pub same_mode : new.mode ≡ old.mode
  pub same_limits : new.limits ≡ old.limits
