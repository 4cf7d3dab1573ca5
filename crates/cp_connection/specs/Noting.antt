-- What is noted of effects. No public clause names these.
use Rattle.std.specs.Prelude.{◌≡◌, ℕ, List, [], ◌∷◌, ◌++◌, length, take}
use Rattle.cp_frame.specs.declared.mode.Mode.{Mode}
use Rattle.cp_vat_machine.specs.declared.effect.Effect.{Effect}
use Rattle.cp_tail_calls.specs.Bridging.{sent_of}
use Rattle.cp_connection.specs.declared.agenda.Agenda.{Agenda}
use Rattle.cp_connection.specs.declared.agenda.Mark.{Mark}
use Rattle.cp_connection.specs.declared.event.ConnectionEvent.{ConnectionEvent}
use Rattle.cp_connection.specs.Counting.{CountsMore}
use Rattle.cp_connection.specs.Effects.{happening_by, AreFramesOf}

-- The frames of what effects send come after those that are to be written, and what happens by them after what happened.
pub record Notes (old : Agenda) (effects : List Effect) (new : Agenda) : Type 0 where
  pub bytes : List ℕ
  pub frames : AreFramesOf old.mode (sent_of effects) bytes
  pub goes_out : new.outgoing ≡ old.outgoing ++ bytes
  pub happens : new.happened.items ≡ old.happened.items ++ happening_by effects
  pub counts : CountsMore old.sent (length (sent_of effects)) new.sent
  pub same_mode : new.mode ≡ old.mode

-- The effect sends nothing, and this happens by it.
pub record IsTold (effect : Effect) (happening : ConnectionEvent) : Type 0 where
  pub none_sent : sent_of (effect ∷ []) ≡ []
  pub happens : happening_by (effect ∷ []) ≡ happening ∷ []

-- Something may have been noted.
pub record Grows (old new : Agenda) : Type 0 where
  pub bytes : List ℕ
  pub goes_out : new.outgoing ≡ old.outgoing ++ bytes
  pub more : List ConnectionEvent
  pub happens : new.happened.items ≡ old.happened.items ++ more
  pub same_mode : new.mode ≡ old.mode

-- Nothing was noted.
pub record Stays (old new : Agenda) : Type 0 where
  pub same_mode : new.mode ≡ old.mode
  pub same_bytes : new.outgoing ≡ old.outgoing
  pub same_happenings : new.happened.items ≡ old.happened.items
  pub same_count : new.sent ≡ old.sent

-- so much was noted
pub record Marks (agenda : Agenda) (mark : Mark) : Type 0 where
  pub bytes : mark.unwritten ≡ length agenda.outgoing
  pub events : mark.happened ≡ length agenda.happened.items
  pub count : mark.sent ≡ agenda.sent

-- What was noted after this is taken back.
pub record GoesBack (old : Agenda) (mark : Mark) (new : Agenda) : Type 0 where
  pub same_mode : new.mode ≡ old.mode
  pub bytes : new.outgoing ≡ take mark.unwritten old.outgoing
  pub events : new.happened.items ≡ take mark.happened old.happened.items
  pub count : new.sent ≡ mark.sent

-- Nothing is to be done.
pub record IsNew (mode : Mode) (new : Agenda) : Type 0 where
  pub same_mode : new.mode ≡ mode
  pub no_bytes : new.outgoing ≡ []
  pub no_happenings : new.happened.items ≡ []
  pub none_sent : new.sent ≡ 0
