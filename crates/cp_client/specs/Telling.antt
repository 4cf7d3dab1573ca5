-- What a client knows of what its session tells it.
use Rattle.std.specs.Prelude.{◌≡◌, ℕ, Option, Some, None}
use Rattle.cp_refs.specs.declared.outcome.Outcome.{Outcome}
use Rattle.cp_tables.specs.Table.{with_change}
use Rattle.cp_vat_machine.specs.declared.effect.Reason.{Reason}
use Rattle.cp_dispatch.specs.declared.event.SessionEvent.{SessionEvent}
use Rattle.cp_dispatch.specs.declared.event.SessionEvent.TheVariants as told
use Rattle.cp_session.specs.Doing.{Tells}
use Rattle.cp_session.specs.State.{State}
use Rattle.cp_client.specs.Conversation.{Asked, Conversation}

-- the outcome of a question that is asked came
abbrev pub came : Asked → ℕ → Outcome → Asked
came asked q outcome = with_change asked q (λ _. Some outcome)

-- the questions after an event
abbrev pub asked_by : SessionEvent → Asked → Asked
asked_by (told.Outcome q outcome) asked = came asked q outcome
asked_by other asked = asked

-- why the vat closed, after an event
abbrev pub closed_by : SessionEvent → Option Reason → Option Reason
closed_by (told.Closed reason) closed = Some reason
closed_by other closed = closed

module _ {H : Type 0} where
  -- a client that knows what an event says
  abbrev pub knowing : SessionEvent → Conversation H → Conversation H
  knowing event old = record old { asked = asked_by event old.asked; closed = closed_by event old.closed }

  -- Events were told, one after another, and what each says is known: an outcome that is waited for is kept for its question.
  pub data Hears (old : Conversation H) : Conversation H → Type 0 where
    begins : Hears old old
    goes_on : {mid new : Conversation H} (event : SessionEvent) (session : State H) → Hears old mid → Tells mid.session (Some event) session
        → new ≡ knowing event (record mid { session = session }) → Hears old new

  -- All that the session had to tell is known, and nothing else was done.
  pub record Knows (old new : Conversation H) : Type 0 where
    pub heard : Conversation H
    pub hears : Hears old heard
    pub last : Tells heard.session None new.session
    pub same : new ≡ record heard { session = new.session }
