-- How a client waits.
use Rattle.std.specs.Prelude.{◌≡◌, ◌⊎◌, ℕ, Option, Some, None}
use Rattle.std.specs.FinMap.{get, remove}
use Rattle.cp_refs.specs.declared.call.Request.{Request}
use Rattle.cp_refs.specs.declared.cap.Cap.{Cap}
use Rattle.cp_refs.specs.declared.outcome.Outcome.{Outcome}
use Rattle.cp_objects.specs.ObjectTable.{ObjectTableKind}
use Rattle.cp_vat_machine.specs.declared.event.Event.TheVariants as events
use Rattle.cp_connection.specs.declared.fault.ConnectionFault.TheVariants.{OutOfMemory}
use Rattle.cp_session.specs.Doing.{HasMore, HasNone, PollsOn, RunsOut}
use Rattle.cp_client.specs.declared.fault.ClientFault.{ClientFault}
use Rattle.cp_client.specs.declared.fault.ClientFault.TheVariants as client_faults
use Rattle.cp_client.specs.Conversation.{Conversation}
use Rattle.cp_client.specs.Calls.{Asks, Finishes, IsUnasked, IsUndone}
use Rattle.cp_client.specs.Reading.{GoesOn, Halts}
use Rattle.cp_client.specs.Telling.{Knows}
use Rattle.cp_client.specs.Writing.{Flushes, WritesPart}

module _ {H : Type 0} where
  -- the outcome of a question came, and is given out: it is there no more
  abbrev pub GivesOut : Conversation H → ℕ → Outcome → Conversation H → Type 0
  GivesOut old q outcome new = (get old.asked q ≡ Some (Some outcome)) × (new ≡ record old { asked = remove old.asked q })

  -- a question is asked, and its outcome hasn't come
  abbrev pub IsAwaited : ℕ → Conversation H → Type 0
  IsAwaited q state = get state.asked q ≡ Some None

  -- All that was told is known. Then the outcome of a question is given out, or it hasn't come.
  abbrev pub Looks : Conversation H → ℕ → Option Outcome → Conversation H → Type 0
  Looks old q (Some outcome) new = (known : Conversation H) × Knows old known × GivesOut known q outcome new
  Looks old q None new = Knows old new × IsAwaited q new

  -- all that was told is known, and the question isn't asked
  abbrev pub IsNotAsked : Conversation H → ℕ → ClientFault → Conversation H → Type 0
  IsNotAsked old q fault new = Knows old new × (fault ≡ client_faults.NotAsked) × (get new.asked q ≡ None)

-- Of objects of one table.
module _ {H : Type 0} (table : ObjectTableKind H) where
  -- the objects went on, or memory ran out for that
  pub record Polls (old new : Conversation H) : Type 0 where
    pub polls : PollsOn table old.session 0 new.session ⊎ RunsOut table old.session 0 new.session
    pub same : new ≡ record old { session = new.session }

  -- All was written. Then the objects went on, where one may give more; or else bytes of the peer were taken.
  pub data Steps (old new : Conversation H) : Type 0 where
    polls_on : (mid : Conversation H) → Flushes table old mid → HasMore table mid.session → Polls mid new → Steps old new
    reads_on : (mid : Conversation H) → Flushes table old mid → HasNone table mid.session → GoesOn table mid new → Steps old new

  -- why a client doesn't go on: not all was written; or it was, the objects have no more to give, and no byte of the peer is taken
  pub data Fails (old : Conversation H) (fault : ClientFault) (new : Conversation H) : Type 0 where
    unwritten : WritesPart table old fault new → Fails old fault new
    halts : (mid : Conversation H) → Flushes table old mid → HasNone table mid.session → Halts mid fault new → Fails old fault new

  -- The client went on, step by step. Before each step it knew all that its session had to tell, and this held.
  pub data GoesWhile (holds : Conversation H → Type 0) (old : Conversation H) : Conversation H → Type 0 where
    begins : GoesWhile holds old old
    steps : {mid known new : Conversation H} → GoesWhile holds old mid → Knows mid known → holds known → Steps known new → GoesWhile holds old new

  -- The client went on while the outcome of a question hadn't come. Then that is given out.
  pub record Waits (old : Conversation H) (q : ℕ) (outcome : Outcome) (new : Conversation H) : Type 0 where
    pub mid : Conversation H
    pub known : Conversation H
    pub goes : GoesWhile (IsAwaited q) old mid
    pub knows : Knows mid known
    pub gives : GivesOut known q outcome new

  -- Why no outcome is given out: the question isn't asked; or its outcome hasn't come, and the client doesn't go on; or memory ran out.
  pub data Stops (old : Conversation H) (q : ℕ) (fault : ClientFault) (new : Conversation H) : Type 0 where
    not_asked : (mid : Conversation H) → GoesWhile (IsAwaited q) old mid → Knows mid new → fault ≡ client_faults.NotAsked → get new.asked q ≡ None
        → Stops old q fault new
    stopped : (mid known : Conversation H) → GoesWhile (IsAwaited q) old mid → Knows mid known → IsAwaited q known → Fails known fault new → Stops old q fault new
    ran_out : GoesWhile (IsAwaited q) old new → fault ≡ client_faults.Connection OutOfMemory → Stops old q fault new

  -- a client goes on whatever came
  abbrev pub Serves : Conversation H → Conversation H → Type 0
  Serves = GoesWhile (λ _. Unit {0})

  -- Why a client serves no more: it doesn't go on; or memory ran out.
  pub data ServesUntil (old : Conversation H) (fault : ClientFault) (new : Conversation H) : Type 0 where
    halted : (mid known : Conversation H) → Serves old mid → Knows mid known → Fails known fault new → ServesUntil old fault new
    overran : Serves old new → fault ≡ client_faults.Connection OutOfMemory → ServesUntil old fault new

  -- a call was made, its outcome came and was given out, and its question was given up
  pub record IsAnswered (old : Conversation H) (cap : Cap) (request : Request) (outcome : Outcome) (new : Conversation H) : Type 0 where
    pub q : ℕ
    pub called : Conversation H
    pub given : Conversation H
    pub asks : Asks old (events.Call cap request) q called
    pub waits : Waits called q outcome given
    pub finishes : Finishes table given q new

  -- Why a call isn't answered: it isn't made; or its outcome isn't given out; or that was, and is lost, since its question can't be given up.
  pub data IsUnanswered (old : Conversation H) (cap : Cap) (request : Request) (fault : ClientFault) (new : Conversation H) : Type 0 where
    unasked : IsUnasked old (events.Call cap request) fault new → IsUnanswered old cap request fault new
    untold : (q : ℕ) (called : Conversation H) → Asks old (events.Call cap request) q called → Stops called q fault new → IsUnanswered old cap request fault new
    unfinished : (q : ℕ) (outcome : Outcome) (called given : Conversation H) → Asks old (events.Call cap request) q called → Waits called q outcome given
        → IsUndone given (events.Finish q) fault new → IsUnanswered old cap request fault new
