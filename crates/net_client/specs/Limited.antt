-- What a client does in a limited time.
use Rattle.std.specs.Prelude.{◌≡◌, ◌⊎◌, ℕ, List, Option, Some, None}
use Rattle.std.specs.declared.io.ErrorKind.TheVariants.{TimedOut}
use Rattle.cp_refs.specs.declared.outcome.Outcome.{Outcome}
use Rattle.cp_objects.specs.ObjectTable.{ObjectTableKind}
use Rattle.cp_stream.specs.Device.{of_kind}
use Rattle.cp_client.specs.declared.question.Question.{Question}
use Rattle.cp_client.specs.declared.fault.CallError.{CallError}
use Rattle.cp_client.specs.declared.fault.ClientFault.{ClientFault}
use Rattle.cp_client.specs.declared.fault.ClientFault.TheVariants.{Device}
use Rattle.cp_client.specs.Conversation.{Conversation}
use Rattle.cp_client.specs.AnyOf.{StopsForAll}
use Rattle.cp_client.specs.Results.{TakesNone}
use Rattle.cp_client.specs.Waits.{ServesUntil, Stops, Waits}

-- the fault of a client whose time was over
abbrev pub timed_out : ClientFault
timed_out = Device (of_kind TimedOut)

-- Of objects of one table.
module _ {H : Type 0} (table : ObjectTableKind H) where
  -- The outcome of a question was given out, or its time was over.
  abbrev pub Polls : Conversation H → ℕ → Option Outcome → Conversation H → Type 0
  Polls old q (Some outcome) new = Waits table old q outcome new
  Polls old q None new = Stops table old q timed_out new

  -- Why none is given out: the client doesn't go on; or its clock failed, and nothing was done.
  abbrev pub StopsOrNot : Conversation H → ℕ → ClientFault → Conversation H → Type 0
  StopsOrNot old q fault new = Stops table old q fault new ⊎ (new ≡ old)

  -- the same of results
  abbrev pub TakesNoneOrNot : Conversation H → ℕ → CallError → Conversation H → Type 0
  TakesNoneOrNot old q fault new = TakesNone table old q fault new ⊎ (new ≡ old)

  -- the same of any of several questions
  abbrev pub StopsForAllOrNot : Conversation H → List Question → ClientFault → Conversation H → Type 0
  StopsForAllOrNot old qs fault new = StopsForAll table old qs fault new ⊎ (new ≡ old)

  -- the same of a client that serves
  abbrev pub ServesOrNot : Conversation H → ClientFault → Conversation H → Type 0
  ServesOrNot old fault new = ServesUntil table old fault new ⊎ (new ≡ old)
