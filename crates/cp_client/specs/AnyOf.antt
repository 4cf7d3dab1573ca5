-- How a client waits for the first of several questions.
use Rattle.std.specs.Prelude.{◌≡◌, List, [], ◌∷◌, ◌++◌, Option, Some, None}
use Rattle.std.specs.FinMap.{get}
use Rattle.cp_refs.specs.declared.outcome.Outcome.{Outcome}
use Rattle.cp_objects.specs.ObjectTable.{ObjectTableKind}
use Rattle.cp_connection.specs.declared.fault.ConnectionFault.TheVariants.{OutOfMemory}
use Rattle.cp_client.specs.declared.fault.ClientFault.{ClientFault}
use Rattle.cp_client.specs.declared.fault.ClientFault.TheVariants as client_faults
use Rattle.cp_client.specs.declared.question.Question.{Question}
use Rattle.cp_client.specs.Conversation.{Conversation}
use Rattle.cp_client.specs.Telling.{Knows}
use Rattle.cp_client.specs.Waits.{Fails, GivesOut, GoesWhile, IsAwaited}

module _ {H : Type 0} where
  -- each of these questions is asked, and its outcome hasn't come
  abbrev pub AreAwaited : List Question → Conversation H → Type 0
  AreAwaited [] state = Unit {0}
  AreAwaited (q ∷ qs) state = IsAwaited q.number state × AreAwaited qs state

  -- this is one of the questions, and no outcome of those before it has come
  pub record IsNext (qs : List Question) (q : Question) (state : Conversation H) : Type 0 where
    pub before : List Question
    pub after : List Question
    pub in_order : qs ≡ before ++ q ∷ after
    pub awaited : AreAwaited before state

  -- All that was told is known. Then the first outcome that came is given out, or none has come.
  abbrev pub LooksForAny : Conversation H → List Question → Option (Question × Outcome) → Conversation H → Type 0
  LooksForAny old qs (Some came) new = (known : Conversation H) × Knows old known × IsNext qs came.0 known × GivesOut known came.0.number came.1 new
  LooksForAny old qs None new = Knows old new × AreAwaited qs new

  -- all that was told is known, and the next of the questions isn't asked
  pub record IsAnyNotAsked (old : Conversation H) (qs : List Question) (fault : ClientFault) (new : Conversation H) : Type 0 where
    pub knows : Knows old new
    pub is : fault ≡ client_faults.NotAsked
    pub q : Question
    pub next : IsNext qs q new
    pub not_asked : get new.asked q.number ≡ None

-- Of objects of one table.
module _ {H : Type 0} (table : ObjectTableKind H) where
  -- The client went on while none of the outcomes had come. Then the first that came is given out.
  pub record WaitsForAny (old : Conversation H) (qs : List Question) (came : Question × Outcome) (new : Conversation H) : Type 0 where
    pub mid : Conversation H
    pub goes : GoesWhile table (AreAwaited qs) old mid
    pub looks : LooksForAny mid qs (Some came) new

  -- Why none is given out: there is no question; or one isn't asked; or no outcome has come, and the client doesn't go on; or memory ran out.
  pub data StopsForAll (old : Conversation H) (qs : List Question) (fault : ClientFault) (new : Conversation H) : Type 0 where
    no_question : qs ≡ [] → fault ≡ client_faults.NotAsked → new ≡ old → StopsForAll old qs fault new
    not_asked : (mid : Conversation H) → GoesWhile table (AreAwaited qs) old mid → IsAnyNotAsked mid qs fault new → StopsForAll old qs fault new
    stopped : (mid known : Conversation H) → GoesWhile table (AreAwaited qs) old mid → Knows mid known → AreAwaited qs known → Fails table known fault new
        → StopsForAll old qs fault new
    ran_out : GoesWhile table (AreAwaited qs) old new → fault ≡ client_faults.Connection OutOfMemory → StopsForAll old qs fault new
