-- What a client's program has it do.
use Rattle.std.specs.Prelude.{◌≡◌, ◌⊎◌, ℕ, Option, Some, None, Result, Ok, Err}
use Rattle.std.specs.FinMap.{insert, remove}
use Rattle.cp_refs.specs.declared.call.Request.{Request}
use Rattle.cp_refs.specs.declared.cap.Cap.{Cap}
use Rattle.cp_objects.specs.declared.objects.Objects.{Objects}
use Rattle.cp_objects.specs.ObjectTable.{ObjectTableKind}
use Rattle.cp_objects.specs.declared.letters.Letter.{Letter}
use Rattle.cp_objects.specs.declared.letters.LetterBody.{LetterBody}
use Rattle.cp_vat_machine.specs.declared.event.Event.{Event}
use Rattle.cp_vat_machine.specs.declared.event.Event.TheVariants as events
use Rattle.cp_vat_machine.specs.declared.event.Value.{Value}
use Rattle.cp_vat_machine.specs.declared.event.Value.TheVariants as values
use Rattle.cp_connection.specs.declared.fault.ConnectionFault.{ConnectionFault}
use Rattle.cp_connection.specs.declared.fault.ConnectionFault.TheVariants as faults
use Rattle.cp_session.specs.Doing as sessions
use Rattle.cp_session.specs.State.{State}
use Rattle.cp_client.specs.declared.fault.ClientFault.{ClientFault}
use Rattle.cp_client.specs.declared.fault.ClientFault.TheVariants as client_faults
use Rattle.cp_client.specs.Conversation.{Asked, Conversation}
use Rattle.cp_client.specs.Questions.{untaken}

module _ {H : Type 0} where
  -- A call of the program's was made, and nothing else was done, but that these are the questions then.
  pub record Did (old : Conversation H) (event : Event) (result : Result Value ConnectionFault) (asked : Asked) (new : Conversation H) : Type 0 where
    pub did : sessions.Did old.session event result new.session
    pub same : new ≡ record old { session = new.session; asked = asked }

  -- a question was asked, and its outcome hasn't come
  abbrev pub Asks : Conversation H → Event → ℕ → Conversation H → Type 0
  Asks old event q new = Did old event (Ok (values.Question q)) (insert old.asked q None) new

  -- Why no question is asked: the connection refuses it; or memory ran out, and it may have been asked, but its outcome isn't waited for.
  pub data IsUnasked (old : Conversation H) (event : Event) (fault : ClientFault) (new : Conversation H) : Type 0 where
    refuses : (f : ConnectionFault) → fault ≡ client_faults.Connection f → Did old event (Err f) old.asked new → IsUnasked old event fault new
    forgets : (q : ℕ) → fault ≡ client_faults.Connection faults.OutOfMemory → Did old event (Ok (values.Question q)) old.asked new → IsUnasked old event fault new

  -- why a call of the program's isn't made: the connection refuses it
  abbrev pub IsUndone : Conversation H → Event → ClientFault → Conversation H → Type 0
  IsUndone old event fault new = (f : ConnectionFault) × (fault ≡ client_faults.Connection f) × Did old event (Err f) old.asked new

  -- The program gave an import back, and this came of it. Nothing else was done.
  abbrev pub GivesBack : Conversation H → ℕ → Result Value ConnectionFault → Conversation H → Type 0
  GivesBack old import result new = sessions.GivesBack import old.session result new.session × (new ≡ record old { session = new.session })

  -- an import was given back, or why it wasn't
  abbrev pub Releases : Conversation H → ℕ → Conversation H → Type 0
  Releases old import new = GivesBack old import (Ok values.Nothing) new

  abbrev pub IsUnreleased : Conversation H → ℕ → ClientFault → Conversation H → Type 0
  IsUnreleased old import fault new = (f : ConnectionFault) × (fault ≡ client_faults.Connection f) × GivesBack old import (Err f) new

  -- A capability was called, and a question was asked by it; or none was: the client refuses it, or memory ran out before.
  abbrev pub AsksOrNot : Conversation H → Cap → Request → Result ℕ ClientFault → Conversation H → Type 0
  AsksOrNot old cap request (Ok q) new = Asks old (events.Call cap request) q new
  AsksOrNot old cap request (Err fault) new = IsUnasked old (events.Call cap request) fault new ⊎ ((fault ≡ client_faults.Connection faults.OutOfMemory) × (new ≡ old))

-- nothing but the objects changed
abbrev pub KeepsRest : {H : Type 0} → Conversation H → Conversation H → Type 0
KeepsRest old new = sessions.KeepsRest old.session new.session × (new ≡ record old { session = new.session })

-- Of objects of one table.
module _ {H : Type 0} (table : ObjectTableKind H) where
  -- A question was given up, and its outcome isn't waited for. What an outcome named that came and wasn't given out is given back. An object
  -- of the client's that is to answer it is told.
  pub record Finishes (old : Conversation H) (q : ℕ) (new : Conversation H) : Type 0 where
    pub finished : State H
    pub finishes : sessions.FinishesQuestion table q old.session finished
    pub releases : sessions.ReleasesUntaken (untaken old.asked q) finished new.session
    pub same : new ≡ record old { session = new.session; asked = remove old.asked q }

  -- an object is woken, and nothing else is done
  abbrev pub Wakes : ℕ → Conversation H → Conversation H → Type 0
  Wakes object old new = sessions.Wakes table object old.session new.session × (new ≡ record old { session = new.session })

  -- who is to be woken of another session is handed out, and nothing else is done
  abbrev pub HandsOn : Option Letter → Conversation H → Conversation H → Type 0
  HandsOn letter old new = sessions.HandsOn table letter old.session new.session × (new ≡ record old { session = new.session })

  -- what a letter of another session says is done
  abbrev pub Delivers : LetterBody → Conversation H → Conversation H → Type 0
  Delivers body old new = sessions.Delivers table body old.session new.session × (new ≡ record old { session = new.session })

-- an object more is there, which stays, and nothing else was done
abbrev pub Exports : {A : Type 0} → A → Conversation (Objects A) → Conversation (Objects A) → Type 0
Exports object old new = sessions.Adds object old.session new.session × (new ≡ record old { session = new.session })
