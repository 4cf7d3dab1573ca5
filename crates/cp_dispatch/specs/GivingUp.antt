-- Calls that are given up, and who is told.
use Rattle.std.specs.Prelude.{◌≡◌, ℕ, Bool, true, false, Option, Some, None}
use Rattle.std.specs.FinMap.{get, remove}
use Rattle.cp_tables.specs.Table.{Table}
use Rattle.cp_tables.specs.declared.exchange.Stage.{Stage}
use Rattle.cp_tables.specs.declared.exchange.Stage.TheVariants as stages
use Rattle.cp_refs.specs.declared.call.Origin.{Origin}
use Rattle.cp_refs.specs.declared.call.Origin.TheVariants as origins
use Rattle.cp_vat.specs.Stages.{stage_at}
use Rattle.cp_vat_machine.specs.declared.event.Event.TheVariants as events
use Rattle.cp_connection.specs.Link.{Link}
use Rattle.cp_objects.specs.declared.canceled_call.CanceledCall.{CanceledCall}
use Rattle.cp_objects.specs.ObjectTable.{ObjectTableKind}
use Rattle.cp_dispatch.specs.Work.{Work, IsDone, asking_no_more, key_at, key_of}
use Rattle.cp_dispatch.specs.PromiseRequests.{KeepsPromiseRequests}

-- its outcome is to come, and somebody waits for it
abbrev pub is_open : Option Stage → Bool
is_open (Some stages.Open) = true
is_open other = false

-- its outcome is to come, and nobody waits for it
abbrev pub is_finished : Option Stage → Bool
is_finished (Some stages.Finished) = true
is_finished other = false

-- the question of a call of an object, by the call's number
abbrev pub question_of : CanceledCall → Work → Option ℕ
question_of call work = get work.questions (key_at call.number call.call_id)

module _ {H : Type 0} (table : ObjectTableKind H) where
  -- The object is told that owes the answer of a call which was given up, if one does, and did something of promises perhaps. The answer is owed no more, so it
  -- is told once.
  pub data TellsOwing (origin : Origin) (old new : Work) (objects others : H) : Type 0 where
    is_not_owed : get old.owed (key_of origin) ≡ None → new ≡ old → others ≡ objects → TellsOwing origin old new objects others
    is_owed : {between : H} (ticket : ℕ) (told : Option ℕ) (link : Link) → get old.owed (key_of origin) ≡ Some ticket → table.cancels ticket told objects between
        → KeepsPromiseRequests table old.link link between others → new ≡ record old { link = link; owed = remove old.owed (key_of origin) }
        → TellsOwing origin old new objects others

  -- A call that was given up while it waited in the vat was delivered, and its object is told, where it is to answer it later.
  pub data TellsLate (origin : Origin) (old new : Work) (objects others : H) : Type 0 where
    is_for_nobody : is_finished (stage_at old.link.vat origin) ≡ true → TellsOwing origin old new objects others → TellsLate origin old new objects others
    is_for_somebody : is_finished (stage_at old.link.vat origin) ≡ false → new ≡ old → others ≡ objects → TellsLate origin old new objects others

  -- A call is done with that its object gave up. Where its outcome is to come yet, its question is finished, so the outcome goes to nobody, and the object doesn't wait
  -- for it; and where an object here owes the answer, that is told. Where it isn't known, or its outcome came, nothing is done.
  pub data CancelsCall (call : CanceledCall) (old new : Work) (objects others : H) : Type 0 where
    is_unknown : question_of call old ≡ None → new ≡ old → others ≡ objects → CancelsCall call old new objects others
    was_answered : (question : ℕ) → question_of call old ≡ Some question → is_open (stage_at old.link.vat (origins.Own question)) ≡ false → new ≡ old
        → others ≡ objects → CancelsCall call old new objects others
    finishes : {between : H} (question : ℕ) (link : Link) → question_of call old ≡ Some question → is_open (stage_at old.link.vat (origins.Own question)) ≡ true
        → table.waits_less call.number objects between → IsDone old.link (events.Finish question) link
        → TellsOwing (origins.Own question) (asking_no_more question (record { number = call.number; call_id = call.call_id }) (record old { link = link })) new between others
        → CancelsCall call old new objects others

  -- each call that objects gave up is done with, until none is left
  pub data CancelsEach : Work → Work → H → H → Type 0 where
    none_left : {old : Work} {objects others : H} → table.hands_canceled None objects others → CancelsEach old old objects others
    cancels : {old mid new : Work} {objects handed between others : H} (call : CanceledCall) → table.hands_canceled (Some call) objects handed
        → CancelsCall call old mid handed between → CancelsEach mid new between others → CancelsEach old new objects others
