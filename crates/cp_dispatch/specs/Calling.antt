-- The calls that objects make, and what they are told.
use Rattle.std.specs.Prelude.{◌≡◌, ◌⊎◌, ℕ, Bool, true, false, IsSome, Option, Some, None, Ok, Err}
use Rattle.std.specs.FinMap.{get}
use Rattle.cp_refs.specs.declared.call.Origin.{Origin}
use Rattle.cp_refs.specs.declared.outcome.Outcome.{Outcome}
use Rattle.cp_vat_machine.specs.InUse.{caps_of}
use Rattle.cp_vat_machine.specs.declared.event.Event.TheVariants as events
use Rattle.cp_vat_machine.specs.declared.event.Value.TheVariants as values
use Rattle.cp_vat_machine.specs.declared.fault.VatFault.{VatFault}
use Rattle.cp_connection.specs.declared.fault.ConnectionFault.{ConnectionFault}
use Rattle.cp_connection.specs.declared.fault.ConnectionFault.TheVariants as faults
use Rattle.cp_connection.specs.Link.{Link}
use Rattle.cp_connection.specs.Doing.{Acts}
use Rattle.cp_objects.specs.ObjectTable.{ObjectTableKind}
use Rattle.cp_dispatch.specs.declared.question_owner.QuestionOwner.{QuestionOwner}
use Rattle.cp_dispatch.specs.declared.event.SessionEvent.TheVariants as notices
use Rattle.cp_servants.specs.declared.servant.OutgoingCall.{OutgoingCall}
use Rattle.cp_servants.specs.declared.servant.Settled.{Settled}
use Rattle.cp_servants.specs.Outcomes.{refused_call}
use Rattle.cp_dispatch.specs.Work.{Work, Answers, GivesUp, Holds, IsDone, IsEnd, IsGiven, Notes, asking, asking_no_more, awaiting_no_more}
use Rattle.cp_dispatch.specs.GivingUp.{CancelsEach}
use Rattle.cp_dispatch.specs.PromiseRequests.{KeepsPromiseRequests}

-- What an object gave settles a call that is awaited, once the object gave imports up, with what its outcome means to the vat. A ticket that isn't awaited is
-- dropped.
pub data Settles (means : Outcome → Outcome) (old : Work) : Option Settled → Bool → Work → Type 0 where
  gives_none : Settles means old None false old
  is_stranger : (settled : Settled) → get old.awaited settled.ticket ≡ None → Settles means old (Some settled) false old
  is_awaited : (settled : Settled) (origin : Origin) (link : Link) {mid new : Work} → get old.awaited settled.ticket ≡ Some origin
      → GivesUp settled.gives_up (awaiting_no_more origin settled.ticket old) mid → Answers mid.link origin (means settled.outcome) link
      → new ≡ record mid { link = link } → Settles means old (Some settled) true new

-- An outcome is noted for the program, which is given what it names.
abbrev pub NotesOutcome : ℕ → Outcome → Work → Work → Type 0
NotesOutcome question outcome old new = (given : Work) × IsGiven (caps_of outcome) old given × Notes (notices.Outcome question outcome) given new

module _ {H : Type 0} (table : ObjectTableKind H) where
  -- there is no object of this number
  abbrev pub Lacks : ℕ → H → Type 0
  Lacks number objects = table.holds number objects → ⊥

  -- why the object of this number isn't asked for calls: none may be made, or there is no such object, or the connection ended
  abbrev pub IsUnasked : ℕ → Work → H → Type 0
  IsUnasked number work objects = (work.may_call ≡ false) ⊎ (Lacks number objects ⊎ IsSome work.link.fault)

  -- The object of this number is told what its call of this number came to, and is given the capabilities of that; if there is none nobody is.
  pub data Hears (number call_id : ℕ) (outcome : Outcome) (old new : Work) (objects others : H) : Type 0 where
    by_object : Holds (caps_of outcome) old new → table.tells number call_id outcome objects others → Hears number call_id outcome old new objects others
    by_none : Lacks number objects → new ≡ old → others ≡ objects → Hears number call_id outcome old new objects others

  -- The object of this number says which call it makes next, and did something of promises perhaps. If it isn't asked, it makes none, and none of those that it
  -- was yet to make.
  pub data NextCall (number : ℕ) (old : Work) (next_call : Option OutgoingCall) (new : Work) (objects others : H) : Type 0 where
    next_calls : {between : H} (link : Link) → old.may_call ≡ true → old.link.fault ≡ None → table.next_calls number next_call objects between
        → KeepsPromiseRequests table old.link link between others → new ≡ record old { link = link } → NextCall number old next_call new objects others
    is_unasked : IsUnasked number old objects → next_call ≡ None → new ≡ old → table.drops_next_calls number objects others → NextCall number old next_call new objects others

  -- A call of the object of this number is made: it is a question, whose outcome the object will be told; or the vat refuses it, and the object is told so; or
  -- the connection had ended.
  pub data MakesCall (number : ℕ) (next_call : OutgoingCall) (old new : Work) (objects others : H) : Type 0 where
    is_made : (question : ℕ) (link : Link) → Acts old.link (events.Call next_call.cap next_call.request) (Ok (values.Question question)) link
        → new ≡ asking question (record { number = number; call_id = next_call.call_id }) (record old { link = link }) → others ≡ objects → MakesCall number next_call old new objects others
    is_refused : (refusal : VatFault) (link : Link) → Acts old.link (events.Call next_call.cap next_call.request) (Err (faults.Refused refusal)) link
        → Hears number next_call.call_id refused_call (record old { link = link }) new objects others → MakesCall number next_call old new objects others
    had_ended : (fault : ConnectionFault) (link : Link) → IsEnd fault → Acts old.link (events.Call next_call.cap next_call.request) (Err fault) link
        → new ≡ record old { link = link } → others ≡ objects → MakesCall number next_call old new objects others

  -- The calls are answered that objects settled beside a poll, and those that were dropped, until none is left.
  pub data SettlesEach : Work → Work → H → H → Type 0 where
    none_left : {old : Work} {objects others : H} → table.hands_settled None objects others → SettlesEach old old objects others
    settles : {old mid new : Work} {objects between others : H} (settled : Settled) (gave : Bool) → table.hands_settled (Some settled) objects between
        → Settles (λ outcome. table.means outcome between) old (Some settled) gave mid → SettlesEach mid new between others → SettlesEach old new objects others

  -- The calls of the object of this number are made, as they mean to the vat, one after another, until it makes no more. Then those are finished that objects gave
  -- up, and the calls are answered that were settled meanwhile.
  pub data MakesCalls (number : ℕ) : Work → Work → H → H → Type 0 where
    makes_none : {old mid given new : Work} {objects between left others : H} → NextCall number old None mid objects between → CancelsEach table mid given between left
        → SettlesEach given new left others → MakesCalls number old new objects others
    makes_one : {old asked mid new : Work} {objects between last others : H} (next_call : OutgoingCall) → NextCall number old (Some next_call) asked objects between
        → MakesCall number (table.means_call next_call between) asked mid between last → MakesCalls number mid new last others → MakesCalls number old new objects others

  -- An outcome is handed back: to the object whose call it is of, whose question is finished, and which may make calls then; or it is noted for the program, which
  -- is given what it names.
  pub data HandsBack (question : ℕ) (outcome : Outcome) (old new : Work) (objects others : H) : Type 0 where
    to_user : get old.asked question ≡ None → NotesOutcome question outcome old new → others ≡ objects → HandsBack question outcome old new objects others
    to_object : {told : Work} {between : H} (owner : QuestionOwner) (link : Link) → get old.asked question ≡ Some owner → IsDone old.link (events.Finish question) link
        → Hears owner.number owner.call_id outcome (record (asking_no_more question owner old) { link = link }) told objects between
        → MakesCalls owner.number told new between others → HandsBack question outcome old new objects others
