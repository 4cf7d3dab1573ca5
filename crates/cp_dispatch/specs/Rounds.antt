-- What a connection asks of its objects, and what they give.
use Rattle.std.specs.Prelude.{◌≡◌, ℕ, ◌+◌, Bool, true, false, ◌||◌, IsSome, List, [], ◌∷◌, Option, Some, None}
use Rattle.std.specs.FinMap.{get, remove}
use Rattle.cp_refs.specs.declared.call.Origin.{Origin}
use Rattle.cp_refs.specs.declared.call.Request.{Request}
use Rattle.cp_refs.specs.declared.outcome.Outcome.{Outcome}
use Rattle.cp_connection.specs.declared.event.ConnectionEvent.{ConnectionEvent}
use Rattle.cp_connection.specs.declared.event.ConnectionEvent.TheVariants as happenings
use Rattle.cp_connection.specs.Link.{Link}
use Rattle.cp_connection.specs.Receiving.{HandsOut}
use Rattle.cp_objects.specs.ObjectTable.{ObjectTableKind}
use Rattle.cp_dispatch.specs.declared.event.SessionEvent.{SessionEvent}
use Rattle.cp_dispatch.specs.declared.event.SessionEvent.TheVariants as notices
use Rattle.cp_servants.specs.declared.servant.Reply.{Reply}
use Rattle.cp_servants.specs.declared.servant.Reply.TheVariants as replies
use Rattle.cp_servants.specs.declared.servant.Settled.{Settled}
use Rattle.cp_servants.specs.Outcomes.{no_such_object}
use Rattle.cp_dispatch.specs.Work.{Work, Answers, GivesUp, Holds, Notes, Replies, Releases}
use Rattle.cp_dispatch.specs.Calling.{HandsBack, Lacks, MakesCalls, Settles}
use Rattle.cp_dispatch.specs.GivingUp.{TellsLate}
use Rattle.cp_dispatch.specs.PromiseRequests.{KeepsPromiseRequests}

-- Of the objects of one table.
module _ {H : Type 0} (table : ObjectTableKind H) where
  -- The object of this number is called, so it is given the call's capabilities, and replies this; if there is none the call fails.
  pub data Gives (number ticket : ℕ) (call : Request) (reply : Reply) (old new : Work) (objects others : H) : Type 0 where
    by_object : Holds call.caps old new → table.calls number ticket call reply objects others → Gives number ticket call reply old new objects others
    by_none : Lacks table number objects → reply ≡ replies.Now no_such_object [] → new ≡ old → others ≡ objects → Gives number ticket call reply old new objects others

  -- What an event asks is done: a call goes to its object, which did something of promises perhaps, whose reply counts, which is told where the call was given up
  -- before, and which may make calls then; an outcome is handed back; and that the vat closed is noted.
  abbrev pub Handles : ConnectionEvent → Work → Work → H → H → Type 0
  Handles (happenings.Delivered k origin ticket call) old new objects others =
      (reply : Reply) × (called mid told : Work) × (link : Link) × (between kept after : H) × Gives k ticket call reply old called objects between
      × KeepsPromiseRequests table called.link link between kept × Replies (λ outcome. table.means outcome kept) (record called { link = link }) origin ticket reply mid
      × TellsLate table origin mid told kept after × MakesCalls table k told new after others
  Handles (happenings.Settled question outcome) old new objects others = HandsBack table question outcome old new objects others
  Handles (happenings.Closed reason) old new objects others = Notes (notices.Closed reason) old new × (others ≡ objects)

  -- What happened is worked off, in order, until nothing is left.
  pub data WorksOff : Work → Work → H → H → Type 0 where
    none_left : {old : Work} {objects : H} → old.link.happened ≡ [] → WorksOff old old objects objects
    handles : {old mid new : Work} {objects between others : H} (first : ConnectionEvent) (link : Link) → HandsOut old.link (Some first) link
        → Handles first (record old { link = link }) mid objects between → WorksOff mid new between others → WorksOff old new objects others

  -- The objects from this number on are polled that are to be, in order. Each did something of promises perhaps, and may make calls then, and what that leads to
  -- is worked off before the next. It is noted whether one gave an outcome that was awaited. Once the connection ended, no more is polled.
  pub data PollsFrom : ℕ → Work → Bool → Work → H → H → Type 0 where
    none_left : {from : ℕ} {old : Work} {objects : H} → table.is_next from None objects → PollsFrom from old false old objects objects
    has_ended : {from : ℕ} {old : Work} {objects : H} → IsSome old.link.fault → PollsFrom from old false old objects objects
    polls : {from : ℕ} {old mid called done new : Work} {link : Link} {objects between kept asked last others : H} {gave : Bool} (number : ℕ)
        (settled : Option Settled) (first more : Bool) → old.link.fault ≡ None → table.is_next from (Some number) objects → table.polls number settled objects between
        → KeepsPromiseRequests table old.link link between kept → Settles (λ outcome. table.means outcome kept) (record old { link = link }) settled first mid
        → MakesCalls table number mid called kept asked → WorksOff called done asked last → PollsFrom (number + 1) done more new last others → gave ≡ (first || more)
        → PollsFrom from old gave new objects others

  -- What objects gave up beside what they answered is given up.
  abbrev pub GivesUpBeside : Work → Work → H → H → Type 0
  GivesUpBeside old new objects others = (imports : List ℕ) × table.hands_given_up imports objects others × GivesUp imports old new

  -- A round polls each object once that is to be polled, in order. Then it tries the imports that were given up, with those that objects gave up beside what
  -- they answered, and works off what that leads to.
  pub data Rounds (old : Work) (gave : Bool) (new : Work) (objects others : H) : Type 0 where
    has_ended : PollsFrom 0 old gave new objects others → IsSome new.link.fault → Rounds old gave new objects others
    releases : (mid given released : Work) (between left : H) → PollsFrom 0 old gave mid objects between → mid.link.fault ≡ None
        → GivesUpBeside mid given between left → Releases given released → WorksOff released new left others → Rounds old gave new objects others

-- the first event that wasn't taken is handed out, if there is one
abbrev pub HandsOver : Work → Option SessionEvent → Work → Type 0
HandsOver old (Some first) new = (old.notices ≡ first ∷ new.notices) × (new ≡ record old { notices = new.notices })
HandsOver old None new = (old.notices ≡ []) × (new ≡ old)
