-- The order of work in a server: what a message does, what polls do, and how the run ends.
use Rattle.std.specs.Prelude.{◌≡◌, ℕ, ◌+◌, ◌≤◌, Bool, true, false, ◌||◌, IsSome, List, [], ◌∷◌, ◌++◌, Option, Some, None, length}
use Rattle.std.specs.FinMap.{get, remove, empty}
use Rattle.cp_messages.specs.declared.message.Message.{Message}
use Rattle.cp_refs.specs.declared.call.Origin.{Origin}
use Rattle.cp_refs.specs.declared.call.Request.{Request}
use Rattle.cp_vat_machine.specs.State.{new_state}
use Rattle.cp_vat_machine.specs.declared.effect.Effect.{Effect}
use Rattle.cp_vat_machine.specs.declared.effect.Effect.TheVariants as effects
use Rattle.cp_vat_machine.specs.declared.event.Event.TheVariants as events
use Rattle.cp_servants.specs.declared.servant.Reply.{Reply}
use Rattle.cp_servants.specs.declared.servant.Settled.{Settled}
use Rattle.cp_servants.specs.Outcomes.{no_such_object}
use Rattle.cp_servants.specs.Servant.{Kind, CallsAt, PollsAt}
use Rattle.cp_serve.specs.Work.{Work, Answers, Replies, Releases, IsDone}

-- What a poll gave settles a call that is awaited, and the imports that the object gives up are noted. A ticket that isn't awaited is dropped.
pub data Settles (old : Work) : Option Settled → Bool → Work → Type 0 where
  gives_none : Settles old None false old
  is_stranger : (settled : Settled) → get old.awaited settled.ticket ≡ None → Settles old (Some settled) false old
  is_awaited : (settled : Settled) (origin : Origin) {new : Work} → get old.awaited settled.ticket ≡ Some origin
      → Answers (record old { awaited = remove old.awaited settled.ticket; given_up = old.given_up ++ settled.gives_up }) origin settled.outcome new
      → Settles old (Some settled) true new

-- nothing is left to be written
abbrev pub written : Work → Work
written w = record w { sent = [] }

-- a server to which nothing has come: its bootstrap object is object 0
abbrev pub new_work : Work
new_work = record { vat = new_state (Some 0); effects = []; awaited = empty; given_up = []; sent = []; closed = None }

-- Of objects of one kind.
module _ {A : Type 0} (kind : Kind A) where
  -- A call is delivered: to its object, whose reply counts; or, past the objects, it fails.
  pub data Delivers (old : Work) (objects : List A) (k : ℕ) (origin : Origin) (ticket : ℕ) (call : Request) (new : Work) (others : List A) : Type 0 where
    to_object : (reply : Reply) → CallsAt kind k ticket call reply objects others → Replies old origin ticket reply new
        → Delivers old objects k origin ticket call new others
    to_none : length objects ≤ k → Answers old origin no_such_object new → others ≡ objects → Delivers old objects k origin ticket call new others

  -- What an effect asks for is done. A message is written after the others; a server asks nothing of its peer, so nothing is settled for it; and once the
  -- vat closed, nothing more is done.
  abbrev pub Acts : Effect → Work → List A → Work → List A → Type 0
  Acts (effects.Send m) old objects new others = (new ≡ record old { sent = old.sent ++ m ∷ [] }) × (others ≡ objects)
  Acts (effects.Deliver k origin ticket call) old objects new others = Delivers old objects k origin ticket call new others
  Acts (effects.Settled q outcome) old objects new others = (new ≡ old) × (others ≡ objects)
  Acts (effects.Closed reason) old objects new others = (new ≡ record old { closed = Some reason; effects = [] }) × (others ≡ objects)

  -- The effects are worked off, from the front, until none is left.
  pub data WorksOff : Work → List A → Work → List A → Type 0 where
    none_left : {old : Work} {objects : List A} → old.effects ≡ [] → WorksOff old objects old objects
    acts : {old mid new : Work} {objects between others : List A} (effect : Effect) (rest : List Effect) → old.effects ≡ effect ∷ rest
        → Acts effect (record old { effects = rest }) objects mid between → WorksOff mid between new others → WorksOff old objects new others

  -- The objects from this place on are polled, one after another, and what each poll leads to is worked off before the next. It is noted whether one gave
  -- an outcome that was awaited. Once the vat closed, no more is polled.
  pub data PollsFrom : ℕ → Work → List A → Bool → Work → List A → Type 0 where
    none_left : {place : ℕ} {old : Work} {objects : List A} → length objects ≤ place → PollsFrom place old objects false old objects
    is_closed : {place : ℕ} {old : Work} {objects : List A} → IsSome old.closed → PollsFrom place old objects false old objects
    polls : {place : ℕ} {old mid done new : Work} {objects between last others : List A} {gave : Bool} (settled : Option Settled) (first more : Bool)
        → old.closed ≡ None → PollsAt kind place settled objects between → Settles old settled first mid
        → WorksOff mid between done last → PollsFrom (place + 1) done last more new others → gave ≡ (first || more) → PollsFrom place old objects gave new others

  -- A round: each object is polled once, in order; then the imports that were given up are tried, and what that leads to is worked off.
  pub data Rounds (old : Work) (objects : List A) (gave : Bool) (new : Work) (others : List A) : Type 0 where
    is_closed : PollsFrom 0 old objects gave new others → IsSome new.closed → Rounds old objects gave new others
    releases : (mid released : Work) (between : List A) → PollsFrom 0 old objects gave mid between → mid.closed ≡ None → Releases mid released
        → WorksOff released between new others → Rounds old objects gave new others

  -- A message is taken: the vat receives it, what that leads to is worked off, and a round follows.
  pub data TakesMessage (old : Work) (objects : List A) (m : Message) (new : Work) (others : List A) : Type 0 where
    takes : (received mid : Work) (between : List A) (gave : Bool) → IsDone old (events.Receive m) received → WorksOff received objects mid between
        → Rounds mid between gave new others → TakesMessage old objects m new others

  -- Messages are taken one after another, until the vat closed. What each leads to is sent.
  pub data TakesAll (start : Work) (objects : List A) : List Message → List Message → Work → List A → Type 0 where
    none_taken : TakesAll start objects [] [] start objects
    takes_more : {taken sent all more : List Message} {mid new last : Work} {between others : List A} (m : Message) → TakesAll start objects taken sent mid between
        → mid.closed ≡ None → TakesMessage mid between m new others → all ≡ taken ++ m ∷ [] → more ≡ sent ++ new.sent → last ≡ written new
        → TakesAll start objects all more last others

  -- Where the messages end, rounds follow one another, until the vat closed. It is noted whether the last gave what was awaited; before the first it is
  -- as if one had.
  pub data ClosesAll (start : Work) (objects : List A) : Bool → List Message → Work → List A → Type 0 where
    none_yet : ClosesAll start objects true [] start objects
    one_more : {gave : Bool} {sent more : List Message} {mid new last : Work} {between others : List A} → ClosesAll start objects true sent mid between
        → mid.closed ≡ None → Rounds mid between gave new others → more ≡ sent ++ new.sent → last ≡ written new → ClosesAll start objects gave more last others
