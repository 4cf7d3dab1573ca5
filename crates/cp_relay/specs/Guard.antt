-- A guard, before and after a message.
use Rattle.std.specs.Prelude.{◌≡◌, ◌≢◌, Bool, true, false, Option, Some, None}
use Rattle.std.specs.FinMap as map
use Rattle.cp_messages.specs.declared.message.Message.{Message}
use Rattle.cp_messages.specs.declared.message.Message.TheVariants as messages
use Rattle.cp_relay.specs.declared.rules.Rules.{Rules}
use Rattle.cp_relay.specs.declared.guard.Guard.{Guard}
use Rattle.cp_relay.specs.declared.guard.JudgedCall.{JudgedCall}
use Rattle.cp_relay.specs.declared.ruling.Ruling.{Ruling}
use Rattle.cp_relay.specs.declared.ruling.Ruling.TheVariants as rulings
use Rattle.cp_relay.specs.declared.ruling.Breach.{Breach}
use Rattle.cp_relay.specs.State.{Refused}
use Rattle.cp_relay.specs.References.{no_references}
use Rattle.cp_relay.specs.Followed.{finding, followed_from}
use Rattle.cp_relay.specs.Judged.{judging, ruled_from, judged_from}

-- why a ruling closes the connection
abbrev pub breach_in : Ruling → Option Breach
breach_in (rulings.Closes breach) = Some breach
breach_in rulings.Passes = None
breach_in (rulings.Changes m) = None
breach_in (rulings.Answers m) = None
breach_in rulings.Drops = None

-- why the last one does, if there is one
abbrev pub breach_of : Option Ruling → Option Breach
breach_of (Some ruling) = breach_in ruling
breach_of None = None

-- the call that a message of the caller is, and why it was refused, if it was
abbrev pub call_in : Bool → Refused → Message → Option JudgedCall
call_in false refused (messages.Call call) =
    Some (record { question = call.question_id; method = record { interface = call.interface_id; method = call.method_id }; cause = map.get refused call.question_id })
call_in false refused other = None
call_in true refused m = None

-- A guard by these rules, on whose connection nothing was sent.
pub record IsFresh (given : Rules) (g : Guard) : Type 0 where
  pub rules : g.rules.now ≡ given
  pub refused : g.state.refused ≡ map.empty
  pub unfinished : g.state.unfinished ≡ 0
  pub under_way : g.state.under_way ≡ 0
  pub opened : g.state.opened ≡ 0
  pub references : g.state.references ≡ no_references
  pub unjudged : g.ruling ≡ None
  pub uncalled : g.call ≡ None
  pub is_open : g.closed ≡ false

-- A second has passed, so its questions count no more. Nothing else changes.
pub record IsSecondLater (old new : Guard) : Type 0 where
  pub rules : new.rules.now ≡ old.rules.now
  pub state : new.state ≡ record old.state { opened = 0 }
  pub ruling : new.ruling ≡ old.ruling
  pub call : new.call ≡ old.call
  pub closed : new.closed ≡ old.closed

-- The guard knows the same, its ruling aside.
pub record IsSame (old new : Guard) : Type 0 where
  pub rules : new.rules.now ≡ old.rules.now
  pub state : new.state ≡ old.state
  pub comes_back : new.comes_back ≡ old.comes_back
  pub call : new.call ≡ old.call
  pub closed : new.closed ≡ old.closed

-- The guard stands in the same connection, by the same rules.
pub record IsSameStanding (old new : Guard) : Type 0 where
  pub rules : new.rules.now ≡ old.rules.now
  pub comes_back : new.comes_back ≡ old.comes_back
  pub closed : new.closed ≡ old.closed

-- The guard waits for the next message, of this direction.
pub record Begins (side : Bool) (old new : Guard) : Type 0 where
  pub rules : new.rules.now ≡ old.rules.now
  pub state : new.state ≡ old.state
  pub comes_back : new.comes_back ≡ side
  pub waits : new.ruling ≡ None
  pub uncalled : new.call ≡ None
  pub closed : new.closed ≡ old.closed

-- This becomes of a message by the questions that were refused.
abbrev pub IsRuled : Guard → Message → Ruling → Guard → Type 0
IsRuled old m ruling new = judging ruling new.state ≡ ruled_from old.comes_back old.rules.now old.state m

-- This is kept of it, and it closes the connection, if there is a breach.
abbrev pub IsFollowed : Guard → Message → Option Breach → Guard → Type 0
IsFollowed old m breach new = finding breach new.state.references ≡ followed_from old.comes_back old.rules.now old.state.references m

-- This became of a message, by what the guard knew.
abbrev pub IsJudged : Guard → Message → Ruling → Guard → Type 0
IsJudged old m ruling new = record { ruling = ruling; state = new.state } ≡ judged_from old.comes_back old.rules.now old.state m

-- The guard judged a message, where it had judged none.
pub record HasJudged (old : Guard) (m : Message) (new : Guard) : Type 0 where
  pub waited : old.ruling ≡ None
  pub ruling : Ruling
  pub says_so : new.ruling ≡ Some ruling
  pub judged : IsJudged old m ruling new
  pub rules : new.rules.now ≡ old.rules.now
  pub comes_back : new.comes_back ≡ old.comes_back
  pub called : new.call ≡ call_in old.comes_back new.state.refused m
  pub closed : new.closed ≡ old.closed

-- it judged a message, which doesn't close the connection
abbrev pub GoesOn : Guard → Message → Guard → Type 0
GoesOn old m new = (h : HasJudged old m new) × (breach_in h.ruling ≡ None)

-- it judged a message, which closes the connection
abbrev pub Breaks : Guard → Message → Guard → Type 0
Breaks old m new = (h : HasJudged old m new) × (breach_in h.ruling ≢ None)

-- A message may go where it doesn't close the connection. A guard that has judged one forbids any other.
abbrev pub Judges : Guard → Message → Bool → Guard → Type 0
Judges old m may new = (may ≡ true → GoesOn old m new) × (may ≡ false → old.ruling ≡ None → Breaks old m new)
