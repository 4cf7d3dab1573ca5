-- Calls that are answered later, and that the peer may give up before.
use Rattle.std.specs.Prelude.{◌≡◌, ℕ, Option, Some, None}
use Rattle.std.specs.FinMap.{get, remove}
use Rattle.cp_tables.specs.Table.{Table}
use Rattle.cp_refs.specs.declared.call.Origin.{Origin}
use Rattle.cp_refs.specs.declared.call.Origin.TheVariants as origins
use Rattle.cp_connection.specs.Link.{Link}
use Rattle.cp_objects.specs.ObjectTable.{ObjectTableKind}
use Rattle.cp_dispatch.specs.Work.{Work, key_of}
use Rattle.cp_dispatch.specs.Calling.{MakesCalls}
use Rattle.cp_dispatch.specs.PromiseRequests.{KeepsPromiseRequests}
use Rattle.cp_dispatch.specs.Rounds.{WorksOff}

-- the call of an answer that the peer finishes, if it does, as one that is given up
abbrev pub answer_given_up : Option ℕ → Option Origin
answer_given_up None = None
answer_given_up (Some answer) = Some (origins.Answer answer)

module _ {H : Type 0} (table : ObjectTableKind H) where
  -- The object that is to answer this call is told that it was given up, and did something of promises perhaps. It may make calls then, and what follows is
  -- worked off. Where there is no such object, nobody is told.
  pub data TellsCancel (ticket : ℕ) (old new : Work) (objects others : H) : Type 0 where
    by_none : table.cancels ticket None objects others → new ≡ old → TellsCancel ticket old new objects others
    by_object : {between kept asked : H} (called : Work) (link : Link) (number : ℕ) → table.cancels ticket (Some number) objects between
        → KeepsPromiseRequests table old.link link between kept → MakesCalls table number (record old { link = link }) called kept asked
        → WorksOff table called new asked others → TellsCancel ticket old new objects others

  -- The answer may be owed of a call that is given up, if one is. It is owed no more then, so its object is told once, and not after it answered.
  pub data Cancels (given_up : Option Origin) (old new : Work) (objects others : H) : Type 0 where
    gives_none_up : given_up ≡ None → new ≡ old → others ≡ objects → Cancels given_up old new objects others
    is_not_owed : (origin : Origin) → given_up ≡ Some origin → get old.owed (key_of origin) ≡ None → new ≡ old → others ≡ objects → Cancels given_up old new objects others
    is_owed : (origin : Origin) (ticket : ℕ) → given_up ≡ Some origin → get old.owed (key_of origin) ≡ Some ticket
        → TellsCancel ticket (record old { owed = remove old.owed (key_of origin) }) new objects others → Cancels given_up old new objects others
