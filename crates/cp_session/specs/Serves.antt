-- What is done with a connection for its objects.
use Rattle.std.specs.Prelude.{◌≡◌, ◌≢◌, ◌⊎◌, ℕ, nat_lt, Bool, true, false, ◌||◌, List, [], ◌∷◌, ◌++◌, length}
use Rattle.cp_connection.specs.declared.fault.ConnectionFault.{ConnectionFault}
use Rattle.cp_connection.specs.declared.fault.ConnectionFault.TheVariants as faults
use Rattle.cp_connection.specs.Link.{Link}
use Rattle.cp_connection.specs.Receiving.{EndsWell, EndsBadly}
use Rattle.cp_objects.specs.ObjectTable.{ObjectTableKind}
use Rattle.cp_dispatch.specs.declared.event.SessionEvent.TheVariants as told
use Rattle.cp_dispatch.specs.Receiving.{Receives}
use Rattle.cp_dispatch.specs.Rounds.{Rounds, WorksOff}
use Rattle.cp_dispatch.specs.Work.{Work, Lives}
use Rattle.cp_session.specs.Search.{Seeks}
use Rattle.cp_session.specs.EmptyPolls.{after_poll, are_many, is_restless}
use Rattle.cp_session.specs.Service.{Service, stirred, with_link}
use Rattle.cp_session.specs.Sweep.{Sweeps}

-- by a poll before which so many events waited, and so many messages had been sent, events were worked off or messages sent
abbrev pub has_acted : ℕ → ℕ → Link → Bool
has_acted waiting sent link = nat_lt 0 waiting || nat_lt sent link.stats.sent

-- the program is told that an object has given nothing for too many polls, or isn't
abbrev pub told_restless : Bool → Work → Work
told_restless true work = record work { notices = work.notices ++ told.Restless ∷ [] }
told_restless false work = work

-- Of too many polls that gave nothing the program is told, once.
abbrev pub CountsPoll : Bool → Service → Service → Type 0
CountsPoll gave old new = new ≡ record old { empty_polls = after_poll gave old.empty_polls; work = told_restless (is_restless gave old.empty_polls) old.work }

-- Of objects of one kind.
module _ {H : Type 0} (table : ObjectTableKind H) where
  -- Each object is polled once that is to be. Then the imports and promises go that nobody holds, where that is due, and the objects are dropped that nothing refers
  -- to, where that is. Nothing else was done with the connection.
  pub record Polls (now : ℕ) (old new : Service) (objects others : H) : Type 0 where
    pub gave : Bool
    pub work : Work
    pub between : H
    pub released : Service
    pub rounds : Rounds table old.work gave work objects between
    pub seeks : Seeks table between (record old { work = work; gave = gave }) released
    pub sweeps : Sweeps table now released new between others
    pub lives : Lives old.work.link new.work.link

  -- after a message each object is polled once
  abbrev pub Follows : ℕ → Bool → Service → Service → H → H → Type 0
  Follows now true old new objects others = Polls now (stirred old) new objects others
  Follows now false old new objects others = (new ≡ old) × (others ≡ objects)

  -- The first bytes of a piece were taken, up to the end of a message, and what that asks of the objects was done. After a message each object was polled.
  pub record Takes (now : ℕ) (old : Service) (piece : List ℕ) (count : ℕ) (new : Service) (objects others : H) : Type 0 where
    pub has_ended : Bool
    pub work : Work
    pub between : H
    pub receives : Receives table old.work piece count has_ended work objects between
    pub follows : Follows now has_ended (record old { work = work }) new between others

  -- What happened was worked off, each object was polled, and the poll was counted: it gave something where it acted, or an object gave what was awaited. Nothing
  -- else was done with the connection.
  pub record WorksOn (now : ℕ) (old new : Service) (objects others : H) : Type 0 where
    pub work : Work
    pub between : H
    pub polled : Service
    pub works : WorksOff table old.work work objects between
    pub polls : Polls now (record old { work = work }) polled between others
    pub counts : CountsPoll (has_acted (length old.work.link.happened) old.work.link.stats.sent polled.work.link || polled.gave) polled new
    pub lives : Lives old.work.link new.work.link

  -- The peer's bytes ended after a message, and each object was polled.
  pub record Ends (now : ℕ) (old new : Service) (objects others : H) : Type 0 where
    pub link : Link
    pub ends : EndsWell old.work.link link
    pub polls : Polls now (stirred (with_link old link)) new objects others

  -- what may be given though nothing more comes: an object gave what was awaited at the last poll; or something happened that wasn't worked off; or an object says
  -- that it may give more, and not too many polls gave nothing since something came
  abbrev pub MayGive : Service → H → Type 0
  MayGive service objects = (service.gave ≡ true) ⊎ ((service.work.link.happened ≢ []) ⊎ ((are_many service.empty_polls ≡ false) × table.says_more true objects))

  -- nothing more is given though nothing more comes: no object gave what was awaited at the last poll, all that happened was worked off, and no object says that
  -- it may give more, or too many polls gave nothing since something came
  abbrev pub HasGiven : Service → H → Type 0
  HasGiven service objects = (service.gave ≡ false) × (service.work.link.happened ≡ []) × ((are_many service.empty_polls ≡ true) ⊎ table.says_more false objects)

-- Why the peer's bytes don't end well: they end inside a message, and no object was polled; or memory ran out after that.
pub data IsUnended {H : Type 0} (old : Link) (fault : ConnectionFault) (new : Link) (objects others : H) : Type 0 where
  badly : EndsBadly old fault new → others ≡ objects → IsUnended old fault new objects others
  ran_out : (link : Link) → EndsWell old link → Lives link new → fault ≡ faults.OutOfMemory → IsUnended old fault new objects others
