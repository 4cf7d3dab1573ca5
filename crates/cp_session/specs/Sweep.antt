-- When objects that nothing refers to are sought, and dropped.
use Rattle.std.specs.Prelude.{◌≡◌, ◌⊎◌, ℕ, ◌≤◌, ◌+◌, ◌-◌, ◌/◌, ◌^◌, min, nat_lt, if◌then◌else◌, Option, Some, None}
use Rattle.std.specs.Option.{unwrap_or}
use Rattle.cp_objects.specs.ObjectTable.{ObjectTableKind}
use Rattle.cp_dispatch.specs.Dropping.{DropsIdle}
use Rattle.cp_dispatch.specs.Rounds.{WorksOff}
use Rattle.cp_dispatch.specs.Work.{Work}
use Rattle.cp_session.specs.declared.sweep.Sweep.{Sweep}
use Rattle.cp_session.specs.Service.{Service}

-- the sum, as far as 64 bits go
abbrev pub sum_of : ℕ → ℕ → ℕ
sum_of a b = min (a + b) (2 ^ 64 - 1)

-- that time has come
abbrev pub HasCome : ℕ → Option ℕ → Type 0
HasCome now None = ⊥
HasCome now (Some at) = at ≤ now

-- So many messages were taken as are to be taken first, or the time has come.
abbrev pub IsSweepDue : ℕ → ℕ → Sweep → Type 0
IsSweepDue messages now sweep = HasCome now sweep.at ⊎ (sweep.from ≤ messages)

-- They weren't sought at this time, and are a second after the first such time at the latest.
abbrev pub later : ℕ → Sweep → Sweep
later now sweep = record sweep { at = Some (unwrap_or sweep.at (sum_of now 1000)) }

-- how many messages are to be taken first where so many objects are left: one more, and one for each thirty-two objects
abbrev pub paid_by : ℕ → ℕ → ℕ
paid_by objects messages = sum_of (sum_of messages 1) (objects / 32)

-- They were sought at this time where there were so many, and so many are left. If some went, others may go that were kept by them. So they are sought again:
-- at once if those that went pay for it, one for each thirty-two that are left, and else a second later.
abbrev pub again_from : ℕ → ℕ → ℕ → Option ℕ
again_from before objects now =
    if nat_lt objects before then (if nat_lt (before - objects) (objects / 32) then Some (sum_of now 1000) else Some now) else None

-- They were sought where there were so many, after so many messages, and so many are left.
abbrev pub swept_from : ℕ → ℕ → ℕ → ℕ → Sweep
swept_from before objects messages now = record { from = paid_by objects messages; at = again_from before objects now }

module _ {H : Type 0} (table : ObjectTableKind H) where
  -- The objects that nothing refers to are dropped, and what that leads to is worked off.
  pub record SweepsAll (now : ℕ) (old new : Service) (objects others : H) : Type 0 where
    pub left : Work
    pub work : Work
    pub between : H
    pub drops : DropsIdle table old.work left objects between
    pub works : WorksOff table left work between others
    pub is : new ≡ record old { work = work; sweep = swept_from (table.guests objects) (table.guests others) work.link.stats.messages now }

  -- Idle objects are scanned for where messages or time paid for it, else later. Where no object may go, nothing is done.
  pub data Sweeps (now : ℕ) (old new : Service) (objects others : H) : Type 0 where
    none_may_go : table.guests objects ≡ 0 → new ≡ old → others ≡ objects → Sweeps now old new objects others
    waits : 1 ≤ table.guests objects → (IsSweepDue old.work.link.stats.messages now old.sweep → ⊥) → new ≡ record old { sweep = later now old.sweep } → others ≡ objects
        → Sweeps now old new objects others
    sweeps : 1 ≤ table.guests objects → IsSweepDue old.work.link.stats.messages now old.sweep → SweepsAll now old new objects others → Sweeps now old new objects others

  -- Time passed: they are dropped where the time has come.
  pub data SweepsInTime (now : ℕ) (old new : Service) (objects others : H) : Type 0 where
    too_early : (HasCome now old.sweep.at → ⊥) → new ≡ old → others ≡ objects → SweepsInTime now old new objects others
    in_time : HasCome now old.sweep.at → SweepsAll now old new objects others → SweepsInTime now old new objects others
