-- When imports and promises that nobody holds are sought.
use Rattle.std.specs.Prelude.{◌≡◌, ◌⊎◌, ℕ, ◌<◌, ◌≤◌, ◌+◌, ◌-◌, ◌/◌, ◌^◌, min, Option, Some, None}
use Rattle.std.specs.FinMap.{len}
use Rattle.cp_objects.specs.ObjectTable.{ObjectTableKind}
use Rattle.cp_dispatch.specs.Work.{Work}
use Rattle.cp_dispatch.specs.Idle.{ReleasesIdle}
use Rattle.cp_session.specs.declared.search.Search.{Search}
use Rattle.cp_session.specs.Service.{Service}

-- how many messages are to be taken first: one more for each thirty-two imports that are left, and for each thirty-two promises
abbrev pub from_then : ℕ → ℕ → ℕ → ℕ
from_then imports promises messages = min (messages + (imports / 32 + promises / 32)) (2 ^ 64 - 1)

-- how many messages are to be taken before some are sought again
abbrev pub from_now : Work → ℕ
from_now work = from_then (len work.link.vat.counts.imports) (len work.link.vat.values.promises) work.link.stats.messages

module _ {H : Type 0} (table : ObjectTableKind H) (objects : H) where
  -- there are more imports than objects hold, or promises that none may know
  abbrev pub MayHoldIdle : Work → Type 0
  MayHoldIdle work =
      (len work.held < len work.link.vat.counts.imports) ⊎ (0 < table.unknown (len work.link.vat.values.promises) objects)

  -- that is so, and as many messages were taken as are to be taken first
  abbrev pub IsDue : Option Search → Work → Type 0
  IsDue None work = ⊥
  IsDue (Some search) work = MayHoldIdle work × (search.from ≤ work.link.stats.messages)

  -- Where it is due, the promises go that nothing of the vat uses and that no object may know, and so do the imports that none holds.
  pub data Seeks (old new : Service) : Type 0 where
    none_due : (IsDue old.search old.work → ⊥) → new ≡ old → Seeks old new
    releases : (work : Work) → IsDue old.search old.work → ReleasesIdle table objects old.work work
        → new ≡ record old { work = work; search = Some (record { from = from_now work }) } → Seeks old new
