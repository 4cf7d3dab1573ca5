-- The imports and promises that nobody holds.
use Rattle.std.specs.Prelude.{◌≡◌, ◌≢◌, ◌⊎◌, ℕ, Bool, true, false, List, [], ◌∷◌, Ok, Err}
use Rattle.cp_vat_machine.specs.declared.event.Event.TheVariants as events
use Rattle.cp_vat_machine.specs.declared.event.Value.TheVariants as values
use Rattle.cp_connection.specs.declared.fault.ConnectionFault.{ConnectionFault}
use Rattle.cp_connection.specs.declared.fault.ConnectionFault.TheVariants as faults
use Rattle.cp_connection.specs.Link.{Link}
use Rattle.cp_connection.specs.Doing.{Acts}
use Rattle.cp_objects.specs.ObjectTable.{ObjectTableKind}
use Rattle.cp_dispatch.specs.Dropping.{Goes}
use Rattle.cp_dispatch.specs.Work.{Work, TriesEach}

-- why nothing is sought: holders aren't counted, or something that happened wasn't worked off
abbrev pub IsUnsought : Work → Type 0
IsUnsought work = (work.may_call ≡ false) ⊎ (work.link.happened ≢ [])

-- a promise goes if this says that no object may know it, unless the vat has it stay
abbrev pub GoesUnless : Bool → ℕ → Link → Link → Type 0
GoesUnless true id old new = new ≡ old
GoesUnless false id old new = (went : Bool) × Goes id old went new

module _ {H : Type 0} (table : ObjectTableKind H) (objects : H) where
  -- a promise that no object may know goes, unless the vat has it stay
  abbrev pub UnknownGoes : ℕ → Link → Link → Type 0
  UnknownGoes id old new = GoesUnless (table.knows id objects) id old new

  -- these, one after another
  abbrev pub UnknownGo : List ℕ → Link → Link → Type 0
  UnknownGo [] old new = new ≡ old
  UnknownGo (id ∷ more) old new = (mid : Link) × UnknownGoes id old mid × UnknownGo more mid new

  -- Of what nothing of the vat uses, in the order in which it names them, the promises go that no object may know, and then the imports are tried but for those
  -- that an object holds. Nothing is done where nothing is sought, nor where the vat doesn't name them, as once the connection ended.
  pub data ReleasesIdle (old new : Work) : Type 0 where
    none_sought : IsUnsought old → new ≡ old → ReleasesIdle old new
    tries_each : (imports promises : List ℕ) (named left : Link) → old.may_call ≡ true → old.link.happened ≡ []
        → Acts old.link events.Idle (Ok (values.Idle imports promises)) named → UnknownGo promises named left
        → TriesEach (record old { link = left }) imports new → ReleasesIdle old new
    none_named : (fault : ConnectionFault) (link : Link) → fault ≢ faults.OutOfMemory → Acts old.link events.Idle (Err fault) link
        → new ≡ record old { link = link } → ReleasesIdle old new
