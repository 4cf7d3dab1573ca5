-- Which promises are forgotten, and which objects are dropped.
use Rattle.std.specs.Prelude.{◌≡◌, ◌≢◌, ◌⊎◌, ℕ, Bool, true, false, List, [], ◌∷◌, Ok, Err}
use Rattle.cp_vat_machine.specs.InUse.{is_object_used}
use Rattle.cp_vat_machine.specs.declared.event.Event.TheVariants as events
use Rattle.cp_vat_machine.specs.declared.event.Value.TheVariants as values
use Rattle.cp_connection.specs.declared.fault.ConnectionFault.{ConnectionFault}
use Rattle.cp_connection.specs.declared.fault.ConnectionFault.TheVariants as faults
use Rattle.cp_connection.specs.Link.{Link}
use Rattle.cp_connection.specs.Doing.{Acts}
use Rattle.cp_objects.specs.ObjectTable.{ObjectTableKind}
use Rattle.cp_objects.specs.declared.departed.Departed.{Departed}
use Rattle.cp_servants.specs.declared.servant.OutgoingCall.{OutgoingCall}
use Rattle.cp_dispatch.specs.Calling.{Lacks, MakesCall, SettlesEach}
use Rattle.cp_dispatch.specs.PromiseRequests.{KeepsPromiseRequests}
use Rattle.cp_dispatch.specs.Work.{Work, GivesUp, Releases}

-- whether a promise of the vat's goes: not while the vat uses it, and not once the connection ended
pub data Goes (id : ℕ) (old : Link) : Bool → Link → Type 0 where
  went : (new : Link) → Acts old (events.Forget id) (Ok values.Nothing) new → Goes id old true new
  stays : (fault : ConnectionFault) (new : Link) → fault ≢ faults.OutOfMemory → Acts old (events.Forget id) (Err fault) new → Goes id old false new

module _ {H : Type 0} (table : ObjectTableKind H) where
  -- why an object stays: the vat refers to it, or it isn't there
  abbrev pub IsKept : ℕ → Work → H → Type 0
  IsKept number old objects = (is_object_used old.link.vat number ≡ true) ⊎ Lacks table number objects

  -- A call that the object of this number made last is made, as it means to the vat, if objects may call; else it isn't.
  pub data MakesLastCall (number : ℕ) (next_call : OutgoingCall) (old new : Work) (objects others : H) : Type 0 where
    is_made : old.may_call ≡ true → MakesCall table number (table.means_call next_call objects) old new objects others → MakesLastCall number next_call old new objects others
    is_unmade : old.may_call ≡ false → new ≡ old → others ≡ objects → MakesLastCall number next_call old new objects others

  -- the calls that it made last are, one after another
  abbrev pub MakesLast : ℕ → List OutgoingCall → Work → Work → H → H → Type 0
  MakesLast number [] old new objects others = (new ≡ old) × (others ≡ objects)
  MakesLast number (next_call ∷ more) old new objects others =
      (mid : Work) × (between : H) × MakesLastCall number next_call old mid objects between × MakesLast number more mid new between others

  -- An object goes if the vat doesn't refer to it: it is told its end, and did something of promises perhaps; the calls that it made last are made, and what was
  -- settled is answered; then the imports that it held are given up. Else it stays.
  pub data LosesIdle (number : ℕ) (old new : Work) (objects others : H) : Type 0 where
    goes : (left : Departed) (link : Link) (called given : Work) (between kept last : H) → is_object_used old.link.vat number ≡ false → table.ends number left objects between
        → KeepsPromiseRequests table old.link link between kept → MakesLast number left.next_calls (record old { link = link }) called kept last
        → SettlesEach table called given last others → GivesUp left.imports given new → LosesIdle number old new objects others
    stays : IsKept number old objects → new ≡ old → others ≡ objects → LosesIdle number old new objects others

  -- these, one after another
  abbrev pub LosesEach : List ℕ → Work → Work → H → H → Type 0
  LosesEach [] old new objects others = (new ≡ old) × (others ≡ objects)
  LosesEach (number ∷ more) old new objects others =
      (mid : Work) × (between : H) × LosesIdle number old mid objects between × LosesEach more mid new between others

  -- A promise goes, and objects lose its number; or it stays.
  pub data Forgets (id : ℕ) (old new : Link) (objects others : H) : Type 0 where
    is_forgotten : Goes id old true new → table.forgets id objects others → Forgets id old new objects others
    is_left : Goes id old false new → others ≡ objects → Forgets id old new objects others

  -- these, one after another
  abbrev pub ForgetsEach : List ℕ → Link → Link → H → H → Type 0
  ForgetsEach [] old new objects others = (new ≡ old) × (others ≡ objects)
  ForgetsEach (id ∷ more) old new objects others = (mid : Link) × (between : H) × Forgets id old mid objects between × ForgetsEach more mid new between others

  -- Where all that happened was worked off, the loose promises go that the vat doesn't use, in order. Then the idle objects go to which the connection doesn't
  -- refer. Last the imports that were given up are tried.
  pub data DropsIdle (old new : Work) (objects others : H) : Type 0 where
    looks_at_none : old.link.happened ≢ [] → new ≡ old → others ≡ objects → DropsIdle old new objects others
    looks_at_each : (link : Link) (left : Work) (between : H) → old.link.happened ≡ [] → ForgetsEach (table.loose objects) old.link link objects between
        → LosesEach (table.idle between) (record old { link = link }) left between others → Releases left new → DropsIdle old new objects others
