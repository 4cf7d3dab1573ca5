-- What an object may do beside what it answers.
use Rattle.std.specs.Prelude.{ℕ, ◌+◌, ◌-◌, ◌^◌, ◌==◌, ◌&&◌, ◌||◌, Bool, if◌then◌else◌, min, nat_lt, List, [], ◌∷◌, ◌++◌, length, slice_get, Option, Some, None, is_some}
use Rattle.std.specs.Option.{unwrap_or}
use Rattle.std.specs.FinMap.{empty, get}
use Rattle.cp_tables.specs.Table.{Table}
use Rattle.cp_refs.specs.declared.cap.Cap.{Cap}
use Rattle.cp_refs.specs.declared.cap.Cap.TheVariants as caps
use Rattle.cp_objects.specs.declared.context.ObjectEffect.{ObjectEffect}
use Rattle.cp_objects.specs.declared.context.ObjectEffect.TheVariants as effects
use Rattle.cp_objects.specs.declared.context.Context.{Context}
use Rattle.cp_objects.specs.declared.context.NewCap.{NewCap}
use Rattle.cp_objects.specs.declared.context.NewCap.TheVariants as new_caps
use Rattle.cp_refs.specs.declared.outcome.Outcome.{Outcome}
use Rattle.cp_objects.specs.declared.later.LaterCall.{LaterCall}
use Rattle.cp_objects.specs.declared.resolver.Resolver.{Resolver}
use Rattle.cp_objects.specs.declared.session_cap.SessionCap.{SessionCap}
use Rattle.cp_objects.specs.declared.shared_cap.LentCap.{LentCap}
use Rattle.cp_objects.specs.declared.waker.Waker.{Waker}
use Rattle.cp_objects.specs.SessionCap.{is_of, means_same}
use Rattle.cp_objects.specs.SharedCap.{is_home}

-- Which object of which session does something, and when; the number that the first of what it makes gets; the objects and promises that it made, in order,
-- and what else it did, in order. The key under which the session lends what it lends next; for which capabilities of other sessions objects of it stand; and how
-- many bytes of calls to other sessions are open.
pub record ContextState (M : Type 0) : Type 0 where
  pub this : Waker
  pub now : ℕ
  pub next : ℕ
  pub made : List (NewCap M)
  pub effects : List ObjectEffect
  pub next_key : ℕ
  pub stands : Table LentCap
  pub forwarded : ℕ

-- the first of two, if there is one, or else the other
abbrev pub this_or : Option LentCap → Option LentCap → Option LentCap
this_or (Some shared) other = Some shared
this_or None other = other

module _ {M : Type 0} where
  abbrev pub context_of : Context M → ContextState M
  context_of context = record { this = context.this; now = context.time; next = context.next; made = context.made.items; effects = context.effects.items; next_key = context.next_key; stands = context.stands; forwarded = context.forwarded }

  -- the number of the next object or promise that it makes
  abbrev pub next_number : ContextState M → ℕ
  next_number place = place.next + length place.made

  -- an object of its session, as a reference
  abbrev pub own_object : ℕ → ContextState M → SessionCap
  own_object number place = record { session = place.this.session; cap = caps.Object number }

  -- It may resolve this promise to that: both are of its session.
  abbrev pub may_resolve : ContextState M → Resolver → SessionCap → Bool
  may_resolve place resolver value = resolver.session == place.this.session && is_of place.this.session value

  -- it made one object more
  abbrev pub with_made : ContextState M → M → ContextState M
  with_made place object = record place { made = place.made ++ new_caps.Object object ∷ [] }

  -- it made one promise more
  abbrev pub with_promise : ContextState M → ContextState M
  with_promise place = record place { made = place.made ++ new_caps.Promise ∷ [] }

  -- what it made isn't kept, and the numbers of that aren't given again
  abbrev pub without_those_made : ContextState M → ContextState M
  without_those_made place = record place { next = next_number place; made = [] }

  -- it did one thing more
  abbrev pub with_effect : ContextState M → ObjectEffect → ContextState M
  with_effect place effect = record place { effects = place.effects ++ effect ∷ [] }

  -- an object of this end or a promise of one is kept
  abbrev pub keeping : Cap → ContextState M → ContextState M
  keeping (caps.Object k) place = with_effect place (effects.Keep place.this.object k)
  keeping other place = place

  -- one of these is kept by an object, or an import is handed over to it
  abbrev pub keeping_for : Cap → Cap → ContextState M → ContextState M
  keeping_for (caps.Object keeper) (caps.Object k) place = with_effect place (effects.Keep keeper k)
  keeping_for (caps.Object keeper) (caps.Import i) place = with_effect place (effects.HandOver keeper i)
  keeping_for object other place = place

  -- one of these is kept once less, or an import is given up
  abbrev pub giving_up : Cap → ContextState M → ContextState M
  giving_up (caps.Object k) place = with_effect place (effects.GiveUp k)
  giving_up (caps.Import i) place = with_effect place (effects.GiveUpImport i)
  giving_up other place = place

  -- a later call comes to this, with the imports that no object keeps
  abbrev pub answering : LaterCall → Outcome → ContextState M → ContextState M
  answering call outcome place = with_effect place (effects.Settle (record { ticket = call.ticket; outcome = outcome; gives_up = call.gives_up }))

  -- what was made stands for, if it was and does
  abbrev pub proxied : Option (NewCap M) → Option LentCap
  proxied (Some (new_caps.Proxy shared)) = Some shared
  proxied other = None

  -- what the object of this number stands for, if it was made just now and does
  abbrev pub proxied_at : ℕ → ContextState M → Option LentCap
  proxied_at k place = if nat_lt k place.next then None else proxied (slice_get place.made (k - place.next))

  -- what a capability stands for, if it does
  abbrev pub stood_for : Cap → ContextState M → Option LentCap
  stood_for (caps.Object k) place = this_or (get place.stands k) (proxied_at k place)
  stood_for other place = None

  -- A capability of the session, lent under the next key. One that is null or broken needs none.
  abbrev pub lent_now : Cap → ContextState M → LentCap
  lent_now cap place = record { session = place.this.session; key = if means_same cap then 0 else place.next_key; cap = cap }

  -- A capability as all sessions name it: what it stands for, or else what the session lends for it.
  abbrev pub shared_of : Cap → ContextState M → LentCap
  shared_of cap place = unwrap_or (stood_for cap place) (lent_now cap place)

  -- it is lent, unless it stands for another session's, or is null or broken
  abbrev pub sharing : Cap → ContextState M → ContextState M
  sharing cap place =
      if is_some (stood_for cap place) || means_same cap then place else record (with_effect place (effects.Lend (lent_now cap place))) { next_key = place.next_key + 1 }

  -- the same of each of these, in order
  abbrev pub shared_each : List Cap → ContextState M → List LentCap
  shared_each [] place = []
  shared_each (cap ∷ more) place = shared_of cap place ∷ shared_each more (sharing cap place)

  abbrev pub sharing_each : List Cap → ContextState M → ContextState M
  sharing_each [] place = place
  sharing_each (cap ∷ more) place = sharing_each more (sharing cap place)

  -- What is shared, as a table of this session names it: the capability itself where the session lends it, or else an object that stands for it.
  abbrev pub cap_here : LentCap → ContextState M → Cap
  cap_here shared place = if is_home place.this.session shared then shared.cap else caps.Object (next_number place)

  abbrev pub named_here : LentCap → ContextState M → SessionCap
  named_here shared place = record { session = place.this.session; cap = cap_here shared place }

  -- that object is made, where it needs one
  abbrev pub hereby : LentCap → ContextState M → ContextState M
  hereby shared place = if is_home place.this.session shared then place else record place { made = place.made ++ new_caps.Proxy shared ∷ [] }

  -- the same of each of these, in order
  abbrev pub caps_here : List LentCap → ContextState M → List Cap
  caps_here [] place = []
  caps_here (shared ∷ more) place = cap_here shared place ∷ caps_here more (hereby shared place)

  abbrev pub hereby_each : List LentCap → ContextState M → ContextState M
  hereby_each [] place = place
  hereby_each (shared ∷ more) place = hereby_each more (hereby shared place)

-- the time this much later, if there is one
abbrev pub time_after : ℕ → ℕ → ℕ
time_after now milliseconds = min (now + milliseconds) (2 ^ 64 - 1)

-- where nothing was done
abbrev pub begun : {M : Type 0} → ContextState M
begun = record { this = record { session = 0; object = 0 }; now = 0; next = 0; made = []; effects = []; next_key = 0; stands = empty; forwarded = 0 }
