-- How promises are forgotten and objects are dropped, one after another.
use Rattle.std.proofs.Common.{◌≡◌, ◌<◌, ◌+◌, Bool, true, false, drop, get_or, add-one, length, refl, sym, subst, ℕ, List, [], ◌∷◌, Some, None, slice_get}
use Rattle.std.proofs.Math.Seq.{drop-cons}
use Rattle.cp_vat_machine.specs.InUse.{is_object_used}
use Rattle.cp_vat_machine.proofs.Basics.{none_out, some_out}
use Rattle.cp_servants.specs.declared.servant.OutgoingCall.{OutgoingCall}
use Rattle.cp_objects.specs.declared.departed.Departed.{Departed}
use Rattle.cp_objects.specs.ObjectTable.{ObjectTableKind}
use Rattle.cp_connection.specs.Link.{Link}
use Rattle.cp_dispatch.specs.Calling.{SettlesEach}
use Rattle.cp_dispatch.specs.Dropping.{Forgets, ForgetsEach, Goes, LosesEach, LosesIdle, MakesLast, MakesLastCall}
use Rattle.cp_dispatch.specs.Dropping as dropping
use Rattle.cp_dispatch.specs.Idle.{UnknownGo, UnknownGoes}
use Rattle.cp_dispatch.specs.PromiseRequests.{KeepsPromiseRequests}
use Rattle.cp_dispatch.specs.Work.{Work, GivesUp}

-- one is looked at, and then the others
pub loses_next : {H : Type 0} (table : ObjectTableKind H) (items : List ℕ) (i d : ℕ) {old mid : Work} (last : Work) {objects between : H} (others : H) → i < length items
    → LosesIdle table (get_or items i d) old mid objects between → LosesEach table (drop (i + 1) items) mid last between others
    → LosesEach table (drop i items) old last objects others
loses_next table items i d {mid = mid} last {between = between} others h lost rest = rw (drop-cons items i d h) (mid, between, lost, rw add-one at rest)

-- one promise is looked at, and then the others
pub forgets_next : {H : Type 0} (table : ObjectTableKind H) (items : List ℕ) (i d : ℕ) {old mid : Link} (last : Link) {objects between : H} (others : H) → i < length items
    → Forgets table (get_or items i d) old mid objects between → ForgetsEach table (drop (i + 1) items) mid last between others
    → ForgetsEach table (drop i items) old last objects others
forgets_next table items i d {mid = mid} last {between = between} others h forgot rest = rw (drop-cons items i d h) (mid, between, forgot, rw add-one at rest)

-- one promise is looked at that objects may know, and then the others
pub unknown_next : {H : Type 0} (table : ObjectTableKind H) (objects : H) (items : List ℕ) (i d : ℕ) (old mid last : Link) → i < length items
    → UnknownGoes table objects (get_or items i d) old mid → UnknownGo table objects (drop (i + 1) items) mid last → UnknownGo table objects (drop i items) old last
unknown_next table objects items i d old mid last h gone rest = rw (drop-cons items i d h) (mid, gone, rw add-one at rest)

-- one that objects may know stays
pub known_stays : {H : Type 0} (table : ObjectTableKind H) (objects : H) (id : ℕ) (link : Link) (b : Bool) → b ≡ table.knows id objects → b ≡ true → UnknownGoes table objects id link link
known_stays table objects id link b is knows = rw (← is, knows) refl

-- any other goes, unless the vat has it stay
pub unknown_goes : {H : Type 0} (table : ObjectTableKind H) (objects : H) (id : ℕ) (old new : Link) (b went : Bool) → b ≡ table.knows id objects → b ≡ false → Goes id old went new
    → UnknownGoes table objects id old new
unknown_goes table objects id old new b went is unknown goes = rw (← is, unknown) (went, goes)

-- an object goes, and what it left came through as it was
pub goes_with : {H : Type 0} (table : ObjectTableKind H) (number : ℕ) (left came : Departed) (link : Link) {old called given new : Work} {objects between kept last others : H} → came ≡ left
    → is_object_used old.link.vat number ≡ false → table.ends number left objects between → KeepsPromiseRequests table old.link link between kept
    → MakesLast table number came.next_calls (record old { link = link }) called kept last → SettlesEach table called given last others → GivesUp came.imports given new
    → LosesIdle table number old new objects others
goes_with table number left came link {called = called} {given = given} {objects = objects} {between = between} {kept = kept} {last = last} same unused ends kept_all made settled given_up =
    dropping.goes came link called given between kept last unused (subst (λ (d : Departed). table.ends number d objects between) (sym same) ends) kept_all made settled given_up

-- no call is left that is to be made
pub makes_no_more : {H : Type 0} (table : ObjectTableKind H) (number : ℕ) (next_calls : List OutgoingCall) (old : Work) (objects : H) → None ≡ slice_get next_calls 0
    → MakesLast table number next_calls old old objects objects
makes_no_more table number [] old objects none = (refl, refl)
makes_no_more table number (first ∷ more) old objects none = none_out none

-- the first of the calls is made, if objects may call, and then the others
pub makes_next : {H : Type 0} (table : ObjectTableKind H) (number : ℕ) (next_calls more : List OutgoingCall) (next_call : OutgoingCall) {old mid : Work} (last : Work) {objects between : H} (others : H)
    → Some next_call ≡ slice_get next_calls 0 → more ≡ drop 1 next_calls → MakesLastCall table number next_call old mid objects between → MakesLast table number more mid last between others
    → MakesLast table number next_calls old last objects others
makes_next table number [] more next_call last others first is made rest = none_out (sym first)
makes_next table number (head ∷ tail) more next_call {mid = mid} last {between = between} others first is made rest =
    (mid, between, rw (some_out first) at made, rw is at rest)
