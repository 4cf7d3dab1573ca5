-- A call that comes where nobody serves, and what is taken where no byte may wait.
use Rattle.std.proofs.Common.{◌≡◌, ◌+◌, ◌++◌, ◌∷◌, List, [], Some, None, sym, ap, ◌∙◌, arith, length}
use Rattle.std.proofs.lemmas.List.{nil_from_length, length-append}
use Rattle.cp_dispatch.specs.Rounds.{by_object, by_none}
use Rattle.std.specs.FinMap.{get}
use Rattle.cp_objects.specs.declared.any_object.AnyObject.{AnyObject}
use Rattle.cp_objects.specs.declared.object_entry.ObjectEntry.{ObjectEntry}
use Rattle.cp_objects.specs.Objects.{ObjectsState}
use Rattle.cp_objects.specs.ObjectTable.{ObjectTableKind}
use Rattle.cp_objects.specs.ServedObject.{ServedObjectKind}
use Rattle.cp_servants.specs.Servant.{Kind}
use Rattle.cp_session.specs.Doing.{drops, holds_up, takes}
use Rattle.cp_session.specs.Laws.{NoObjectServes, NobodyServes, WrittenFirst}

-- no list ends in nothing that has something in it
nothing_in : {A : Type 0} (front : List A) (x : A) (back : List A) → [] ≡ front ++ x ∷ back → ⊥
nothing_in {A = A} front x back e =
    let long : length (front ++ x ∷ back) ≡ length front + length (x ∷ back) = length-append front (x ∷ back) in
    omega (arith, ap (λ (l : List A). length l) e, long)

pub nobody_serves : {A : Type 0} (kind : Kind A) → NobodyServes kind
nobody_serves kind k ticket call reply old new objects others none (by_object holds calls) = absurd (nothing_in calls.front calls.before calls.back (sym none ∙ calls.was))
nobody_serves kind k ticket call reply old new objects others none (by_none few is same left) = (is, same, left)

-- nor is one object there where there is none
pub no_object_serves : {A : Type 0} (kind : ServedObjectKind A A) → NoObjectServes kind
no_object_serves {A = A} kind k ticket call reply old new objects others none (by_object holds calls) =
    absurd (none≢some calls.before (sym none ∙ ap (λ (objects_state : ObjectsState A). get objects_state.members k) (sym calls.adopts) ∙ calls.was))
  where
    none≢some : (member : ObjectEntry (AnyObject A)) → None ≡ Some member → ⊥
    none≢some member e = cc
no_object_serves kind k ticket call reply old new objects others none (by_none few is same left) = (is, same, left)

pub written_first : {H : Type 0} (table : ObjectTableKind H) → WrittenFirst table
written_first table old new piece now count (drops draining all same) none not_draining some = absurd (not_draining draining)
written_first table old new piece now count (holds_up drains why is same) none not_draining some = absurd (omega (arith, is, some))
written_first table old new piece now count (takes mid may some front settles) none not_draining more = nil_from_length _ (omega (arith, may.few, none))
