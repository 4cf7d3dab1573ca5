-- What an object holds that is placed.
use Rattle.std.proofs.Common.{◌≡◌, ◌∙◌, ℕ, List, [], Option, ap, subst}
use Rattle.std.specs.Option.{option_map_or}
use Rattle.std.specs.FinMap.{insert}
use Rattle.cp_tables.specs.Table.{Table}
use Rattle.cp_tables.proofs.TableLemmas.{get-insert_same}
use Rattle.cp_objects.specs.declared.object_entry.ObjectEntry.{ObjectEntry}
use Rattle.cp_objects.specs.Members.{held_in}

held_placed : {A : Type 0} (members : Table (ObjectEntry A)) (number : ℕ) (m : ObjectEntry A) → held_in number (insert members number m) ≡ m.holds
held_placed {A} members number m = ap (λ (found : Option (ObjectEntry A)). option_map_or (λ (member : ObjectEntry A). member.holds) found []) (get-insert_same members number m)

-- what is so of what it holds is so of these, if it holds these
pub held_at : {A : Type 0} (P : List ℕ → Type 0) (members : Table (ObjectEntry A)) (number : ℕ) (m : ObjectEntry A) (holds : List ℕ) → m.holds ≡ holds
    → P (held_in number (insert members number m)) → P holds
held_at P members number m holds is h = subst P (held_placed members number m ∙ is) h
