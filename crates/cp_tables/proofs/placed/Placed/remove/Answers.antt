use Rattle.std.proofs.Common.{refl, sym, ◌∙◌}
use Rattle.cp_tables.proofs.TableLemmas.{seen, seen-remove, seen-same}
use Rattle.cp_tables.proofs.PlacedLemmas.{IsPlaced-as, IsPlaced-remove, IsPlaced-absent, placed-as, placed-remove, placed-absent, value_at, no_value}
use Rattle.cp_tables.proofs.placed.Placed.remove.Goals as goal

pub invariant_of-self : goal.invariant_of-self
invariant_of-self g c =
    IsPlaced-as _ _ _ _ _ c.in-Some.ensures.removed (seen-same c.try_remove-entry.new.self c.let_go.new.slots c.let_go.ensures ∙ seen-remove c.self.inside.slots c.try_remove-entry.new.self c.in-Some.place c.try_remove-entry.ensures.updates) (IsPlaced-remove c.self.inside.places (seen c.self.inside.slots) c.self.inside.last c.self.invariant c.args.id c.in-Some.place (sym c.in-Some.ensures.value))

pub invariant_of-self-in-None : goal.invariant_of-self-in-None
invariant_of-self-in-None g c = IsPlaced-as _ _ _ _ _ c.in-None.ensures.removed refl (IsPlaced-absent c.self.inside.places (seen c.self.inside.slots) c.self.inside.last c.self.invariant c.args.id (sym c.in-None.ensures.value))

pub returns-in-Some-clause-value : goal.returns-in-Some-clause-value
returns-in-Some-clause-value g c = rw (← c.self.view_is) (c.try_remove-entry.ensures.value ∙ sym (value_at c.self.inside.places c.self.inside.slots c.args.id c.in-Some.place c.in-Some.ensures.value))

pub returns-in-Some-clause-removed : goal.returns-in-Some-clause-removed
returns-in-Some-clause-removed g c =
    rw (← c.self.view_is) (placed-as _ _ _ _ c.in-Some.ensures.removed (seen-same c.try_remove-entry.new.self c.let_go.new.slots c.let_go.ensures ∙ seen-remove c.self.inside.slots c.try_remove-entry.new.self c.in-Some.place c.try_remove-entry.ensures.updates) ∙ placed-remove c.self.inside.places (seen c.self.inside.slots) c.self.inside.last c.self.invariant c.args.id c.in-Some.place (sym c.in-Some.ensures.value))

pub returns-in-None-clause-value : goal.returns-in-None-clause-value
returns-in-None-clause-value g c = rw (← c.self.view_is) (sym (no_value c.self.inside.places (seen c.self.inside.slots) c.args.id c.in-None.ensures.value))

pub returns-in-None-clause-removed : goal.returns-in-None-clause-removed
returns-in-None-clause-removed g c =
    rw (← c.self.view_is) (placed-as _ _ _ _ c.in-None.ensures.removed refl ∙ placed-absent c.self.inside.places (seen c.self.inside.slots) c.self.inside.last c.self.invariant c.args.id (sym c.in-None.ensures.value))
