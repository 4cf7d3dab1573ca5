use Rattle.std.proofs.Common.{refl, sym, ◌∙◌}
use Rattle.cp_tables.proofs.TableLemmas.{lends_same, seen, seen-with_value}
use Rattle.cp_tables.proofs.PlacedLemmas.{IsPlaced-as, IsPlaced-write, lies_at, placed-as, placed-write, value_at, no_value}
use Rattle.cp_tables.proofs.placed.Placed.get_mut.Goals as goal

-- whatever is written, it lies where it lay
pub invariant_of-self-lent : goal.invariant_of-self-lent
invariant_of-self-lent g c =
    let here = sym c.in-Some.ensures in
    let held = lies_at c.self.inside.places c.self.inside.slots c.self.inside.last c.self.invariant c.args.id c.in-Some.place here in
    λ w. IsPlaced-as _ _ _ _ _ refl (seen-with_value c.self.inside.slots c.in-Some.place w held) (IsPlaced-write c.self.inside.places (seen c.self.inside.slots) c.self.inside.last c.self.invariant c.args.id c.in-Some.place w here)

pub returns-in-Some-get_mut : goal.returns-in-Some-get_mut
returns-in-Some-get_mut g c =
    let here = sym c.in-Some.ensures in
    let held = lies_at c.self.inside.places c.self.inside.slots c.self.inside.last c.self.invariant c.args.id c.in-Some.place here in (
      lends_same _ _ _ (λ w. rw (← c.self.view_is) (
          placed-as _ _ _ _ refl (seen-with_value c.self.inside.slots c.in-Some.place w held) ∙ placed-write c.self.inside.places (seen c.self.inside.slots) c.self.inside.last c.self.invariant c.args.id c.in-Some.place w here
          )),
      record { writes_back = tt; value = rw (← c.self.view_is) (c.in-Some-get_mut.ensures.value ∙ sym (value_at c.self.inside.places c.self.inside.slots c.args.id c.in-Some.place c.in-Some.ensures)) },
    )

pub returns-in-None : goal.returns-in-None
returns-in-None g c = (
  rw (← c.self.view_is) refl,
  record { writes_back = tt; value = rw (← c.self.view_is) (c.in-None.ensures.value ∙ sym (value_at c.self.inside.places c.self.inside.slots c.args.id c.in-Some.place c.in-Some.ensures)) },
)

pub returns-in_default : goal.returns-in_default
returns-in_default g c = (
  rw (← c.self.view_is) refl,
  record { writes_back = tt; value = rw (← c.self.view_is) (sym (no_value c.self.inside.places (seen c.self.inside.slots) c.args.id c.in_default.ensures)) },
)
