use Rattle.std.proofs.Common.{IsSome, refl, subst}
use Rattle.cp_tables.proofs.TableLemmas.{get-seen, lends_same, seen-with_value}
use Rattle.cp_tables.proofs.slots.Slots.get_mut.Goals as goal

pub returns-in-Some : goal.returns-in-Some
returns-in-Some g c =
    let held = subst (λ o. IsSome o) c.in-Some.ensures.value refl in (
      lends_same _ _ _ (λ w. rw (← c.self.view_is) (seen-with_value c.self.inside.slab c.args.id w held)),
      record { writes_back = tt; value = rw (← c.self.view_is, get-seen) c.in-Some.ensures.value },
    )

pub returns-in-None : goal.returns-in-None
returns-in-None g c = (
  rw (← c.self.view_is) refl,
  record { writes_back = tt; value = rw (← c.self.view_is, get-seen) c.in-None.ensures.value },
)
