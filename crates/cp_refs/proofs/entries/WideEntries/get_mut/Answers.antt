use Rattle.std.proofs.Common.{IsSome, refl, subst}
use Rattle.cp_tables.proofs.TableLemmas.{get-listed, lends_same, listed-insert}
use Rattle.cp_refs.proofs.entries.WideEntries.get_mut.Goals as goal

pub returns-in-Some : goal.returns-in-Some
returns-in-Some g c =
    let held = subst (λ o. IsSome o) c.in-Some.ensures.value refl in (
      lends_same _ _ _ (λ w. rw (← c.self.view_is) (listed-insert c.self.inside.entries (c.get_mut.follows.lender w) c.args.id w ((c.get_mut.follows.holds w).3 held))),
      record { writes_back = tt; value = rw (← c.self.view_is, get-listed) c.in-Some.ensures.value },
    )

pub returns-in-None : goal.returns-in-None
returns-in-None g c = (
  rw (← c.self.view_is, c.get_mut.follows.holds-at-none) refl,
  record { writes_back = tt; value = rw (← c.self.view_is, get-listed) c.in-None.ensures.value },
)
