use Rattle.std.proofs.Common.{refl, ◌∙◌, sym, ap}
use Rattle.std.specs.Option.{option_copied_mut}
use Rattle.cp_tables.proofs.TableLemmas.{get-listed, listed-insert, IsSome-lent}
use Rattle.cp_tables.proofs.entries.Entries.entry_mut.Goals as goal

pub unwrap-requires : goal.unwrap-requires
unwrap-requires g c = IsSome-lent c.get_mut.result (rw (← c.self.view_is, get-listed, ← c.get_mut.ensures.value) at c.requires)

pub returns : goal.returns
returns g c =
    let held = rw (← c.self.view_is, get-listed) at c.requires in (
      (refl, λ w. rw (← c.self.view_is) (listed-insert c.self.inside.entries (c.get_mut.follows.lender w) c.args.id w ((c.get_mut.follows.holds w).3 held))),
      record { writes_back = tt; value = rw (← c.self.view_is, get-listed) (sym c.get_mut.ensures.value ∙ ap option_copied_mut c.unwrap.ensures) },
    )
