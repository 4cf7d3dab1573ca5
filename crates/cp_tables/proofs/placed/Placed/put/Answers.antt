use Rattle.std.proofs.Common.{sym, ap, ◌∙◌}
use Rattle.std.specs.FinMap.{get}
use Rattle.cp_tables.proofs.TableLemmas.{seen, get-seen, seen-insert}
use Rattle.cp_tables.proofs.PlacedLemmas.{IsPlaced-as, IsPlaced-insert, IsPlaced-replace, placed-as, placed-insert, placed-replace, value-replace, no_value, put_then_removed, put_back}
use Rattle.cp_tables.proofs.placed.Placed.put.Goals as goal

pub invariant_of-self-in-Some : goal.invariant_of-self-in-Some
invariant_of-self-in-Some g c =
    let free = get-seen c.self.inside.slots c.in-Ok.place ∙ c.in-Ok.ensures.was_vacant in
    IsPlaced-as _ _ _ _ _ c.in-Ok-replace.ensures.put (put_then_removed _ _ _ _ _ _ c.in-Ok.ensures.updates c.try_remove.ensures.updates) (
    IsPlaced-replace c.self.inside.places (seen c.self.inside.slots) c.self.inside.last c.self.invariant c.args.id c.in-Ok.place c.in-Some.before c.args.entry (sym c.in-Ok-replace.ensures.value ∙ c.in-Some.is) free
    )

pub invariant_of-self-in-None : goal.invariant_of-self-in-None
invariant_of-self-in-None g c =
    let free = get-seen c.self.inside.slots c.in-Ok.place ∙ c.in-Ok.ensures.was_vacant in
    IsPlaced-as _ _ _ _ _ c.in-Ok-replace.ensures.put (seen-insert _ _ _ _ c.in-Ok.ensures.updates) (
    IsPlaced-insert c.self.inside.places (seen c.self.inside.slots) c.self.inside.last c.self.invariant c.args.id c.in-Ok.place c.args.entry (sym c.in-Ok-replace.ensures.value ∙ c.in-None.is) free
    )

pub invariant_of-self-in-Err-replace : goal.invariant_of-self-in-Err-replace
invariant_of-self-in-Err-replace g c =
    IsPlaced-as _ _ _ _ _ c.in-Err-replace.ensures.err (put_back _ _ _ _ _ c.in-Ok.ensures.was_vacant c.in-Ok.ensures.updates c.remove.ensures.updates) c.self.invariant

pub returns-in-Some-clause-value : goal.returns-in-Some-clause-value
returns-in-Some-clause-value g c =
    let free = get-seen c.self.inside.slots c.in-Ok.place ∙ c.in-Ok.ensures.was_vacant in
    rw (← c.self.view_is) (
    c.try_remove.ensures.value
    ∙ sym (get-seen c.insert.new.self c.in-Some.before)
    ∙ ap (λ m. get m c.in-Some.before) (seen-insert c.self.inside.slots c.insert.new.self c.in-Ok.place c.args.entry c.in-Ok.ensures.updates)
    ∙ value-replace c.self.inside.places (seen c.self.inside.slots) c.self.inside.last c.self.invariant c.args.id c.in-Ok.place c.in-Some.before c.args.entry (sym c.in-Ok-replace.ensures.value ∙ c.in-Some.is) free
    )

pub returns-in-Some-clause-put : goal.returns-in-Some-clause-put
returns-in-Some-clause-put g c =
    let free = get-seen c.self.inside.slots c.in-Ok.place ∙ c.in-Ok.ensures.was_vacant in
    rw (← c.self.view_is) (
    placed-as _ _ _ _ c.in-Ok-replace.ensures.put (put_then_removed _ _ _ _ _ _ c.in-Ok.ensures.updates c.try_remove.ensures.updates)
    ∙ placed-replace c.self.inside.places (seen c.self.inside.slots) c.self.inside.last c.self.invariant c.args.id c.in-Ok.place c.in-Some.before c.args.entry (sym c.in-Ok-replace.ensures.value ∙ c.in-Some.is) free
    )

pub returns-in-None-clause-value : goal.returns-in-None-clause-value
returns-in-None-clause-value g c =
    rw (← c.self.view_is) (sym (no_value c.self.inside.places (seen c.self.inside.slots) c.args.id (sym c.in-None.is ∙ c.in-Ok-replace.ensures.value)))

pub returns-in-None-clause-put : goal.returns-in-None-clause-put
returns-in-None-clause-put g c =
    let free = get-seen c.self.inside.slots c.in-Ok.place ∙ c.in-Ok.ensures.was_vacant in
    rw (← c.self.view_is) (
    placed-as _ _ _ _ c.in-Ok-replace.ensures.put (seen-insert _ _ _ _ c.in-Ok.ensures.updates)
    ∙ placed-insert c.self.inside.places (seen c.self.inside.slots) c.self.inside.last c.self.invariant c.args.id c.in-Ok.place c.args.entry free
    )

pub returns-in-Err-replace-clause-err : goal.returns-in-Err-replace-clause-err
returns-in-Err-replace-clause-err g c =
    rw (← c.self.view_is) (placed-as _ _ _ _ c.in-Err-replace.ensures.err (put_back _ _ _ _ _ c.in-Ok.ensures.was_vacant c.in-Ok.ensures.updates c.remove.ensures.updates))
