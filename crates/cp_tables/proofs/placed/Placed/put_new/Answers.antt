use Rattle.std.proofs.Common.{refl, sym, ap, ◌∙◌}
use Rattle.std.specs.FinMap.{insert}
use Rattle.cp_tables.proofs.TableLemmas.{seen, get-seen, get-insert_same, insert-insert, insert-same, seen-insert}
use Rattle.cp_tables.proofs.PlacedLemmas.{IsPlaced-as, IsPlaced-insert, placed-as, placed-insert, no_value, put_back}
use Rattle.cp_tables.proofs.placed.Placed.put_new.Goals as goal

pub entry_mut-requires : goal.entry_mut-requires
entry_mut-requires g c = rw (c.in-Ok-Some.ensures.put, get-insert_same c.self.inside.places c.args.id c.in-Ok.place) refl

pub invariant_of-self-in-Ok-None : goal.invariant_of-self-in-Ok-None
invariant_of-self-in-Ok-None g c =
    let free = get-seen c.self.inside.slots c.in-Ok.place ∙ c.in-Ok.ensures.was_vacant in
    IsPlaced-as _ _ _ _ _ c.in-Ok-None.ensures.put (seen-insert _ _ _ _ c.in-Ok.ensures.updates) (
    IsPlaced-insert c.self.inside.places (seen c.self.inside.slots) c.self.inside.last c.self.invariant c.args.id c.in-Ok.place c.args.entry (sym c.in-Ok-None.ensures.value ∙ c.in-Ok-None.field-0-is) free
    )

pub invariant_of-self-in-Ok-Some : goal.invariant_of-self-in-Ok-Some
invariant_of-self-in-Ok-Some g c =
    let places = ap (λ p. insert p c.args.id c.in-Ok-Some.before) c.in-Ok-Some.ensures.put ∙ insert-insert c.self.inside.places c.args.id c.in-Ok.place c.in-Ok-Some.before ∙ insert-same c.self.inside.places c.args.id c.in-Ok-Some.before (sym c.in-Ok-Some.ensures.value ∙ c.in-Ok-Some.field-0-is) in
    IsPlaced-as _ _ _ _ _ places (put_back _ _ _ _ _ c.in-Ok.ensures.was_vacant c.in-Ok.ensures.updates c.remove.ensures.updates) c.self.invariant

pub invariant_of-self-in-Err-replace : goal.invariant_of-self-in-Err-replace
invariant_of-self-in-Err-replace g c =
    IsPlaced-as _ _ _ _ _ c.in-Err-replace.ensures.err (put_back _ _ _ _ _ c.in-Ok.ensures.was_vacant c.in-Ok.ensures.updates c.remove-in-Err-replace.ensures.updates) c.self.invariant

pub returns-in-Ok-None-clause-put : goal.returns-in-Ok-None-clause-put
returns-in-Ok-None-clause-put g c =
    let free = get-seen c.self.inside.slots c.in-Ok.place ∙ c.in-Ok.ensures.was_vacant in
    rw (← c.self.view_is) (
      no_value c.self.inside.places (seen c.self.inside.slots) c.args.id (sym c.in-Ok-None.field-0-is ∙ c.in-Ok-None.ensures.value),
      placed-as _ _ _ _ c.in-Ok-None.ensures.put (seen-insert _ _ _ _ c.in-Ok.ensures.updates) ∙ placed-insert c.self.inside.places (seen c.self.inside.slots) c.self.inside.last c.self.invariant c.args.id c.in-Ok.place c.args.entry free,
    )

pub returns-in-Ok-Some-clause-err : goal.returns-in-Ok-Some-clause-err
returns-in-Ok-Some-clause-err g c =
    let places = ap (λ p. insert p c.args.id c.in-Ok-Some.before) c.in-Ok-Some.ensures.put ∙ insert-insert c.self.inside.places c.args.id c.in-Ok.place c.in-Ok-Some.before ∙ insert-same c.self.inside.places c.args.id c.in-Ok-Some.before (sym c.in-Ok-Some.ensures.value ∙ c.in-Ok-Some.field-0-is) in
    rw (← c.self.view_is) (placed-as _ _ _ _ places (put_back _ _ _ _ _ c.in-Ok.ensures.was_vacant c.in-Ok.ensures.updates c.remove.ensures.updates))

pub returns-in-Err-replace-clause-err : goal.returns-in-Err-replace-clause-err
returns-in-Err-replace-clause-err g c =
    rw (← c.self.view_is) (placed-as _ _ _ _ c.in-Err-replace.ensures.err (put_back _ _ _ _ _ c.in-Ok.ensures.was_vacant c.in-Ok.ensures.updates c.remove-in-Err-replace.ensures.updates))
