use Rattle.std.proofs.Common.{Some, is_some, true≢false, refl, sym, ap, ◌∙◌}
use Rattle.cp_tables.proofs.TableLemmas.{seen, seen-with_value}
use Rattle.cp_tables.proofs.PlacedLemmas.{IsPlaced-as, IsPlaced-write, last_place, lies_at, placed-as, placed-write, value_at}
use Rattle.cp_tables.proofs.placed.Placed.replace.Goals as goal

pub unreachable-requires : goal.unreachable-requires
unreachable-requires g c =
    let here = last_place c.self.inside.places (seen c.self.inside.slots) c.self.inside.last c.self.invariant c.in-Some.number c.in-Some.place c.args.id c.in-Some.is c.if-number-id.true in
    true≢false (sym (ap is_some c.in-None.ensures.value ∙ lies_at c.self.inside.places c.self.inside.slots c.self.inside.last c.self.invariant c.args.id c.in-Some.place here))

pub invariant_of-self : goal.invariant_of-self
invariant_of-self g c =
    let here = last_place c.self.inside.places (seen c.self.inside.slots) c.self.inside.last c.self.invariant c.in-Some.number c.in-Some.place c.args.id c.in-Some.is c.if-number-id.true in
    IsPlaced-as _ _ _ _ _ refl (seen-with_value c.self.inside.slots c.in-Some.place c.replace.new.dest (lies_at c.self.inside.places c.self.inside.slots c.self.inside.last c.self.invariant c.args.id c.in-Some.place here)) (IsPlaced-write c.self.inside.places (seen c.self.inside.slots) c.self.inside.last c.self.invariant c.args.id c.in-Some.place c.replace.new.dest here)

pub returns-then-number-id-clause-value : goal.returns-then-number-id-clause-value
returns-then-number-id-clause-value g c =
    let here = last_place c.self.inside.places (seen c.self.inside.slots) c.self.inside.last c.self.invariant c.in-Some.number c.in-Some.place c.args.id c.in-Some.is c.if-number-id.true in
    rw (← c.self.view_is) (ap Some c.replace.ensures.value ∙ c.in-Some-get_mut.ensures.value ∙ sym (value_at c.self.inside.places c.self.inside.slots c.args.id c.in-Some.place (sym here)))

pub returns-then-number-id-clause-put : goal.returns-then-number-id-clause-put
returns-then-number-id-clause-put g c =
    let here = last_place c.self.inside.places (seen c.self.inside.slots) c.self.inside.last c.self.invariant c.in-Some.number c.in-Some.place c.args.id c.in-Some.is c.if-number-id.true in
    rw (← c.self.view_is, c.replace.ensures.after) (
    placed-as _ _ _ _ refl (seen-with_value c.self.inside.slots c.in-Some.place c.args.entry (lies_at c.self.inside.places c.self.inside.slots c.self.inside.last c.self.invariant c.args.id c.in-Some.place here))
    ∙ placed-write c.self.inside.places (seen c.self.inside.slots) c.self.inside.last c.self.invariant c.args.id c.in-Some.place c.args.entry here
    )
