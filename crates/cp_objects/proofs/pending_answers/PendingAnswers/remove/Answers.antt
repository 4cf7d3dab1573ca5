use Rattle.std.proofs.Common.{ℕ, refl, sym, ap, ◌∙◌}
use Rattle.std.specs.FinMap.{values}
use Rattle.cp_tables.specs.Table.{Table}
use Rattle.cp_tables.proofs.TableLemmas.{get-listed, listed, listed-remove}
use Rattle.cp_objects.proofs.Counting.{are_counts_as, taken_none, taken_some}
use Rattle.cp_objects.proofs.pending_answers.PendingAnswers.remove.Goals as goal

pub invariant_of-self : goal.invariant_of-self
invariant_of-self c =
    let owners = c.self.inside.owners in
    are_counts_as _ _ _ _ c.lower.ensures
    (ap (λ (m : Table ℕ). values m) (listed-remove owners c.remove.new.self c.args.ticket c.remove.ensures.updates))
    (taken_some c.self.inside.counts.counts (listed owners) c.args.ticket 0 c.self.invariant c.in-Some.object (get-listed owners c.args.ticket ∙ sym c.in-Some.ensures.value))

pub invariant_of-self-in_default : goal.invariant_of-self-in_default
invariant_of-self-in_default c =
    let owners = c.self.inside.owners in
    are_counts_as _ _ _ _ refl
    (ap (λ (m : Table ℕ). values m) (listed-remove owners c.remove.new.self c.args.ticket c.remove.ensures.updates))
    (taken_none c.self.inside.counts.counts (listed owners) c.args.ticket 0 c.self.invariant (get-listed owners c.args.ticket ∙ sym c.in_default.ensures.value))

pub returns-in-Some : goal.returns-in-Some
returns-in-Some c = rw (← c.self.view_is) (listed-remove c.self.inside.owners c.remove.new.self c.args.ticket c.remove.ensures.updates)

pub returns-in_default : goal.returns-in_default
returns-in_default c = rw (← c.self.view_is) (listed-remove c.self.inside.owners c.remove.new.self c.args.ticket c.remove.ensures.updates)
