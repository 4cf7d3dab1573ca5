use Rattle.std.proofs.Common.{ℕ, refl, sym, ap, ◌∙◌}
use Rattle.std.specs.FinMap.{values}
use Rattle.cp_tables.specs.Table.{Table}
use Rattle.cp_tables.proofs.TableLemmas.{get-listed, listed, listed-insert}
use Rattle.cp_objects.proofs.Counting.{are_counts_as, put_again, put_back, put_new}
use Rattle.cp_objects.proofs.pending_answers.PendingAnswers.put.Goals as goal

pub invariant_of-self-in-Ok-Some : goal.invariant_of-self-in-Ok-Some
invariant_of-self-in-Ok-Some c =
    let owners = c.self.inside.owners in
    let was = get-listed owners c.args.ticket ∙ sym c.in-Ok-Some.ensures.old ∙ c.in-Ok-Some.field-0-is in
    are_counts_as _ _ _ _ (rw (c.lower.ensures, c.in_ok-raise.ensures.raised) refl)
    (ap (λ (m : Table ℕ). values m) (listed-insert owners c.insert.new.self c.args.ticket c.args.object c.in-Ok-Some.ensures.updates))
    (put_again c.self.inside.counts.counts (listed owners) c.args.ticket c.args.object c.self.invariant c.in-Ok-Some.before was)

pub invariant_of-self-in-Ok-None : goal.invariant_of-self-in-Ok-None
invariant_of-self-in-Ok-None c =
    let owners = c.self.inside.owners in
    let was = get-listed owners c.args.ticket ∙ sym c.in-Ok-None.ensures.old ∙ c.in-Ok-None.field-0-is in
    are_counts_as _ _ _ _ c.in_ok-raise.ensures.raised
    (ap (λ (m : Table ℕ). values m) (listed-insert owners c.insert.new.self c.args.ticket c.args.object c.in-Ok-None.ensures.updates))
    (put_new c.self.inside.counts.counts (listed owners) c.args.ticket c.args.object c.self.invariant was)

pub invariant_of-self-in-Err : goal.invariant_of-self-in-Err
invariant_of-self-in-Err c =
    are_counts_as _ _ _ _ (rw (c.lower-in-Err.ensures, c.in_ok-raise.ensures.raised) refl) (rw c.in-Err.ensures.err refl)
    (put_back c.self.inside.counts.counts (listed c.self.inside.owners) c.args.ticket c.args.object c.self.invariant)

pub returns-in-Ok-Some : goal.returns-in-Ok-Some
returns-in-Ok-Some c = rw (← c.self.view_is) (listed-insert c.self.inside.owners c.insert.new.self c.args.ticket c.args.object c.in-Ok-Some.ensures.updates)

pub returns-in-Ok-None : goal.returns-in-Ok-None
returns-in-Ok-None c = rw (← c.self.view_is) (listed-insert c.self.inside.owners c.insert.new.self c.args.ticket c.args.object c.in-Ok-None.ensures.updates)
