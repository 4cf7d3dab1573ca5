use Rattle.std.proofs.lemmas.Result.{IfErr-weaker}
use Rattle.cp_tables.proofs.CountedLemmas.{AreCounts-insert, count_here, opened_counts_at, raised_count, written_back}
use Rattle.cp_tables.proofs.imports.Imports.raise.Goals as goal

pub invariant_of-self : goal.invariant_of-self
invariant_of-self g c =
    let count = count_here c.self.inside.entries c.args.id c.in-Some.import.now c.in-Some.ensures.value c.self.invariant in
    AreCounts-insert c.self.inside.entries c.args.id c.raise.new.self c.self.invariant (raised_count c.in-Some.import.now c.raise.new.self c.raise.result c.raise.ensures.raised c.raise.ensures.full count)

pub invariant_of-self-in-None : goal.invariant_of-self-in-None
invariant_of-self-in-None g c = opened_counts_at c.self.inside.entries c.open.new.self c.args.id c.args.kept c.open.result c.open.ensures.opened c.open.ensures.err c.self.invariant

pub returns-in-Some-clause-err : goal.returns-in-Some-clause-err
returns-in-Some-clause-err g c =
    rw (← c.self.view_is) (IfErr-weaker c.raise.result _ _ (λ fault full. written_back c.self.inside.entries c.args.id c.in-Some.import.now c.raise.new.self c.in-Some.ensures.value full.2) c.raise.ensures.full)
