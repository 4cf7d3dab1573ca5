use Rattle.cp_vat_state.proofs.Under.{under-import-marked, under-path-marked, unmarked-path}
use Rattle.cp_vat_state.proofs.marks.Marks.put_mark.Goals as goal

pub invariant_of-self-in-Import-1 : goal.invariant_of-self-in-Import-1
invariant_of-self-in-Import-1 c = rw c.in_ok-put-in-Import.ensures.put (under-import-marked c.self.inside.imports c.self.inside.paths c.self.inside.embargoes c.self.inside.references c.self.invariant c.in-Import.id)

pub mark-requires-in-Pipelined-clause-unmarked : goal.mark-requires-in-Pipelined-clause-unmarked
mark-requires-in-Pipelined-clause-unmarked c =
    rw c.fields.ensures
    (unmarked-path (record { imports = c.self.inside.imports; paths = c.self.inside.paths; embargoes = c.self.inside.embargoes }) c.args.reference.now c.mark.result c.is_some.result c.in-Pipelined.question c.in-Pipelined.path
    (rw (← c.self.view_is) at c.mark.ensures)
    c.in-Pipelined.is
    c.is_some.ensures
    c.if-is_some.false)

pub invariant_of-self-in_err-mark-in-Pipelined : goal.invariant_of-self-in_err-mark-in-Pipelined
invariant_of-self-in_err-mark-in-Pipelined c = rw c.in_err-mark-in-Pipelined.ensures.err c.self.invariant

pub invariant_of-self-in-Pipelined-1 : goal.invariant_of-self-in-Pipelined-1
invariant_of-self-in-Pipelined-1 c = rw c.in_ok-mark-in-Pipelined.ensures.put (under-path-marked c.self.inside.imports c.self.inside.paths c.self.inside.embargoes c.self.inside.references c.self.invariant c.in-Pipelined.question c.fields.result.now)
