use Rattle.std.proofs.Common.{rules, sym, ◌∙◌}
use Rattle.cp_vat_state.proofs.Numbering.{none_fresh, is_fresh}
use Rattle.cp_vat_state.proofs.Under.{under-embargo, under-import-opened, under-path-opened, marked-import, marked-path}
use Rattle.cp_vat_state.proofs.marks.Marks.open_embargo.Goals as goal

pub returns-then-len-eq-LIMIT-clause-fresh : goal.returns-then-len-eq-LIMIT-clause-fresh
returns-then-len-eq-LIMIT-clause-fresh c = rw (← c.self.view_is) (none_fresh c.self.inside.embargoes (sym c.len.ensures.value ∙ c.if-len-eq-LIMIT.true))

pub invariant_of-self-in_err-put-in-Import : goal.invariant_of-self-in_err-put-in-Import
invariant_of-self-in_err-put-in-Import c = rw (c.in_err-put-in-Import.ensures.err, c.in_ok-id.ensures.opened) (under-embargo c.self.inside.imports c.self.inside.paths c.self.inside.embargoes c.self.inside.references c.self.invariant c.in_ok-id.id c.args.value)

pub entry_mut-requires : goal.entry_mut-requires
entry_mut-requires c =
    marked-import (record { imports = c.self.inside.imports; paths = c.self.inside.paths; embargoes = c.self.inside.embargoes }) c.args.reference.now c.in-Import.import (rw (← c.self.view_is) at c.requires) c.in-Import.is

pub invariant_of-self-in-Import-1 : goal.invariant_of-self-in-Import-1
invariant_of-self-in-Import-1 c =
    rw (c.in_ok-put-in-Import.ensures.put, c.in_ok-id.ensures.opened) (under-import-opened c.self.inside.imports c.self.inside.paths c.self.inside.embargoes c.self.inside.references c.self.invariant c.in_ok-id.id c.args.value c.in_ok-id.ensures.free c.in-Import.import)

pub invariant_of-self-in_err-copied-in-Pipelined : goal.invariant_of-self-in_err-copied-in-Pipelined
invariant_of-self-in_err-copied-in-Pipelined c = rw c.in_ok-id.ensures.opened (under-embargo c.self.inside.imports c.self.inside.paths c.self.inside.embargoes c.self.inside.references c.self.invariant c.in_ok-id.id c.args.value)

pub invariant_of-self-in_err-put-in-Pipelined : goal.invariant_of-self-in_err-put-in-Pipelined
invariant_of-self-in_err-put-in-Pipelined c = rw (c.in_err-put-in-Pipelined.ensures.err, c.in_ok-id.ensures.opened) (under-embargo c.self.inside.imports c.self.inside.paths c.self.inside.embargoes c.self.inside.references c.self.invariant c.in_ok-id.id c.args.value)

pub set-requires : goal.set-requires
set-requires c =
    rw c.fields.ensures
    (marked-path (record { imports = c.self.inside.imports; paths = c.self.inside.paths; embargoes = c.self.inside.embargoes }) c.args.reference.now c.in-Pipelined.question c.in-Pipelined.path
    (rw (← c.self.view_is) at c.requires)
    c.in-Pipelined.is)

pub invariant_of-self-in-Pipelined-reference : goal.invariant_of-self-in-Pipelined-reference
invariant_of-self-in-Pipelined-reference c =
    rw (c.set.ensures, c.fields.ensures, c.in_ok-put-in-Pipelined.ensures.put, c.in_ok-id.ensures.opened, c.in_ok-copied-in-Pipelined.ensures)
    (under-path-opened c.self.inside.imports c.self.inside.paths c.self.inside.embargoes c.self.inside.references c.self.invariant c.in_ok-id.id c.args.value c.in_ok-id.ensures.free c.in-Pipelined.question c.in-Pipelined.path)

pub invariant_of-self-in-None : goal.invariant_of-self-in-None
invariant_of-self-in-None c = rw c.in_ok-id.ensures.opened (under-embargo c.self.inside.imports c.self.inside.paths c.self.inside.embargoes c.self.inside.references c.self.invariant c.in_ok-id.id c.args.value)

pub invariant_of-self-in-None-2 : goal.invariant_of-self-in-None-2
invariant_of-self-in-None-2 c = rw c.in_ok-id.ensures.opened (under-embargo c.self.inside.imports c.self.inside.paths c.self.inside.embargoes c.self.inside.references c.self.invariant c.in_ok-id.id c.args.value)

pub invariant_of-self-in-None-3 : goal.invariant_of-self-in-None-3
invariant_of-self-in-None-3 c = rw c.in_ok-id.ensures.opened (under-embargo c.self.inside.imports c.self.inside.paths c.self.inside.embargoes c.self.inside.references c.self.invariant c.in_ok-id.id c.args.value)

pub invariant_of-self-in-None-4 : goal.invariant_of-self-in-None-4
invariant_of-self-in-None-4 c = rw c.in_ok-id.ensures.opened (under-embargo c.self.inside.imports c.self.inside.paths c.self.inside.embargoes c.self.inside.references c.self.invariant c.in_ok-id.id c.args.value)

pub returns-in_ok-put-in-Import-clause-fresh : goal.returns-in_ok-put-in-Import-clause-fresh
returns-in_ok-put-in-Import-clause-fresh c =
    rw (← c.self.view_is) (is_fresh c.self.inside.embargoes c.in_ok-id.id c.in_ok-id.ensures.free (search rules) (rw c.len.ensures.value at c.len.ensures.few) (λ full. c.if-len-eq-LIMIT.false (c.len.ensures.value ∙ full)))

pub returns-in_ok-put-in-Pipelined-clause-fresh : goal.returns-in_ok-put-in-Pipelined-clause-fresh
returns-in_ok-put-in-Pipelined-clause-fresh c =
    rw (← c.self.view_is) (is_fresh c.self.inside.embargoes c.in_ok-id.id c.in_ok-id.ensures.free (search rules) (rw c.len.ensures.value at c.len.ensures.few) (λ full. c.if-len-eq-LIMIT.false (c.len.ensures.value ∙ full)))

pub returns-in-None-clause-fresh : goal.returns-in-None-clause-fresh
returns-in-None-clause-fresh c =
    rw (← c.self.view_is) (is_fresh c.self.inside.embargoes c.in_ok-id.id c.in_ok-id.ensures.free (search rules) (rw c.len.ensures.value at c.len.ensures.few) (λ full. c.if-len-eq-LIMIT.false (c.len.ensures.value ∙ full)))

pub returns-in-None-2-clause-fresh : goal.returns-in-None-2-clause-fresh
returns-in-None-2-clause-fresh c =
    rw (← c.self.view_is) (is_fresh c.self.inside.embargoes c.in_ok-id.id c.in_ok-id.ensures.free (search rules) (rw c.len.ensures.value at c.len.ensures.few) (λ full. c.if-len-eq-LIMIT.false (c.len.ensures.value ∙ full)))

pub returns-in-None-3-clause-fresh : goal.returns-in-None-3-clause-fresh
returns-in-None-3-clause-fresh c =
    rw (← c.self.view_is) (is_fresh c.self.inside.embargoes c.in_ok-id.id c.in_ok-id.ensures.free (search rules) (rw c.len.ensures.value at c.len.ensures.few) (λ full. c.if-len-eq-LIMIT.false (c.len.ensures.value ∙ full)))

pub returns-in-None-4-clause-fresh : goal.returns-in-None-4-clause-fresh
returns-in-None-4-clause-fresh c =
    rw (← c.self.view_is) (is_fresh c.self.inside.embargoes c.in_ok-id.id c.in_ok-id.ensures.free (search rules) (rw c.len.ensures.value at c.len.ensures.few) (λ full. c.if-len-eq-LIMIT.false (c.len.ensures.value ∙ full)))
