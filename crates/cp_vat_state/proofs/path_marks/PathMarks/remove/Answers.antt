use Rattle.std.proofs.Common.{sym, ap, ◌∙◌, ◌∷◌}
use Rattle.std.specs.Option.{option_copied_mut}
use Rattle.cp_vat_state.proofs.Joining.{joined-remove, counted-less, some-counted, nothing-at}
use Rattle.cp_vat_state.proofs.path_marks.PathMarks.remove.Goals as goal

pub unreachable-requires : goal.unreachable-requires
unreachable-requires c =
    nothing-at c.self.inside.questions c.args.question c.args.path.now (sym (ap option_copied_mut c.in_default.is) ∙ c.get_mut.ensures.value) (rw (← c.self.view_is) at c.requires)

pub overflow_sub-self : goal.overflow_sub-self
overflow_sub-self c = some-counted c.self.inside.questions c.self.inside.count (c.args.question ∷ c.args.path.now) c.self.invariant (rw (← c.self.view_is) at c.requires)

pub invariant_of-self : goal.invariant_of-self
invariant_of-self c =
    counted-less c.self.inside.questions c.args.question c.in-Some.paths.now c.remove.new.self c.args.path.now c.self.inside.count c.in-Some.ensures.value c.remove.ensures.removed
    (rw (← c.self.view_is) at c.requires)
    c.self.invariant

pub returns : goal.returns
returns c =
    rw (← c.self.view_is) (joined-remove c.self.inside.questions c.args.question c.in-Some.paths.now c.remove.new.self c.args.path.now (sym c.in-Some.ensures.value) c.remove.ensures.removed)
