use Rattle.std.proofs.Common.{Some, sym, ap, ◌∙◌}
use Rattle.std.specs.Option.{option_copied_mut}
use Rattle.cp_vat_state.proofs.Joining.{put-in, counted-again, nothing-at, something-at}
use Rattle.cp_vat_state.proofs.path_marks.PathMarks.set.Goals as goal

pub unreachable-requires : goal.unreachable-requires
unreachable-requires c =
    nothing-at c.self.inside.questions c.args.question c.args.path.now (sym (ap option_copied_mut c.in_default.is) ∙ c.get_mut.ensures.value) (rw (← c.self.view_is) at c.requires)

pub set-requires : goal.set-requires
set-requires c = something-at c.self.inside.questions c.args.question c.in-Some.paths.now c.args.path.now c.in-Some.ensures.value (rw (← c.self.view_is) at c.requires)

pub invariant_of-self : goal.invariant_of-self
invariant_of-self c =
    counted-again c.self.inside.questions c.args.question (Some c.in-Some.paths.now) c.in-Some.ensures.value c.self.inside.count c.set.new.self c.args.path.now (Some c.args.embargo) c.set.ensures
    (rw (← c.self.view_is) at c.requires)
    c.self.invariant

pub returns : goal.returns
returns c =
    rw (← c.self.view_is) (put-in c.self.inside.questions c.args.question (Some c.in-Some.paths.now) c.in-Some.ensures.value c.set.new.self c.args.path.now (Some c.args.embargo) c.set.ensures)
