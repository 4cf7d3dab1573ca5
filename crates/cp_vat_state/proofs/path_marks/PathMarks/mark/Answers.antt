use Rattle.std.proofs.Common.{Some, None, sym, ap, ◌∙◌}
use Rattle.std.specs.Option.{option_copied_mut}
use Rattle.cp_tables.proofs.TableLemmas.{insert-same}
use Rattle.cp_vat_state.proofs.Joining.{put-in, counted-new, same-on-err}
use Rattle.cp_vat_state.specs.Joined.{joined}
use Rattle.std.specs.FinMap as map
use Rattle.cp_vat_state.proofs.path_marks.PathMarks.mark.Goals as goal

pub invariant_of-self : goal.invariant_of-self
invariant_of-self c = rw (c.in_err-put.ensures.err, insert-same c.self.inside.questions c.args.question c.in-Some.paths.now (sym c.in-Some.ensures.value)) c.self.invariant

pub invariant_of-self-in-Some : goal.invariant_of-self-in-Some
invariant_of-self-in-Some c =
    counted-new c.self.inside.questions c.args.question (Some c.in-Some.paths.now) c.in-Some.ensures.value c.self.inside.count c.put.new.self c.args.path.now None
    (rw c.in_ok-fields.ensures.items at c.in_ok-put.ensures.put)
    (rw (← c.self.view_is) at c.requires.unmarked)
    c.self.invariant

pub returns-in-Some-clause-put : goal.returns-in-Some-clause-put
returns-in-Some-clause-put c =
    rw (← c.self.view_is) (put-in c.self.inside.questions c.args.question (Some c.in-Some.paths.now) c.in-Some.ensures.value c.put.new.self c.args.path.now None (rw c.in_ok-fields.ensures.items at c.in_ok-put.ensures.put))

pub invariant_of-self-2 : goal.invariant_of-self-2
invariant_of-self-2 c =
    rw c.in_ok-put-3.ensures.put
    (counted-new c.self.inside.questions c.args.question None (sym (ap option_copied_mut c.in_default.is) ∙ c.get_mut.ensures.value) c.self.inside.count c.put-2.new.self c.args.path.now None
    (rw (c.new-paths.ensures, c.in_ok-fields.ensures.items) at c.in_ok-put-2.ensures.put)
    (rw (← c.self.view_is) at c.requires.unmarked)
    c.self.invariant)

pub returns-clause-put : goal.returns-clause-put
returns-clause-put c =
    rw (← c.self.view_is, c.in_ok-put-3.ensures.put)
    (put-in c.self.inside.questions c.args.question None (sym (ap option_copied_mut c.in_default.is) ∙ c.get_mut.ensures.value) c.put-2.new.self c.args.path.now None
    (rw (c.new-paths.ensures, c.in_ok-fields.ensures.items) at c.in_ok-put-2.ensures.put))

pub returns-in_err-put-clause-err : goal.returns-in_err-put-clause-err
returns-in_err-put-clause-err c =
    same-on-err c.from_residual-in_err-put.result (joined (map.insert c.self.inside.questions c.args.question c.put.new.self)) c.args.self.now
    (ap (λ m. joined (map.insert c.self.inside.questions c.args.question m)) c.in_err-put.ensures.err
    ∙ ap joined (insert-same c.self.inside.questions c.args.question c.in-Some.paths.now (sym c.in-Some.ensures.value))
    ∙ c.self.view_is)
