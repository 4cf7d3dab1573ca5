use Rattle.std.proofs.Common.{refl, sym, ◌∙◌}
use Rattle.cp_tables.proofs.TableLemmas.{get-listed, listed, listed-remove, remove-absent}
use Rattle.cp_objects.proofs.forwarded_calls.ForwardedCalls.answer.Goals as goal

pub returns-in_err-caller-clause-caller : goal.returns-in_err-caller-clause-caller
returns-in_err-caller-clause-caller c = rw (← c.self.view_is, get-listed, ← c.in_err-caller.ensures.value) c.from_residual.ensures

pub returns-in_err-caller-clause-rest : goal.returns-in_err-caller-clause-rest
returns-in_err-caller-clause-rest c =
    let callers = c.self.inside.callers in
    let none = get-listed callers c.args.number ∙ sym c.in_err-caller.ensures.value in
    rw (← c.self.view_is, listed-remove callers c.remove.new.self c.args.number c.remove.ensures.updates, none, remove-absent (listed callers) c.args.number none) refl

pub returns-clause-caller : goal.returns-clause-caller
returns-clause-caller c = rw (← c.self.view_is, get-listed, ← c.in_ok-caller.ensures.value) refl

pub returns-clause-rest : goal.returns-clause-rest
returns-clause-rest c =
    let callers = c.self.inside.callers in
    let some = get-listed callers c.args.number ∙ sym c.in_ok-caller.ensures.value in
    rw (
      ← c.self.view_is,
      listed-remove callers c.remove.new.self c.args.number c.remove.ensures.updates,
      listed-remove c.self.inside.numbers c.remove-2.new.self c.name_of.result c.remove-2.ensures.updates,
      c.name_of.ensures,
      some,
    )
    refl
