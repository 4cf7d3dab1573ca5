use Rattle.std.proofs.Common.{refl, sym, ◌∙◌}
use Rattle.cp_tables.proofs.TableLemmas.{get-listed, listed, listed-remove, remove-absent}
use Rattle.cp_objects.specs.Lending.{name_of}
use Rattle.cp_objects.proofs.forwarded_calls.ForwardedCalls.cancel.Goals as goal

pub returns-in_err-number-clause-number : goal.returns-in_err-number-clause-number
returns-in_err-number-clause-number c = rw (← c.self.view_is, ← c.name_of.ensures, get-listed, ← c.in_err-number.ensures.value) c.from_residual.ensures

pub returns-in_err-number-clause-rest : goal.returns-in_err-number-clause-rest
returns-in_err-number-clause-rest c =
    let numbers = c.self.inside.numbers in
    let none = get-listed numbers c.name_of.result ∙ sym c.in_err-number.ensures.value in
    rw (
      ← c.self.view_is,
      ← c.name_of.ensures,
      listed-remove numbers c.remove.new.self c.name_of.result c.remove.ensures.updates,
      none,
      remove-absent (listed numbers) c.name_of.result none,
    )
    refl

pub returns-clause-number : goal.returns-clause-number
returns-clause-number c = rw (← c.self.view_is, ← c.name_of.ensures, get-listed, ← c.in_ok-number.ensures.value) refl

pub returns-clause-rest : goal.returns-clause-rest
returns-clause-rest c =
    let inside = c.self.inside in
    let some = get-listed inside.numbers c.name_of.result ∙ sym c.in_ok-number.ensures.value in
    rw (
      ← c.self.view_is,
      ← c.name_of.ensures,
      listed-remove inside.numbers c.remove.new.self c.name_of.result c.remove.ensures.updates,
      listed-remove inside.callers c.remove-2.new.self c.in_ok-number.number c.remove-2.ensures.updates,
      listed-remove inside.waiting c.remove-3.new.self c.in_ok-number.number c.remove-3.ensures.updates,
      some,
    )
    refl
