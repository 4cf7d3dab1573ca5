use Rattle.std.proofs.Common.{◌≡◌, None, refl, sym, ◌∙◌}
use Rattle.std.specs.FinMap.{get}
use Rattle.cp_tables.proofs.TableLemmas.{remove-absent}
use Rattle.cp_relay.proofs.references.Side.answer.Goals as goal

pub returns-in_default : goal.returns-in_default
returns-in_default c =
    let side = c.args.self.now in
    let none : get side.calls c.args.call ≡ None = sym c.remove.ensures.value ∙ c.in_default.is in
    rw (none, c.remove.ensures.removed, remove-absent side.calls c.args.call none) refl
