use Rattle.std.proofs.Common.{◌≡◌, None, refl, sym, ◌∙◌}
use Rattle.std.specs.FinMap.{get}
use Rattle.cp_tables.proofs.TableLemmas.{remove-absent}
use Rattle.cp_relay.proofs.references.Side.close.Goals as goal

pub returns-in_default : goal.returns-in_default
returns-in_default c =
    let side = c.args.self.now in
    let none : get side.questions c.args.question ≡ None = sym c.remove.ensures.value ∙ c.in_default.is in
    rw (none, c.remove.ensures.removed, remove-absent side.questions c.args.question none) refl
