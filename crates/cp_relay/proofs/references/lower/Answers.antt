use Rattle.std.proofs.Common.{◌≡◌, Some, refl, sym, ◌∙◌, ap}
use Rattle.std.specs.Option.{option_copied_mut}
use Rattle.std.specs.FinMap.{get}
use Rattle.cp_tables.proofs.TableLemmas.{remove-insert}
use Rattle.cp_relay.proofs.Hosted.{not_less}
use Rattle.cp_relay.proofs.references.lower.Goals as goal

pub returns-else-count-entry : goal.returns-else-count-entry
returns-else-count-entry c =
    let given = c.args.given.now in
    let id = c.args.id in
    let entry = c.in-Some.entry.now in
    let held : get given id ≡ Some entry = sym c.get_mut.ensures.value ∙ ap option_copied_mut c.in-Some.is in
    rw (held, not_less c.args.count entry.count c.if-count-entry.false, c.remove.ensures.removed, remove-insert given id entry) refl
