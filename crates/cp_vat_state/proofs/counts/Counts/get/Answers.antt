use Rattle.std.proofs.Common.{ap, sym, ◌∙◌}
use Rattle.std.specs.Option.{unwrap_or}
use Rattle.cp_tables.proofs.TableLemmas.{get-listed}
use Rattle.cp_vat_state.proofs.counts.Counts.get.Goals as goal

pub returns : goal.returns
returns c =
    rw (← c.self.view_is) (c.unwrap_or.ensures ∙ ap (λ o. unwrap_or o 0) (c.copied.ensures ∙ c.get.ensures.value ∙ sym (get-listed c.self.inside.counts c.args.id)))
