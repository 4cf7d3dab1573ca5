use Rattle.std.proofs.Common.{sym, ◌∙◌}
use Rattle.cp_tables.proofs.TableLemmas.{seen}
use Rattle.cp_tables.proofs.PlacedLemmas.{value_at, no_value}
use Rattle.cp_tables.proofs.placed.Placed.get.Goals as goal

pub returns-in-Some : goal.returns-in-Some
returns-in-Some g c = rw (← c.self.view_is) (c.get.ensures ∙ sym (value_at c.self.inside.places c.self.inside.slots c.args.id c.in-Some.place c.in-Some.ensures))

pub returns-in-None : goal.returns-in-None
returns-in-None g c = rw (← c.self.view_is) (sym (no_value c.self.inside.places (seen c.self.inside.slots) c.args.id c.in-None.ensures))
