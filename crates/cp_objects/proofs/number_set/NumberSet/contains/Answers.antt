use Rattle.std.proofs.Common.{sym, ◌∙◌}
use Rattle.cp_objects.proofs.Sets.{contains-seen}
use Rattle.cp_objects.proofs.number_set.NumberSet.contains.Goals as goal

pub returns : goal.returns
returns c = rw (← c.self.view_is) (c.contains.ensures ∙ sym (contains-seen c.self.inside.numbers c.args.number))
