use Rattle.cp_objects.proofs.Sets.{first_none, first_some}
use Rattle.cp_objects.proofs.number_set.first_key.Goals as goal

pub returns-in-Some : goal.returns-in-Some
returns-in-Some c = first_some c.args.numbers.now c.args.from (c.range.ensures.in_range tt) c.in-Some.key.now _ c.in-Some.ensures.steps

pub returns-in-None : goal.returns-in-None
returns-in-None c = first_none c.args.numbers.now c.args.from (c.range.ensures.in_range tt) c.in-None.ensures.steps.0
