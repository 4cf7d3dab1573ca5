use Rattle.std.proofs.Common.{arith}
use Rattle.cp_packed.proofs.Sparing.{front_all}
use Rattle.cp_packed.proofs.packing.push_packed.Goals as goal

pub returns-clause-put : goal.returns-clause-put
returns-clause-put c =
    front_all c.args.out.now.items c.push_groups.new.out.items c.args.words.now c.in_ok-push_groups.field-0.now (c.in_ok-push_groups.ensures.front) (omega (arith, c.in_ok-push_groups.ensures.few))
