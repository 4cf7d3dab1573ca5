use Rattle.cp_servants.proofs.Changing.{some_says_more, next_says_none, none_says_more}
use Rattle.cp_servants.proofs.placed.any_has_more.Goals as goal

pub returns-then-has_more : goal.returns-then-has_more
returns-then-has_more g c =
    some_says_more g.O.Servant.kind c.args.objects.now c.loop-object.object-index c.object-item.result c.if-has_more.ensures c.loop-object-test.true c.object-item.is

pub loop-object-preserved : goal.loop-object-preserved
loop-object-preserved g c =
    next_says_none g.O.Servant.kind c.args.objects.now c.loop-object.object-index c.object-item.result c.if-has_more.ensures c.loop-object-test.true c.object-item.is c.loop-object.invariant

pub returns : goal.returns
returns g c = none_says_more g.O.Servant.kind c.args.objects.now c.loop-object.object-index c.loop-object-test.false c.loop-object.invariant
