use Rattle.cp_dispatch.proofs.Dropping.{known_stays, unknown_goes}
use Rattle.cp_dispatch.proofs.Living.{lives_none}
use Rattle.cp_dispatch.proofs.idle.forget_if_unknown.Goals as goal

pub returns-then-knows_promise : goal.returns-then-knows_promise
returns-then-knows_promise g c = record {
  done = known_stays g.H.ObjectTable.table c.args.objects.now c.args.id c.args.connection.now c.knows_promise.result c.knows_promise.ensures c.if-knows_promise.true;
  lives = lives_none c.args.connection.now;
}

pub returns-clause-done : goal.returns-clause-done
returns-clause-done g c =
    unknown_goes g.H.ObjectTable.table c.args.objects.now c.args.id _ _ c.knows_promise.result c.in_ok-forget_unused.field-0 c.knows_promise.ensures c.if-knows_promise.false
    c.in_ok-forget_unused.ensures.done
