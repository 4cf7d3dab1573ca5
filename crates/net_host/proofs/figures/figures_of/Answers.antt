use Rattle.net_host.proofs.Summing.{adds_all, adds_next, adds_none}
use Rattle.net_host.proofs.figures.figures_of.Goals as goal

pub loop-entry-init : goal.loop-entry-init
loop-entry-init g c = record { can_next = tt; is_finite = tt; adds_up = adds_none g.S.DrivenSession.table g.S.DrivenSession.state c.args.guests.now _ _ c.len.ensures c.into_iter-entry-iterator.ensures.into_iter_gives }

pub loop-entry-preserved : goal.loop-entry-preserved
loop-entry-preserved g c = record {
  can_next = tt;
  is_finite = tt;
  adds_up =
      adds_next g.S.DrivenSession.table g.S.DrivenSession.state c.args.guests.now _ _ _ _ _ _ _ c.in-Some.ensures.steps c.kept.ensures c.stats.ensures c.with-all.ensures
      c.loop-entry.invariant.adds_up;
}

pub returns : goal.returns
returns g c = record { sums = adds_all g.S.DrivenSession.table g.S.DrivenSession.state c.args.guests.now _ _ c.in-None.ensures.steps.0 c.loop-entry.invariant.adds_up }
