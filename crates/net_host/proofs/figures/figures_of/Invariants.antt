use Rattle.net_host.proofs.Summing.{AddsUp}
use Rattle.net_host.proofs.figures.figures_of.Given as goal

-- what was added up and what is left make up all
abbrev pub invariant-loop-entry : goal.invariant-loop-entry
invariant-loop-entry g l = record {
  can_next : (goal.iterator-loop-entry g).can_next l.entry-iterator;
  is_finite : (goal.iterator-loop-entry g).is_finite l.entry-iterator;
  adds_up : AddsUp g.S.DrivenSession.table g.S.DrivenSession.state l.guests l.entry-iterator l.all;
}
