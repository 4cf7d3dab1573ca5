use Rattle.net_host.proofs.Overdue.{Firsts, Seeks}
use Rattle.net_host.proofs.event_loop.queue_overdue.Given as goal

-- each that meets a limit of time is in the queue, or is left to be looked at; and this is the first deadline of the others
abbrev pub invariant-loop-entry : goal.invariant-loop-entry
invariant-loop-entry g l = record {
  can_next : (goal.iterator-loop-entry g).can_next l.entry-iterator;
  is_finite : (goal.iterator-loop-entry g).is_finite l.entry-iterator;
  seeks : Seeks g.S.DrivenSession.table g.S.DrivenSession.state g.D.Socket.flow l.guests l.now l.queue.items l.entry-iterator;
  firsts : Firsts g.S.DrivenSession.table g.S.DrivenSession.state g.D.Socket.flow l.guests l.first l.entry-iterator;
}
