use Rattle.std.proofs.Common.{◌+◌, ◌≤◌, length}
use Rattle.std.specs.Slice.Iter.{iter_rest}
use Rattle.std.specs.VecDeque.{deque_capacity, deque_len}
use Rattle.net_sockets.specs.Readiness.{Notes}
use Rattle.net_sockets.proofs.readiness.note_events.Given as goal

-- some events were noted, and there is room for what the others lead to
abbrev pub invariant-loop-event : goal.invariant-loop-event
invariant-loop-event g l = record {
  notes : Notes g.E.Watched.kept g.E.Watched.is_queued l.fn.entries l.fn.queue.items l.entries l.queue.items;
  room : deque_len l.queue + length (iter_rest l.event-iterator) ≤ deque_capacity l.queue;
}
