use Rattle.std.proofs.Common.{ap, arith, length}
use Rattle.net_sockets.proofs.Noting.{notes_both, notes_none}
use Rattle.net_sockets.proofs.readiness.note_events.Goals as goal

pub loop-event-init : goal.loop-event-init
loop-event-init g c = record {
  notes = notes_none g.E.Watched.kept g.E.Watched.is_queued c.args.entries.now c.args.queue.now.items;
  room = rw c.into_iter-event-iterator.ensures.into_iter_gives.0 c.requires;
}

pub loop-event-preserved-then-eq : goal.loop-event-preserved-then-eq
loop-event-preserved-then-eq g c = record {
  notes = c.loop-event.invariant.notes;
  room = omega (arith, ap (λ l. length l) c.in-Some.ensures.steps, c.loop-event.invariant.room);
}

pub note_event-requires : goal.note_event-requires
note_event-requires g c = omega (arith, ap (λ l. length l) c.in-Some.ensures.steps, c.loop-event.invariant.room)

pub loop-event-preserved : goal.loop-event-preserved
loop-event-preserved g c = record {
  notes = notes_both g.E.Watched.kept g.E.Watched.is_queued c.loop-event.invariant.notes c.note_event.ensures.notes;
  room = omega (arith, ap (λ l. length l) c.in-Some.ensures.steps, c.loop-event.invariant.room, c.note_event.ensures.room, c.note_event.ensures.capacity);
}
