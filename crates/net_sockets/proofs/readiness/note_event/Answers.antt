use Rattle.net_sockets.proofs.Noting.{notes_again, notes_first, notes_none}
use Rattle.net_sockets.proofs.readiness.note_event.Goals as goal

pub returns-in_default-clause-notes : goal.returns-in_default-clause-notes
returns-in_default-clause-notes g c = notes_none g.E.Watched.kept g.E.Watched.is_queued c.args.entries.now c.args.queue.now.items

pub returns-then-mark-clause-notes : goal.returns-then-mark-clause-notes
returns-then-mark-clause-notes g c =
    notes_first g.E.Watched.kept g.E.Watched.is_queued c.args.entries.now _ c.in-Some.entry.now c.mark.new.self c.in-Some.ensures.value c.mark.ensures.kept c.args.queue.now.items _ c.push_back_reserved.ensures.items

pub returns-else-mark-clause-notes : goal.returns-else-mark-clause-notes
returns-else-mark-clause-notes g c =
    notes_again g.E.Watched.kept g.E.Watched.is_queued c.args.entries.now _ c.in-Some.entry.now c.mark.new.self c.in-Some.ensures.value c.mark.ensures.kept c.args.queue.now.items _ c.mark.ensures.enters c.if-mark.false
