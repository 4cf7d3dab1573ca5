use Rattle.std.proofs.Common.{subst, sym}
use Rattle.net_sockets.proofs.Noting.{notes_none}
use Rattle.net_sockets.specs.Readiness.{Notes}
use Rattle.net_sockets.proofs.readiness.Readiness.wait.Goals as goal

pub returns-in_err-reserve-clause-notes : goal.returns-in_err-reserve-clause-notes
returns-in_err-reserve-clause-notes g c =
    subst (λ q. Notes g.E.Watched.kept g.E.Watched.is_queued c.args.entries.now c.args.self.now.queue.items c.args.entries.now q) (sym c.reserve.ensures.items) (notes_none g.E.Watched.kept g.E.Watched.is_queued c.args.entries.now c.args.self.now.queue.items)

pub returns-in_err-poll-clause-notes : goal.returns-in_err-poll-clause-notes
returns-in_err-poll-clause-notes g c =
    subst (λ q. Notes g.E.Watched.kept g.E.Watched.is_queued c.args.entries.now c.args.self.now.queue.items c.args.entries.now q) (sym c.reserve.ensures.items) (notes_none g.E.Watched.kept g.E.Watched.is_queued c.args.entries.now c.args.self.now.queue.items)

pub returns-clause-notes : goal.returns-clause-notes
returns-clause-notes g c = rw c.reserve.ensures.items at c.note_events.ensures
