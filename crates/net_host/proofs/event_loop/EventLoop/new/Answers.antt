use Rattle.std.proofs.Common.{refl}
use Rattle.net_host.proofs.event_loop.EventLoop.new.Goals as goal

pub returns-clause-empty : goal.returns-clause-empty
returns-clause-empty g c = record { same = λ key. rw c.in_ok-guests.ensures.empty refl; ended = c.new-3.ensures.items; budget = rw (c.new-2.ensures, c.share.ensures, c.pool.ensures) refl; letters = c.new-4.ensures.items; due = c.in_ok-time.ensures }
