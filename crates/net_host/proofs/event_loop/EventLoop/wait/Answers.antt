use Rattle.std.proofs.Common.{ap, refl}
use Rattle.net_host.proofs.event_loop.EventLoop.wait.Goals as goal

pub returns-clause-rests : goal.returns-clause-rests
returns-clause-rests g c = record { same = c.wait.ensures.notes.same; ended = refl; budget = refl; letters = refl; due = ap (λ t. t.sweep_at) c.look.ensures }

pub returns-in_err-has_event-clause-rests : goal.returns-in_err-has_event-clause-rests
returns-in_err-has_event-clause-rests g c = record { same = c.wait.ensures.notes.same; ended = refl; budget = refl; letters = refl; due = refl }

pub returns-in_err-look-clause-rests : goal.returns-in_err-look-clause-rests
returns-in_err-look-clause-rests g c = record { same = c.wait.ensures.notes.same; ended = refl; budget = refl; letters = refl; due = ap (λ t. t.sweep_at) c.look.ensures }
