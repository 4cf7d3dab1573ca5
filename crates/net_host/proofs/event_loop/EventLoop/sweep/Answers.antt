use Rattle.std.proofs.Common.{ap, refl}
use Rattle.net_host.specs.Floor.{rests, sweeps}
use Rattle.net_host.proofs.event_loop.EventLoop.sweep.Goals as goal

pub returns-then-not-is_due-clause-turns : goal.returns-then-not-is_due-clause-turns
returns-then-not-is_due-clause-turns g c = rests (record { same = λ key. refl; ended = refl; budget = refl; letters = refl; due = ap (λ t. t.sweep_at) c.is_due.ensures.same })

pub returns-in_err-first-clause-turns : goal.returns-in_err-first-clause-turns
returns-in_err-first-clause-turns g c = rests (record { same = λ key. refl; ended = refl; budget = refl; letters = refl; due = ap (λ t. t.sweep_at) c.is_due.ensures.same })

pub returns-clause-turns : goal.returns-clause-turns
returns-clause-turns g c = sweeps (λ key. refl) refl refl refl (rw c.set_sweep.ensures c.in_ok-first.ensures.first)

pub returns-clause-swept : goal.returns-clause-swept
returns-clause-swept g c = λ due. rw (c.now.ensures, c.is_due.ensures.same) at c.in_ok-first.ensures.queued
