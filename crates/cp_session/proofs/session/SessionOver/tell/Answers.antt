use Rattle.std.proofs.Common.{Bool, refl, sym, ap}
use Rattle.cp_session.proofs.Telling.{tells_others}
use Rattle.cp_session.proofs.session.SessionOver.tell.Goals as goal

pub returns-then-not-is_last-clause-event : goal.returns-then-not-is_last-clause-event
returns-then-not-is_last-clause-event g c = tells_others c.args.self.now.progress.is_told c.args.event (sym c.if-not-is_last.ensures)

pub returns-then-not-is_last-clause-told : goal.returns-then-not-is_last-clause-told
returns-then-not-is_last-clause-told g c = rw (← c.if-not-is_last.ensures) refl

pub returns-then-self-clause-event : goal.returns-then-self-clause-event
returns-then-self-clause-event g c = rw (c.if-self.true, ← c.if-not-is_last.ensures) refl

pub returns-clause-event : goal.returns-clause-event
returns-clause-event g c = rw c.if-self.false refl

pub returns-clause-told : goal.returns-clause-told
returns-clause-told g c = rw (← c.if-not-is_last.ensures) refl
