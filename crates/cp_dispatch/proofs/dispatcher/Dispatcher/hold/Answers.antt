use Rattle.std.proofs.Common.{refl}
use Rattle.cp_dispatch.proofs.Working.{after_ok}
use Rattle.cp_dispatch.proofs.dispatcher.Dispatcher.hold.Goals as goal

pub returns-then-not-self : goal.returns-then-not-self
returns-then-not-self c = λ link. rw c.if-not-self.true refl

pub returns : goal.returns
returns c = after_ok c.raise_each.result c.raise_each.ensures.raised (λ raised link. rw (c.if-not-self.false, raised, c.ids.ensures, c.in_ok-imports.ensures) refl)
