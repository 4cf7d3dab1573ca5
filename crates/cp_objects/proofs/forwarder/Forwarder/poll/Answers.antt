use Rattle.std.proofs.Common.{refl, sym, ◌∙◌}
use Rattle.cp_objects.specs.Context.{context_of}
use Rattle.cp_objects.specs.Forwarding.{lends_nothing, waits}
use Rattle.cp_objects.proofs.Answering.{after_ok}
use Rattle.cp_objects.proofs.Forwarding.{looked_at}
use Rattle.cp_objects.proofs.forwarder.Forwarder.poll.Goals as goal

pub returns-then-len-eq0 : goal.returns-then-len-eq0
returns-then-len-eq0 g c = lends_nothing (sym c.len.ensures ∙ c.if-len-eq0.true) refl refl

pub returns-then-not-is_time : goal.returns-then-not-is_time
returns-then-not-is_time g c = waits (λ none. c.if-len-eq0.false (c.len.ensures ∙ none)) (sym (rw c.now-now.ensures at c.if-not-is_time.ensures)) refl refl

pub returns : goal.returns
returns g c =
    after_ok c.let_go_each.result c.let_go_each.ensures (λ gone.
    looked_at c.args.self.now (context_of c.args.context.now) (context_of c.wake_after.new.self) _ _ c.now-now.result c.in_ok-keys.keys.items c.now-now.ensures
    (λ none. c.if-len-eq0.false (c.len.ensures ∙ none)) c.if-not-is_time.ensures c.in_ok-wake_after.ensures.noted gone)
