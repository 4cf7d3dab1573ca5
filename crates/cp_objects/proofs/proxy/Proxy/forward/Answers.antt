use Rattle.std.proofs.Common.{ap, refl, ◌∙◌}
use Rattle.cp_tables.proofs.TableLemmas.{listed-insert}
use Rattle.cp_objects.specs.Context.{ContextState, context_of, shared_each}
use Rattle.cp_objects.specs.Proxying.{sending_on}
use Rattle.cp_objects.proofs.Answering.{after_ok}
use Rattle.cp_objects.proofs.proxy.Proxy.forward.Goals as goal

pub returns-clause-posted : goal.returns-clause-posted
returns-clause-posted g c =
    after_ok c.post.result c.post.ensures (λ posted.
    rw (← c.self.view_is)
    (rw (c.session.ensures, c.in_ok-copy.ensures, c.in_ok-caps.ensures.shared, c.waker.ensures, c.saturating_add-context.ensures, c.memory-bytes.ensures) at posted
    ∙ ap (λ (p : ContextState _). sending_on c.self.inside.target c.args.ticket c.args.request (shared_each c.args.request.caps (context_of c.args.context.now)) p) c.in_ok-caps.ensures.noted))

pub returns-clause-pending : goal.returns-clause-pending
returns-clause-pending g c =
    after_ok c.post.result c.post.ensures (λ posted.
    rw (← c.self.view_is, listed-insert c.self.inside.pending c.insert.new.self c.args.ticket c.memory-bytes.result c.in_ok-insert.ensures.updates, c.memory-bytes.ensures) refl)
