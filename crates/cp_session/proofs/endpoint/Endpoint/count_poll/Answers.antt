use Rattle.std.proofs.Common.{true, false, refl, sym, ap, ◌∙◌}
use Rattle.cp_dispatch.specs.Work.{Work}
use Rattle.cp_session.specs.Service.{service_of}
use Rattle.cp_session.proofs.Deciding.{after_ok}
use Rattle.cp_session.proofs.Counting.{counts_so}
use Rattle.cp_session.proofs.endpoint.Endpoint.count_poll.Goals as goal

pub returns-then-is_restless-clause-counts : goal.returns-then-is_restless-clause-counts
returns-then-is_restless-clause-counts c =
    let old = service_of c.args.self.now in
    let polls = c.note-is_restless.new.self in
    after_ok c.note.result c.note.ensures
    (λ notes. counts_so old _ c.args.gave true polls c.note-is_restless.ensures.counted (sym c.if-is_restless.true ∙ c.note-is_restless.ensures.restless) (ap (λ (w : Work). record old { empty_polls = polls; work = w }) (notes c.args.self.now.connection)))

pub returns-clause-counts : goal.returns-clause-counts
returns-clause-counts c =
    counts_so (service_of c.args.self.now) _ c.args.gave false c.note-is_restless.new.self c.note-is_restless.ensures.counted
    (sym c.if-is_restless.false ∙ c.note-is_restless.ensures.restless) refl
