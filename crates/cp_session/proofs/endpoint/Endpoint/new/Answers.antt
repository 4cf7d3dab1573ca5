use Rattle.std.proofs.Common.{Option, false, ap, ◌∙◌}
use Rattle.cp_connection.specs.Link.{Link}
use Rattle.cp_dispatch.specs.Work.{Work, begun}
use Rattle.cp_session.specs.declared.empty_polls.EmptyPolls.{EmptyPolls}
use Rattle.cp_session.specs.declared.search.Search.{Search}
use Rattle.cp_session.specs.Service.{new_service}
use Rattle.cp_session.specs.declared.sweep.Sweep.{Sweep}
use Rattle.cp_session.proofs.endpoint.Endpoint.new.Goals as goal

pub returns : goal.returns
returns c =
    let options = c.args.options.now in
    ap (λ (w : Work). record { work = w; search = c.search_if.result; gave = false; sweep = c.new.result; empty_polls = c.new-2.result }) (c.objects_that.ensures c.with_tail_calls.result ∙ ap (λ (l : Link). begun options.may_call l) c.with_tail_calls.ensures.fresh)
    ∙ ap (λ (s : Option Search). record (new_service options) { search = s; sweep = c.new.result; empty_polls = c.new-2.result }) c.search_if.ensures
    ∙ ap (λ (s : Sweep). record (new_service options) { sweep = s; empty_polls = c.new-2.result }) c.new.ensures
    ∙ ap (λ (p : EmptyPolls). record (new_service options) { empty_polls = p }) c.new-2.ensures
