-- That a poll was counted.
use Rattle.std.proofs.Common.{◌≡◌, ◌∙◌, Bool, ap}
use Rattle.cp_session.specs.declared.empty_polls.EmptyPolls.{EmptyPolls}
use Rattle.cp_session.specs.EmptyPolls.{after_poll, is_restless}
use Rattle.cp_session.specs.Serves.{CountsPoll, told_restless}
use Rattle.cp_session.specs.Service.{Service}

-- the program is told of it, or isn't
pub counts_so : (old new : Service) (gave told : Bool) (polls : EmptyPolls) → polls ≡ after_poll gave old.empty_polls → told ≡ is_restless gave old.empty_polls
    → new ≡ record old { empty_polls = polls; work = told_restless told old.work } → CountsPoll gave old new
counts_so old new gave told polls counted restless is =
    is
    ∙ ap (λ (p : EmptyPolls). record old { empty_polls = p; work = told_restless told old.work }) counted
    ∙ ap (λ (b : Bool). record old { empty_polls = after_poll gave old.empty_polls; work = told_restless b old.work }) restless
