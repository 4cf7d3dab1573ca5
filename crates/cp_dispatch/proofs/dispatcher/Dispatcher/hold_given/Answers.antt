use Rattle.cp_dispatch.proofs.Holding.{holds_none}
use Rattle.cp_dispatch.proofs.Working.{after_ok}
use Rattle.cp_dispatch.specs.WorkOf.{work_of}
use Rattle.cp_dispatch.proofs.dispatcher.Dispatcher.hold_given.Goals as goal

pub returns-in-Results : goal.returns-in-Results
returns-in-Results c = after_ok c.hold.result c.hold.ensures (λ holds link. rw c.in-Results.is (holds link))

pub returns-in-Failed : goal.returns-in-Failed
returns-in-Failed c = λ link. rw c.in-Failed.is (holds_none (work_of c.args.self.now link))

pub returns-in-Canceled : goal.returns-in-Canceled
returns-in-Canceled c = λ link. rw c.in-Canceled.is (holds_none (work_of c.args.self.now link))
