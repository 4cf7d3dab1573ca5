use Rattle.cp_dispatch.proofs.Working.{after_ok}
use Rattle.cp_dispatch.proofs.dispatcher.Dispatcher.give_up_beside.Goals as goal

pub returns : goal.returns
returns g c =
    after_ok c.give_up.result c.give_up.ensures (λ gives link. (c.take_given_up-imports.result, c.take_given_up-imports.ensures, gives link))
