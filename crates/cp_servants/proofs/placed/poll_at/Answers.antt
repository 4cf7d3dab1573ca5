use Rattle.std.proofs.Common.{ap, get_or}
use Rattle.cp_servants.proofs.Changing.{changes_at}
use Rattle.cp_servants.proofs.placed.poll_at.Goals as goal

pub returns : goal.returns
returns g c =
    changes_at (λ before after. g.O.Servant.kind.polls before c.in_ok-settled.settled after) c.args.objects.now c.args.place _ c.poll.new.self c.in_ok-settled.ensures c.requires
    (ap (λ o. get_or c.args.objects.now c.args.place o) c.index-objects-place.is)
