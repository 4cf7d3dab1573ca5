use Rattle.std.proofs.Common.{ap, get_or}
use Rattle.cp_servants.specs.Servant.{NextCalls}
use Rattle.cp_servants.proofs.Changing.{changes_at}
use Rattle.cp_servants.proofs.placed.next_call_at.Goals as goal

pub returns : goal.returns
returns g c =
    changes_at (λ before after. NextCalls g.O.Servant.kind before c.in_ok-next_call.next_call after) c.args.objects.now c.args.place _ c.next_call.new.self c.in_ok-next_call.ensures c.requires
    (ap (λ o. get_or c.args.objects.now c.args.place o) c.index-objects-place.is)
