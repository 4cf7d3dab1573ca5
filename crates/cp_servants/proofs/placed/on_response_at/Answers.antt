use Rattle.std.proofs.Common.{ap, get_or}
use Rattle.cp_servants.specs.Servant.{OnResponse}
use Rattle.cp_servants.proofs.Changing.{changes_at}
use Rattle.cp_servants.proofs.placed.on_response_at.Goals as goal

pub returns : goal.returns
returns g c =
    changes_at (λ before after. OnResponse g.O.Servant.kind before c.args.call_id c.args.outcome after) c.args.objects.now c.args.place _ c.on_response.new.self c.in_ok-on_response.ensures c.requires
    (ap (λ o. get_or c.args.objects.now c.args.place o) c.index-objects-place.is)
