use Rattle.std.proofs.Common.{ap, get_or}
use Rattle.cp_servants.specs.Requests.{request_of}
use Rattle.cp_servants.proofs.Changing.{changes_at}
use Rattle.cp_servants.proofs.placed.call_at.Goals as goal

pub returns : goal.returns
returns g c =
    changes_at (λ before after. g.O.Servant.kind.takes before c.args.ticket (request_of c.args.request) c.in_ok-reply.reply after) c.args.objects.now c.args.place _ c.call_view.new.self c.in_ok-reply.ensures c.requires
    (ap (λ o. get_or c.args.objects.now c.args.place o) c.index-objects-place.is)
