use Rattle.std.proofs.Common.{refl}
use Rattle.cp_client.proofs.Deciding.{done_or_failed}
use Rattle.cp_client.proofs.client.SessionClient.poll.Goals as goal

pub returns : goal.returns
returns g c = record { polls = done_or_failed c.poll.result c.poll.ensures.polls c.poll.ensures.runs_out; same = refl }
