use Rattle.net_host.proofs.Fed.{fed_failed, fed_taken}
use Rattle.net_host.proofs.hosted_connection.feed_next.Goals as goal

pub returns-in-Ok-clause-fed : goal.returns-in-Ok-clause-fed
returns-in-Ok-clause-fed g c = fed_taken _ _ c.in-Ok.count c.in-Ok.ensures.receives

pub returns-in-Err-clause-fed : goal.returns-in-Err-clause-fed
returns-in-Err-clause-fed g c = fed_failed _ _ _ c.in-Err.ensures.untaken
