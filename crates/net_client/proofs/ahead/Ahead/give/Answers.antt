use Rattle.std.proofs.Common.{length}
use Rattle.net_client.proofs.Giving.{given_out}
use Rattle.net_client.proofs.ahead.Ahead.give.Goals as goal

pub returns-else-self-len-clause-gives : goal.returns-else-self-len-clause-gives
returns-else-self-len-clause-gives c =
    given_out c.args.self.now c.left-left.result.now c.self.inside.bytes.items c.copy_from_slice.new.self _ c.self.inside.given c.min-count.result (length c.args.buf.now)
    c.self.view_is c.left-left.ensures c.min-count.ensures c.copy_from_slice.ensures.after
