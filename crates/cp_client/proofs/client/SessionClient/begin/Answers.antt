use Rattle.std.proofs.Common.{refl}
use Rattle.cp_client.proofs.Beginning.{begun_by}
use Rattle.cp_client.proofs.Devices.{fresh_device}
use Rattle.cp_client.proofs.client.SessionClient.begin.Goals as goal

pub returns : goal.returns
returns g c =
    begun_by _ _ _ _ _ _ _ _ _ refl c.new-3.ensures c.new-4.ensures
    (fresh_device g.R.Read.remaining c.new.result c.args.from c.new.ensures.inner c.new.ensures.failures)
    (fresh_device g.W.Write.contents c.new-2.result c.args.to c.new-2.ensures.inner c.new-2.ensures.failures)
