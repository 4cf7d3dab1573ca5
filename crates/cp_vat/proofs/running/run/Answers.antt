use Rattle.cp_vat.proofs.Moments.{had_no_room, begun}
use Rattle.cp_vat.proofs.running.run.Goals as goal

pub returns : goal.returns
returns c = begun c.args.bootstrap c.new-vat.result c.args.events.items _ _ c.new-vat.ensures c.act_on_all-refused.ensures

pub returns-in_default : goal.returns-in_default
returns-in_default c = had_no_room c.args.bootstrap c.args.events.items c.new.result.items c.new.ensures.items
