use Rattle.cp_vat_rules.proofs.Backing.{back_one}
use Rattle.cp_vat_rules.proofs.exports.withdraw_exports.Goals as goal

pub loop-index-preserved : goal.loop-index-preserved
loop-index-preserved c =
    back_one c.args.exports.now c.loop-index.exports c.take_back.new.self c.args.ids.now c.loop-index.index c.loop-index-test.true c.loop-index.auto.index c.loop-index.invariant c.take_back.ensures
