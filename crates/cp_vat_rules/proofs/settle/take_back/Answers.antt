use Rattle.std.proofs.Common.{◌∙◌}
use Rattle.cp_vat_rules.proofs.Backing.{reopened_back, raised_back}
use Rattle.cp_vat_rules.proofs.settle.take_back.Goals as goal

pub loop-index-preserved : goal.loop-index-preserved
loop-index-preserved c =
    let l = c.loop-index in
    record {
      values = l.invariant.values ∙ reopened_back c.args.settled.now l.index c.index-settled-index.result c.loop-index-test.true l.auto.index c.index-settled-index.is l.values c.take_one_back.new.values c.in_ok-take_one_back.ensures.values;
      exports = l.invariant.exports ∙ raised_back c.args.settled.now l.index c.index-settled-index.result c.loop-index-test.true l.auto.index c.index-settled-index.is l.exports c.take_one_back.new.exports c.in_ok-take_one_back.ensures.exports;
    }
