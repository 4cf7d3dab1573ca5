use Rattle.std.proofs.Common.{not, ◌∙◌, ap, sym}
use Rattle.cp_vat_rules.proofs.Lowering.{lowered_one, all_lowered, was_let}
use Rattle.cp_vat_rules.proofs.exports.release_exports.Goals as goal

pub loop-id-preserved : goal.loop-id-preserved
loop-id-preserved c =
    let l = c.loop-id in
    let next = lowered_one c.args.exports.now l.exports c.args.ids.now l.id-index l.invariant.counted c.release.new.self c.loop-id-test.true (c.release.ensures.released ∙ was_let c.release.result c.release.new.self (sym c.is_err.ensures.value ∙ c.if-is_err.false)) l.invariant.same in
    record { same = next.0; counted = next.1 }

pub returns : goal.returns
returns c =
    let l = c.loop-id in
    all_lowered c.args.exports.now l.exports c.args.ids.now l.id-index l.invariant.counted c.loop-id-test.false (c.are_there.ensures ∙ ap not c.if-not-are_there.false) l.invariant.same
