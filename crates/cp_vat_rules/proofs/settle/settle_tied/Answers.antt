use Rattle.std.proofs.Common.{◌+◌, arith, drop, subst, sym}
use Rattle.cp_vat_machine.specs.InUse.{caps_of}
use Rattle.cp_vat_rules.specs.Ungiven.{AreOpenOnce}
use Rattle.cp_vat_rules.proofs.Opening.{next_open, rest_open, all_end_on, ends_at}
use Rattle.cp_vat_rules.proofs.Backing.{settled_reopens, settled_lowers}
use Rattle.cp_vat_rules.proofs.Tying.{tied_goes_on, tied_stops, tied_ends}
use Rattle.cp_vat_rules.proofs.settle.settle_tied.Goals as goal

pub returns-in-Err-clause-settled : goal.returns-in-Err-clause-settled
returns-in-Err-clause-settled c s same =
    let l = c.loop-one in
    tied_stops s c.args.values.now l.values c.args.exports.now l.exports c.args.outcome.now c.args.tied.now l.one-index c.args.effects.now.items l.effects.items l.settled.items l.invariant.promises (l.invariant.settles s same) same c.one-item.result c.in_ok-value.value c.in-Err.step_fault _ _ _ _ _ c.loop-one-test.true c.one-item.is (rw c.fields.ensures at c.in_ok-value.ensures) c.in-Err.ensures.settled

pub loop-one-preserved : goal.loop-one-preserved
loop-one-preserved c =
    let l = c.loop-one in
    let reopens = settled_reopens c.args.values.now l.values c.settle_value.new.values l.settled.items c.add.new.list.items c.in-Ok.one c.one-item.result.promise l.invariant.promises l.invariant.reopens (next_open l.values.promises c.args.tied.now l.one-index c.one-item.result c.loop-one-test.true c.one-item.is l.invariant.unsettled) c.in-Ok.ensures.named c.in-Ok.ensures.put c.in_ok-add-in-Ok.ensures in
    record {
      settles =
          λ s same.
          tied_goes_on s c.args.values.now l.values c.args.exports.now l.exports c.args.outcome.now c.args.tied.now l.one-index c.args.effects.now.items l.effects.items l.settled.items l.invariant.promises (l.invariant.settles s same) same c.one-item.result c.in_ok-value.value c.in-Ok.one c.add.new.list.items c.settle_value.new.values c.settle_value.new.exports c.settle_value.new.effects.items c.loop-one-test.true c.one-item.is (rw c.fields.ensures at c.in_ok-value.ensures) c.in-Ok.ensures.settled c.in_ok-add-in-Ok.ensures;
      promises = reopens.0;
      reopens = reopens.1;
      unsettled =
          subst (λ v. AreOpenOnce v.promises (drop (l.one-index + 1) c.args.tied.now)) (sym c.in-Ok.ensures.put)
          (rest_open l.values.promises c.args.tied.now l.one-index c.one-item.result c.loop-one-test.true c.one-item.is l.invariant.unsettled c.in-Ok.one.value);
      ends =
          all_end_on l.values c.settle_value.new.values c.one-item.result.promise c.in-Ok.one.value (caps_of c.args.outcome.now)
          (next_open l.values.promises c.args.tied.now l.one-index c.one-item.result c.loop-one-test.true c.one-item.is l.invariant.unsettled) c.in-Ok.ensures.put c.in-Ok.ensures.ends l.invariant.ends;
      lowers = settled_lowers c.args.exports.now l.exports c.settle_value.new.exports l.settled.items c.add.new.list.items c.in-Ok.one l.invariant.lowers c.in-Ok.ensures.back c.in_ok-add-in-Ok.ensures;
    }

pub returns-clause-settled : goal.returns-clause-settled
returns-clause-settled c s same =
    let l = c.loop-one in
    tied_ends s c.args.values.now l.values c.args.exports.now l.exports c.args.outcome.now c.args.tied.now l.one-index c.args.effects.now.items l.effects.items l.settled.items l.invariant.promises (l.invariant.settles s same) (omega (arith, c.loop-one-test.false))

pub settle_value-requires-clause-unsettled : goal.settle_value-requires-clause-unsettled
settle_value-requires-clause-unsettled c =
    let l = c.loop-one in
    next_open l.values.promises c.args.tied.now l.one-index c.one-item.result c.loop-one-test.true c.one-item.is l.invariant.unsettled

pub settle_value-requires-clause-ends : goal.settle_value-requires-clause-ends
settle_value-requires-clause-ends c =
    let l = c.loop-one in
    rw (c.in_ok-value.ensures, c.fields.ensures) (ends_at l.values c.args.outcome.now c.one-item.result.path l.invariant.ends)
