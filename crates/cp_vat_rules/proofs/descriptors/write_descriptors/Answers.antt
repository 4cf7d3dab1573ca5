use Rattle.std.proofs.Common.{arith}
use Rattle.cp_vat_machine.specs.Writing.{WritesDescriptor, WritesDescriptors}
use Rattle.cp_vat_rules.specs.Leading.{with_parts}
use Rattle.cp_vat_rules.proofs.Saying.{leaves_err, each_step, each_fails, each_done}
use Rattle.cp_vat_rules.proofs.Backing.{said_back}
use Rattle.cp_vat_rules.proofs.Opening.{each_ends}
use Rattle.cp_vat_rules.proofs.descriptors.write_descriptors.Goals as goal

pub returns-in-Err-clause-said : goal.returns-in-Err-clause-said
returns-in-Err-clause-said c s =
    let old = with_parts s c.args.values.now c.args.exports.now in
    let now = with_parts s c.args.values.now c.loop-cap.exports in
    leaves_err (WritesDescriptor now c.cap-item.result) (WritesDescriptors old c.args.caps.now) _ _ _
    (λ f r. each_fails WritesDescriptor old now c.args.caps.now c.loop-cap.cap-index c.loop-cap.table.items (c.loop-cap.invariant.said s) c.cap-item.result f c.loop-cap-test.true c.cap-item.is r) (c.in-Err.ensures.said s)

pub loop-cap-preserved : goal.loop-cap-preserved
loop-cap-preserved c =
    record {
      said =
          λ s out rest.
          each_step WritesDescriptor (with_parts s c.args.values.now c.args.exports.now) (with_parts s c.args.values.now c.loop-cap.exports) c.args.caps.now c.loop-cap.cap-index c.loop-cap.table.items (c.loop-cap.invariant.said s) c.cap-item.result c.in-Ok.descriptor c.add.new.list.items (with_parts s c.args.values.now c.write_descriptor.new.exports) c.loop-cap-test.true c.cap-item.is (c.in-Ok.ensures.said s) c.in_ok-add-in-Ok.ensures out rest;
      back = said_back c.args.exports.now c.loop-cap.exports c.write_descriptor.new.exports c.loop-cap.table.items c.add.new.list.items c.in-Ok.descriptor c.loop-cap.invariant.back c.in-Ok.ensures.back c.in_ok-add-in-Ok.ensures;
    }

pub returns-clause-said : goal.returns-clause-said
returns-clause-said c s =
    let old = with_parts s c.args.values.now c.args.exports.now in
    let now = with_parts s c.args.values.now c.loop-cap.exports in
    rw c.new.ensures (each_done WritesDescriptor old now c.args.caps.now c.loop-cap.cap-index c.loop-cap.table.items (c.loop-cap.invariant.said s) (omega (arith, c.loop-cap-test.false)))

pub write_descriptor-requires : goal.write_descriptor-requires
write_descriptor-requires c = each_ends c.args.values.now c.args.caps.now c.loop-cap.cap-index c.cap-item.result c.loop-cap-test.true c.cap-item.is c.requires
