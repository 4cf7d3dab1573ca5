use Rattle.std.proofs.Common.{◌≡◌, ℕ, true, refl, ap}
use Rattle.cp_messages.specs.declared.promised_answer.Op.{Op}
use Rattle.cp_messages.specs.declared.promised_answer.Op.TheVariants as ops
use Rattle.cp_vat_machine.specs.Supported.{is_known_op}
use Rattle.cp_vat.proofs.Listing.{all_more, all_fails}
use Rattle.cp_vat.proofs.supported.is_supported_transform.Goals as goal

known : (x : Op) → ((n : ℕ) → x ≡ ops.Unknown n → ⊥) → is_known_op x ≡ true
known ops.Noop other = refl
known (ops.GetPointerField field) other = refl
known (ops.Unknown n) other = absurd (other n refl)

pub returns-in-Unknown : goal.returns-in-Unknown
returns-in-Unknown g c =
    all_fails is_known_op c.args.transform.now c.loop-i.i c.op.result (rw c.len-i-end.ensures at c.loop-i-test.true) (c.op.ensures c.op.result) (ap is_known_op c.in-Unknown.is)

pub loop-i-preserved : goal.loop-i-preserved
loop-i-preserved g c =
    all_more is_known_op c.args.transform.now c.loop-i.i c.op.result (rw c.len-i-end.ensures at c.loop-i-test.true) (c.op.ensures c.op.result) c.loop-i.invariant (known c.op.result c.in_default.not-Unknown)
