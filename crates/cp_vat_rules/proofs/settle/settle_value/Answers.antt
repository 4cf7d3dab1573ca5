use Rattle.std.proofs.Common.{Err, [], refl, sym}
use Rattle.std.proofs.lemmas.Result.{err_from_is_err_and}
use Rattle.cp_vat_machine.specs.Give.{Settle, Tells, settled}
use Rattle.cp_vat_rules.specs.Settling.{settling}
use Rattle.cp_vat_rules.proofs.Giving.{settles_on, settle_by}
use Rattle.cp_vat_rules.proofs.Backing.{comes_same}
use Rattle.cp_vat_rules.proofs.Opening.{settled_ends}
use Rattle.cp_vat_rules.proofs.settle.settle_value.Goals as goal

pub returns-in_err-raised-clause-settled : goal.returns-in_err-raised-clause-settled
returns-in_err-raised-clause-settled c s same =
    let p = err_from_is_err_and c.from_residual-in_err-raised.result c.from_residual-in_err-raised.ensures.1 in
    let old = settling s c.args.values.now.promises c.args.exports.now [] in
    let v = c.in_ok-value.value in
    let mid = settled old c.args.promise v in
    let came = comes_same c.args.values.now old.values refl (sym same) c.args.value c.in_ok-reached.reached (rw c.values.ensures at c.in_ok-reached.ensures) in
    let by = settle_by old c.args.promise c.args.value c.in_ok-reached.reached v c.in_ok-last.last came c.in_ok-value.ensures c.in_ok-last.ensures in
    rw (p.1, p.2) (settles_on _ _ (Tells mid c.args.promise c.in_ok-last.last) (Settle old c.args.promise c.args.value) _ _ _ _ _ _ _ (λ f t. by (Err f) t) (c.in_err-raised.ensures.told mid))

pub returns-clause-settled : goal.returns-clause-settled
returns-clause-settled c s same =
    let old = settling s c.args.values.now.promises c.args.exports.now [] in
    let v = c.in_ok-value.value in
    let mid = settled old c.args.promise v in
    let came = comes_same c.args.values.now old.values refl (sym same) c.args.value c.in_ok-reached.reached (rw c.values.ensures at c.in_ok-reached.ensures) in
    let by = settle_by old c.args.promise c.args.value c.in_ok-reached.reached v c.in_ok-last.last came c.in_ok-value.ensures c.in_ok-last.ensures in
    let told = c.in_ok-raised.ensures.told mid in
    rw c.in_ok-put_value.ensures (told.0, told.1, by _ told.2)

pub resolve_cap-requires : goal.resolve_cap-requires
resolve_cap-requires c = rw c.values.ensures c.requires.ends

pub returns-clause-ends : goal.returns-clause-ends
returns-clause-ends c =
    settled_ends c.args.values.now c.put_value.new.values c.args.promise c.args.value c.in_ok-reached.reached c.in_ok-value.value c.in_ok-value.value c.requires.unsettled (rw c.values.ensures at c.in_ok-reached.ensures) c.in_ok-value.ensures refl c.in_ok-put_value.ensures
