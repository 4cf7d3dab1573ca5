use Rattle.std.proofs.Common.{Ok, refl, ℕ}
use Rattle.std.proofs.lemmas.Result.{err_from_is_err_and}
use Rattle.cp_vat_machine.specs.Then.{OrFull}
use Rattle.cp_vat_machine.specs.Calling.{DoCall, Opens, call_refusals}
use Rattle.cp_vat_machine.specs.declared.event.Value.TheVariants as values
use Rattle.cp_vat_state.specs.StateOf.{state_of}
use Rattle.cp_vat.proofs.Judged.{none_judged, unless_passed, unless_failed}
use Rattle.cp_vat.proofs.Faulting.{owns_refused}
use Rattle.cp_vat.proofs.Refusing.{calls_refused}
use Rattle.cp_vat.proofs.calling.call.Goals as goal

pub returns-in_err-check_call : goal.returns-in_err-check_call
returns-in_err-check_call c =
    let p = err_from_is_err_and c.from_residual.result c.from_residual.ensures.1 in
    let old = state_of c.args.core.now in
    rw (p.1, p.2)
    (calls_refused {A = ℕ} (DoCall old c.args.cap c.args.request) (λ q. values.Question q) old c.in_err-check_call.field-0.0 c.args.effects.now.items c.args.effects.now.items (unless_failed (call_refusals old c.args.cap c.args.request) _ c.in_err-check_call.field-0.0 c.in_err-check_call.ensures))

pub returns-in_err-open_call : goal.returns-in_err-open_call
returns-in_err-open_call c =
    let p = err_from_is_err_and c.from_residual-in_err-open_call.result c.from_residual-in_err-open_call.ensures.1 in
    let old = state_of c.args.core.now in
    rw (p.1, p.2) (owns_refused {A = ℕ} (Opens old c.args.cap c.args.request) (λ q. values.Question q) old (state_of c.open_call.new.core) c.in_err-open_call.field-0.0 c.args.effects.now.items c.open_call.new.effects.items (call_refusals old c.args.cap c.args.request) c.in_ok-check_call.ensures c.in_err-open_call.ensures)

pub returns : goal.returns
returns c =
    let old = state_of c.args.core.now in
    let went = c.in_ok-open_call.ensures in
    (went.0, went.1, unless_passed (call_refusals old c.args.cap c.args.request) (OrFull (Opens old c.args.cap c.args.request)) _ c.in_ok-check_call.ensures (Ok (values.Question c.in_ok-open_call.field-0, went.0, state_of c.open_call.new.core), went.2, refl))

pub open_call-requires-clause-passed : goal.open_call-requires-clause-passed
open_call-requires-clause-passed c = none_judged (call_refusals (state_of c.args.core.now) c.args.cap c.args.request) c.in_ok-check_call.ensures
