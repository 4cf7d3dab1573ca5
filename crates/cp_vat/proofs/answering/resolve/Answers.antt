use Rattle.std.proofs.Common.{Ok, refl, sym, inl, inr, true≢false, ◌∙◌}
use Rattle.std.proofs.lemmas.Result.{err_from_is_err_and}
use Rattle.cp_refs.specs.declared.cap.Cap.TheVariants as caps
use Rattle.cp_vat_machine.specs.Then.{OrFull, Unless}
use Rattle.cp_vat_machine.specs.Doing.{DoResolve, Quietly, Resolves, quietly, resolve_refusals, value_refusals}
use Rattle.cp_vat_machine.specs.Give.{Settle}
use Rattle.cp_vat_machine.specs.declared.event.Value.TheVariants as values
use Rattle.cp_vat_machine.specs.declared.fault.VatFault.TheVariants as refusals
use Rattle.cp_vat_state.specs.StateOf.{state_of}
use Rattle.cp_vat.proofs.Judged.{unless_passed, unless_failed}
use Rattle.cp_vat.proofs.Faulting.{acts_refused, refused_on}
use Rattle.cp_vat.proofs.Refusing.{calls_refused, comes_once}
use Rattle.cp_vat_laws.proofs.within.Between.{local_is_within}
use Rattle.cp_vat.proofs.Ready.{resolve_ends, resolve_unsettled}
use Rattle.cp_vat.proofs.answering.resolve.Goals as goal

pub returns-in_err-check_resolve : goal.returns-in_err-check_resolve
returns-in_err-check_resolve c =
    let p = err_from_is_err_and c.from_residual.result c.from_residual.ensures.1 in
    let old = state_of c.args.core.now in
    rw (p.1, p.2) (calls_refused {A = Unit {0}} (DoResolve old c.args.promise c.args.value) (λ x. values.Nothing) old c.in_err-check_resolve.field-0.0 c.args.effects.now.items c.args.effects.now.items (unless_failed (resolve_refusals old c.args.promise c.args.value) _ c.in_err-check_resolve.field-0.0 c.in_err-check_resolve.ensures))

pub returns-then-is_promise : goal.returns-then-is_promise
returns-then-is_promise c =
    let old = state_of c.args.core.now in
    let came = rw (c.values.ensures, c.is_promise.ensures.yes c.if-is_promise.true) at c.in_ok-last.ensures in
    calls_refused {A = Unit {0}} (DoResolve old c.args.promise c.args.value) (λ x. values.Nothing) old refusals.PromiseCycle c.args.effects.now.items c.args.effects.now.items (unless_passed (resolve_refusals old c.args.promise c.args.value) (Resolves old c.args.promise c.args.value) _ c.in_ok-check_resolve.ensures (inl (came, refl)))

pub returns-in_err-check_value : goal.returns-in_err-check_value
returns-in_err-check_value c =
    let p = err_from_is_err_and c.from_residual-in_err-check_value.result c.from_residual-in_err-check_value.ensures.1 in
    let old = state_of c.args.core.now in
    let came = rw c.values.ensures at c.in_ok-last.ensures in
    rw (p.1, p.2)
    (calls_refused {A = Unit {0}} (DoResolve old c.args.promise c.args.value) (λ x. values.Nothing) old c.in_err-check_value.field-0.0 c.args.effects.now.items c.args.effects.now.items
    (unless_passed (resolve_refusals old c.args.promise c.args.value) (Resolves old c.args.promise c.args.value) _ c.in_ok-check_resolve.ensures
    (inr (λ cycle. true≢false (sym (c.is_promise.ensures.no (comes_once old.values c.args.value c.in_ok-last.last (caps.Promise c.args.promise) came cycle)) ∙ c.if-is_promise.false), unless_failed (value_refusals old c.args.value) _ c.in_err-check_value.field-0.0 c.in_err-check_value.ensures))))

pub returns-in_err-settle : goal.returns-in_err-settle
returns-in_err-settle c =
    let old = state_of c.args.core.now in
    let p = err_from_is_err_and c.from_residual-in_err-settle.result c.from_residual-in_err-settle.ensures.1 in
    let came = rw c.values.ensures at c.in_ok-last.ensures in
    rw (p.1, p.2)
    (refused_on {A = Unit {0}} (Unless (value_refusals old c.args.value) (OrFull (Quietly (Settle old c.args.promise c.args.value)))) (DoResolve old c.args.promise c.args.value) (λ x. values.Nothing) old (state_of c.settle.new.core) c.in_err-settle.field-0.0 c.args.effects.now.items c.settle.new.effects.items
    (λ out met.
    unless_passed (resolve_refusals old c.args.promise c.args.value) (Resolves old c.args.promise c.args.value) _ c.in_ok-check_resolve.ensures
    (inr (λ cycle. true≢false (sym (c.is_promise.ensures.no (comes_once old.values c.args.value c.in_ok-last.last (caps.Promise c.args.promise) came cycle)) ∙ c.if-is_promise.false), met)))
    (acts_refused (Settle old c.args.promise c.args.value) c.args.core.now c.settle.new.core c.in_err-settle.field-0.0 c.args.effects.now.items c.settle.new.effects.items (value_refusals old c.args.value) c.in_ok-check_value.ensures c.in_err-settle.ensures.acts c.in_err-settle.ensures.unchanged))

pub returns : goal.returns
returns c =
    let old = state_of c.args.core.now in
    let came = rw c.values.ensures at c.in_ok-last.ensures in
    let done = c.in_ok-settle.ensures.acts in
    let new = state_of c.settle.new.core in (
      done.0,
      done.1,
      unless_passed (resolve_refusals old c.args.promise c.args.value) (Resolves old c.args.promise c.args.value) _ c.in_ok-check_resolve.ensures
          (inr (λ cycle. true≢false (sym (c.is_promise.ensures.no (comes_once old.values c.args.value c.in_ok-last.last (caps.Promise c.args.promise) came cycle)) ∙ c.if-is_promise.false), unless_passed (value_refusals old c.args.value) (OrFull (Quietly (Settle old c.args.promise c.args.value))) _ c.in_ok-check_value.ensures (Ok (quietly (done.0, new)), (Ok (done.0, new), done.2, refl), refl))),
    )

pub resolve_cap-requires : goal.resolve_cap-requires
resolve_cap-requires c =
    let old = state_of c.args.core.now in
    rw c.values.ensures (resolve_ends old (local_is_within old c.requires) c.args.promise c.args.value c.in_ok-check_resolve.ensures)

pub settle-requires-clause-unsettled : goal.settle-requires-clause-unsettled
settle-requires-clause-unsettled c =
    let old = state_of c.args.core.now in
    resolve_unsettled old (local_is_within old c.requires) c.args.promise c.args.value c.in_ok-check_resolve.ensures

pub settle-requires-clause-ends : goal.settle-requires-clause-ends
settle-requires-clause-ends c =
    let old = state_of c.args.core.now in
    resolve_ends old (local_is_within old c.requires) c.args.promise c.args.value c.in_ok-check_resolve.ensures
