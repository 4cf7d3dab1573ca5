use Rattle.std.proofs.Common.{Some, sym, ap, ◌∙◌, subst, Option, ℕ, Result}
use Rattle.cp_refs.specs.declared.route.Gate.TheVariants as gates
use Rattle.cp_refs.specs.declared.route.Route.TheVariants as routes
use Rattle.cp_vat_machine.specs.Then.{Done}
use Rattle.cp_vat_machine.specs.Go.{Go, GoTo}
use Rattle.cp_vat_machine.specs.Calling.{FirstEmbargoed, GoBack, mark_of}
use Rattle.cp_vat_machine.specs.declared.fault.PeerFault.{PeerFault}
use Rattle.cp_vat_state.specs.StateOf.{state_of}
use Rattle.cp_vat_rules.specs.Going.{pending_call_of}
use Rattle.cp_vat.proofs.Acting.{acts_by}
use Rattle.cp_vat.proofs.going.go_back.Goals as goal

pub put_embargo-requires-clause-marked : goal.put_embargo-requires-clause-marked
put_embargo-requires-clause-marked c = sym (c.mark.ensures (state_of c.args.core.now)) ∙ c.in-Some-None.is ∙ ap Some c.in-Some-None.field-0-is

pub returns-in-None-clause-acts : goal.returns-in-None-clause-acts
returns-in-None-clause-acts c =
    let old = state_of c.args.core.now in
    let is = sym (c.mark.ensures old) ∙ c.in-None.is in
    let Q : Option (Option ℕ) → Result Done PeerFault → Type 0 = λ m out. GoBack old (pending_call_of c.args.call) c.args.cap.now c.args.value m out in
    acts_by (GoTo old (pending_call_of c.args.call) c.args.value) (λ out. Q (mark_of old c.args.cap.now) out) c.go_to.result _ _ _ (λ out went. subst (λ m. Q m out) (sym is) went) c.go_to.ensures.acts

pub returns-in-Some-Some-clause-acts : goal.returns-in-Some-Some-clause-acts
returns-in-Some-Some-clause-acts c =
    let old = state_of c.args.core.now in
    let is = sym (c.mark.ensures old) ∙ c.in-Some-Some.is ∙ ap Some c.in-Some-Some.field-0-is in
    let Q : Option (Option ℕ) → Result Done PeerFault → Type 0 = λ m out. GoBack old (pending_call_of c.args.call) c.args.cap.now c.args.value m out in
    acts_by (Go old (pending_call_of c.args.call) (routes.Wait (gates.Embargo c.in-Some-Some.number))) (λ out. Q (mark_of old c.args.cap.now) out) c.go.result _ _ _ (λ out went. subst (λ m. Q m out) (sym is) went) c.go.ensures.acts

pub returns-in-Some-None-clause-acts : goal.returns-in-Some-None-clause-acts
returns-in-Some-None-clause-acts c =
    let old = state_of c.args.core.now in
    let is = sym (c.mark.ensures old) ∙ c.in-Some-None.is ∙ ap Some c.in-Some-None.field-0-is in
    let Q : Option (Option ℕ) → Result Done PeerFault → Type 0 = λ m out. GoBack old (pending_call_of c.args.call) c.args.cap.now c.args.value m out in
    acts_by (FirstEmbargoed old (pending_call_of c.args.call) c.args.cap.now c.args.value) (λ out. Q (mark_of old c.args.cap.now) out) c.put_embargo.result _ _ _ (λ out went. subst (λ m. Q m out) (sym is) went) c.put_embargo.ensures.acts
