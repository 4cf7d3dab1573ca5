-- What follows where a Call is taken in.
use Rattle.std.proofs.Common.{◌≡◌, ◌^◌, ◌-◌, ◌<◌, ℕ, ltb, not, ◌&&◌, Bool, true, false, is_some, List, [], ◌++◌, Option, Some, None, Result, Ok, Err, refl, ◌∙◌, subst, arith}
use Rattle.std.proofs.lemmas.Bool.Decides.{nat_tests}
use Rattle.std.specs.FinMap.{get, len}
use Rattle.cp_messages.specs.declared.call.Call.{Call}
use Rattle.cp_tree.specs.Node.{Node}
use Rattle.cp_refs.specs.declared.route.Route.{Route}
use Rattle.cp_refs.specs.declared.route.Route.TheVariants as routes
use Rattle.cp_vat_machine.specs.Go.{Go, PendingCall}
use Rattle.cp_messages.proofs.Nones.{none-left, none-right}
use Rattle.cp_refs.specs.declared.cap.Cap.{Cap}
use Rattle.cp_vat_machine.specs.State.{State}
use Rattle.cp_vat_machine.specs.Then.{Done, Then, fault_if}
use Rattle.cp_vat_machine.specs.Capacity.{has_capacity, has_ticket}
use Rattle.cp_vat_machine.specs.Receiving.{ReceivesCaps}
use Rattle.cp_vat_machine.specs.Answering.{OnCall, GoToTarget, call_faults, entered, is_answering, peer_call, target_faults}
use Rattle.cp_vat_machine.specs.declared.effect.Effect.{Effect}
use Rattle.cp_vat_machine.specs.declared.fault.PeerFault.{PeerFault}
use Rattle.cp_vat_machine.specs.declared.fault.PeerFault.TheVariants as faults
use Rattle.cp_vat_state.specs.Halts.{Acts, Leaves}
use Rattle.cp_vat_state.specs.declared.step_fault.StepFault.{StepFault}
use Rattle.cp_vat_state.specs.declared.step_fault.StepFault.TheVariants as halts
use Rattle.cp_vat.specs.Judging.{judged}
use Rattle.cp_vat.specs.Arriving.{TakesIn}
use Rattle.cp_vat.specs.Lending.{ActsLending}
use Rattle.cp_vat.specs.Receiving.{Carries, with_content}
use Rattle.cp_vat.proofs.Judged.{none_judged, unless_passed}
use Rattle.cp_vat.proofs.Taking.{takes_keep}

not_held : {F : Type 0} (b : Bool) (f : F) → fault_if b f ≡ [] → b ≡ false
not_held true f is = absurd (cc)
not_held false f is = refl

is_lacking : {X : Type 0} (o : Option X) → is_some o ≡ false → o ≡ None
is_lacking None is = refl
is_lacking (Some x) is = absurd (cc)

both_true : (a b : Bool) → not (a && b) ≡ false → (a ≡ true) × (b ≡ true)
both_true true true is = (refl, refl)
both_true true false is = absurd (cc)
both_true false b is = absurd (cc)

fewer : (a b : ℕ) → ltb a b ≡ true → a < b
fewer a b is = grind (arith, nat_tests)

module _ (old mid : State) (c : Call) (caps : List Cap) (passed : Ok tt ≡ judged (call_faults old c)) (taken : ReceivesCaps old c.params.cap_table (Ok (caps, mid))) where
  rooms : (has_capacity old.entries.answers ≡ true) × (has_ticket old ≡ true)
  rooms =
      both_true _ _
      (not_held _ _
      (none-right (fault_if (is_answering old c.question_id) faults.QuestionInUse ++ target_faults old c.target) (fault_if (not (has_capacity old.entries.answers && has_ticket old)) faults.TableFull)
      (none_judged (call_faults old c) passed)))

  -- its number is free
  pub call_free : get mid.entries.answers c.question_id ≡ None
  call_free =
      let front = none-left (fault_if (is_answering old c.question_id) faults.QuestionInUse ++ target_faults old c.target) (fault_if (not (has_capacity old.entries.answers && has_ticket old)) faults.TableFull) (none_judged (call_faults old c) passed) in
      let free = not_held _ _ (none-left (fault_if (is_answering old c.question_id) faults.QuestionInUse) (target_faults old c.target) front) in
      is_lacking _ ((takes_keep c.question_id c.params.cap_table old mid caps taken).0 ∙ free)

  -- there is room for its answer
  pub call_few : len mid.entries.answers ≡ 65536 → ⊥
  call_few full =
      let kept = (takes_keep c.question_id c.params.cap_table old mid caps taken).1 in
      let room = fewer _ _ rooms.0 in
      omega arith

  -- and a ticket
  pub call_ticket : mid.next_ticket < 2 ^ 64 - 1
  call_ticket =
      let kept = (takes_keep c.question_id c.params.cap_table old mid caps taken).2 in
      let room = fewer _ _ rooms.1 in
      omega arith

  -- what it does by its target's route is what it does
  pub call_arrives : (s : State) (ticket : ℕ) → s ≡ entered mid c.question_id → ticket ≡ mid.next_ticket → (out : Result Done PeerFault)
      → GoToTarget s (record (peer_call mid c caps) { ticket = ticket }) c.target out → OnCall old c out
  call_arrives s ticket is is_next out goes =
      unless_passed (call_faults old c) _ out passed (
        Ok (caps, mid),
        taken,
        subst (λ t. GoToTarget (entered mid c.question_id) (record (peer_call mid c caps) { ticket = t }) c.target out) is_next
            (subst (λ q. GoToTarget q (record (peer_call mid c caps) { ticket = ticket }) c.target out) is goes),
      )

-- a fault of its capability table
pub call_fails : (old mid : State) (c : Call) (step_fault : StepFault) (before : List Effect) → Ok tt ≡ judged (call_faults old c) → Leaves (ReceivesCaps old c.params.cap_table) (Err step_fault) mid → Acts (OnCall old c) (Err step_fault) before before mid
call_fails old mid c (halts.Fault fault) before passed fails =
    unless_passed (call_faults old c) (λ out. Then (ReceivesCaps old c.params.cap_table) (λ taken. GoToTarget (entered taken.1 c.question_id) (peer_call taken.1 c taken.0) c.target) out) (Err fault) passed (Err fault, fails, refl)
call_fails old mid c halts.OutOfMemory before passed fails = tt

-- so whatever content it bears
pub takes_none : (old mid : State) (c : Call) (step_fault : StepFault) → Ok tt ≡ judged (call_faults old c) → Leaves (ReceivesCaps old c.params.cap_table) (Err step_fault) mid → TakesIn old c (Err step_fault) mid
takes_none old mid c (halts.Fault fault) passed fails = λ t. call_fails old mid (with_content c t) (halts.Fault fault) [] passed fails
takes_none old mid c halts.OutOfMemory passed fails = tt

pub none_taken : (old mid : State) (c : Call) (t : Node) (step_fault : StepFault) (before after : List Effect) → TakesIn old c (Err step_fault) mid → Acts (OnCall old (with_content c t)) (Err step_fault) before after mid
none_taken old mid c t (halts.Fault fault) before after fails = fails t
none_taken old mid c t halts.OutOfMemory before after fails = tt

pub none_lent : (old mid : State) (c : Call) (t : Node) (step_fault : StepFault) (before after : List Effect) → TakesIn old c (Err step_fault) mid → ActsLending (OnCall old (with_content c t)) (Err step_fault) before after mid
none_lent old mid c t (halts.Fault fault) before after fails = fails t
none_lent old mid c t halts.OutOfMemory before after fails = tt

-- A call that fails goes so whatever content it carries.
pub goes_carrying : (s : State) (u : PendingCall) (carried : Node) (route : Route) (result : Result (Unit {0}) StepFault) (before after : List Effect) (new : State)
    → Carries route u.request.content carried → Acts (Go s (record u { request = record u.request { content = carried } }) route) result before after new → Acts (Go s u route) result before after new
goes_carrying s u carried (routes.Fail x) result before after new same went = went
goes_carrying s u carried (routes.Deliver k) result before after new same went =
    subst (λ t. Acts (Go s (record u { request = record u.request { content = t } }) (routes.Deliver k)) result before after new) same went
goes_carrying s u carried (routes.Import i) result before after new same went =
    subst (λ t. Acts (Go s (record u { request = record u.request { content = t } }) (routes.Import i)) result before after new) same went
goes_carrying s u carried (routes.Pipe q path) result before after new same went =
    subst (λ t. Acts (Go s (record u { request = record u.request { content = t } }) (routes.Pipe q path)) result before after new) same went
goes_carrying s u carried (routes.Wait gate) result before after new same went =
    subst (λ t. Acts (Go s (record u { request = record u.request { content = t } }) (routes.Wait gate)) result before after new) same went
