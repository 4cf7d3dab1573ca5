use Rattle.std.proofs.Common.{List, Some, Ok, Err, subst}
use Rattle.std.proofs.lemmas.Result.{err_from_is_err_and}
use Rattle.cp_vat_machine.specs.Answering.{call_faults}
use Rattle.cp_vat_machine.specs.Receiving.{ReceivesCaps}
use Rattle.cp_messages.specs.declared.descriptor.Descriptor.{Descriptor}
use Rattle.cp_refs.specs.declared.call.Origin.TheVariants as origins
use Rattle.cp_vat_rules.proofs.Ready.{may_go}
use Rattle.cp_vat_state.specs.Halts.{Leaves}
use Rattle.cp_vat_state.specs.StateOf.{state_of}
use Rattle.cp_vat.specs.Receiving.{with_content}
use Rattle.cp_vat.proofs.Judged.{unless_failed}
use Rattle.cp_vat.proofs.Entering.{call_arrives, call_free, call_few, call_ticket, takes_none}
use Rattle.cp_vat.proofs.Ready.{call_within, call_in_hand_as, call_target}
use Rattle.cp_vat.proofs.on_call.arrive.Goals as goal

pub returns-in-Err : goal.returns-in-Err
returns-in-Err c = λ t. unless_failed (call_faults (state_of c.args.core.now) c.args.call.now) _ c.in-Err.fault c.in-Err.ensures

pub returns-in_err-caps : goal.returns-in_err-caps
returns-in_err-caps c =
    let p = err_from_is_err_and c.from_residual.result c.from_residual.ensures.1 in
    let P : List Descriptor → Type 0 = λ t. Leaves (ReceivesCaps (state_of c.args.core.now) t) (Err c.in_err-caps.field-0.0) (state_of c.receive_caps.new.core) in
    rw (p.1, p.2) (takes_none (state_of c.args.core.now) (state_of c.receive_caps.new.core) c.args.call.now _ c.in_default.ensures (subst P c.descriptors.ensures c.in_err-caps.ensures))

pub enter-requires-clause-free : goal.enter-requires-clause-free
enter-requires-clause-free c =
    let P : List Descriptor → Type 0 = λ t. ReceivesCaps (state_of c.args.core.now) t (Ok (c.in_ok-caps.caps, state_of c.receive_caps.new.core)) in
    call_free (state_of c.args.core.now) (state_of c.receive_caps.new.core) c.args.call.now c.in_ok-caps.caps c.in_default.ensures (subst P c.descriptors.ensures c.in_ok-caps.ensures)

pub enter-requires-clause-few : goal.enter-requires-clause-few
enter-requires-clause-few c =
    let P : List Descriptor → Type 0 = λ t. ReceivesCaps (state_of c.args.core.now) t (Ok (c.in_ok-caps.caps, state_of c.receive_caps.new.core)) in
    call_few (state_of c.args.core.now) (state_of c.receive_caps.new.core) c.args.call.now c.in_ok-caps.caps c.in_default.ensures (subst P c.descriptors.ensures c.in_ok-caps.ensures)

pub enter-requires-clause-ticket : goal.enter-requires-clause-ticket
enter-requires-clause-ticket c =
    let P : List Descriptor → Type 0 = λ t. ReceivesCaps (state_of c.args.core.now) t (Ok (c.in_ok-caps.caps, state_of c.receive_caps.new.core)) in
    call_ticket (state_of c.args.core.now) (state_of c.receive_caps.new.core) c.args.call.now c.in_ok-caps.caps c.in_default.ensures (subst P c.descriptors.ensures c.in_ok-caps.ensures)

pub route_to-requires-clause-within : goal.route_to-requires-clause-within
route_to-requires-clause-within c =
    let P : List Descriptor → Type 0 = λ t. ReceivesCaps (state_of c.args.core.now) t (Ok (c.in_ok-caps.caps, state_of c.receive_caps.new.core)) in (
      Some (origins.Answer c.args.call.now.question_id),
      rw c.in_ok-ticket.ensures.entered (call_within (state_of c.args.core.now) (state_of c.receive_caps.new.core) c.args.call.now c.in_ok-caps.caps c.requires.local c.in_default.ensures (subst P c.descriptors.ensures c.in_ok-caps.ensures)),
    )

pub route_to-requires-clause-there : goal.route_to-requires-clause-there
route_to-requires-clause-there c =
    let P : List Descriptor → Type 0 = λ t. ReceivesCaps (state_of c.args.core.now) t (Ok (c.in_ok-caps.caps, state_of c.receive_caps.new.core)) in
    rw c.in_ok-ticket.ensures.entered (call_target (state_of c.args.core.now) (state_of c.receive_caps.new.core) c.args.call.now c.in_ok-caps.caps c.requires.local c.in_default.ensures (subst P c.descriptors.ensures c.in_ok-caps.ensures))

pub returns : goal.returns
returns c =
    let call = c.args.call.now in
    let old = state_of c.args.core.now in
    let mid = state_of c.receive_caps.new.core in
    let P : List Descriptor → Type 0 = λ t. ReceivesCaps old t (Ok (c.in_ok-caps.caps, mid)) in
    let taken = subst P c.descriptors.ensures c.in_ok-caps.ensures in
    let s = state_of c.enter.new.core in (
      λ t.
          may_go s _ (rw c.in_ok-ticket.ensures.entered (call_within old mid (with_content call t) c.in_ok-caps.caps c.requires.local c.in_default.ensures taken))
          (call_in_hand_as old mid (with_content call t) c.in_ok-caps.caps c.requires.local c.in_default.ensures taken s c.in_ok-ticket.ticket c.in_ok-ticket.ensures.entered c.in_ok-ticket.ensures.ticket),
      λ t out went.
          call_arrives old mid (with_content call t) c.in_ok-caps.caps c.in_default.ensures taken s c.in_ok-ticket.ticket c.in_ok-ticket.ensures.entered c.in_ok-ticket.ensures.ticket out
          (c.in_ok-route.ensures _ out went),
    )
