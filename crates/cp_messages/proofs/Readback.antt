-- Each struct that is made says what it is made of, and has no fault.
use Rattle.std.proofs.Common.{◌≡◌, ℕ, ◌+◌, ◌==◌, if◌then◌else◌, Bool, true, false, List, [], ◌++◌, map, refl, sym, ap, ◌∙◌, arith}
use Rattle.std.specs.Prelude.{flat_map, not}
use Rattle.std.proofs.lemmas.Bool.Decides.{nat_tests}
use Rattle.cp_tree.specs.Node.{Node, data_of}
use Rattle.cp_tree.specs.Seen.{pointee_of}
use Rattle.cp_messages.specs.Fields.{u16_of, u32_of, struct_faults}
use Rattle.cp_messages.specs.Representable.{IsU16, IsU32, IsException, IsPromisedAnswer, IsTarget, IsDescriptor, IsPayload, IsSendResultsTo, IsCall, IsReturned, IsReturn, IsResolution, IsResolve, IsContext, IsDisembargo, IsBootstrap, IsFinish, IsRelease, IsMessage}
use Rattle.cp_messages.specs.Written.{u16_part, u32_part, bit_part, exception_written, kind_number, promised_answer_written, target_written, target_number, target_id, descriptor_written, descriptor_number, descriptor_id, cap_table_written, payload_written, send_results_to_number, third_party_written, call_written, returned_number, returned_question, returned_pointer, return_written, resolution_number, resolution_pointer, resolve_written, context_number, context_id, disembargo_written, bootstrap_written, finish_written, release_written, message_number, message_written, member_written}
use Rattle.cp_messages.specs.Denoted.{kind_denoted, exception_denoted, promised_answer_denoted, target_by, target_denoted, descriptor_by, descriptor_denoted, descriptors_denoted, payload_denoted, send_results_to_by, send_results_to_denoted, call_denoted, returned_by, returned_denoted, return_denoted, resolution_by, resolution_denoted, resolve_denoted, context_by, context_denoted, disembargo_denoted, bootstrap_denoted, finish_denoted, release_denoted, message_by}
use Rattle.cp_messages.specs.Faults.{exception_faults, promised_answer_faults, target_faults, descriptor_faults, payload_faults, call_faults, return_faults, resolve_faults, member_faults}
use Rattle.cp_messages.specs.Others.{is_other}
use Rattle.cp_messages.specs.Says.{Says}
use Rattle.cp_messages.specs.declared.fault.Field.TheVariants as fields
use Rattle.cp_messages.specs.declared.exception.Exception.{Exception}
use Rattle.cp_messages.specs.declared.promised_answer.PromisedAnswer.{PromisedAnswer}
use Rattle.cp_messages.specs.declared.target.Target.{Target}
use Rattle.cp_messages.specs.declared.target.Target.TheVariants as targets
use Rattle.cp_messages.specs.declared.descriptor.Descriptor.{Descriptor}
use Rattle.cp_messages.specs.declared.descriptor.Descriptor.TheVariants as descriptors
use Rattle.cp_messages.specs.declared.payload.Payload.{Payload}
use Rattle.cp_messages.specs.declared.call.SendResultsTo.{SendResultsTo}
use Rattle.cp_messages.specs.declared.call.SendResultsTo.TheVariants as results_to
use Rattle.cp_messages.specs.declared.call.Call.{Call}
use Rattle.cp_messages.specs.declared.returned.Returned.{Returned}
use Rattle.cp_messages.specs.declared.returned.Returned.TheVariants as returns
use Rattle.cp_messages.specs.declared.returned.Return.{Return}
use Rattle.cp_messages.specs.declared.resolve.Resolution.{Resolution}
use Rattle.cp_messages.specs.declared.resolve.Resolution.TheVariants as resolutions
use Rattle.cp_messages.specs.declared.resolve.Resolve.{Resolve}
use Rattle.cp_messages.specs.declared.disembargo.DisembargoContext.{DisembargoContext}
use Rattle.cp_messages.specs.declared.disembargo.DisembargoContext.TheVariants as contexts
use Rattle.cp_messages.specs.declared.disembargo.Disembargo.{Disembargo}
use Rattle.cp_messages.specs.declared.small.Bootstrap.{Bootstrap}
use Rattle.cp_messages.specs.declared.small.Finish.{Finish}
use Rattle.cp_messages.specs.declared.small.Release.{Release}
use Rattle.cp_messages.specs.declared.message.Message.{Message}
use Rattle.cp_messages.specs.declared.message.Message.TheVariants as messages
use Rattle.cp_messages.specs.declared.fault.SchemaFault.{SchemaFault}
use Rattle.cp_messages.proofs.Words as w
use Rattle.cp_messages.proofs.Saying.{not_number, kind_u16, kind_back, text_back, text_sound, transform_back, transform_sound, items_back, values_back, values_sound, list_sound}

-- two lists of faults that are empty
none : (xs ys : List SchemaFault) → xs ≡ [] → ys ≡ [] → xs ++ ys ≡ []
none xs ys h k = rw (h, k) refl

exception_back : (e : Exception) → IsException e → exception_denoted (exception_written e) ≡ e
exception_back e h =
    let kind : kind_denoted (u16_of (data_of (exception_written e)) 2) ≡ e.kind = ap kind_denoted (w.u16_third (kind_number e.kind) (kind_u16 e.kind h.kind)) ∙ kind_back e.kind h.kind in
    rw (kind, text_back e.reason, text_back e.trace) refl

exception_sound : (e : Exception) → IsException e → exception_faults (exception_written e) ≡ []
exception_sound e h = none _ _ (text_sound fields.ExceptionReason e.reason h.reason) (text_sound fields.ExceptionTrace e.trace h.trace)

answer_back : (p : PromisedAnswer) → IsPromisedAnswer p → promised_answer_denoted (promised_answer_written p) ≡ p
answer_back p h = rw (w.u32_first p.question_id h.question_id, transform_back p.transform h.transform) refl

answer_sound : (p : PromisedAnswer) → promised_answer_faults (promised_answer_written p) ≡ []
answer_sound p = transform_sound fields.PromisedAnswerTransform p.transform

pub target_fits_in : (t : Target) → IsTarget t → IsU32 (target_id t) × IsU16 (target_number t)
target_fits_in (targets.ImportedCap id) h = (h, omega arith)
target_fits_in (targets.PromisedAnswer p) h = (omega arith, omega arith)
target_fits_in (targets.Unknown n) h = (omega arith, h.1)

target_which : (t : Target) → IsTarget t → u16_of (data_of (target_written t)) 2 ≡ target_number t
target_which t h = let fits = target_fits_in t h in w.id_third (target_id t) (target_number t) fits.0 fits.1

target_back : (t : Target) → IsTarget t → target_denoted (target_written t) ≡ t
target_back t h = ap (λ n. target_by n (target_written t)) (target_which t h) ∙ by t h
  where
    by : (t : Target) → IsTarget t → target_by (target_number t) (target_written t) ≡ t
    by (targets.ImportedCap id) h = ap targets.ImportedCap (w.id_first id 0 h (omega arith))
    by (targets.PromisedAnswer p) h = ap targets.PromisedAnswer (answer_back p h)
    by (targets.Unknown n) h = rw (not_number 1 n 0 h (omega arith), not_number 1 n 1 h (omega arith)) refl

target_sound : (t : Target) → IsTarget t → target_faults (target_written t) ≡ []
target_sound t h = ap (λ n. if n == 1 then struct_faults fields.MessageTargetPromisedAnswer promised_answer_faults (pointee_of (target_written t) 0) else []) (target_which t h) ∙ by t h
  where
    by : (t : Target) → IsTarget t → (if target_number t == 1 then struct_faults fields.MessageTargetPromisedAnswer promised_answer_faults (pointee_of (target_written t) 0) else []) ≡ []
    by (targets.ImportedCap id) h = refl
    by (targets.PromisedAnswer p) h = answer_sound p
    by (targets.Unknown n) h = rw (not_number 1 n 1 h (omega arith)) refl

pub descriptor_fits_in : (d : Descriptor) → IsDescriptor d → IsU16 (descriptor_number d) × IsU32 (descriptor_id d)
descriptor_fits_in descriptors.None h = (omega arith, omega arith)
descriptor_fits_in (descriptors.SenderHosted id) h = (omega arith, h)
descriptor_fits_in (descriptors.SenderPromise id) h = (omega arith, h)
descriptor_fits_in (descriptors.ReceiverHosted id) h = (omega arith, h)
descriptor_fits_in (descriptors.ReceiverAnswer p) h = (omega arith, omega arith)
descriptor_fits_in (descriptors.ThirdPartyHosted t) h = (omega arith, omega arith)
descriptor_fits_in (descriptors.Unknown n) h = (h.1, omega arith)

descriptor_which : (d : Descriptor) → IsDescriptor d → u16_of (data_of (descriptor_written d)) 0 ≡ descriptor_number d
descriptor_which d h = let fits = descriptor_fits_in d h in w.which_first (descriptor_number d) (descriptor_id d) fits.0 fits.1

descriptor_back : (d : Descriptor) → IsDescriptor d → descriptor_denoted (descriptor_written d) ≡ d
descriptor_back d h = ap (λ n. descriptor_by n (descriptor_written d)) (descriptor_which d h) ∙ by d h
  where
    by : (d : Descriptor) → IsDescriptor d → descriptor_by (descriptor_number d) (descriptor_written d) ≡ d
    by descriptors.None h = refl
    by (descriptors.SenderHosted id) h = ap descriptors.SenderHosted (w.which_second 1 id (omega arith) h)
    by (descriptors.SenderPromise id) h = ap descriptors.SenderPromise (w.which_second 2 id (omega arith) h)
    by (descriptors.ReceiverHosted id) h = ap descriptors.ReceiverHosted (w.which_second 3 id (omega arith) h)
    by (descriptors.ReceiverAnswer p) h = ap descriptors.ReceiverAnswer (answer_back p h)
    by (descriptors.ThirdPartyHosted t) h = refl
    by (descriptors.Unknown n) h =
        rw (not_number 5 n 0 h (omega arith), not_number 5 n 1 h (omega arith), not_number 5 n 2 h (omega arith), not_number 5 n 3 h (omega arith), not_number 5 n 4 h (omega arith), not_number 5 n 5 h (omega arith)) refl

descriptor_sound : (d : Descriptor) → IsDescriptor d → descriptor_faults (descriptor_written d) ≡ []
descriptor_sound d h = ap (λ n. if n == 4 then struct_faults fields.CapDescriptorReceiverAnswer promised_answer_faults (pointee_of (descriptor_written d) 0) else []) (descriptor_which d h) ∙ by d h
  where
    by : (d : Descriptor) → IsDescriptor d → (if descriptor_number d == 4 then struct_faults fields.CapDescriptorReceiverAnswer promised_answer_faults (pointee_of (descriptor_written d) 0) else []) ≡ []
    by descriptors.None h = refl
    by (descriptors.SenderHosted id) h = refl
    by (descriptors.SenderPromise id) h = refl
    by (descriptors.ReceiverHosted id) h = refl
    by (descriptors.ReceiverAnswer p) h = answer_sound p
    by (descriptors.ThirdPartyHosted t) h = refl
    by (descriptors.Unknown n) h = rw (not_number 5 n 4 h (omega arith)) refl

payload_back : (p : Payload) → IsPayload p → payload_denoted (payload_written p) ≡ p
payload_back p h =
    let table : descriptors_denoted (cap_table_written p.cap_table) ≡ p.cap_table = ap (λ ts. map descriptor_denoted ts) (items_back 1 1 descriptor_written (λ x. refl) p.cap_table) ∙ values_back IsDescriptor descriptor_written descriptor_denoted descriptor_back p.cap_table h.cap_table in
    rw table refl

payload_sound : (p : Payload) → IsPayload p → payload_faults (payload_written p) ≡ []
payload_sound p h =
    list_sound fields.PayloadCapTable (λ items. flat_map descriptor_faults items) 1 1 descriptor_written (λ x. refl) p.cap_table
    ∙ values_sound IsDescriptor descriptor_written descriptor_faults descriptor_sound p.cap_table h.cap_table

pub sent_fits : (s : SendResultsTo) → IsSendResultsTo s → IsU16 (send_results_to_number s)
sent_fits results_to.Caller h = omega arith
sent_fits results_to.Yourself h = omega arith
sent_fits (results_to.ThirdParty t) h = omega arith
sent_fits (results_to.Unknown n) h = h.1

sent_back : (s : SendResultsTo) (t : Node) → IsSendResultsTo s → pointee_of t 2 ≡ third_party_written s → send_results_to_by (send_results_to_number s) t ≡ s
sent_back results_to.Caller t h e = refl
sent_back results_to.Yourself t h e = refl
sent_back (results_to.ThirdParty x) t h e = ap results_to.ThirdParty e
sent_back (results_to.Unknown n) t h e =
    rw (not_number 2 n 0 h (omega arith), not_number 2 n 1 h (omega arith), not_number 2 n 2 h (omega arith)) refl

call_back : (c : Call) → IsCall c → call_denoted (call_written c) ≡ c
call_back c h =
    let s = send_results_to_number c.send_results_to in
    let fits : IsU16 s = sent_fits c.send_results_to h.send_results_to in
    let sent : send_results_to_denoted (call_written c) ≡ c.send_results_to =
    ap (λ n. send_results_to_by n (call_written c)) (w.call_fourth c.question_id c.method_id s c.interface_id h.question_id h.method_id fits) ∙ sent_back c.send_results_to (call_written c) h.send_results_to refl in
    rw (w.call_first c.question_id c.method_id s c.interface_id h.question_id h.method_id fits, w.call_third c.question_id c.method_id s c.interface_id h.question_id h.method_id fits, sent, w.call_interface _ c.interface_id h.interface_id, target_back c.target h.target, payload_back c.params h.params) refl

call_sound : (c : Call) → IsCall c → call_faults (call_written c) ≡ []
call_sound c h = none _ _ (target_sound c.target h.target) (payload_sound c.params h.params)

pub returned_fits_in : (r : Returned) → IsReturned r → IsU16 (returned_number r) × IsU32 (returned_question r)
returned_fits_in (returns.Results p) h = (omega arith, omega arith)
returned_fits_in (returns.Exception e) h = (omega arith, omega arith)
returned_fits_in returns.Canceled h = (omega arith, omega arith)
returned_fits_in returns.ResultsSentElsewhere h = (omega arith, omega arith)
returned_fits_in (returns.TakeFromOtherQuestion q) h = (omega arith, h)
returned_fits_in (returns.AcceptFromThirdParty t) h = (omega arith, omega arith)
returned_fits_in (returns.Unknown n) h = (h.1, omega arith)

returned_back : (r : Returned) (t : Node) → IsReturned r → pointee_of t 0 ≡ returned_pointer r → u32_of (data_of t) 2 ≡ returned_question r → returned_by (returned_number r) t ≡ r
returned_back (returns.Results p) t h e q = ap (λ x. returns.Results (payload_denoted x)) e ∙ ap returns.Results (payload_back p h)
returned_back (returns.Exception x) t h e q = ap (λ x. returns.Exception (exception_denoted x)) e ∙ ap returns.Exception (exception_back x h)
returned_back returns.Canceled t h e q = refl
returned_back returns.ResultsSentElsewhere t h e q = refl
returned_back (returns.TakeFromOtherQuestion x) t h e q = ap returns.TakeFromOtherQuestion q
returned_back (returns.AcceptFromThirdParty x) t h e q = ap returns.AcceptFromThirdParty e
returned_back (returns.Unknown n) t h e q =
    rw (not_number 5 n 0 h (omega arith), not_number 5 n 1 h (omega arith), not_number 5 n 2 h (omega arith), not_number 5 n 3 h (omega arith), not_number 5 n 4 h (omega arith), not_number 5 n 5 h (omega arith)) refl

return_which : (r : Return) → IsReturn r → u16_of (data_of (return_written r)) 3 ≡ returned_number r.returned
return_which r h =
    let fits = returned_fits_in r.returned h.returned in
    w.return_fourth r.answer_id (returned_number r.returned) (returned_question r.returned) r.release_param_caps h.answer_id fits.0

return_back : (r : Return) → IsReturn r → return_denoted (return_written r) ≡ r
return_back r h =
    let fits = returned_fits_in r.returned h.returned in
    let n = returned_number r.returned in
    let q = returned_question r.returned in
    let what : returned_denoted (return_written r) ≡ r.returned =
    ap (λ n. returned_by n (return_written r)) (return_which r h) ∙ returned_back r.returned (return_written r) h.returned refl (w.return_question (u32_part 0 r.answer_id + bit_part 32 (not r.release_param_caps) + u16_part 3 n) q fits.1) in
    rw (w.return_first r.answer_id n q r.release_param_caps h.answer_id fits.0, w.return_bit r.answer_id n q r.release_param_caps h.answer_id fits.0, what) refl

return_sound : (r : Return) → IsReturn r → return_faults (return_written r) ≡ []
return_sound r h =
    ap (λ n. if n == 0 then struct_faults fields.ReturnResults payload_faults (returned_pointer r.returned) else (if n == 1 then struct_faults fields.ReturnException exception_faults (returned_pointer r.returned) else [])) (return_which r h)
    ∙ by r.returned h.returned
  where
    by : (r : Returned) → IsReturned r
        → (if returned_number r == 0 then struct_faults fields.ReturnResults payload_faults (returned_pointer r) else (if returned_number r == 1 then struct_faults fields.ReturnException exception_faults (returned_pointer r) else [])) ≡ []
    by (returns.Results p) h = payload_sound p h
    by (returns.Exception e) h = exception_sound e h
    by returns.Canceled h = refl
    by returns.ResultsSentElsewhere h = refl
    by (returns.TakeFromOtherQuestion q) h = refl
    by (returns.AcceptFromThirdParty t) h = refl
    by (returns.Unknown n) h = rw (not_number 5 n 0 h (omega arith), not_number 5 n 1 h (omega arith)) refl

pub resolution_fits_in : (r : Resolution) → IsResolution r → IsU16 (resolution_number r)
resolution_fits_in (resolutions.Cap d) h = omega arith
resolution_fits_in (resolutions.Exception e) h = omega arith
resolution_fits_in (resolutions.Unknown n) h = h.1

resolution_back : (r : Resolution) (t : Node) → IsResolution r → pointee_of t 0 ≡ resolution_pointer r → resolution_by (resolution_number r) t ≡ r
resolution_back (resolutions.Cap d) t h e = ap (λ x. resolutions.Cap (descriptor_denoted x)) e ∙ ap resolutions.Cap (descriptor_back d h)
resolution_back (resolutions.Exception x) t h e = ap (λ x. resolutions.Exception (exception_denoted x)) e ∙ ap resolutions.Exception (exception_back x h)
resolution_back (resolutions.Unknown n) t h e = rw (not_number 1 n 0 h (omega arith), not_number 1 n 1 h (omega arith)) refl

resolve_which : (r : Resolve) → IsResolve r → u16_of (data_of (resolve_written r)) 2 ≡ resolution_number r.resolution
resolve_which r h = w.id_third r.promise_id (resolution_number r.resolution) h.promise_id (resolution_fits_in r.resolution h.resolution)

resolve_back : (r : Resolve) → IsResolve r → resolve_denoted (resolve_written r) ≡ r
resolve_back r h =
    let what : resolution_denoted (resolve_written r) ≡ r.resolution = ap (λ n. resolution_by n (resolve_written r)) (resolve_which r h) ∙ resolution_back r.resolution (resolve_written r) h.resolution refl in
    rw (w.id_first r.promise_id (resolution_number r.resolution) h.promise_id (resolution_fits_in r.resolution h.resolution), what) refl

resolve_sound : (r : Resolve) → IsResolve r → resolve_faults (resolve_written r) ≡ []
resolve_sound r h =
    ap (λ n. if n == 0 then struct_faults fields.ResolveCap descriptor_faults (resolution_pointer r.resolution) else (if n == 1 then struct_faults fields.ResolveException exception_faults (resolution_pointer r.resolution) else [])) (resolve_which r h)
    ∙ by r.resolution h.resolution
  where
    by : (r : Resolution) → IsResolution r
        → (if resolution_number r == 0 then struct_faults fields.ResolveCap descriptor_faults (resolution_pointer r) else (if resolution_number r == 1 then struct_faults fields.ResolveException exception_faults (resolution_pointer r) else [])) ≡ []
    by (resolutions.Cap d) h = descriptor_sound d h
    by (resolutions.Exception e) h = exception_sound e h
    by (resolutions.Unknown n) h = rw (not_number 1 n 0 h (omega arith), not_number 1 n 1 h (omega arith)) refl

pub context_fits : (c : DisembargoContext) → IsContext c → IsU32 (context_id c) × IsU16 (context_number c)
context_fits (contexts.SenderLoopback id) h = (h, omega arith)
context_fits (contexts.ReceiverLoopback id) h = (h, omega arith)
context_fits contexts.Accept h = (omega arith, omega arith)
context_fits (contexts.Provide id) h = (h, omega arith)
context_fits (contexts.Unknown n) h = (omega arith, h.1)

context_back : (c : DisembargoContext) (ws : List ℕ) → IsContext c → u32_of ws 0 ≡ context_id c → context_by (context_number c) ws ≡ c
context_back (contexts.SenderLoopback id) ws h e = ap contexts.SenderLoopback e
context_back (contexts.ReceiverLoopback id) ws h e = ap contexts.ReceiverLoopback e
context_back contexts.Accept ws h e = refl
context_back (contexts.Provide id) ws h e = ap contexts.Provide e
context_back (contexts.Unknown n) ws h e =
    rw (not_number 3 n 0 h (omega arith), not_number 3 n 1 h (omega arith), not_number 3 n 2 h (omega arith), not_number 3 n 3 h (omega arith)) refl

disembargo_back : (d : Disembargo) → IsDisembargo d → disembargo_denoted (disembargo_written d) ≡ d
disembargo_back d h =
    let fits = context_fits d.context h.context in
    let id = context_id d.context in
    let n = context_number d.context in
    let context : context_denoted (data_of (disembargo_written d)) ≡ d.context =
    ap (λ n. context_by n (data_of (disembargo_written d))) (w.id_third id n fits.0 fits.1) ∙ context_back d.context (data_of (disembargo_written d)) h.context (w.id_first id n fits.0 fits.1) in
    rw (context, target_back d.target h.target) refl

finish_back : (f : Finish) → IsFinish f → finish_denoted (data_of (finish_written f)) ≡ f
finish_back f h = rw (w.flag_first f.question_id f.release_result_caps h, w.flag_bit f.question_id f.release_result_caps h) refl

release_back : (r : Release) → IsRelease r → release_denoted (data_of (release_written r)) ≡ r
release_back r h = rw (w.both_first r.id r.reference_count h.id h.reference_count, w.both_second r.id r.reference_count h.id h.reference_count) refl

bootstrap_back : (b : Bootstrap) → IsBootstrap b → bootstrap_denoted (data_of (bootstrap_written b)) ≡ b
bootstrap_back b h = rw (w.u32_first b.question_id h) refl

pub message_u16 : (m : Message) → IsMessage m → IsU16 (message_number m)
message_u16 (messages.Unimplemented t) h = omega arith
message_u16 (messages.Abort e) h = omega arith
message_u16 (messages.Call c) h = omega arith
message_u16 (messages.Return r) h = omega arith
message_u16 (messages.Finish f) h = omega arith
message_u16 (messages.Resolve r) h = omega arith
message_u16 (messages.Release r) h = omega arith
message_u16 (messages.Bootstrap b) h = omega arith
message_u16 (messages.Disembargo d) h = omega arith
message_u16 (messages.Other n t) h = h.1

-- a member that isn't looked into has no other's number
other_number : (n k : ℕ) → is_other n ≡ true → is_other k ≡ false → (n == k) ≡ false
other_number n k h e = differ (n == k) refl
  where
    differ : (b : Bool) → (n == k) ≡ b → (n == k) ≡ false
    differ false t = t
    differ true t = let same : n ≡ k = grind (arith, nat_tests) in cc

other_back : (n : ℕ) (t : Node) → is_other n ≡ true → message_by n t ≡ messages.Other n t
other_back n t h =
    rw (other_number n 0 h refl, other_number n 1 h refl, other_number n 2 h refl, other_number n 3 h refl, other_number n 4 h refl, other_number n 5 h refl, other_number n 6 h refl, other_number n 8 h refl, other_number n 13 h refl) refl

member_back : (m : Message) → IsMessage m → message_by (message_number m) (member_written m) ≡ m
member_back (messages.Unimplemented t) h = refl
member_back (messages.Abort e) h = ap messages.Abort (exception_back e h)
member_back (messages.Call c) h = ap messages.Call (call_back c h)
member_back (messages.Return r) h = ap messages.Return (return_back r h)
member_back (messages.Finish f) h = ap messages.Finish (finish_back f h)
member_back (messages.Resolve r) h = ap messages.Resolve (resolve_back r h)
member_back (messages.Release r) h = ap messages.Release (release_back r h)
member_back (messages.Bootstrap b) h = ap messages.Bootstrap (bootstrap_back b h)
member_back (messages.Disembargo d) h = ap messages.Disembargo (disembargo_back d h)
member_back (messages.Other n t) h = other_back n t h.0

other_sound : (n : ℕ) (t : Node) → is_other n ≡ true → member_faults n t ≡ []
other_sound n t h =
    rw (other_number n 1 h refl, other_number n 2 h refl, other_number n 3 h refl, other_number n 4 h refl, other_number n 5 h refl, other_number n 6 h refl, other_number n 8 h refl, other_number n 13 h refl) refl

member_sound : (m : Message) → IsMessage m → member_faults (message_number m) (member_written m) ≡ []
member_sound (messages.Unimplemented t) h = refl
member_sound (messages.Abort e) h = exception_sound e h
member_sound (messages.Call c) h = call_sound c h
member_sound (messages.Return r) h = return_sound r h
member_sound (messages.Finish f) h = refl
member_sound (messages.Resolve r) h = resolve_sound r h
member_sound (messages.Release r) h = refl
member_sound (messages.Bootstrap b) h = refl
member_sound (messages.Disembargo d) h = target_sound d.target h.target
member_sound (messages.Other n t) h = other_sound n t h.0

-- what a message is written as says the message
pub message_says : (m : Message) → IsMessage m → Says (message_written m) m
message_says m h =
    let which = w.u16_first (message_number m) (message_u16 m h) in
    record {
      sound = ap (λ n. member_faults n (member_written m)) which ∙ member_sound m h;
      said = sym (ap (λ n. message_by n (member_written m)) which ∙ member_back m h);
    }
