-- What the fields of each struct say. (rpc.capnp)
use Rattle.std.specs.Prelude.{ℕ, not, ◌==◌, if◌then◌else◌, List, map}
use Rattle.cp_tree.specs.Node.{Node, data_of}
use Rattle.cp_tree.specs.Seen.{pointee_of}
use Rattle.cp_messages.specs.Fields.{u16_of, u32_of, u64_of, bit_of, text_of, items_of}
use Rattle.cp_messages.specs.declared.exception.ExceptionKind.{ExceptionKind}
use Rattle.cp_messages.specs.declared.exception.ExceptionKind.TheVariants as kinds
use Rattle.cp_messages.specs.declared.exception.Exception.{Exception}
use Rattle.cp_messages.specs.declared.promised_answer.Op.{Op}
use Rattle.cp_messages.specs.declared.promised_answer.Op.TheVariants as ops
use Rattle.cp_messages.specs.declared.promised_answer.PromisedAnswer.{PromisedAnswer}
use Rattle.cp_messages.specs.declared.target.Target.{Target}
use Rattle.cp_messages.specs.declared.target.Target.TheVariants as targets
use Rattle.cp_messages.specs.declared.descriptor.Descriptor.{Descriptor}
use Rattle.cp_messages.specs.declared.descriptor.Descriptor.TheVariants as descriptors
use Rattle.cp_messages.specs.declared.payload.Payload.{Payload}
use Rattle.cp_messages.specs.declared.call.SendResultsTo.{SendResultsTo}
use Rattle.cp_messages.specs.declared.call.SendResultsTo.TheVariants as results_to
use Rattle.cp_messages.specs.declared.call.Call.{Call}
use Rattle.cp_messages.specs.declared.returned.Returned.{Returned}
use Rattle.cp_messages.specs.declared.returned.Returned.TheVariants as returns
use Rattle.cp_messages.specs.declared.returned.Return.{Return}
use Rattle.cp_messages.specs.declared.resolve.Resolution.{Resolution}
use Rattle.cp_messages.specs.declared.resolve.Resolution.TheVariants as resolutions
use Rattle.cp_messages.specs.declared.resolve.Resolve.{Resolve}
use Rattle.cp_messages.specs.declared.disembargo.DisembargoContext.{DisembargoContext}
use Rattle.cp_messages.specs.declared.disembargo.DisembargoContext.TheVariants as contexts
use Rattle.cp_messages.specs.declared.disembargo.Disembargo.{Disembargo}
use Rattle.cp_messages.specs.declared.small.Bootstrap.{Bootstrap}
use Rattle.cp_messages.specs.declared.small.Finish.{Finish}
use Rattle.cp_messages.specs.declared.small.Release.{Release}
use Rattle.cp_messages.specs.declared.message.Message.{Message}
use Rattle.cp_messages.specs.declared.message.Message.TheVariants as messages

-- Exception.Type: failed 0, overloaded 1, disconnected 2, unimplemented 3
abbrev pub kind_denoted : ℕ → ExceptionKind
kind_denoted n =
    if n == 0 then kinds.Failed
    else (if n == 1 then kinds.Overloaded
    else (if n == 2 then kinds.Disconnected
    else (if n == 3 then kinds.Unimplemented else kinds.Unknown n)))

-- Exception: type is u16 number 2, reason the text at pointer 0, trace that at pointer 1
abbrev pub exception_denoted : Node → Exception
exception_denoted t = record { kind = kind_denoted (u16_of (data_of t) 2); reason = text_of (pointee_of t 0); trace = text_of (pointee_of t 1) }

-- PromisedAnswer.Op: its member is u16 number 0, noop 0 and getPointerField 1, the field u16 number 1
abbrev pub op_by : ℕ → List ℕ → Op
op_by n ws = if n == 0 then ops.Noop else (if n == 1 then ops.GetPointerField (u16_of ws 1) else ops.Unknown n)

abbrev pub op_denoted : List ℕ → Op
op_denoted ws = op_by (u16_of ws 0) ws

-- the steps that a list of structs says
abbrev pub ops_denoted : Node → List Op
ops_denoted t = map (λ x. op_denoted (data_of x)) (items_of t)

-- PromisedAnswer: questionId is u32 number 0, transform the list at pointer 0
abbrev pub promised_answer_denoted : Node → PromisedAnswer
promised_answer_denoted t = record { question_id = u32_of (data_of t) 0; transform = ops_denoted (pointee_of t 0) }

-- MessageTarget: its member is u16 number 2, importedCap 0 and promisedAnswer 1; importedCap is u32 number 0, promisedAnswer the struct at
-- pointer 0
abbrev pub target_by : ℕ → Node → Target
target_by n t =
    if n == 0 then targets.ImportedCap (u32_of (data_of t) 0)
    else (if n == 1 then targets.PromisedAnswer (promised_answer_denoted (pointee_of t 0)) else targets.Unknown n)

abbrev pub target_denoted : Node → Target
target_denoted t = target_by (u16_of (data_of t) 2) t

-- CapDescriptor: its member is u16 number 0; none 0; senderHosted 1, senderPromise 2 and receiverHosted 3, u32 number 1; receiverAnswer 4, the
-- struct at pointer 0; thirdPartyHosted 5, the tree at pointer 0
abbrev pub descriptor_by : ℕ → Node → Descriptor
descriptor_by n t =
    if n == 0 then descriptors.None
    else (if n == 1 then descriptors.SenderHosted (u32_of (data_of t) 1)
    else (if n == 2 then descriptors.SenderPromise (u32_of (data_of t) 1)
    else (if n == 3 then descriptors.ReceiverHosted (u32_of (data_of t) 1)
    else (if n == 4 then descriptors.ReceiverAnswer (promised_answer_denoted (pointee_of t 0))
    else (if n == 5 then descriptors.ThirdPartyHosted (pointee_of t 0) else descriptors.Unknown n)))))

abbrev pub descriptor_denoted : Node → Descriptor
descriptor_denoted t = descriptor_by (u16_of (data_of t) 0) t

-- the descriptors that a list of structs says
abbrev pub descriptors_denoted : Node → List Descriptor
descriptors_denoted t = map descriptor_denoted (items_of t)

-- Payload: content is the tree at pointer 0, capTable the list at pointer 1
abbrev pub payload_denoted : Node → Payload
payload_denoted t = record { content = pointee_of t 0; cap_table = descriptors_denoted (pointee_of t 1) }

-- Call: questionId is u32 number 0, methodId u16 number 2, interfaceId u64 number 1; target is the struct at pointer 0, params the one at
-- pointer 1. The member of sendResultsTo is u16 number 3: caller 0, yourself 1, and thirdParty 2, the tree at pointer 2.
abbrev pub send_results_to_by : ℕ → Node → SendResultsTo
send_results_to_by n t =
    if n == 0 then results_to.Caller
    else (if n == 1 then results_to.Yourself
    else (if n == 2 then results_to.ThirdParty (pointee_of t 2) else results_to.Unknown n))

abbrev pub send_results_to_denoted : Node → SendResultsTo
send_results_to_denoted t = send_results_to_by (u16_of (data_of t) 3) t

abbrev pub call_denoted : Node → Call
call_denoted t =
    record {
      question_id = u32_of (data_of t) 0;
      method_id = u16_of (data_of t) 2;
      send_results_to = send_results_to_denoted t;
      interface_id = u64_of (data_of t) 1;
      target = target_denoted (pointee_of t 0);
      params = payload_denoted (pointee_of t 1);
    }

-- Return: answerId is u32 number 0, releaseParamCaps bit 32, true where the bit is 0. Its member is u16 number 3: results 0 and exception 1, the
-- struct at pointer 0; canceled 2; resultsSentElsewhere 3; takeFromOtherQuestion 4, u32 number 2; acceptFromThirdParty 5, the tree at pointer 0.
abbrev pub returned_by : ℕ → Node → Returned
returned_by n t =
    if n == 0 then returns.Results (payload_denoted (pointee_of t 0))
    else (if n == 1 then returns.Exception (exception_denoted (pointee_of t 0))
    else (if n == 2 then returns.Canceled
    else (if n == 3 then returns.ResultsSentElsewhere
    else (if n == 4 then returns.TakeFromOtherQuestion (u32_of (data_of t) 2)
    else (if n == 5 then returns.AcceptFromThirdParty (pointee_of t 0) else returns.Unknown n)))))

abbrev pub returned_denoted : Node → Returned
returned_denoted t = returned_by (u16_of (data_of t) 3) t

abbrev pub return_denoted : Node → Return
return_denoted t = record { answer_id = u32_of (data_of t) 0; release_param_caps = not (bit_of (data_of t) 32); returned = returned_denoted t }

-- Resolve: promiseId is u32 number 0. Its member is u16 number 2: cap 0 and exception 1, the struct at pointer 0.
abbrev pub resolution_by : ℕ → Node → Resolution
resolution_by n t =
    if n == 0 then resolutions.Cap (descriptor_denoted (pointee_of t 0))
    else (if n == 1 then resolutions.Exception (exception_denoted (pointee_of t 0)) else resolutions.Unknown n)

abbrev pub resolution_denoted : Node → Resolution
resolution_denoted t = resolution_by (u16_of (data_of t) 2) t

abbrev pub resolve_denoted : Node → Resolve
resolve_denoted t = record { promise_id = u32_of (data_of t) 0; resolution = resolution_denoted t }

-- Disembargo: target is the struct at pointer 0. The member of context is u16 number 2: senderLoopback 0, receiverLoopback 1 and provide 3, u32
-- number 0; accept 2.
abbrev pub context_by : ℕ → List ℕ → DisembargoContext
context_by n ws =
    if n == 0 then contexts.SenderLoopback (u32_of ws 0)
    else (if n == 1 then contexts.ReceiverLoopback (u32_of ws 0)
    else (if n == 2 then contexts.Accept
    else (if n == 3 then contexts.Provide (u32_of ws 0) else contexts.Unknown n)))

abbrev pub context_denoted : List ℕ → DisembargoContext
context_denoted ws = context_by (u16_of ws 2) ws

abbrev pub disembargo_denoted : Node → Disembargo
disembargo_denoted t = record { context = context_denoted (data_of t); target = target_denoted (pointee_of t 0) }

-- Bootstrap: questionId is u32 number 0.
abbrev pub bootstrap_denoted : List ℕ → Bootstrap
bootstrap_denoted ws = record { question_id = u32_of ws 0 }

-- Finish: questionId is u32 number 0, releaseResultCaps bit 32, true where the bit is 0.
abbrev pub finish_denoted : List ℕ → Finish
finish_denoted ws = record { question_id = u32_of ws 0; release_result_caps = not (bit_of ws 32) }

-- Release: id is u32 number 0, referenceCount u32 number 1.
abbrev pub release_denoted : List ℕ → Release
release_denoted ws = record { id = u32_of ws 0; reference_count = u32_of ws 1 }

-- Message: its member is u16 number 0, and is at pointer 0: unimplemented 0, any tree; abort 1, call 2, return 3, finish 4, resolve 5,
-- release 6, bootstrap 8 and disembargo 13, a struct; any other one, any tree.
abbrev pub message_by : ℕ → Node → Message
message_by n member =
    if n == 0 then messages.Unimplemented member
    else (if n == 1 then messages.Abort (exception_denoted member)
    else (if n == 2 then messages.Call (call_denoted member)
    else (if n == 3 then messages.Return (return_denoted member)
    else (if n == 4 then messages.Finish (finish_denoted (data_of member))
    else (if n == 5 then messages.Resolve (resolve_denoted member)
    else (if n == 6 then messages.Release (release_denoted (data_of member))
    else (if n == 8 then messages.Bootstrap (bootstrap_denoted (data_of member))
    else (if n == 13 then messages.Disembargo (disembargo_denoted member) else messages.Other n member))))))))

abbrev pub message_denoted : Node → Message
message_denoted t = message_by (u16_of (data_of t) 0) (pointee_of t 0)
