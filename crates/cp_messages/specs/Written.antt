-- The tree that each message is written as, struct by struct. A struct has all its data words and pointers, those that its member doesn't use
-- zero and null. (rpc.capnp; encoding specification: "Structs", "Lists", "Default Values")
use Rattle.std.specs.Prelude.{ℕ, ◌+◌, ◌*◌, ◌%◌, ◌^◌, Bool, not, if◌then◌else◌, List, [], ◌∷◌, ◌++◌, map}
use Rattle.cp_tree.specs.Node.{bytes, Node, null, struct, list, structs, Nodes, data_of, row_of}
use Rattle.cp_tree.specs.NodeOf.{nodes_of, bodies_of}
use Rattle.cp_messages.specs.declared.exception.ExceptionKind.{ExceptionKind}
use Rattle.cp_messages.specs.declared.exception.ExceptionKind.TheVariants as kinds
use Rattle.cp_messages.specs.declared.exception.Exception.{Exception}
use Rattle.cp_messages.specs.declared.promised_answer.Op.{Op}
use Rattle.cp_messages.specs.declared.promised_answer.Op.TheVariants as ops
use Rattle.cp_messages.specs.declared.promised_answer.PromisedAnswer.{PromisedAnswer}
use Rattle.cp_messages.specs.declared.target.Target.{Target}
use Rattle.cp_messages.specs.declared.target.Target.TheVariants as targets
use Rattle.cp_messages.specs.declared.descriptor.Descriptor.{Descriptor}
use Rattle.cp_messages.specs.declared.descriptor.Descriptor.TheVariants as descriptors
use Rattle.cp_messages.specs.declared.payload.Payload.{Payload}
use Rattle.cp_messages.specs.declared.call.SendResultsTo.{SendResultsTo}
use Rattle.cp_messages.specs.declared.call.SendResultsTo.TheVariants as results_to
use Rattle.cp_messages.specs.declared.call.Call.{Call}
use Rattle.cp_messages.specs.declared.returned.Returned.{Returned}
use Rattle.cp_messages.specs.declared.returned.Returned.TheVariants as returns
use Rattle.cp_messages.specs.declared.returned.Return.{Return}
use Rattle.cp_messages.specs.declared.resolve.Resolution.{Resolution}
use Rattle.cp_messages.specs.declared.resolve.Resolution.TheVariants as resolutions
use Rattle.cp_messages.specs.declared.resolve.Resolve.{Resolve}
use Rattle.cp_messages.specs.declared.disembargo.DisembargoContext.{DisembargoContext}
use Rattle.cp_messages.specs.declared.disembargo.DisembargoContext.TheVariants as contexts
use Rattle.cp_messages.specs.declared.disembargo.Disembargo.{Disembargo}
use Rattle.cp_messages.specs.declared.small.Bootstrap.{Bootstrap}
use Rattle.cp_messages.specs.declared.small.Finish.{Finish}
use Rattle.cp_messages.specs.declared.small.Release.{Release}
use Rattle.cp_messages.specs.declared.message.Message.{Message}
use Rattle.cp_messages.specs.declared.message.Message.TheVariants as messages

-- What a field adds to its data word: number i of 16 bits of the data section, number i of 32 bits, and bit i where it is set.
abbrev pub u16_part : ℕ → ℕ → ℕ
u16_part i n = n * 2 ^ (i % 4 * 16)

abbrev pub u32_part : ℕ → ℕ → ℕ
u32_part i n = n * 2 ^ (i % 2 * 32)

abbrev pub bit_part : ℕ → Bool → ℕ
bit_part i b = if b then 2 ^ (i % 64) else 0

-- a struct of these data words and pointers
abbrev pub struct_written : List ℕ → List Node → Node
struct_written ws ts = struct ws (nodes_of ts)

-- A text is a list of bytes, the last one zero. The empty text is a null pointer.
abbrev pub text_written : List ℕ → Node
text_written [] = null
text_written (b ∷ bs) = list (bytes ((b ∷ bs) ++ 0 ∷ []))

-- A list of structs is a composite list of elements of these sizes. The empty list is a null pointer.
abbrev pub body_written : Node → List ℕ × Nodes
body_written t = (data_of t, row_of t)

abbrev pub list_written : ℕ → ℕ → List Node → Node
list_written d n [] = null
list_written d n (t ∷ ts) = structs d n (bodies_of (map body_written (t ∷ ts)))

-- Exception.Type: failed 0, overloaded 1, disconnected 2, unimplemented 3
abbrev pub kind_number : ExceptionKind → ℕ
kind_number kinds.Failed = 0
kind_number kinds.Overloaded = 1
kind_number kinds.Disconnected = 2
kind_number kinds.Unimplemented = 3
kind_number (kinds.Unknown n) = n

-- Exception: one data word and two pointers; type is u16 number 2, reason the text at pointer 0, trace that at pointer 1
abbrev pub exception_written : Exception → Node
exception_written e = struct_written (u16_part 2 (kind_number e.kind) ∷ []) (text_written e.reason ∷ text_written e.trace ∷ [])

-- the member of PromisedAnswer.Op: noop 0, and getPointerField 1, a number
abbrev pub op_number : Op → ℕ
op_number ops.Noop = 0
op_number (ops.GetPointerField i) = 1
op_number (ops.Unknown n) = n

abbrev pub op_field : Op → ℕ
op_field (ops.GetPointerField i) = i
op_field other = 0

-- PromisedAnswer.Op: one data word; the member is u16 number 0, getPointerField u16 number 1
abbrev pub op_written : Op → Node
op_written op = struct_written ((u16_part 0 (op_number op) + u16_part 1 (op_field op)) ∷ []) []

-- PromisedAnswer: one data word and one pointer; questionId is u32 number 0, transform the list at pointer 0
abbrev pub transform_written : List Op → Node
transform_written ops = list_written 1 0 (map op_written ops)

abbrev pub promised_answer_written : PromisedAnswer → Node
promised_answer_written p = struct_written (u32_part 0 p.question_id ∷ []) (transform_written p.transform ∷ [])

-- the member of MessageTarget: importedCap 0, a number, and promisedAnswer 1, a struct
abbrev pub target_number : Target → ℕ
target_number (targets.ImportedCap id) = 0
target_number (targets.PromisedAnswer p) = 1
target_number (targets.Unknown n) = n

abbrev pub target_id : Target → ℕ
target_id (targets.ImportedCap id) = id
target_id other = 0

abbrev pub target_pointer : Target → Node
target_pointer (targets.PromisedAnswer p) = promised_answer_written p
target_pointer other = null

-- MessageTarget: one data word and one pointer; the member is u16 number 2, importedCap u32 number 0; promisedAnswer is at pointer 0
abbrev pub target_written : Target → Node
target_written t = struct_written ((u32_part 0 (target_id t) + u16_part 2 (target_number t)) ∷ []) (target_pointer t ∷ [])

-- the member of CapDescriptor: none 0; senderHosted 1, senderPromise 2 and receiverHosted 3, a number; receiverAnswer 4, a struct;
-- thirdPartyHosted 5, a tree
abbrev pub descriptor_number : Descriptor → ℕ
descriptor_number descriptors.None = 0
descriptor_number (descriptors.SenderHosted id) = 1
descriptor_number (descriptors.SenderPromise id) = 2
descriptor_number (descriptors.ReceiverHosted id) = 3
descriptor_number (descriptors.ReceiverAnswer p) = 4
descriptor_number (descriptors.ThirdPartyHosted t) = 5
descriptor_number (descriptors.Unknown n) = n

abbrev pub descriptor_id : Descriptor → ℕ
descriptor_id (descriptors.SenderHosted id) = id
descriptor_id (descriptors.SenderPromise id) = id
descriptor_id (descriptors.ReceiverHosted id) = id
descriptor_id other = 0

abbrev pub descriptor_pointer : Descriptor → Node
descriptor_pointer (descriptors.ReceiverAnswer p) = promised_answer_written p
descriptor_pointer (descriptors.ThirdPartyHosted t) = t
descriptor_pointer other = null

-- CapDescriptor: one data word and one pointer; the member is u16 number 0, its number u32 number 1, its struct or tree at pointer 0
abbrev pub descriptor_written : Descriptor → Node
descriptor_written d = struct_written ((u16_part 0 (descriptor_number d) + u32_part 1 (descriptor_id d)) ∷ []) (descriptor_pointer d ∷ [])

-- Payload: two pointers; content is the tree at pointer 0, capTable the list at pointer 1
abbrev pub cap_table_written : List Descriptor → Node
cap_table_written ds = list_written 1 1 (map descriptor_written ds)

abbrev pub payload_written : Payload → Node
payload_written p = struct_written [] (p.content ∷ cap_table_written p.cap_table ∷ [])

-- the member of sendResultsTo: caller 0, yourself 1, and thirdParty 2, a tree
abbrev pub send_results_to_number : SendResultsTo → ℕ
send_results_to_number results_to.Caller = 0
send_results_to_number results_to.Yourself = 1
send_results_to_number (results_to.ThirdParty t) = 2
send_results_to_number (results_to.Unknown n) = n

abbrev pub third_party_written : SendResultsTo → Node
third_party_written (results_to.ThirdParty t) = t
third_party_written other = null

-- Call: three data words and three pointers; questionId is u32 number 0, methodId u16 number 2, the member of sendResultsTo u16 number 3,
-- interfaceId u64 number 1; target is the struct at pointer 0, params the one at pointer 1, thirdParty the tree at pointer 2
abbrev pub call_written : Call → Node
call_written c =
    struct_written
    ((u32_part 0 c.question_id + u16_part 2 c.method_id + u16_part 3 (send_results_to_number c.send_results_to)) ∷ c.interface_id ∷ 0 ∷ [])
    (target_written c.target ∷ payload_written c.params ∷ third_party_written c.send_results_to ∷ [])

-- the member of Return: results 0 and exception 1, a struct; canceled 2; resultsSentElsewhere 3; takeFromOtherQuestion 4, a number;
-- acceptFromThirdParty 5, a tree
abbrev pub returned_number : Returned → ℕ
returned_number (returns.Results p) = 0
returned_number (returns.Exception e) = 1
returned_number returns.Canceled = 2
returned_number returns.ResultsSentElsewhere = 3
returned_number (returns.TakeFromOtherQuestion q) = 4
returned_number (returns.AcceptFromThirdParty t) = 5
returned_number (returns.Unknown n) = n

abbrev pub returned_question : Returned → ℕ
returned_question (returns.TakeFromOtherQuestion q) = q
returned_question other = 0

abbrev pub returned_pointer : Returned → Node
returned_pointer (returns.Results p) = payload_written p
returned_pointer (returns.Exception e) = exception_written e
returned_pointer (returns.AcceptFromThirdParty t) = t
returned_pointer other = null

-- Return: two data words and one pointer; answerId is u32 number 0, releaseParamCaps bit 32, set where it is false, the member u16 number 3,
-- takeFromOtherQuestion u32 number 2; the member's struct or tree is at pointer 0
abbrev pub return_written : Return → Node
return_written r =
    struct_written
    ((u32_part 0 r.answer_id + bit_part 32 (not r.release_param_caps) + u16_part 3 (returned_number r.returned)) ∷ u32_part 2 (returned_question r.returned) ∷ [])
    (returned_pointer r.returned ∷ [])

-- the member of Resolve: cap 0 and exception 1, a struct
abbrev pub resolution_number : Resolution → ℕ
resolution_number (resolutions.Cap d) = 0
resolution_number (resolutions.Exception e) = 1
resolution_number (resolutions.Unknown n) = n

abbrev pub resolution_pointer : Resolution → Node
resolution_pointer (resolutions.Cap d) = descriptor_written d
resolution_pointer (resolutions.Exception e) = exception_written e
resolution_pointer (resolutions.Unknown n) = null

-- Resolve: one data word and one pointer; promiseId is u32 number 0, the member u16 number 2, and is at pointer 0
abbrev pub resolve_written : Resolve → Node
resolve_written r = struct_written ((u32_part 0 r.promise_id + u16_part 2 (resolution_number r.resolution)) ∷ []) (resolution_pointer r.resolution ∷ [])

-- the member of context: senderLoopback 0, receiverLoopback 1 and provide 3, a number; accept 2
abbrev pub context_number : DisembargoContext → ℕ
context_number (contexts.SenderLoopback n) = 0
context_number (contexts.ReceiverLoopback n) = 1
context_number contexts.Accept = 2
context_number (contexts.Provide n) = 3
context_number (contexts.Unknown n) = n

abbrev pub context_id : DisembargoContext → ℕ
context_id (contexts.SenderLoopback id) = id
context_id (contexts.ReceiverLoopback id) = id
context_id (contexts.Provide id) = id
context_id other = 0

-- Disembargo: one data word and one pointer; the number of context's member is u32 number 0, the member u16 number 2; target is the struct at
-- pointer 0
abbrev pub disembargo_written : Disembargo → Node
disembargo_written d = struct_written ((u32_part 0 (context_id d.context) + u16_part 2 (context_number d.context)) ∷ []) (target_written d.target ∷ [])

-- Bootstrap: one data word and one pointer, of an obsolete field; questionId is u32 number 0
abbrev pub bootstrap_written : Bootstrap → Node
bootstrap_written b = struct_written (u32_part 0 b.question_id ∷ []) (null ∷ [])

-- Finish: one data word; questionId is u32 number 0, releaseResultCaps bit 32, set where it is false
abbrev pub finish_written : Finish → Node
finish_written f = struct_written ((u32_part 0 f.question_id + bit_part 32 (not f.release_result_caps)) ∷ []) []

-- Release: one data word; id is u32 number 0, referenceCount u32 number 1
abbrev pub release_written : Release → Node
release_written r = struct_written ((u32_part 0 r.id + u32_part 1 r.reference_count) ∷ []) []

-- the member of Message: unimplemented 0, any tree; abort 1, call 2, return 3, finish 4, resolve 5, release 6, bootstrap 8 and disembargo 13, a
-- struct; any other one, any tree
abbrev pub message_number : Message → ℕ
message_number (messages.Unimplemented t) = 0
message_number (messages.Abort e) = 1
message_number (messages.Call c) = 2
message_number (messages.Return r) = 3
message_number (messages.Finish f) = 4
message_number (messages.Resolve r) = 5
message_number (messages.Release r) = 6
message_number (messages.Bootstrap b) = 8
message_number (messages.Disembargo d) = 13
message_number (messages.Other n t) = n

abbrev pub member_written : Message → Node
member_written (messages.Unimplemented t) = t
member_written (messages.Abort e) = exception_written e
member_written (messages.Call c) = call_written c
member_written (messages.Return r) = return_written r
member_written (messages.Finish f) = finish_written f
member_written (messages.Resolve r) = resolve_written r
member_written (messages.Release r) = release_written r
member_written (messages.Bootstrap b) = bootstrap_written b
member_written (messages.Disembargo d) = disembargo_written d
member_written (messages.Other n t) = t

-- Message: one data word and one pointer; the member is u16 number 0, and is at pointer 0
abbrev pub message_written : Message → Node
message_written m = struct_written (u16_part 0 (message_number m) ∷ []) (member_written m ∷ [])
