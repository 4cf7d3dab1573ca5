-- The faults of each struct, in the order of its fields, each followed by those inside it.
use Rattle.std.specs.Prelude.{ℕ, ◌==◌, if◌then◌else◌, List, [], ◌++◌, flat_map}
use Rattle.cp_tree.specs.Node.{Node, data_of}
use Rattle.cp_tree.specs.Seen.{pointee_of}
use Rattle.cp_messages.specs.Fields.{u16_of, struct_faults, list_faults, text_faults}
use Rattle.cp_messages.specs.declared.fault.Field.TheVariants as fields
use Rattle.cp_messages.specs.declared.fault.SchemaFault.{SchemaFault}

abbrev pub exception_faults : Node → List SchemaFault
exception_faults t = text_faults fields.ExceptionReason (pointee_of t 0) ++ text_faults fields.ExceptionTrace (pointee_of t 1)

abbrev pub promised_answer_faults : Node → List SchemaFault
promised_answer_faults t = list_faults fields.PromisedAnswerTransform (λ ops. []) (pointee_of t 0)

abbrev pub target_faults : Node → List SchemaFault
target_faults t = if u16_of (data_of t) 2 == 1 then struct_faults fields.MessageTargetPromisedAnswer promised_answer_faults (pointee_of t 0) else []

abbrev pub descriptor_faults : Node → List SchemaFault
descriptor_faults t = if u16_of (data_of t) 0 == 4 then struct_faults fields.CapDescriptorReceiverAnswer promised_answer_faults (pointee_of t 0) else []

abbrev pub payload_faults : Node → List SchemaFault
payload_faults t = list_faults fields.PayloadCapTable (λ items. flat_map descriptor_faults items) (pointee_of t 1)

abbrev pub call_faults : Node → List SchemaFault
call_faults t = struct_faults fields.CallTarget target_faults (pointee_of t 0) ++ struct_faults fields.CallParams payload_faults (pointee_of t 1)

abbrev pub return_faults : Node → List SchemaFault
return_faults t =
    if u16_of (data_of t) 3 == 0 then struct_faults fields.ReturnResults payload_faults (pointee_of t 0)
    else (if u16_of (data_of t) 3 == 1 then struct_faults fields.ReturnException exception_faults (pointee_of t 0) else [])

abbrev pub resolve_faults : Node → List SchemaFault
resolve_faults t =
    if u16_of (data_of t) 2 == 0 then struct_faults fields.ResolveCap descriptor_faults (pointee_of t 0)
    else (if u16_of (data_of t) 2 == 1 then struct_faults fields.ResolveException exception_faults (pointee_of t 0) else [])

abbrev pub disembargo_faults : Node → List SchemaFault
disembargo_faults t = struct_faults fields.DisembargoTarget target_faults (pointee_of t 0)

-- a struct of numbers alone has none
abbrev pub no_faults : Node → List SchemaFault
no_faults t = []

abbrev pub member_faults : ℕ → Node → List SchemaFault
member_faults n member =
    if n == 1 then struct_faults fields.MessageAbort exception_faults member
    else (if n == 2 then struct_faults fields.MessageCall call_faults member
    else (if n == 3 then struct_faults fields.MessageReturn return_faults member
    else (if n == 4 then struct_faults fields.MessageFinish no_faults member
    else (if n == 5 then struct_faults fields.MessageResolve resolve_faults member
    else (if n == 6 then struct_faults fields.MessageRelease no_faults member
    else (if n == 8 then struct_faults fields.MessageBootstrap no_faults member
    else (if n == 13 then struct_faults fields.MessageDisembargo disembargo_faults member else [])))))))

abbrev pub message_faults : Node → List SchemaFault
message_faults t = member_faults (u16_of (data_of t) 0) (pointee_of t 0)
