-- The names of fields: the struct's, a point, and the field's.
use Rattle.std.specs.Prelude.{ℕ, List, codes}
use Rattle.cp_messages.specs.declared.fault.Field.{Field}
use Rattle.cp_messages.specs.declared.fault.Field.TheVariants as fields

abbrev pub name_of : Field → List ℕ
name_of fields.MessageAbort = codes "Message.abort"
name_of fields.MessageCall = codes "Message.call"
name_of fields.MessageReturn = codes "Message.return"
name_of fields.MessageFinish = codes "Message.finish"
name_of fields.MessageResolve = codes "Message.resolve"
name_of fields.MessageRelease = codes "Message.release"
name_of fields.MessageBootstrap = codes "Message.bootstrap"
name_of fields.MessageDisembargo = codes "Message.disembargo"
name_of fields.CallTarget = codes "Call.target"
name_of fields.CallParams = codes "Call.params"
name_of fields.MessageTargetPromisedAnswer = codes "MessageTarget.promisedAnswer"
name_of fields.PromisedAnswerTransform = codes "PromisedAnswer.transform"
name_of fields.PayloadCapTable = codes "Payload.capTable"
name_of fields.CapDescriptorReceiverAnswer = codes "CapDescriptor.receiverAnswer"
name_of fields.ReturnResults = codes "Return.results"
name_of fields.ReturnException = codes "Return.exception"
name_of fields.ResolveCap = codes "Resolve.cap"
name_of fields.ResolveException = codes "Resolve.exception"
name_of fields.DisembargoTarget = codes "Disembargo.target"
name_of fields.ExceptionReason = codes "Exception.reason"
name_of fields.ExceptionTrace = codes "Exception.trace"
