-- Whether each list of a message's tree is short enough for a message: a list of bytes has fewer than 2 ^ 29 elements, and the elements of a
-- composite list fewer than 2 ^ 29 words together. (Encoding specification: "Lists")
use Rattle.std.specs.Prelude.{ℕ, ◌+◌, ◌*◌, ◌^◌, ◌&&◌, ltb, Bool, true, List, length}
use Rattle.std.specs.List.{list_all}
use Rattle.cp_messages.specs.declared.exception.Exception.{Exception}
use Rattle.cp_messages.specs.declared.promised_answer.PromisedAnswer.{PromisedAnswer}
use Rattle.cp_messages.specs.declared.target.Target.{Target}
use Rattle.cp_messages.specs.declared.target.Target.TheVariants as targets
use Rattle.cp_messages.specs.declared.descriptor.Descriptor.{Descriptor}
use Rattle.cp_messages.specs.declared.descriptor.Descriptor.TheVariants as descriptors
use Rattle.cp_messages.specs.declared.payload.Payload.{Payload}
use Rattle.cp_messages.specs.declared.call.Call.{Call}
use Rattle.cp_messages.specs.declared.returned.Returned.{Returned}
use Rattle.cp_messages.specs.declared.returned.Returned.TheVariants as returns
use Rattle.cp_messages.specs.declared.resolve.Resolution.{Resolution}
use Rattle.cp_messages.specs.declared.resolve.Resolution.TheVariants as resolutions
use Rattle.cp_messages.specs.declared.message.Message.{Message}
use Rattle.cp_messages.specs.declared.message.Message.TheVariants as messages

abbrev pub text_fits : List ℕ → Bool
text_fits bs = ltb (length bs + 1) (2 ^ 29)

abbrev pub exception_fits : Exception → Bool
exception_fits e = text_fits e.reason && text_fits e.trace

abbrev pub promised_answer_fits : PromisedAnswer → Bool
promised_answer_fits p = ltb (length p.transform) (2 ^ 29)

abbrev pub target_fits : Target → Bool
target_fits (targets.PromisedAnswer p) = promised_answer_fits p
target_fits other = true

abbrev pub descriptor_fits : Descriptor → Bool
descriptor_fits (descriptors.ReceiverAnswer p) = promised_answer_fits p
descriptor_fits other = true

abbrev pub payload_fits : Payload → Bool
payload_fits p = ltb (length p.cap_table * 2) (2 ^ 29) && list_all descriptor_fits p.cap_table

abbrev pub call_fits : Call → Bool
call_fits c = target_fits c.target && payload_fits c.params

abbrev pub returned_fits : Returned → Bool
returned_fits (returns.Results p) = payload_fits p
returned_fits (returns.Exception e) = exception_fits e
returned_fits other = true

abbrev pub resolution_fits : Resolution → Bool
resolution_fits (resolutions.Cap d) = descriptor_fits d
resolution_fits (resolutions.Exception e) = exception_fits e
resolution_fits (resolutions.Unknown n) = true

abbrev pub message_fits : Message → Bool
message_fits (messages.Abort e) = exception_fits e
message_fits (messages.Call c) = call_fits c
message_fits (messages.Return r) = returned_fits r.returned
message_fits (messages.Resolve r) = resolution_fits r.resolution
message_fits (messages.Disembargo d) = target_fits d.target
message_fits other = true
