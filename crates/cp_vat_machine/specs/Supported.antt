-- The messages that a vat of level 1 acts on. (rpc.capnp: "Unimplemented".)
use Rattle.std.specs.Prelude.{Bool, true, false, ◌&&◌, List}
use Rattle.std.specs.List.{list_all}
use Rattle.cp_messages.specs.declared.promised_answer.Op.{Op}
use Rattle.cp_messages.specs.declared.promised_answer.Op.TheVariants as ops
use Rattle.cp_messages.specs.declared.target.Target.{Target}
use Rattle.cp_messages.specs.declared.target.Target.TheVariants as targets
use Rattle.cp_messages.specs.declared.descriptor.Descriptor.{Descriptor}
use Rattle.cp_messages.specs.declared.descriptor.Descriptor.TheVariants as descriptors
use Rattle.cp_messages.specs.declared.call.Call.{Call}
use Rattle.cp_messages.specs.declared.call.SendResultsTo.{SendResultsTo}
use Rattle.cp_messages.specs.declared.call.SendResultsTo.TheVariants as results_to
use Rattle.cp_messages.specs.declared.returned.Returned.{Returned}
use Rattle.cp_messages.specs.declared.returned.Returned.TheVariants as returns
use Rattle.cp_messages.specs.declared.resolve.Resolution.{Resolution}
use Rattle.cp_messages.specs.declared.resolve.Resolution.TheVariants as resolutions
use Rattle.cp_messages.specs.declared.disembargo.DisembargoContext.{DisembargoContext}
use Rattle.cp_messages.specs.declared.disembargo.DisembargoContext.TheVariants as contexts
use Rattle.cp_messages.specs.declared.message.Message.{Message}
use Rattle.cp_messages.specs.declared.message.Message.TheVariants as messages

-- a step of a transform that rpc.capnp has
abbrev pub is_known_op : Op → Bool
is_known_op (ops.Unknown n) = false
is_known_op other = true

abbrev pub is_supported_transform : List Op → Bool
is_supported_transform transform = list_all is_known_op transform

abbrev pub is_supported_target : Target → Bool
is_supported_target (targets.ImportedCap e) = true
is_supported_target (targets.PromisedAnswer answer) = is_supported_transform answer.transform
is_supported_target (targets.Unknown n) = false

-- no capability of a third party, and none of an unknown kind
abbrev pub is_supported_descriptor : Descriptor → Bool
is_supported_descriptor (descriptors.ReceiverAnswer answer) = is_supported_transform answer.transform
is_supported_descriptor (descriptors.ThirdPartyHosted t) = false
is_supported_descriptor (descriptors.Unknown n) = false
is_supported_descriptor other = true

-- results go to the caller alone
abbrev pub is_supported_way_back : SendResultsTo → Bool
is_supported_way_back results_to.Caller = true
is_supported_way_back other = false

-- what was returned is in the Return
abbrev pub is_supported_returned : Returned → Bool
is_supported_returned (returns.Results p) = list_all is_supported_descriptor p.cap_table
is_supported_returned (returns.Exception x) = true
is_supported_returned returns.Canceled = true
is_supported_returned other = false

abbrev pub is_supported_resolution : Resolution → Bool
is_supported_resolution (resolutions.Cap d) = is_supported_descriptor d
is_supported_resolution (resolutions.Exception x) = true
is_supported_resolution (resolutions.Unknown n) = false

abbrev pub is_supported_context : DisembargoContext → Bool
is_supported_context (contexts.SenderLoopback n) = true
is_supported_context (contexts.ReceiverLoopback n) = true
is_supported_context other = false

-- the call with its results to its caller is one that a vat acts on
abbrev pub is_supported_to_caller : Call → Bool
is_supported_to_caller call = is_supported_target call.target && list_all is_supported_descriptor call.params.cap_table

-- A message without a member that is unknown (the type of an exception aside), of three-party handoff or of tail calls.
abbrev pub is_supported : Message → Bool
is_supported (messages.Call c) = is_supported_way_back c.send_results_to && is_supported_to_caller c
is_supported (messages.Return r) = is_supported_returned r.returned
is_supported (messages.Resolve r) = is_supported_resolution r.resolution
is_supported (messages.Disembargo d) = is_supported_context d.context && is_supported_target d.target
is_supported (messages.Other which body) = false
is_supported other = true
