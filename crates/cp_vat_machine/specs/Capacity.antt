-- The limits of a vat: how much its tables, messages and tickets hold.
use Rattle.std.specs.Prelude.{◌≡◌, ℕ, ◌-◌, ◌^◌, ◌<◌, ltb, leb, ◌&&◌, Bool, true, false, List, length, None, Result, Ok, Err}
use Rattle.std.specs.List.{list_all}
use Rattle.std.specs.FinMap.{get, len}
use Rattle.cp_tree.specs.Node.{Node, depth, cost}
use Rattle.cp_tables.specs.Table.{Table}
use Rattle.cp_messages.specs.declared.exception.Exception.{Exception}
use Rattle.cp_messages.specs.declared.promised_answer.Op.{Op}
use Rattle.cp_messages.specs.declared.target.Target.{Target}
use Rattle.cp_messages.specs.declared.target.Target.TheVariants as targets
use Rattle.cp_messages.specs.declared.descriptor.Descriptor.{Descriptor}
use Rattle.cp_messages.specs.declared.descriptor.Descriptor.TheVariants as descriptors
use Rattle.cp_messages.specs.declared.payload.Payload.{Payload}
use Rattle.cp_messages.specs.declared.returned.Returned.{Returned}
use Rattle.cp_messages.specs.declared.returned.Returned.TheVariants as returns
use Rattle.cp_messages.specs.declared.resolve.Resolution.{Resolution}
use Rattle.cp_messages.specs.declared.resolve.Resolution.TheVariants as resolutions
use Rattle.cp_messages.specs.declared.message.Message.{Message}
use Rattle.cp_messages.specs.declared.message.Message.TheVariants as messages
use Rattle.cp_refs.specs.declared.cap.Cap.{Cap}
use Rattle.cp_refs.specs.declared.cap.Cap.TheVariants as caps
use Rattle.cp_refs.specs.declared.call.Request.{Request}
use Rattle.cp_refs.specs.declared.outcome.Outcome.{Outcome}
use Rattle.cp_refs.specs.declared.outcome.Outcome.TheVariants as outcomes
use Rattle.cp_vat_machine.specs.State.{State}
use Rattle.cp_vat_machine.specs.declared.fault.PeerFault.{PeerFault}
use Rattle.cp_vat_machine.specs.declared.fault.PeerFault.TheVariants as faults

-- A table holds 65,536 entries at most; so do questions, answers, exports, imports, embargoes, promises and marked paths.
abbrev pub has_capacity : {X : Type 0} → Table X → Bool
has_capacity table = ltb (len table) 65536

-- any number that is free, where the table isn't full
pub data Fresh {X : Type 0} (table : Table X) : Result ℕ PeerFault → Type 0 where
  free : (n : ℕ) → get table n ≡ None → n < 2 ^ 32 → has_capacity table ≡ true → Fresh table (Ok n)
  full : has_capacity table ≡ false → Fresh table (Err faults.TableFull)

-- there is a ticket for one more call
abbrev pub has_ticket : State → Bool
has_ticket s = ltb s.next_ticket (2 ^ 64 - 1)

-- a content of a depth of 60 and a cost of 4,194,304 at most
abbrev pub content_fits : Node → Bool
content_fits t = leb (depth t) 60 && leb (cost t) 4194304

-- a transform of 16 steps at most
abbrev pub transform_fits : List Op → Bool
transform_fits ops = leb (length ops) 16

-- a reason and a trace of 65,536 bytes at most each
abbrev pub exception_fits : Exception → Bool
exception_fits x = leb (length x.reason) 65536 && leb (length x.trace) 65536

abbrev pub descriptor_fits : Descriptor → Bool
descriptor_fits (descriptors.ReceiverAnswer answer) = transform_fits answer.transform
descriptor_fits other = true

abbrev pub target_fits : Target → Bool
target_fits (targets.PromisedAnswer answer) = transform_fits answer.transform
target_fits other = true

-- a capability table of 1,024 descriptors at most
abbrev pub payload_fits : Payload → Bool
payload_fits p = content_fits p.content && leb (length p.cap_table) 1024 && list_all descriptor_fits p.cap_table

abbrev pub returned_fits : Returned → Bool
returned_fits (returns.Results p) = payload_fits p
returned_fits (returns.Exception x) = exception_fits x
returned_fits other = true

abbrev pub resolution_fits : Resolution → Bool
resolution_fits (resolutions.Cap d) = descriptor_fits d
resolution_fits (resolutions.Exception x) = exception_fits x
resolution_fits other = true

-- a message of the peer within these sizes
abbrev pub message_fits : Message → Bool
message_fits (messages.Abort x) = exception_fits x
message_fits (messages.Call c) = target_fits c.target && payload_fits c.params
message_fits (messages.Return r) = returned_fits r.returned
message_fits (messages.Resolve r) = resolution_fits r.resolution
message_fits (messages.Disembargo d) = target_fits d.target
message_fits other = true

-- a capability of the application's within these sizes
abbrev pub cap_fits : Cap → Bool
cap_fits (caps.Pipelined q path) = leb (length path) 16
cap_fits (caps.Broken x) = exception_fits x
cap_fits other = true

abbrev pub caps_fit : List Cap → Bool
caps_fit table = leb (length table) 1024 && list_all cap_fits table

abbrev pub request_fits : Request → Bool
request_fits r = content_fits r.content && caps_fit r.caps

abbrev pub outcome_fits : Outcome → Bool
outcome_fits (outcomes.Results content table) = content_fits content && caps_fit table
outcome_fits (outcomes.Failed x) = exception_fits x
outcome_fits outcomes.Canceled = true
