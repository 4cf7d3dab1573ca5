-- The messages that a program can hold: each number fits its field, a number of no member or type is past the last, a text is UTF-8, and each
-- tree is one that a message can hold.
use Rattle.std.specs.Prelude.{◌≡◌, ℕ, ◌^◌, ◌<◌, true, List, All}
use Rattle.std.specs.Str.{IsUtf8}
use Rattle.cp_tree.specs.Shaped.{Shaped}
use Rattle.cp_messages.specs.Others.{is_other}
use Rattle.cp_messages.specs.declared.exception.ExceptionKind.{ExceptionKind}
use Rattle.cp_messages.specs.declared.exception.ExceptionKind.TheVariants as kinds
use Rattle.cp_messages.specs.declared.exception.Exception.{Exception}
use Rattle.cp_messages.specs.declared.promised_answer.Op.{Op}
use Rattle.cp_messages.specs.declared.promised_answer.Op.TheVariants as ops
use Rattle.cp_messages.specs.declared.promised_answer.PromisedAnswer.{PromisedAnswer}
use Rattle.cp_messages.specs.declared.target.Target.{Target}
use Rattle.cp_messages.specs.declared.target.Target.TheVariants as targets
use Rattle.cp_messages.specs.declared.descriptor.Descriptor.{Descriptor}
use Rattle.cp_messages.specs.declared.descriptor.Descriptor.TheVariants as descriptors
use Rattle.cp_messages.specs.declared.payload.Payload.{Payload}
use Rattle.cp_messages.specs.declared.call.SendResultsTo.{SendResultsTo}
use Rattle.cp_messages.specs.declared.call.SendResultsTo.TheVariants as results_to
use Rattle.cp_messages.specs.declared.call.Call.{Call}
use Rattle.cp_messages.specs.declared.returned.Returned.{Returned}
use Rattle.cp_messages.specs.declared.returned.Returned.TheVariants as returns
use Rattle.cp_messages.specs.declared.returned.Return.{Return}
use Rattle.cp_messages.specs.declared.resolve.Resolution.{Resolution}
use Rattle.cp_messages.specs.declared.resolve.Resolution.TheVariants as resolutions
use Rattle.cp_messages.specs.declared.resolve.Resolve.{Resolve}
use Rattle.cp_messages.specs.declared.disembargo.DisembargoContext.{DisembargoContext}
use Rattle.cp_messages.specs.declared.disembargo.DisembargoContext.TheVariants as contexts
use Rattle.cp_messages.specs.declared.disembargo.Disembargo.{Disembargo}
use Rattle.cp_messages.specs.declared.small.Bootstrap.{Bootstrap}
use Rattle.cp_messages.specs.declared.small.Finish.{Finish}
use Rattle.cp_messages.specs.declared.small.Release.{Release}
use Rattle.cp_messages.specs.declared.message.Message.{Message}
use Rattle.cp_messages.specs.declared.message.Message.TheVariants as messages

abbrev pub IsU16 : ℕ → Type 0
IsU16 n = n < 2 ^ 16

abbrev pub IsU32 : ℕ → Type 0
IsU32 n = n < 2 ^ 32

-- a number of 16 bits that is past the last that a table has
abbrev pub IsPast : ℕ → ℕ → Type 0
IsPast last n = (last < n) × IsU16 n

abbrev pub IsText : List ℕ → Type 0
IsText bs = IsUtf8 bs × All (λ b. b < 2 ^ 8) bs

abbrev pub IsKind : ExceptionKind → Type 0
IsKind (kinds.Unknown n) = IsPast 3 n
IsKind other = Unit {0}

pub record IsException (e : Exception) : Type 0 where
  pub kind : IsKind e.kind
  pub reason : IsText e.reason
  pub trace : IsText e.trace

abbrev pub IsOp : Op → Type 0
IsOp (ops.GetPointerField i) = IsU16 i
IsOp (ops.Unknown n) = IsPast 1 n
IsOp other = Unit {0}

pub record IsPromisedAnswer (p : PromisedAnswer) : Type 0 where
  pub question_id : IsU32 p.question_id
  pub transform : All IsOp p.transform

abbrev pub IsTarget : Target → Type 0
IsTarget (targets.ImportedCap id) = IsU32 id
IsTarget (targets.PromisedAnswer p) = IsPromisedAnswer p
IsTarget (targets.Unknown n) = IsPast 1 n

abbrev pub IsDescriptor : Descriptor → Type 0
IsDescriptor descriptors.None = Unit {0}
IsDescriptor (descriptors.SenderHosted id) = IsU32 id
IsDescriptor (descriptors.SenderPromise id) = IsU32 id
IsDescriptor (descriptors.ReceiverHosted id) = IsU32 id
IsDescriptor (descriptors.ReceiverAnswer p) = IsPromisedAnswer p
IsDescriptor (descriptors.ThirdPartyHosted t) = Shaped t
IsDescriptor (descriptors.Unknown n) = IsPast 5 n

pub record IsPayload (p : Payload) : Type 0 where
  pub content : Shaped p.content
  pub cap_table : All IsDescriptor p.cap_table

abbrev pub IsSendResultsTo : SendResultsTo → Type 0
IsSendResultsTo (results_to.ThirdParty t) = Shaped t
IsSendResultsTo (results_to.Unknown n) = IsPast 2 n
IsSendResultsTo other = Unit {0}

pub record IsCall (c : Call) : Type 0 where
  pub question_id : IsU32 c.question_id
  pub method_id : IsU16 c.method_id
  pub send_results_to : IsSendResultsTo c.send_results_to
  pub interface_id : c.interface_id < 2 ^ 64
  pub target : IsTarget c.target
  pub params : IsPayload c.params

abbrev pub IsReturned : Returned → Type 0
IsReturned (returns.Results p) = IsPayload p
IsReturned (returns.Exception e) = IsException e
IsReturned (returns.TakeFromOtherQuestion q) = IsU32 q
IsReturned (returns.AcceptFromThirdParty t) = Shaped t
IsReturned (returns.Unknown n) = IsPast 5 n
IsReturned other = Unit {0}

pub record IsReturn (r : Return) : Type 0 where
  pub answer_id : IsU32 r.answer_id
  pub returned : IsReturned r.returned

abbrev pub IsResolution : Resolution → Type 0
IsResolution (resolutions.Cap d) = IsDescriptor d
IsResolution (resolutions.Exception e) = IsException e
IsResolution (resolutions.Unknown n) = IsPast 1 n

pub record IsResolve (r : Resolve) : Type 0 where
  pub promise_id : IsU32 r.promise_id
  pub resolution : IsResolution r.resolution

abbrev pub IsContext : DisembargoContext → Type 0
IsContext (contexts.SenderLoopback id) = IsU32 id
IsContext (contexts.ReceiverLoopback id) = IsU32 id
IsContext contexts.Accept = Unit {0}
IsContext (contexts.Provide id) = IsU32 id
IsContext (contexts.Unknown n) = IsPast 3 n

pub record IsDisembargo (d : Disembargo) : Type 0 where
  pub context : IsContext d.context
  pub target : IsTarget d.target

abbrev pub IsBootstrap : Bootstrap → Type 0
IsBootstrap b = IsU32 b.question_id

abbrev pub IsFinish : Finish → Type 0
IsFinish f = IsU32 f.question_id

pub record IsRelease (r : Release) : Type 0 where
  pub id : IsU32 r.id
  pub reference_count : IsU32 r.reference_count

abbrev pub IsMessage : Message → Type 0
IsMessage (messages.Unimplemented t) = Shaped t
IsMessage (messages.Abort e) = IsException e
IsMessage (messages.Call c) = IsCall c
IsMessage (messages.Return r) = IsReturn r
IsMessage (messages.Finish f) = IsFinish f
IsMessage (messages.Resolve r) = IsResolve r
IsMessage (messages.Release r) = IsRelease r
IsMessage (messages.Bootstrap b) = IsBootstrap b
IsMessage (messages.Disembargo d) = IsDisembargo d
IsMessage (messages.Other n t) = (is_other n ≡ true) × IsU16 n × Shaped t
