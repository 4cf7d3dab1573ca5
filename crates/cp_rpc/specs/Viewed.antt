-- What is shown by a view of each struct.
use Rattle.cp_tree.specs.Node.{Node}
use Rattle.cp_messages.specs.declared.exception.Exception.{Exception}
use Rattle.cp_rpc.specs.declared.exception.ExceptionView.{ExceptionView}
use Rattle.cp_messages.specs.declared.promised_answer.PromisedAnswer.{PromisedAnswer}
use Rattle.cp_rpc.specs.declared.promised_answer.PromisedAnswerView.{PromisedAnswerView}
use Rattle.cp_messages.specs.declared.target.Target.{Target}
use Rattle.cp_messages.specs.declared.target.Target.TheVariants as targets
use Rattle.cp_rpc.specs.declared.target.TargetView.{TargetView}
use Rattle.cp_rpc.specs.declared.target.TargetView.TheVariants as target_views
use Rattle.cp_messages.specs.declared.descriptor.Descriptor.{Descriptor}
use Rattle.cp_messages.specs.declared.descriptor.Descriptor.TheVariants as descriptors
use Rattle.cp_rpc.specs.declared.descriptor.DescriptorView.{DescriptorView}
use Rattle.cp_rpc.specs.declared.descriptor.DescriptorView.TheVariants as descriptor_views
use Rattle.cp_messages.specs.declared.payload.Payload.{Payload}
use Rattle.cp_rpc.specs.declared.payload.PayloadView.{PayloadView}
use Rattle.cp_messages.specs.declared.call.SendResultsTo.{SendResultsTo}
use Rattle.cp_rpc.specs.declared.call.SendResultsToView.{SendResultsToView}
use Rattle.cp_messages.specs.declared.call.SendResultsTo.TheVariants as results_to
use Rattle.cp_rpc.specs.declared.call.SendResultsToView.TheVariants as results_to_views
use Rattle.cp_messages.specs.declared.call.Call.{Call}
use Rattle.cp_rpc.specs.declared.call.CallView.{CallView}
use Rattle.cp_messages.specs.declared.returned.Returned.{Returned}
use Rattle.cp_rpc.specs.declared.returned.ReturnedView.{ReturnedView}
use Rattle.cp_messages.specs.declared.returned.Returned.TheVariants as returns
use Rattle.cp_rpc.specs.declared.returned.ReturnedView.TheVariants as return_views
use Rattle.cp_messages.specs.declared.returned.Return.{Return}
use Rattle.cp_rpc.specs.declared.returned.ReturnView.{ReturnView}
use Rattle.cp_messages.specs.declared.resolve.Resolution.{Resolution}
use Rattle.cp_rpc.specs.declared.resolve.ResolutionView.{ResolutionView}
use Rattle.cp_messages.specs.declared.resolve.Resolution.TheVariants as resolutions
use Rattle.cp_rpc.specs.declared.resolve.ResolutionView.TheVariants as resolution_views
use Rattle.cp_messages.specs.declared.resolve.Resolve.{Resolve}
use Rattle.cp_rpc.specs.declared.resolve.ResolveView.{ResolveView}
use Rattle.cp_messages.specs.declared.disembargo.Disembargo.{Disembargo}
use Rattle.cp_rpc.specs.declared.disembargo.DisembargoView.{DisembargoView}
use Rattle.cp_messages.specs.declared.message.Message.{Message}
use Rattle.cp_messages.specs.declared.message.Message.TheVariants as messages
use Rattle.cp_rpc.specs.declared.message.MessageIn.{MessageIn}
use Rattle.cp_rpc.specs.declared.message.MessageIn.TheVariants as views

abbrev pub viewed_exception : {S : Type 0} → (S → Node) → ExceptionView S → Exception
viewed_exception seen e = record { kind = e.kind; reason = e.reason; trace = e.trace }

abbrev pub viewed_promised_answer : {S : Type 0} → (S → Node) → PromisedAnswerView S → PromisedAnswer
viewed_promised_answer seen p = record { question_id = p.question_id; transform = p.transform }

abbrev pub viewed_target : {S : Type 0} → (S → Node) → TargetView S → Target
viewed_target seen (target_views.ImportedCap id) = targets.ImportedCap id
viewed_target seen (target_views.PromisedAnswer p) = targets.PromisedAnswer (viewed_promised_answer seen p)
viewed_target seen (target_views.Unknown n) = targets.Unknown n

abbrev pub viewed_descriptor : {S : Type 0} → (S → Node) → DescriptorView S → Descriptor
viewed_descriptor seen descriptor_views.None = descriptors.None
viewed_descriptor seen (descriptor_views.SenderHosted id) = descriptors.SenderHosted id
viewed_descriptor seen (descriptor_views.SenderPromise id) = descriptors.SenderPromise id
viewed_descriptor seen (descriptor_views.ReceiverHosted id) = descriptors.ReceiverHosted id
viewed_descriptor seen (descriptor_views.ReceiverAnswer p) = descriptors.ReceiverAnswer (viewed_promised_answer seen p)
viewed_descriptor seen (descriptor_views.ThirdPartyHosted t) = descriptors.ThirdPartyHosted (seen t)
viewed_descriptor seen (descriptor_views.Unknown n) = descriptors.Unknown n

abbrev pub viewed_payload : {S : Type 0} → (S → Node) → PayloadView S → Payload
viewed_payload seen p = record { content = seen p.content; cap_table = p.cap_table }

abbrev pub viewed_send_results_to : {S : Type 0} → (S → Node) → SendResultsToView S → SendResultsTo
viewed_send_results_to seen results_to_views.Caller = results_to.Caller
viewed_send_results_to seen results_to_views.Yourself = results_to.Yourself
viewed_send_results_to seen (results_to_views.ThirdParty t) = results_to.ThirdParty (seen t)
viewed_send_results_to seen (results_to_views.Unknown n) = results_to.Unknown n

abbrev pub viewed_call : {S : Type 0} → (S → Node) → CallView S → Call
viewed_call seen c =
    record {
      question_id = c.question_id;
      method_id = c.method_id;
      send_results_to = viewed_send_results_to seen c.send_results_to;
      interface_id = c.interface_id;
      target = viewed_target seen c.target;
      params = viewed_payload seen c.params;
    }

abbrev pub viewed_returned : {S : Type 0} → (S → Node) → ReturnedView S → Returned
viewed_returned seen (return_views.Results p) = returns.Results (viewed_payload seen p)
viewed_returned seen (return_views.Exception e) = returns.Exception (viewed_exception seen e)
viewed_returned seen return_views.Canceled = returns.Canceled
viewed_returned seen return_views.ResultsSentElsewhere = returns.ResultsSentElsewhere
viewed_returned seen (return_views.TakeFromOtherQuestion q) = returns.TakeFromOtherQuestion q
viewed_returned seen (return_views.AcceptFromThirdParty t) = returns.AcceptFromThirdParty (seen t)
viewed_returned seen (return_views.Unknown n) = returns.Unknown n

abbrev pub viewed_return : {S : Type 0} → (S → Node) → ReturnView S → Return
viewed_return seen r = record { answer_id = r.answer_id; release_param_caps = r.release_param_caps; returned = viewed_returned seen r.returned }

abbrev pub viewed_resolution : {S : Type 0} → (S → Node) → ResolutionView S → Resolution
viewed_resolution seen (resolution_views.Cap d) = resolutions.Cap (viewed_descriptor seen d)
viewed_resolution seen (resolution_views.Exception e) = resolutions.Exception (viewed_exception seen e)
viewed_resolution seen (resolution_views.Unknown n) = resolutions.Unknown n

abbrev pub viewed_resolve : {S : Type 0} → (S → Node) → ResolveView S → Resolve
viewed_resolve seen r = record { promise_id = r.promise_id; resolution = viewed_resolution seen r.resolution }

abbrev pub viewed_disembargo : {S : Type 0} → (S → Node) → DisembargoView S → Disembargo
viewed_disembargo seen d = record { context = d.context; target = viewed_target seen d.target }

abbrev pub viewed_message : {S : Type 0} → (S → Node) → MessageIn S → Message
viewed_message seen (views.Unimplemented t) = messages.Unimplemented (seen t)
viewed_message seen (views.Abort e) = messages.Abort (viewed_exception seen e)
viewed_message seen (views.Call c) = messages.Call (viewed_call seen c)
viewed_message seen (views.Return r) = messages.Return (viewed_return seen r)
viewed_message seen (views.Finish f) = messages.Finish f
viewed_message seen (views.Resolve r) = messages.Resolve (viewed_resolve seen r)
viewed_message seen (views.Release r) = messages.Release r
viewed_message seen (views.Bootstrap b) = messages.Bootstrap b
viewed_message seen (views.Disembargo d) = messages.Disembargo (viewed_disembargo seen d)
viewed_message seen (views.Other which body) = messages.Other which (seen body)

-- a view shows its own tree
abbrev pub viewed : MessageIn Node → Message
viewed v = viewed_message (λ t. t) v
