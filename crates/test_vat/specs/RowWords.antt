-- The words of exchanges: messages, calls and what follows them.
use Rattle.std.specs.Prelude.{ℕ, false, Bool, List, [], ◌∷◌, Ok, Err, codes}
use Rattle.cp_tree.specs.Node.{Node, cap, struct, no_nodes, node}
use Rattle.cp_messages.specs.declared.call.SendResultsTo.TheVariants as results_to
use Rattle.cp_messages.specs.declared.descriptor.Descriptor.{Descriptor}
use Rattle.cp_messages.specs.declared.descriptor.Descriptor.TheVariants as descriptors
use Rattle.cp_messages.specs.declared.disembargo.DisembargoContext.{DisembargoContext}
use Rattle.cp_messages.specs.declared.exception.Exception.{Exception}
use Rattle.cp_messages.specs.declared.message.Message.{Message}
use Rattle.cp_messages.specs.declared.message.Message.TheVariants as messages
use Rattle.cp_messages.specs.declared.promised_answer.Op.TheVariants as ops
use Rattle.cp_messages.specs.declared.resolve.Resolution.{Resolution}
use Rattle.cp_messages.specs.declared.returned.Returned.{Returned}
use Rattle.cp_messages.specs.declared.returned.Returned.TheVariants as returns
use Rattle.cp_messages.specs.declared.target.Target.{Target}
use Rattle.cp_messages.specs.declared.target.Target.TheVariants as targets
use Rattle.cp_refs.specs.At.{failed}
use Rattle.cp_refs.specs.declared.cap.Cap.{Cap}
use Rattle.cp_refs.specs.declared.call.Request.{Request}
use Rattle.cp_vat_machine.specs.Run.{Moment}
use Rattle.cp_vat_machine.specs.Texts.{text_of}
use Rattle.cp_vat_machine.specs.declared.effect.Effect.{Effect}
use Rattle.cp_vat_machine.specs.declared.effect.Effect.TheVariants as effects
use Rattle.cp_vat_machine.specs.declared.effect.Reason.TheVariants as reasons
use Rattle.cp_vat_machine.specs.declared.event.Event.{Event}
use Rattle.cp_vat_machine.specs.declared.event.Event.TheVariants as events
use Rattle.cp_vat_machine.specs.declared.event.Value.{Value}
use Rattle.cp_vat_machine.specs.declared.event.Value.TheVariants as values
use Rattle.cp_vat_machine.specs.declared.fault.PeerFault.{PeerFault}
use Rattle.cp_vat_machine.specs.declared.fault.VatFault.{VatFault}

-- a message comes, and these effects follow
abbrev pub comes : Message → List Effect → Moment
comes m effects = record { event = events.Receive m; result = Ok values.Nothing; effects = effects }

-- a message at fault comes, and an Abort says so
abbrev pub faults_by : Message → PeerFault → Moment
faults_by m fault = comes m (effects.Send (messages.Abort (failed (text_of fault))) ∷ effects.Closed (reasons.Fault fault) ∷ [])

-- a call of the application gives this value, and these effects follow
abbrev pub does : Event → Value → List Effect → Moment
does event value effects = record { event = event; result = Ok value; effects = effects }

-- a call of the application is refused
abbrev pub refusal : Event → VatFault → Moment
refusal event fault = record { event = event; result = Err fault; effects = [] }

-- the messages
abbrev pub bootstrap_message : ℕ → Message
bootstrap_message q = messages.Bootstrap (record { question_id = q })

abbrev pub call_message : ℕ → Target → Node → List Descriptor → Message
call_message q target content table =
    messages.Call (
    record {
      question_id = q;
      method_id = 4;
      send_results_to = results_to.Caller;
      interface_id = 9;
      target = target;
      params = record { content = content; cap_table = table };
    }
    )

abbrev pub return_message : ℕ → Returned → Message
return_message a returned = messages.Return (record { answer_id = a; release_param_caps = false; returned = returned })

abbrev pub finish_message : ℕ → Bool → Message
finish_message q release = messages.Finish (record { question_id = q; release_result_caps = release })

abbrev pub resolve_message : ℕ → Resolution → Message
resolve_message p resolution = messages.Resolve (record { promise_id = p; resolution = resolution })

abbrev pub release_message : ℕ → ℕ → Message
release_message id count = messages.Release (record { id = id; reference_count = count })

abbrev pub disembargo_message : Target → DisembargoContext → Message
disembargo_message target context = messages.Disembargo (record { context = context; target = target })

abbrev pub sends : Message → Effect
sends m = effects.Send m

-- what is called, and what is returned
abbrev pub on_import : ℕ → Target
on_import i = targets.ImportedCap i

abbrev pub on_answer : ℕ → ℕ → Target
on_answer a field = targets.PromisedAnswer (record { question_id = a; transform = ops.GetPointerField field ∷ [] })

abbrev pub on_whole_answer : ℕ → Target
on_whole_answer a = targets.PromisedAnswer (record { question_id = a; transform = [] })

abbrev pub results : Node → List Descriptor → Returned
results content table = returns.Results (record { content = content; cap_table = table })

-- a struct without parts, and one of the first capability
abbrev pub no_content : Node
no_content = struct [] no_nodes

abbrev pub one_object : Node
one_object = struct [] (node (cap 0) no_nodes)

abbrev pub request : Node → List Cap → Request
request content table = record { interface = 9; method = 4; content = content; caps = table }

abbrev pub small_request : Request
small_request = request no_content []

abbrev pub small_call : ℕ → Target → Message
small_call q target = call_message q target no_content []

abbrev pub x_failed : Exception
x_failed = failed (codes "x")

-- a Bootstrap comes, and its Return names the bootstrap object
abbrev pub bootstrap_comes : Moment
bootstrap_comes = comes (bootstrap_message 0) (sends (return_message 0 (results (cap 0) (descriptors.SenderHosted 0 ∷ []))) ∷ [])

-- the application asks for the peer's bootstrap object
abbrev pub bootstrap_does : Moment
bootstrap_does = does events.Bootstrap (values.Question 0) (sends (bootstrap_message 0) ∷ [])
