-- How exchanges of a vat begin, and what becomes of one whose memory runs out.
use Rattle.std.specs.Prelude.{ℕ, List, [], ◌∷◌}
use Rattle.cp_messages.specs.declared.descriptor.Descriptor.TheVariants as descriptors
use Rattle.cp_refs.specs.declared.cap.Cap.TheVariants as caps
use Rattle.cp_refs.specs.declared.call.Origin.TheVariants as origins
use Rattle.cp_refs.specs.declared.outcome.Outcome.TheVariants as outcomes
use Rattle.cp_vat_machine.specs.Run.{Moment}
use Rattle.test_vat.specs.RowWords.{does, return_message, sends, on_import, results, bootstrap_comes, bootstrap_does}
pub use Rattle.test_vat.specs.RowWords.{comes, refusal, on_answer, one_object, small_request, small_call, x_failed}
use Rattle.cp_vat_machine.specs.declared.effect.Effect.{Effect}
use Rattle.cp_vat_machine.specs.declared.effect.Effect.TheVariants as effects
use Rattle.cp_vat_machine.specs.declared.event.Event.TheVariants as events
use Rattle.cp_vat_machine.specs.declared.event.Value.TheVariants as values
use Rattle.cp_vat_machine.specs.declared.fault.VatFault.TheVariants as refusals

abbrev pub bootstrap_answered : List Moment
bootstrap_answered = bootstrap_comes ∷ []

-- the application asks for the peer's bootstrap object
abbrev pub bootstrap_asked : List Moment
bootstrap_asked = bootstrap_does ∷ []

-- the first call of the peer's goes to the bootstrap object
abbrev pub call_comes : Moment
call_comes = comes (small_call 1 (on_import 0)) (effects.Deliver 0 (origins.Answer 1) 0 small_request ∷ [])

-- calls on what that one will give wait
abbrev pub pipelined_comes : ℕ → Moment
pipelined_comes a = comes (small_call a (on_answer 1 0)) []

abbrev pub pipelined_waits : List Moment
pipelined_waits = bootstrap_comes ∷ call_comes ∷ pipelined_comes 2 ∷ []

-- the application answers the first call with object 5, and a call that waits goes to it
abbrev object_given : List Effect → Moment
object_given deliveries =
    does
    (events.Answer (origins.Answer 1) (outcomes.Results one_object (caps.Object 5 ∷ [])))
    values.Nothing
    (sends (return_message 1 (results one_object (descriptors.SenderHosted 1 ∷ []))) ∷ deliveries)

abbrev to_object_5 : ℕ → ℕ → Effect
to_object_5 a ticket = effects.Deliver 5 (origins.Answer a) ticket small_request

abbrev pub pipelined : List Moment
pipelined = bootstrap_comes ∷ call_comes ∷ pipelined_comes 2 ∷ object_given (to_object_5 2 1 ∷ []) ∷ []

-- memory runs out, and the vat is closed
abbrev pub ran_out_of_memory : List Moment
ran_out_of_memory = refusal events.Promise refusals.OutOfMemory ∷ refusal events.Idle refusals.Closed ∷ []
