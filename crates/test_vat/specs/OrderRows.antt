-- Exchanges that a vat is never to make, and some that it is, for the order of calls.
use Rattle.std.specs.Prelude.{◌≡◌, ℕ, zero, suc, false, List, [], ◌∷◌, ◌++◌, Some, None, Ok, swap}
use Rattle.cp_tree.specs.Node.{cap}
use Rattle.cp_messages.specs.declared.message.Message.TheVariants as messages
use Rattle.cp_messages.specs.declared.promised_answer.PromisedAnswer.{PromisedAnswer}
use Rattle.cp_messages.specs.declared.returned.Returned.TheVariants as returns
use Rattle.cp_messages.specs.declared.descriptor.Descriptor.TheVariants as descriptors
use Rattle.cp_messages.specs.declared.target.Target.TheVariants as targets
use Rattle.cp_messages.specs.declared.message.Message.{Message}
use Rattle.cp_refs.specs.declared.cap.Cap.{Cap}
use Rattle.cp_refs.specs.declared.cap.Cap.TheVariants as caps
use Rattle.cp_refs.specs.declared.call.Request.{Request}
use Rattle.cp_refs.specs.declared.outcome.Outcome.{Outcome}
use Rattle.cp_refs.specs.declared.call.Origin.TheVariants as origins
use Rattle.cp_refs.specs.declared.outcome.Outcome.TheVariants as outcomes
use Rattle.cp_vat_machine.specs.Writing.{promised}
use Rattle.cp_vat_machine.specs.Receiving.{answer_of}
use Rattle.cp_vat_machine.specs.Telling.{EachHasItsOwn}
use Rattle.cp_vat_machine.specs.Give.{return_of}
use Rattle.cp_vat_machine.specs.Go.{call_of}
use Rattle.cp_vat_machine.specs.Run.{Moment, Run}
use Rattle.cp_vat_machine.specs.Trace.{Turn, trace_of}
use Rattle.cp_vat_machine.specs.InOrder.{InOrder}
use Rattle.cp_vat_machine.specs.declared.effect.Effect.{Effect}
use Rattle.cp_vat_machine.specs.declared.effect.Effect.TheVariants as effects
use Rattle.cp_vat_machine.specs.declared.event.Event.TheVariants as events
use Rattle.cp_vat_machine.specs.declared.event.Value.TheVariants as values
use Rattle.test_vat.specs.Rows.{comes, bootstrap_asked, bootstrap_answered, call_comes, pipelined_waits, small_call, on_answer, small_request, one_object}

-- no run is these moments
abbrev pub IsNoRun : List Moment → Type 0
IsNoRun history = Run (Some 0) history → ⊥

-- these moments are a run, and its turns, changed so, aren't in order
abbrev pub IsOrderedUnless : List Moment → (List Turn → List Turn) → Type 0
IsOrderedUnless history change = (run : Run (Some 0) history) × (InOrder (change (trace_of (Some 0) history run)) → ⊥)

-- Two receiverAnswers of one answer that wasn't given aren't taken in as one promise.
abbrev pub TwoAreNotOne : Type 0
TwoAreNotOne =
    (turn : Turn) (answer : PromisedAnswer) (p : ℕ) → answer_of turn.before answer.question_id ≡ Some None
    → ¬ (EachHasItsOwn turn (descriptors.ReceiverAnswer answer ∷ descriptors.ReceiverAnswer answer ∷ []) (caps.Promise p ∷ caps.Promise p ∷ []))

-- other turns for the one at this place, where the latest is the first
abbrev pub change_at : ℕ → (Turn → List Turn) → List Turn → List Turn
change_at i change [] = []
change_at zero change (turn ∷ past) = change turn ++ past
change_at (suc i) change (turn ∷ past) = turn ∷ change_at i change past

-- the turn of the latest call before the one before it; a call that goes twice, goes elsewhere or doesn't go; and an outcome that isn't reported
abbrev pub other_way : List Turn → List Turn
other_way turns = swap turns 1 2

abbrev pub going_twice : List Turn → List Turn
going_twice turns = change_at 1 (λ turn. turn ∷ turn ∷ []) turns

abbrev pub going_elsewhere : List Turn → List Turn
going_elsewhere turns = change_at 1 (λ turn. record turn { effects = effects.Deliver 6 (origins.Answer 2) 1 small_request ∷ [] } ∷ []) turns

abbrev pub never_going : List Turn → List Turn
never_going turns = change_at 1 (λ turn. []) turns

abbrev pub telling_nothing : List Turn → List Turn
telling_nothing turns = change_at 2 (λ turn. record turn { effects = [] } ∷ []) turns

-- the bootstrap object's export is counted twice, and one Release lowers it by both; another one isn't taken as if it had lowered it by one
abbrev pub released_twice : List Moment
released_twice =
    bootstrap_answered
    ++ comes (messages.Bootstrap (record { question_id = 1 })) (return_of 1 (returns.Results (record { content = cap 0; cap_table = descriptors.SenderHosted 0 ∷ [] })) ∷ [])
    ∷ comes (messages.Release (record { id = 0; reference_count = 2 })) []
    ∷ comes (messages.Release (record { id = 0; reference_count = 1 })) []
    ∷ []

-- The first call is answered with object 5: a Return of this number, and these deliveries.
abbrev pub answered : ℕ → List Effect → Moment
answered a deliveries =
    record {
      event = events.Answer (origins.Answer 1) (outcomes.Results one_object (caps.Object 5 ∷ []));
      result = Ok values.Nothing;
      effects = return_of a (returns.Results (record { content = one_object; cap_table = descriptors.SenderHosted 1 ∷ [] })) ∷ deliveries;
    }

abbrev pub delivered_to : ℕ → ℕ → Effect
delivered_to a ticket = effects.Deliver 5 (origins.Answer a) ticket small_request

-- one call waits for that answer, and is delivered; it isn't dropped
abbrev pub one_leaves : List Effect → List Moment
one_leaves deliveries = pipelined_waits ++ answered 1 deliveries ∷ []

abbrev pub one_in_order : List Moment
one_in_order = one_leaves (delivered_to 2 1 ∷ [])

abbrev pub waiting_dropped : List Moment
waiting_dropped = one_leaves []

-- two calls wait for it, and the earlier one is delivered first
abbrev pub two_leave : List Effect → List Moment
two_leave deliveries = pipelined_waits ++ comes (small_call 3 (on_answer 1 0)) [] ∷ answered 1 deliveries ∷ []

abbrev pub two_in_order : List Moment
two_in_order = two_leave (delivered_to 2 1 ∷ delivered_to 3 2 ∷ [])

abbrev pub other_way_round : List Moment
other_way_round = two_leave (delivered_to 3 2 ∷ delivered_to 2 1 ∷ [])

-- the first call's results aren't given to the second
abbrev pub given_to_another : List Moment
given_to_another = bootstrap_answered ++ call_comes ∷ answered 2 [] ∷ []

-- What the application's Bootstrap will give comes to its own object 3, while a call that was sent on it is on its way back: the next call isn't
-- delivered at once.
abbrev pub bootstrap_cap : Cap
bootstrap_cap = caps.Pipelined 0 []

abbrev pub with_object : Request
with_object = record small_request { content = one_object; caps = caps.Object 3 ∷ [] }

abbrev pub object_3 : Outcome
object_3 = outcomes.Results (cap 0) (caps.Object 3 ∷ [])

abbrev pub object_returned : Message
object_returned =
    messages.Return (
    record {
      answer_id = 0;
      release_param_caps = false;
      returned = returns.Results (record { content = cap 0; cap_table = descriptors.ReceiverHosted 0 ∷ [] });
    }
    )

abbrev pub embargo_skipped : List Moment
embargo_skipped =
    bootstrap_asked
    ++ record {
      event = events.Call bootstrap_cap with_object;
      result = Ok (values.Question 1);
      effects = call_of 1 (targets.PromisedAnswer (promised 0 [])) with_object (descriptors.SenderHosted 0 ∷ []) ∷ [];
    }
    ∷ comes object_returned (effects.Settled 0 object_3 ∷ [])
    ∷ record { event = events.Call bootstrap_cap small_request; result = Ok (values.Question 2); effects = effects.Deliver 3 (origins.Own 2) 1 small_request ∷ [] }
    ∷ []
