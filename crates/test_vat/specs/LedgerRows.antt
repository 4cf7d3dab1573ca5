-- Exchanges beside what the Ledger says of their messages.
use Rattle.std.specs.Prelude.{ℕ, true, false, Bool, List, [], ◌∷◌, ◌++◌, Option}
use Rattle.cp_tree.specs.Node.{cap}
use Rattle.cp_tables.specs.declared.exchange.Stage.{Stage}
use Rattle.cp_messages.specs.Written.{message_written}
use Rattle.cp_messages.specs.declared.call.SendResultsTo.TheVariants as results_to
use Rattle.cp_messages.specs.declared.descriptor.Descriptor.TheVariants as descriptors
use Rattle.cp_messages.specs.declared.message.Message.{Message}
use Rattle.cp_messages.specs.declared.message.Message.TheVariants as messages
use Rattle.cp_messages.specs.declared.resolve.Resolution.TheVariants as resolutions
use Rattle.cp_messages.specs.declared.returned.Returned.TheVariants as returns
use Rattle.cp_refs.specs.declared.cap.Cap.TheVariants as caps
use Rattle.cp_refs.specs.declared.call.Origin.TheVariants as origins
use Rattle.cp_refs.specs.declared.outcome.Outcome.TheVariants as outcomes
use Rattle.cp_vat_machine.specs.Run.{Moment}
use Rattle.cp_vat_machine.specs.declared.effect.Effect.TheVariants as effects
use Rattle.cp_vat_machine.specs.declared.event.Event.TheVariants as events
use Rattle.cp_vat_machine.specs.declared.event.Value.TheVariants as values
use Rattle.cp_vat_pair_laws.specs.Ledger.{past_of, export_count, import_count, question_stage, answer_stage}
use Rattle.cp_vat_pair_laws.specs.LocalQuestions.{local_question}
use Rattle.test_vat.specs.RowWords.{comes, does, bootstrap_message, call_message, return_message, finish_message, resolve_message, release_message, sends, on_import, on_answer, small_call, small_request, results, no_content, one_object, request, x_failed, bootstrap_comes, bootstrap_does}
use Rattle.test_vat.specs.Rows.{call_comes}

-- a promise of the application is exported, calls wait at it, and they go when it is resolved, after the Resolve
abbrev pub promise_exported : List Moment
promise_exported =
    does events.Promise (values.Promise 0) []
    ∷ bootstrap_comes
    ∷ call_comes
    ∷ does
    (events.Answer (origins.Answer 1) (outcomes.Results one_object (caps.Promise 0 ∷ [])))
    values.Nothing
    (sends (return_message 1 (results one_object (descriptors.SenderPromise 1 ∷ []))) ∷ [])
    ∷ comes (small_call 2 (on_import 1)) []
    ∷ comes (small_call 3 (on_answer 1 0)) []
    ∷ does
    (events.Resolve 0 (caps.Object 5))
    values.Nothing
    (sends (resolve_message 1 (resolutions.Cap (descriptors.SenderHosted 2)))
    ∷ effects.Deliver 5 (origins.Answer 2) 1 small_request
    ∷ effects.Deliver 5 (origins.Answer 3) 2 small_request
    ∷ [])
    ∷ []

-- what the Ledger says of an exchange's messages
abbrev pub exported : List Moment → ℕ → ℕ
exported history e = export_count (past_of history) e

abbrev pub imported : List Moment → ℕ → ℕ
imported history i = import_count (past_of history) i

abbrev pub asked : List Moment → ℕ → Option Stage
asked history q = question_stage (past_of history) q

abbrev pub answered : List Moment → ℕ → Option Stage
answered history a = answer_stage (past_of history) a

abbrev pub called_here : List Moment → ℕ → Option Stage
called_here history q = (local_question history q).stage

abbrev pub is_delivered : List Moment → ℕ → Bool
is_delivered history q = (local_question history q).is_delivered

-- a call's params name an export twice
abbrev pub params_named : List Moment
params_named =
    bootstrap_does
    ∷ comes
    (return_message 0 (results (cap 0) (descriptors.SenderHosted 7 ∷ [])))
    (effects.Settled 0 (outcomes.Results (cap 0) (caps.Import 7 ∷ [])) ∷ [])
    ∷ does
    (events.Call (caps.Import 7) (request one_object (caps.Object 3 ∷ caps.Object 3 ∷ [])))
    (values.Question 1)
    (sends (call_message 1 (on_import 7) one_object (descriptors.SenderHosted 0 ∷ descriptors.SenderHosted 0 ∷ [])) ∷ [])
    ∷ []

-- its Return gives them back
abbrev pub params_given_back : List Moment
params_given_back =
    params_named
    ++ comes
    (messages.Return (record { answer_id = 1; release_param_caps = true; returned = results no_content [] }))
    (effects.Settled 1 (outcomes.Results no_content []) ∷ [])
    ∷ []

-- the bootstrap object is given to two questions, and a Finish of the first gives it back once
abbrev pub results_named : List Moment
results_named =
    bootstrap_comes ∷ comes (bootstrap_message 1) (sends (return_message 1 (results (cap 0) (descriptors.SenderHosted 0 ∷ []))) ∷ []) ∷ []

abbrev pub results_given_back : List Moment
results_given_back = results_named ++ comes (finish_message 0 true) [] ∷ []

-- one before the Return gives back nothing, also where an answer of that number named something before
abbrev pub finished_again : List Moment
finished_again =
    bootstrap_comes
    ∷ comes (finish_message 0 false) []
    ∷ comes (call_message 0 (on_import 0) no_content []) (effects.Deliver 0 (origins.Answer 0) 0 (request no_content []) ∷ [])
    ∷ comes (finish_message 0 true) []
    ∷ []

-- the Return that follows is canceled, and the answer is gone
abbrev pub canceled : List Moment
canceled =
    finished_again
    ++ does (events.Answer (origins.Answer 0) (outcomes.Results one_object (caps.Object 5 ∷ []))) values.Nothing (sends (return_message 0 returns.Canceled) ∷ [])
    ∷ []

-- a promise is resolved to an object by a Resolve that the peer doesn't know
abbrev pub resolve_given_back : List Moment
resolve_given_back =
    promise_exported
    ++ comes (messages.Unimplemented (message_written (resolve_message 1 (resolutions.Cap (descriptors.SenderHosted 2))))) []
    ∷ []

-- the application finishes a question, and its Return names an import
abbrev pub return_ignored : List Moment
return_ignored =
    bootstrap_does
    ∷ does (events.Finish 0) values.Nothing (sends (finish_message 0 true) ∷ [])
    ∷ comes (return_message 0 (results (cap 0) (descriptors.SenderHosted 7 ∷ []))) []
    ∷ []

-- a call whose results are to go elsewhere isn't supported, and names an import
abbrev tail_call : Message
tail_call =
    messages.Call (
    record {
      question_id = 0;
      method_id = 4;
      send_results_to = results_to.Yourself;
      interface_id = 9;
      target = on_import 0;
      params = record { content = one_object; cap_table = descriptors.SenderHosted 7 ∷ [] };
    }
    )

abbrev pub call_sent_back : List Moment
call_sent_back = comes tail_call (sends (messages.Unimplemented (message_written tail_call)) ∷ []) ∷ []

-- an import is taken in twice, and given back with its whole count
abbrev pub import_taken : List Moment
import_taken =
    bootstrap_does
    ∷ comes
    (return_message 0 (results (cap 0) (descriptors.SenderHosted 7 ∷ descriptors.SenderHosted 7 ∷ [])))
    (effects.Settled 0 (outcomes.Results (cap 0) (caps.Import 7 ∷ caps.Import 7 ∷ [])) ∷ [])
    ∷ []

abbrev pub import_given_back : List Moment
import_given_back =
    import_taken
    ++ does (events.Finish 0) values.Nothing (sends (finish_message 0 false) ∷ [])
    ∷ does (events.Release 7) values.Nothing (sends (release_message 7 2) ∷ [])
    ∷ []

-- a call on a promise of the application waits, and isn't sent
abbrev pub local_asked : List Moment
local_asked = does events.Promise (values.Promise 0) [] ∷ does (events.Call (caps.Promise 0) small_request) (values.Question 0) [] ∷ []

-- the promise is resolved to an object, which gets the call and answers it; and the question is finished
abbrev delivers : Moment
delivers = does (events.Resolve 0 (caps.Object 5)) values.Nothing (effects.Deliver 5 (origins.Own 0) 0 small_request ∷ [])

abbrev pub local_delivered : List Moment
local_delivered = local_asked ++ delivers ∷ []

abbrev pub local_settled : List Moment
local_settled =
    local_delivered
    ++ does
    (events.Answer (origins.Own 0) (outcomes.Results no_content []))
    values.Nothing
    (effects.Settled 0 (outcomes.Results no_content []) ∷ [])
    ∷ []

abbrev finishes : Moment
finishes = does (events.Finish 0) values.Nothing []

abbrev pub local_over : List Moment
local_over = local_settled ++ finishes ∷ []

-- it is finished first, and its answer isn't reported
abbrev pub local_finished : List Moment
local_finished = local_asked ++ finishes ∷ []

abbrev pub finished_delivered : List Moment
finished_delivered = local_finished ++ delivers ∷ []

abbrev pub finished_over : List Moment
finished_over = finished_delivered ++ does (events.Answer (origins.Own 0) (outcomes.Results no_content [])) values.Nothing [] ∷ []

-- the promise is broken: the call fails, which is reported unless it was finished
abbrev pub local_failed : List Moment
local_failed =
    local_asked ++ does (events.Resolve 0 (caps.Broken x_failed)) values.Nothing (effects.Settled 0 (outcomes.Failed x_failed) ∷ []) ∷ []

abbrev pub finished_failed : List Moment
finished_failed = local_finished ++ does (events.Resolve 0 (caps.Broken x_failed)) values.Nothing [] ∷ []

-- the promise is resolved to an import, and the call is sent
abbrev pub before_import : List Moment
before_import =
    bootstrap_does
    ∷ comes
    (return_message 0 (results (cap 0) (descriptors.SenderHosted 7 ∷ [])))
    (effects.Settled 0 (outcomes.Results (cap 0) (caps.Import 7 ∷ [])) ∷ [])
    ∷ does events.Promise (values.Promise 0) []
    ∷ does (events.Call (caps.Promise 0) small_request) (values.Question 1) []
    ∷ []

abbrev pub local_sent : List Moment
local_sent = before_import ++ does (events.Resolve 0 (caps.Import 7)) values.Nothing (sends (small_call 1 (on_import 7)) ∷ []) ∷ []
