-- What comes of a message of the peer's before the vat gets it. (rpc.capnp: "Call.sendResultsTo", "Return.takeFromOtherQuestion", "Finish".)
use Rattle.std.specs.Prelude.{ℕ, ◌&&◌, Bool, true, false, if◌then◌else◌, List, [], ◌∷◌, ◌++◌, Option, Some, None, is_some}
use Rattle.std.specs.Option.{option_map}
use Rattle.std.specs.FinMap.{get, insert, remove}
use Rattle.cp_tables.specs.declared.exchange.Stage.{Stage}
use Rattle.cp_tables.specs.declared.exchange.Stage.TheVariants as stages
use Rattle.cp_messages.specs.declared.call.Call.{Call}
use Rattle.cp_messages.specs.declared.call.SendResultsTo.{SendResultsTo}
use Rattle.cp_messages.specs.declared.call.SendResultsTo.TheVariants as results_to
use Rattle.cp_messages.specs.declared.message.Message.{Message}
use Rattle.cp_messages.specs.declared.message.Message.TheVariants as messages
use Rattle.cp_messages.specs.declared.returned.Return.{Return}
use Rattle.cp_messages.specs.declared.returned.Returned.{Returned}
use Rattle.cp_messages.specs.declared.returned.Returned.TheVariants as returns
use Rattle.cp_messages.specs.declared.small.Finish.{Finish}
use Rattle.cp_tail_calls.specs.declared.forwarding.ForwardedMessage.{ForwardedMessage}
use Rattle.cp_tail_calls.specs.declared.forwarding.ForwardedMessage.TheVariants as owed
use Rattle.cp_tail_calls.specs.declared.progress.Progress.{Progress}
use Rattle.cp_tail_calls.specs.declared.progress.Progress.TheVariants as progress
use Rattle.cp_tail_calls.specs.declared.progress.Taker.{Taker}
use Rattle.cp_tail_calls.specs.Seen.{seen_from_here}
use Rattle.cp_tail_calls.specs.Tails.{Tails}

-- what comes of a message: what goes on in its place, if anything does, and what is kept then
abbrev pub Passed : Type 0
Passed = Option Message × Tails

-- it goes on as it is
abbrev pub goes_on : Tails → Message → Passed
goes_on t m = (Some m, t)

-- results of a call go to its sender
abbrev pub is_to_sender : SendResultsTo → Bool
is_to_sender results_to.Yourself = true
is_to_sender other = false

-- the same call, with results to its caller
abbrev pub to_caller : Call → Call
to_caller c = record c { send_results_to = results_to.Caller }

-- this is passed on too, last
abbrev pub with_owed : Tails → List ForwardedMessage → Tails
with_owed t more = record t { owed = t.owed ++ more }

-- the call under this question is so far
abbrev pub with_call : Tails → ℕ → Progress → Tails
with_call t q how = record t { calls = insert t.calls q how }

abbrev pub without_call : Tails → ℕ → Tails
without_call t q = record t { calls = remove t.calls q }

abbrev pub with_new_call : Tails → ℕ → Tails
with_new_call t q = if is_some (get t.calls q) then t else with_call t q progress.Untaken

-- A Call with results to its sender goes on as one with results to its caller, if the vat acts on that.
abbrev pub receive_call : (Call → Bool) → Tails → Call → Call × Tails
receive_call acts_on t c = if is_to_sender c.send_results_to && acts_on c then (to_caller c, with_new_call t c.question_id) else (c, t)

-- the Return of a call whose results were sent elsewhere
abbrev pub sent_elsewhere : ℕ → Bool → Message
sent_elsewhere q release = messages.Return (record { answer_id = q; release_param_caps = release; returned = returns.ResultsSentElsewhere })

-- the Return of a question, with the results that the vat gave a call of the peer's
abbrev pub return_to : Taker → Returned → Message
return_to taker returned =
    messages.Return (record { answer_id = taker.question; release_param_caps = taker.release_param_caps; returned = seen_from_here returned })

-- The Finish of a call: the peer never got the exports that its results named, so the vat lowers them.
abbrev pub finish_of : ℕ → Finish
finish_of q = record { question_id = q; release_result_caps = true }

-- what is passed on when a question takes results
abbrev pub finish_if : Bool → ℕ → List ForwardedMessage
finish_if is_finished q = if is_finished then (owed.ToVat (messages.Finish (finish_of q)) ∷ []) else []

abbrev pub given : ℕ → Taker → Returned → List ForwardedMessage
given q taker returned = owed.ToVat (return_to taker returned) ∷ finish_if taker.is_finished q

-- A question takes the results of a call: they are there, or it gets them once they are.
abbrev pub taken : Tails → ℕ → Taker → Option Return → Tails
taken t q taker (Some r) =
    record t {
      calls = insert t.calls q progress.Given;
      results = remove t.results q;
      owed = t.owed ++ owed.ToPeer (sent_elsewhere q r.release_param_caps) ∷ given q taker r.returned;
    }
taken t q taker None = record t { calls = insert t.calls q (progress.Taken taker); takers = insert t.takers taker.question q }

-- no question took the results of a call
abbrev pub is_untaken : Option Progress → Bool
is_untaken (Some progress.Untaken) = true
is_untaken other = false

-- the Return of a question is due
abbrev pub is_due : Option Stage → Bool
is_due (Some stages.Open) = true
is_due (Some stages.Finished) = true
is_due other = false

-- The vat finds a Return of no question at fault, as a second one of a question.
abbrev pub return_of_none : Return
return_of_none = record { answer_id = 4294967295; release_param_caps = false; returned = returns.Canceled }

-- the question takes the results of another call
abbrev pub taker_by : Return → Taker
taker_by r = record { question = r.answer_id; release_param_caps = r.release_param_caps; is_finished = false }

-- A Return that takes the results of a call goes no further. (One that can't goes on, and the vat doesn't act on it.)
abbrev pub receive_returned : (ℕ → Option Stage) → Tails → Return → Returned → Passed
receive_returned stage t r (returns.TakeFromOtherQuestion q) =
    if is_due (stage r.answer_id) && is_untaken (get t.calls q) then (None, taken t q (taker_by r) (get t.results q)) else goes_on t (messages.Return r)
receive_returned stage t r other = goes_on t (messages.Return r)

-- Any Return of a question that waits for results which it took is a second one.
abbrev pub receive_return : (ℕ → Option Stage) → Tails → Return → Passed
receive_return stage t r =
    if is_some (get t.takers r.answer_id) then goes_on t (messages.Return return_of_none) else receive_returned stage t r r.returned

-- A Finish before a question took the results: those that are there are let go, and those that are to come won't be kept.
abbrev pub let_go : Tails → ℕ → Option Return → Tails
let_go t q (Some r) =
    record t { calls = remove t.calls q; results = remove t.results q; owed = t.owed ++ owed.ToPeer (sent_elsewhere q r.release_param_caps) ∷ [] }
let_go t q None = with_call t q progress.GivenUp

-- what comes of a Finish
abbrev pub Finishing : Type 0
Finishing = Option Finish × Tails

-- A Finish before the results are there that a question takes waits for them. After a second one the vat gets both, which is a fault.
abbrev pub finish_taken : Tails → Finish → Taker → Finishing
finish_taken t f taker =
    if taker.is_finished then (Some f, record t { owed = t.owed ++ owed.ToVat (messages.Finish (finish_of f.question_id)) ∷ [] })
    else (None, with_call t f.question_id (progress.Taken (record taker { is_finished = true })))

-- A Finish of a call with results to its sender goes on as one by which what its results named is lowered.
abbrev pub receive_finish_of : Tails → Finish → Option Progress → Finishing
receive_finish_of t f (Some progress.Untaken) = (Some (finish_of f.question_id), let_go t f.question_id (get t.results f.question_id))
receive_finish_of t f (Some (progress.Taken taker)) = finish_taken t f taker
receive_finish_of t f (Some progress.Given) = (Some (finish_of f.question_id), without_call t f.question_id)
receive_finish_of t f other = (Some f, t)

abbrev pub receive_finish : Tails → Finish → Finishing
receive_finish t f = receive_finish_of t f (get t.calls f.question_id)

-- what comes of a message of the peer's, by what the vat acts on and by the stages of its questions
abbrev pub received : (Call → Bool) → (ℕ → Option Stage) → Tails → Message → Passed
received acts_on stage t (messages.Call c) = (Some (messages.Call (receive_call acts_on t c).0), (receive_call acts_on t c).1)
received acts_on stage t (messages.Return r) = receive_return stage t r
received acts_on stage t (messages.Finish f) = (option_map (λ f. messages.Finish f) (receive_finish t f).0, (receive_finish t f).1)
received acts_on stage t other = goes_on t other
