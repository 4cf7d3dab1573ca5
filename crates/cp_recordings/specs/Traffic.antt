-- What is open of a connection after each message: the questions of each end, and the capabilities that it holds of the other end.
use Rattle.std.specs.Prelude.{◌≡◌, ℕ, nat_lt, ◌+◌, ◌-◌, ◌^◌, min, Bool, true, false, if◌then◌else◌, Option, Some, None, List, [], fold}
use Rattle.std.specs.Option.{option_to_list}
use Rattle.std.specs.List.{flat_map}
use Rattle.std.specs.FinMap.{get, insert, remove}
use Rattle.cp_tables.specs.Table.{Table}
use Rattle.cp_schema.specs.declared.call.MethodNumber.{MethodNumber}
use Rattle.cp_messages.specs.declared.call.Call.{Call}
use Rattle.cp_messages.specs.declared.descriptor.Descriptor.{Descriptor}
use Rattle.cp_messages.specs.declared.descriptor.Descriptor.TheVariants as descriptors
use Rattle.cp_messages.specs.declared.returned.Return.{Return}
use Rattle.cp_messages.specs.declared.returned.Returned.{Returned}
use Rattle.cp_messages.specs.declared.returned.Returned.TheVariants as returns
use Rattle.cp_messages.specs.declared.resolve.Resolve.{Resolve}
use Rattle.cp_messages.specs.declared.resolve.Resolution.{Resolution}
use Rattle.cp_messages.specs.declared.resolve.Resolution.TheVariants as resolutions
use Rattle.cp_messages.specs.declared.message.Message.{Message}
use Rattle.cp_messages.specs.declared.message.Message.TheVariants as messages
use Rattle.cp_recordings.specs.declared.side.Side.{Side}
use Rattle.cp_recordings.specs.declared.side.Side.TheVariants as sides
use Rattle.cp_recordings.specs.declared.session.Moment.{Moment}
use Rattle.cp_recordings.specs.declared.traffic.Question.{Question}
use Rattle.cp_recordings.specs.declared.traffic.CapSource.{CapSource}
use Rattle.cp_recordings.specs.declared.traffic.CapSource.TheVariants as sources
use Rattle.cp_recordings.specs.declared.traffic.Holding.{Holding}
use Rattle.cp_recordings.specs.declared.traffic.EndState.{EndState}
use Rattle.cp_recordings.specs.declared.traffic.Traffic.{Traffic}

-- the number of the export that a descriptor of its sender gives
abbrev pub hosted_id : Descriptor → Option ℕ
hosted_id (descriptors.SenderHosted id) = Some id
hosted_id (descriptors.SenderPromise id) = Some id
hosted_id other = None

-- those that a table gives, in its order
abbrev pub hosted : List Descriptor → List ℕ
hosted table = flat_map (λ d. option_to_list (hosted_id d)) table

-- a capability that was given once more; how it came first stays
abbrev pub given_again : Option Holding → CapSource → Holding
given_again (Some held) source = record held { count = min (held.count + 1) (2 ^ 64 - 1) }
given_again None source = record { count = 1; source = source }

-- an end holds a capability once more
abbrev pub holding : EndState → ℕ → CapSource → EndState
holding end id source = record end { holdings = insert end.holdings id (given_again (get end.holdings id) source) }

-- an end holds each of these once more
abbrev pub holding_all : EndState → List ℕ → CapSource → EndState
holding_all end ids source = fold (λ e id. holding e id source) end ids

-- what is held after a capability was given up so often
abbrev pub left_of : Table Holding → ℕ → ℕ → Option Holding → Table Holding
left_of holdings id count None = remove holdings id
left_of holdings id count (Some held) =
    if nat_lt count held.count then insert holdings id (record held { count = held.count - count }) else remove holdings id

-- an end gives a capability up so often
abbrev pub giving_up : EndState → ℕ → ℕ → EndState
giving_up end id count = record end { holdings = left_of end.holdings id count (get end.holdings id) }

-- an end gives each of these up once
abbrev pub giving_up_all : EndState → List ℕ → EndState
giving_up_all end ids = fold (λ e id. giving_up e id 1) end ids

-- the numbers of an entry, none where there is no entry
abbrev pub ids_of : Option (List ℕ) → List ℕ
ids_of (Some ids) = ids
ids_of None = []

-- a question that was asked at a time
abbrev pub new_question : Option MethodNumber → ℕ → Question
new_question method time = record { method = method; time = time; is_answered = false; finish = None }

-- an end asks a question, whose params lend these
abbrev pub asking : EndState → ℕ → Question → List ℕ → EndState
asking end number question lent =
    record end { questions = insert end.questions number question; lent = insert end.lent number lent; given = remove end.given number }

-- a question is over
abbrev pub closing : EndState → ℕ → EndState
closing end number =
    record end { questions = remove end.questions number; lent = remove end.lent number; given = remove end.given number }

-- A question gets its Return, whose results give these. Before its Finish both are remembered. After it the question is over, and what the Finish gave up isn't held.
abbrev pub answering_after : EndState → ℕ → Question → List ℕ → CapSource → Option Bool → EndState
answering_after end number question given source None =
    let held = holding_all end given source in
    record held { questions = insert held.questions number (record question { is_answered = true }); given = insert held.given number given }
answering_after end number question given source (Some false) = holding_all (closing end number) given source
answering_after end number question given source (Some true) = closing end number

abbrev pub answering : EndState → ℕ → Question → List ℕ → EndState
answering end number question given =
    answering_after end number question given (sources.Results number question.method) question.finish

-- A question gets its Finish. Before its Return that is remembered. After it the question is over, and what the Finish gives up isn't held.
abbrev pub finishing_of : EndState → ℕ → Bool → Option Question → EndState
finishing_of end number gives_up None = end
finishing_of end number gives_up (Some question) =
    if question.is_answered
    then (if gives_up then giving_up_all (closing end number) (ids_of (get end.given number)) else closing end number)
    else record end { questions = insert end.questions number (record question { finish = Some gives_up }) }

abbrev pub finishing : EndState → ℕ → Bool → EndState
finishing end number gives_up = finishing_of end number gives_up (get end.questions number)

-- Both ends after a message of one, its own, and the question that it answers.
pub record Taken : Type 0 where
  pub own : EndState
  pub other : EndState
  pub answered : Option Question

-- the method of a call
abbrev pub method_of : Call → Option MethodNumber
method_of call = Some (record { interface = call.interface_id; method = call.method_id })

-- a call is a question, and the other end holds what its params lend
abbrev pub called : EndState → EndState → ℕ → Call → Taken
called own other time call =
    let lent = hosted call.params.cap_table in
    record {
      own = asking own call.question_id (new_question (method_of call) time) lent;
      other = holding_all other lent (sources.Params call.question_id (method_of call));
      answered = None;
    }

-- what the results of a Return give
abbrev pub given_by : Returned → List ℕ
given_by (returns.Results payload) = hosted payload.cap_table
given_by other = []

-- An open question gets its Return, which may give up what the question's params lent.
abbrev pub returned_after : EndState → EndState → Return → Question → Taken
returned_after own other r question =
    if r.release_param_caps
    then record {
      own = giving_up_all own (ids_of (get other.lent r.answer_id));
      other = answering (record other { lent = remove other.lent r.answer_id }) r.answer_id question (given_by r.returned);
      answered = Some question;
    }
    else record { own = own; other = answering other r.answer_id question (given_by r.returned); answered = Some question }

-- a Return answers the question of its number, if that isn't answered
abbrev pub returned_of : EndState → EndState → Return → Option Question → Taken
returned_of own other r None = record { own = own; other = other; answered = None }
returned_of own other r (Some question) =
    if question.is_answered then record { own = own; other = other; answered = None } else returned_after own other r question

abbrev pub returned_to : EndState → EndState → Return → Taken
returned_to own other r = returned_of own other r (get other.questions r.answer_id)

-- an end holds what a promise came to, if that is a capability of the sender
abbrev pub resolved_by : EndState → ℕ → Option ℕ → EndState
resolved_by end promise (Some id) = holding end id (sources.Promise promise)
resolved_by end promise None = end

abbrev pub resolved_as : EndState → ℕ → Resolution → EndState
resolved_as end promise (resolutions.Cap descriptor) = resolved_by end promise (hosted_id descriptor)
resolved_as end promise other = end

abbrev pub resolved : EndState → Resolve → EndState
resolved end r = resolved_as end r.promise_id r.resolution

-- a message that changes nothing
abbrev pub unchanged : EndState → EndState → Taken
unchanged own other = record { own = own; other = other; answered = None }

-- both ends after a message of one
abbrev pub taken : EndState → EndState → ℕ → Message → Taken
taken own other time (messages.Bootstrap b) = unchanged (asking own b.question_id (new_question None time) []) other
taken own other time (messages.Call call) = called own other time call
taken own other time (messages.Return r) = returned_to own other r
taken own other time (messages.Finish f) = unchanged (finishing own f.question_id f.release_result_caps) other
taken own other time (messages.Resolve r) = unchanged own (resolved other r)
taken own other time (messages.Release r) = unchanged (giving_up own r.id r.reference_count) other
taken own other time message = unchanged own other

-- what is open of an end
abbrev pub end_of : Traffic → Side → EndState
end_of t sides.Client = t.client
end_of t sides.Server = t.server

-- the end that one talks with
abbrev pub opposite : Side → Side
opposite sides.Client = sides.Server
opposite sides.Server = sides.Client

-- what is open after a message that went at a moment, which answers this
abbrev pub taken_by : Traffic → Traffic → Moment → Option Question → Message → Type 0
taken_by old new moment answered message =
    record { own = end_of new moment.side; other = end_of new (opposite moment.side); answered = answered }
    ≡ taken (end_of old moment.side) (end_of old (opposite moment.side)) moment.time message
