-- What is kept of each message that goes, where rules are on what calls gave.
use Rattle.std.specs.Prelude.{ℕ, ◌+◌, ◌&&◌, Bool, true, false, if◌then◌else◌, List, [], length, Option, Some, None}
use Rattle.std.specs.Option.{option_map_or}
use Rattle.std.specs.FinMap.{get, insert}
use Rattle.std.specs.Int.RustNames.{bit_or}
use Rattle.cp_messages.specs.declared.call.Call.{Call}
use Rattle.cp_messages.specs.declared.returned.Return.{Return}
use Rattle.cp_messages.specs.declared.resolve.Resolve.{Resolve}
use Rattle.cp_messages.specs.declared.message.Message.{Message}
use Rattle.cp_messages.specs.declared.message.Message.TheVariants as messages
use Rattle.cp_relay.specs.declared.rules.Rules.{Rules}
use Rattle.cp_relay.specs.declared.rules.Grant.{Grant}
use Rattle.cp_relay.specs.declared.ruling.Breach.{Breach}
use Rattle.cp_relay.specs.declared.ruling.Breach.TheVariants as breaches
use Rattle.cp_relay.specs.declared.references.QuestionStage.{QuestionStage}
use Rattle.cp_relay.specs.declared.references.QuestionStage.TheVariants as stages
use Rattle.cp_relay.specs.declared.references.Question.{Question}
use Rattle.cp_relay.specs.declared.references.Side.{Side}
use Rattle.cp_relay.specs.declared.references.References.{References}
use Rattle.cp_relay.specs.Rules.{marks_after}
use Rattle.cp_relay.specs.References.{raised, raised_all, lowered, marks_of, has_room, opened, closed, lent, answered, finished, hosted_numbers, returned_numbers, resolved_number}

-- what is kept then of the end that sent the message, and why the connection is closed, if it is
pub record Sent : Type 0 where
  pub breach : Option Breach
  pub side : Side

abbrev pub sending : Option Breach → Side → Sent
sending breach side = record { breach = breach; side = side }

-- and of the end that it goes to
pub record Between : Type 0 where
  pub breach : Option Breach
  pub from : Side
  pub to : Side

abbrev pub between : Option Breach → Side → Side → Between
between breach from to = record { breach = breach; from = from; to = to }

-- What a call gives has the marks of the rules after its method, and those of what it goes to.
abbrev pub gained : List Grant → Side → Call → ℕ
gained grants to call =
    let after = marks_after call.interface_id call.method_id 0 grants in
    option_map_or (λ marks. bit_or after marks) (marks_of to call.target) after

-- A question is asked, whose number no other has. Its params give references under these numbers, with the marks of what its results give.
abbrev pub asked_by : Side → Side → ℕ → ℕ → List ℕ → Option Question → Between
asked_by from to question marks numbers (Some other) = between (Some (breaches.Reused question)) from to
asked_by from to question marks numbers None =
    if has_room to 1 && has_room from (length numbers) then between None (lent from question marks numbers) (opened to question marks) else between (Some breaches.Full) from to

abbrev pub asked : Side → Side → ℕ → ℕ → List ℕ → Between
asked from to question marks numbers = asked_by from to question marks numbers (get to.questions question)

-- results give references under these numbers, which have the question's marks
abbrev pub results_followed : Side → ℕ → ℕ → List ℕ → Sent
results_followed side question marks numbers =
    if has_room side (length numbers) then
    sending None (record side { given = raised_all side.shares side.given marks numbers; questions = insert side.questions question (record { stage = stages.Returned; marks = marks; numbers = numbers }); kept = side.kept + length numbers })
    else sending (Some breaches.Full) side

-- the question is over, unless the connection is
abbrev pub then_closed : ℕ → Option Breach → Side → Sent
then_closed question (Some breach) side = sending (Some breach) side
then_closed question None side = sending None (closed side question false)

-- A Return comes to a question at this stage. One that was finished is over then, and what it would give back isn't given.
abbrev pub return_at : Side → Return → ℕ → QuestionStage → Sent
return_at side r marks stages.Open = results_followed side r.answer_id marks (returned_numbers r.returned)
return_at side r marks stages.Finished =
    let given = results_followed side r.answer_id marks (returned_numbers r.returned) in
    then_closed r.answer_id given.breach given.side
return_at side r marks stages.Released = sending None (closed side r.answer_id false)
return_at side r marks stages.Returned = sending (Some (breaches.Unasked r.answer_id)) side

abbrev pub return_by : Side → Return → Option Question → Sent
return_by side r (Some q) = return_at side r q.marks q.stage
return_by side r None = sending (Some (breaches.Unasked r.answer_id)) side

abbrev pub return_followed : Side → Return → Sent
return_followed side r = return_by side r (get side.questions r.answer_id)

-- and with it the call is answered that the question was to the other end
abbrev pub then_answered : Return → Side → Option Breach → Side → Between
then_answered r to (Some breach) from = between (Some breach) from to
then_answered r to None from = between None from (answered to r.answer_id r.release_param_caps)

-- a promise becomes what has its marks
abbrev pub resolve_by : Side → ℕ → Option ℕ → Sent
resolve_by side promise (Some id) =
    if has_room side 1 then sending None (record side { given = raised side.shares side.given id (option_map_or (λ g. g.marks) (get side.given promise) 0) }) else sending (Some breaches.Full) side
resolve_by side promise None = sending None side

abbrev pub resolve_followed : Side → Resolve → Sent
resolve_followed side r = resolve_by side r.promise_id (resolved_number r.resolution)

-- what is kept of a message, where these rules are on what calls to the other end give
abbrev pub followed : List Grant → Side → Side → Message → Between
followed grants from to (messages.Call call) = asked from to call.question_id (gained grants to call) (hosted_numbers call.params.cap_table)
followed grants from to (messages.Bootstrap bootstrap) = asked from to bootstrap.question_id 0 []
followed grants from to (messages.Finish finish) = between None from (finished to finish)
followed grants from to (messages.Release release) = between None from (record to { given = lowered to.given release.id release.reference_count })
followed grants from to (messages.Return r) = let sent = return_followed from r in then_answered r to sent.breach sent.side
followed grants from to (messages.Resolve r) = let sent = resolve_followed from r in between sent.breach sent.side to
followed grants from to (messages.Unimplemented tree) = between (Some breaches.Unimplemented) from to
followed grants from to other = between None from to

-- what is kept of both ends, and why the connection is closed, if it is
pub record Followed : Type 0 where
  pub breach : Option Breach
  pub references : References

abbrev pub finding : Option Breach → References → Followed
finding breach refs = record { breach = breach; references = refs }

-- a message of the callee goes, or of the caller, on whose calls alone there are rules
abbrev pub by_callee : Between → Followed
by_callee b = finding b.breach (record { caller = b.to; callee = b.from })

abbrev pub by_caller : Between → Followed
by_caller b = finding b.breach (record { caller = b.from; callee = b.to })

abbrev pub followed_from : Bool → Rules → References → Message → Followed
followed_from true rules refs m = by_callee (followed [] refs.callee refs.caller m)
followed_from false rules refs m = by_caller (followed rules.grants.items refs.caller refs.callee m)
