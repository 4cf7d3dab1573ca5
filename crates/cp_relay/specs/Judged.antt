-- What becomes of each message. The messages of the caller are judged; of those of the callee only a Return to a question that was refused doesn't go. Where rules are on
-- what calls gave, what is kept of a message that goes may close the connection.
use Rattle.std.specs.Prelude.{ℕ, nat_lt, Bool, true, false, ◌&&◌, if◌then◌else◌, Option, Some, None}
use Rattle.std.specs.List.{list_any}
use Rattle.std.specs.FinMap.{get}
use Rattle.cp_messages.specs.declared.call.Call.{Call}
use Rattle.cp_messages.specs.declared.call.SendResultsTo.{SendResultsTo}
use Rattle.cp_messages.specs.declared.call.SendResultsTo.TheVariants as results_to
use Rattle.cp_messages.specs.declared.target.Target.{Target}
use Rattle.cp_messages.specs.declared.target.Target.TheVariants as targets
use Rattle.cp_messages.specs.declared.returned.Return.{Return}
use Rattle.cp_messages.specs.declared.returned.Returned.{Returned}
use Rattle.cp_messages.specs.declared.returned.Returned.TheVariants as returns
use Rattle.cp_messages.specs.declared.resolve.Resolve.{Resolve}
use Rattle.cp_messages.specs.declared.resolve.Resolution.{Resolution}
use Rattle.cp_messages.specs.declared.resolve.Resolution.TheVariants as resolutions
use Rattle.cp_messages.specs.declared.message.Message.{Message}
use Rattle.cp_messages.specs.declared.message.Message.TheVariants as messages
use Rattle.cp_relay.specs.declared.rules.Rules.{Rules}
use Rattle.cp_relay.specs.declared.state.GuardState.{GuardState}
use Rattle.cp_relay.specs.declared.ruling.Cause.{Cause}
use Rattle.cp_relay.specs.declared.ruling.Ruling.{Ruling}
use Rattle.cp_relay.specs.declared.ruling.Ruling.TheVariants as rulings
use Rattle.cp_relay.specs.declared.ruling.Breach.TheVariants as breaches
use Rattle.cp_relay.specs.Answer.{answer_of, exception_of}
use Rattle.cp_relay.specs.declared.ruling.Breach.{Breach}
use Rattle.cp_relay.specs.declared.references.References.{References}
use Rattle.cp_relay.specs.Rules.{follows}
use Rattle.cp_relay.specs.Followed.{Followed, followed_from}
use Rattle.cp_relay.specs.State.{Refused, is_broken, payload_without, descriptor_cause, limit_cause, call_cause, with_one_more, with_one_fewer, with_refused, with_finished}

-- what becomes of a message, and what is known of the connection then
pub record Judgement : Type 0 where
  pub ruling : Ruling
  pub state : GuardState

-- nothing that is known changes
abbrev pub judging : Ruling → GuardState → Judgement
judging ruling s = record { ruling = ruling; state = s }

-- how many refused questions a caller may leave unfinished
abbrev pub most_unfinished : ℕ
most_unfinished = 65536

-- A question is refused: it gets its answer, and is remembered up to its Finish. Strict rules close the connection.
abbrev pub refused_so : Rules → GuardState → ℕ → Bool → Cause → Judgement
refused_so rules s question elsewhere cause =
    if rules.strict then judging (rulings.Closes (breaches.Refused cause)) s
    else (if nat_lt s.unfinished most_unfinished
    then record { ruling = rulings.Answers (answer_of rules question elsewhere cause); state = with_refused s question cause }
    else judging (rulings.Closes breaches.Unfinished) s)

-- a question is refused where there is a reason, and else it goes
abbrev pub asked : Rules → GuardState → ℕ → Bool → Option Cause → Ruling → Judgement
asked rules s question elsewhere (Some cause) ruling = refused_so rules s question elsewhere cause
asked rules s question elsewhere None ruling = record { ruling = ruling; state = with_one_more s }

-- but a number whose question was refused and isn't finished is no other question's
abbrev pub unless_reused : GuardState → ℕ → Option Cause → Judgement → Judgement
unless_reused s question (Some cause) judgement = judging (rulings.Closes (breaches.Reused question)) s
unless_reused s question None judgement = judgement

-- a call asks for its results to be kept for another question
abbrev pub is_elsewhere : SendResultsTo → Bool
is_elsewhere results_to.Yourself = true
is_elsewhere other = false

-- a call that goes does so as it came, unless it has a broken capability
abbrev pub passed_call : Refused → Call → Ruling
passed_call refused call =
    if list_any (is_broken refused) call.params.cap_table then rulings.Changes (messages.Call (record call { params = payload_without refused call.params })) else rulings.Passes

abbrev pub call_judged : Rules → GuardState → Call → Judgement
call_judged rules s call =
    unless_reused s call.question_id (get s.refused call.question_id)
    (asked rules s call.question_id (is_elsewhere call.send_results_to) (call_cause rules s call) (passed_call s.refused call))

abbrev pub bootstrap_judged : Rules → GuardState → ℕ → Judgement
bootstrap_judged rules s question = unless_reused s question (get s.refused question) (asked rules s question false (limit_cause rules.limits s) rulings.Passes)

-- the Finish of a question that was refused doesn't go
abbrev pub finish_by : GuardState → ℕ → Option Cause → Judgement
finish_by s question (Some cause) = record { ruling = rulings.Drops; state = with_finished s question }
finish_by s question None = judging rulings.Passes s

abbrev pub finish_judged : GuardState → ℕ → Judgement
finish_judged s question = finish_by s question (get s.refused question)

-- a Return goes with something else
abbrev pub returning : Return → Returned → Ruling
returning r returned = rulings.Changes (messages.Return (record r { returned = returned }))

-- what would take a refused question's results has its exception
abbrev pub taken_by : Rules → Return → Option Cause → Ruling
taken_by rules r (Some cause) = returning r (returns.Exception (exception_of rules cause))
taken_by rules r None = rulings.Passes

abbrev pub returned_judged : Rules → Refused → Return → Returned → Ruling
returned_judged rules refused r (returns.Results payload) =
    if list_any (is_broken refused) payload.cap_table then returning r (returns.Results (payload_without refused payload)) else rulings.Passes
returned_judged rules refused r (returns.TakeFromOtherQuestion question) = taken_by rules r (get refused question)
returned_judged rules refused r other = rulings.Passes

abbrev pub return_judged : Rules → Refused → Return → Ruling
return_judged rules refused r = returned_judged rules refused r r.returned

-- a promise that would become a broken capability is broken
abbrev pub resolve_by : Rules → Resolve → Option Cause → Ruling
resolve_by rules r (Some cause) = rulings.Changes (messages.Resolve (record r { resolution = resolutions.Exception (exception_of rules cause) }))
resolve_by rules r None = rulings.Passes

abbrev pub resolution_judged : Rules → Refused → Resolve → Resolution → Ruling
resolution_judged rules refused r (resolutions.Cap descriptor) = resolve_by rules r (descriptor_cause refused descriptor)
resolution_judged rules refused r other = rulings.Passes

abbrev pub resolve_judged : Rules → Refused → Resolve → Ruling
resolve_judged rules refused r = resolution_judged rules refused r r.resolution

-- no Disembargo goes to what a refused question promised
abbrev pub disembargo_by : ℕ → Option Cause → Ruling
disembargo_by question (Some cause) = rulings.Closes (breaches.Disembargoed question)
disembargo_by question None = rulings.Passes

abbrev pub target_judged : Refused → Target → Ruling
target_judged refused (targets.PromisedAnswer answer) = disembargo_by answer.question_id (get refused answer.question_id)
target_judged refused other = rulings.Passes

-- what becomes of a message of the caller, by the questions that were refused
abbrev pub ruled : Rules → GuardState → Message → Judgement
ruled rules s (messages.Call call) = call_judged rules s call
ruled rules s (messages.Bootstrap bootstrap) = bootstrap_judged rules s bootstrap.question_id
ruled rules s (messages.Finish finish) = finish_judged s finish.question_id
ruled rules s (messages.Return r) = judging (return_judged rules s.refused r) s
ruled rules s (messages.Resolve r) = judging (resolve_judged rules s.refused r) s
ruled rules s (messages.Disembargo d) = judging (target_judged s.refused d.target) s
ruled rules s other = judging rulings.Passes s

-- a Return of the callee ends a question that is under way, and none was refused
abbrev pub answered_by : GuardState → ℕ → Option Cause → Judgement
answered_by s question (Some cause) = judging (rulings.Closes (breaches.Answered question)) s
answered_by s question None = judging rulings.Passes (with_one_fewer s)

-- what becomes of a message of the callee, by the same
abbrev pub ruled_back : GuardState → Message → Judgement
ruled_back s (messages.Return r) = answered_by s r.answer_id (get s.refused r.answer_id)
ruled_back s other = judging rulings.Passes s

-- a message goes, as it came or another in its place
abbrev pub goes : Ruling → Bool
goes rulings.Passes = true
goes (rulings.Changes m) = true
goes (rulings.Answers m) = false
goes rulings.Drops = false
goes (rulings.Closes breach) = false

-- what becomes of a message of either, by the same
abbrev pub ruled_from : Bool → Rules → GuardState → Message → Judgement
ruled_from true rules s m = ruled_back s m
ruled_from false rules s m = ruled rules s m

-- what is kept of a message closes the connection, or is known from then on
abbrev pub kept_by : Judgement → Option Breach → References → Judgement
kept_by judgement (Some breach) refs = record judgement { ruling = rulings.Closes breach }
kept_by judgement None refs = record judgement { state = record judgement.state { references = refs } }

abbrev pub keeping_of : Bool → Judgement → Followed → Judgement
keeping_of true judgement kept = kept_by judgement kept.breach kept.references
keeping_of false judgement kept = judgement

-- of a message that goes something is kept, where a rule is on what calls gave
abbrev pub then_kept : Bool → Rules → Judgement → Message → Judgement
then_kept side rules judgement m = keeping_of (follows rules && goes judgement.ruling) judgement (followed_from side rules judgement.state.references m)

-- what becomes of a message of either
abbrev pub judged_from : Bool → Rules → GuardState → Message → Judgement
judged_from side rules s m = then_kept side rules (ruled_from side rules s m) m

-- what becomes of a message of the caller, and of one of the callee
abbrev pub judged : Rules → GuardState → Message → Judgement
judged rules s m = judged_from false rules s m

abbrev pub judged_back : Rules → GuardState → Message → Judgement
judged_back rules s m = judged_from true rules s m
