-- What exports, imports, questions and answers are, by the messages alone. (rpc.capnp: "Four Tables", "Release", "Return", "Finish".)
use Rattle.std.specs.Prelude.{ℕ, ◌+◌, ◌-◌, ◌==◌, Bool, true, false, if◌then◌else◌, List, [], ◌∷◌, ◌++◌, flat_map, reverse, Option, Some, None, Result, Ok, Err}
use Rattle.cp_tables.specs.declared.exchange.Stage.{Stage}
use Rattle.cp_tables.specs.declared.exchange.Stage.TheVariants as stages
use Rattle.cp_messages.specs.declared.message.Message.{Message}
use Rattle.cp_messages.specs.declared.message.Message.TheVariants as messages
use Rattle.cp_vat_machine.specs.Writing.{mentions_of}
use Rattle.cp_vat_machine.specs.Receiving.{times}
use Rattle.cp_vat_machine.specs.Give.{returned_mentions}
use Rattle.cp_vat_machine.specs.Resolving.{given_back, told}
use Rattle.cp_vat_machine.specs.Supported.{is_supported}
use Rattle.cp_vat_machine.specs.Run.{Moment}
use Rattle.cp_vat_machine.specs.declared.effect.Effect.{Effect}
use Rattle.cp_vat_machine.specs.declared.effect.Effect.TheVariants as effects
use Rattle.cp_vat_machine.specs.declared.event.Event.{Event}
use Rattle.cp_vat_machine.specs.declared.event.Event.TheVariants as events
use Rattle.cp_vat_machine.specs.declared.event.Value.{Value}
use Rattle.cp_vat_machine.specs.declared.fault.VatFault.{VatFault}

-- a message that came, or one that was sent
pub data Traffic : Type 0 where
  came : Message → Traffic
  sent : Message → Traffic

-- Of a moment that wasn't refused: the message that came, if it is supported, and then those that were sent.
abbrev pub arrival : Event → List Traffic
arrival (events.Receive m) = if is_supported m then (came m ∷ []) else []
arrival other = []

abbrev pub departure : Effect → List Traffic
departure (effects.Send m) = sent m ∷ []
departure other = []

abbrev pub traffic_if : Result Value VatFault → List Traffic → List Traffic
traffic_if (Ok value) traffic = traffic
traffic_if (Err fault) traffic = []

abbrev pub traffic_of : Moment → List Traffic
traffic_of moment = traffic_if moment.result (arrival moment.event ++ flat_map departure moment.effects)

-- all messages of a history, the latest first
abbrev pub past_of : List Moment → List Traffic
past_of history = reverse (flat_map traffic_of history)

-- the exports that a message names which was sent
abbrev pub named_by : Message → List ℕ
named_by (messages.Call c) = mentions_of c.params.cap_table
named_by (messages.Return r) = returned_mentions r.returned
named_by (messages.Resolve r) = given_back r.resolution
named_by other = []

-- it opens this question, as the one who asks or the one who answers sees it
abbrev pub opens : ℕ → Message → Bool
opens q (messages.Call c) = c.question_id == q
opens q (messages.Bootstrap b) = b.question_id == q
opens q other = false

abbrev pub returns_to : ℕ → Message → Bool
returns_to q (messages.Return r) = r.answer_id == q
returns_to q other = false

abbrev pub finishes : ℕ → Message → Bool
finishes q (messages.Finish f) = f.question_id == q
finishes q other = false

-- the exports that the params of a question named, the last one that was asked under its number
abbrev pub params_of : List Traffic → ℕ → List ℕ
params_of [] q = []
params_of (sent m ∷ past) q = if opens q m then named_by m else params_of past q
params_of (came m ∷ past) q = params_of past q

-- the exports that the results of an answer named, if it was given since it was last opened under its number
abbrev pub results_of : List Traffic → ℕ → List ℕ
results_of [] a = []
results_of (sent m ∷ past) a = if returns_to a m then named_by m else results_of past a
results_of (came m ∷ past) a = if opens a m then [] else results_of past a

-- the exports that a message lowers which came, each as often as it does
abbrev pub resolve_named : Option Message → List ℕ
resolve_named (Some (messages.Resolve r)) = given_back r.resolution
resolve_named other = []

abbrev pub lowered_times : List Traffic → Message → ℕ → ℕ
lowered_times past (messages.Release r) e = if r.id == e then r.reference_count else 0
lowered_times past (messages.Return r) e = if r.release_param_caps then times e (params_of past r.answer_id) else 0
lowered_times past (messages.Finish f) e = if f.release_result_caps then times e (results_of past f.question_id) else 0
lowered_times past (messages.Unimplemented t) e = times e (resolve_named (told t))
lowered_times past other e = 0

-- An export's count: how often messages named it that were sent, less what messages lowered it by that came.
abbrev pub export_count : List Traffic → ℕ → ℕ
export_count [] e = 0
export_count (sent m ∷ past) e = export_count past e + times e (named_by m)
export_count (came m ∷ past) e = export_count past e - lowered_times past m e

-- a question was finished since it was last asked under its number
abbrev pub is_finished : List Traffic → ℕ → Bool
is_finished [] q = false
is_finished (sent m ∷ past) q = if finishes q m then true else (if opens q m then false else is_finished past q)
is_finished (came m ∷ past) q = is_finished past q

-- the imports that a message names which came; those of a Return whose question was finished aren't taken in
abbrev pub taken_by : List Traffic → Message → List ℕ
taken_by past (messages.Return r) = if is_finished past r.answer_id then [] else returned_mentions r.returned
taken_by past other = named_by other

abbrev pub given_up : Message → ℕ → ℕ
given_up (messages.Release r) i = if r.id == i then r.reference_count else 0
given_up other i = 0

-- An import's count: how often messages named it that were taken in, less what was released.
abbrev pub import_count : List Traffic → ℕ → ℕ
import_count [] i = 0
import_count (came m ∷ past) i = import_count past i + times i (taken_by past m)
import_count (sent m ∷ past) i = import_count past i - given_up m i

-- the stage after a Return, and after a Finish: with both the entry is gone
abbrev pub stage_returned : Option Stage → Option Stage
stage_returned (Some stages.Open) = Some stages.Returned
stage_returned (Some stages.Finished) = None
stage_returned other = other

abbrev pub stage_finished : Option Stage → Option Stage
stage_finished (Some stages.Open) = Some stages.Finished
stage_finished (Some stages.Returned) = None
stage_finished other = other

-- A question of the wire: from its Call or Bootstrap until both its Return came and its Finish was sent.
abbrev pub question_stage : List Traffic → ℕ → Option Stage
question_stage [] q = None
question_stage (sent m ∷ past) q =
    if opens q m then Some stages.Open else (if finishes q m then stage_finished (question_stage past q) else question_stage past q)
question_stage (came m ∷ past) q = if returns_to q m then stage_returned (question_stage past q) else question_stage past q

-- An answer: from its Call or Bootstrap until both its Return was sent and its Finish came.
abbrev pub answer_stage : List Traffic → ℕ → Option Stage
answer_stage [] a = None
answer_stage (came m ∷ past) a =
    if opens a m then Some stages.Open else (if finishes a m then stage_finished (answer_stage past a) else answer_stage past a)
answer_stage (sent m ∷ past) a = if returns_to a m then stage_returned (answer_stage past a) else answer_stage past a
