-- Pairs of two vats in which what is owed, expected and orderly is said one by one, and such as no moves come to.
use Rattle.std.specs.Prelude.{◌≡◌, true, false, List, [], ◌∷◌, ◌++◌, Some, None}
use Rattle.std.specs.FinMap.{insert}
use Rattle.cp_tree.specs.Node.{cap}
use Rattle.cp_tables.specs.Counted.{count_of, new_counted}
use Rattle.cp_tables.specs.Exchange.{new_exchange}
use Rattle.cp_tables.specs.declared.exchange.Stage.TheVariants as stages
use Rattle.cp_messages.specs.declared.descriptor.Descriptor.TheVariants as descriptors
use Rattle.cp_messages.specs.declared.message.Message.{Message}
use Rattle.cp_refs.specs.declared.cap.Cap.TheVariants as caps
use Rattle.cp_vat_machine.specs.State.{State, with_exports, with_questions}
use Rattle.cp_vat_machine.specs.Run.{Moment}
use Rattle.cp_refs.specs.declared.call.Origin.TheVariants as origins
use Rattle.cp_refs.specs.declared.outcome.Outcome.TheVariants as outcomes
use Rattle.cp_vat_machine.specs.declared.effect.Effect.{Effect}
use Rattle.cp_vat_machine.specs.declared.effect.Effect.TheVariants as effects
use Rattle.cp_vat_machine.specs.declared.event.Event.TheVariants as events
use Rattle.cp_vat_machine.specs.declared.event.Value.TheVariants as values
use Rattle.cp_vat_pair_laws.specs.Accounts.{accounts_of, lowerable}
use Rattle.cp_vat_pair_laws.specs.Owed.{named_on_way, lowered_on_way, owed}
use Rattle.cp_vat_pair_laws.specs.VatPair.{VatPair, Side, at_first, at_second, new_pair, Move, last_of, with_mail, AreQuiet}
use Rattle.cp_vat_pair_laws.specs.Numbers.{IsHeldThere, IsNumberOf, HasReleased, IsNamedByAnswer, IsValueOfAnother}
use Rattle.cp_vat_pair_laws.specs.Orderly.{IsOrderly}
use Rattle.cp_vat_pair_laws.specs.Expected.{LowersFit, stage_of, IsExpected}
use Rattle.cp_vat_pair_laws.specs.Spared.{AreSpared}
use Rattle.test_vat.specs.RowWords.{comes, does, bootstrap_message, return_message, finish_message, release_message, sends, results, small_request, bootstrap_comes, bootstrap_does, small_call, on_import, one_object}
use Rattle.test_vat.specs.LaneRows.{two_vats}
use Rattle.test_vat.specs.PairRows.{Plays}

-- The first vat asks for the second one's bootstrap object, and finishes the question before its Return comes: both are on the way at once.
abbrev pub crossing : List (Side × Moment)
crossing =
    (at_first, bootstrap_does)
    ∷ (at_first, does (events.Finish 0) values.Nothing (sends (finish_message 0 true) ∷ []))
    ∷ (at_second, bootstrap_comes) ∷ []

abbrev pub bootstrap_returned : Message
bootstrap_returned = return_message 0 (results (cap 0) (descriptors.SenderHosted 0 ∷ []))

-- The export is counted once, and is owed what the Finish lowers: what the Return names isn't taken in.
pub record IsOwedByFinish (w : VatPair) : Type 0 where
  pub counted : count_of w.second.vat.counts.exports 0 ≡ 1
  pub held : count_of w.first.vat.counts.imports 0 ≡ 0
  pub named : named_on_way (accounts_of w.first.vat).questions w.first.inbox 0 ≡ 0
  pub lowered : lowered_on_way (lowerable (accounts_of w.second.vat)) w.second.inbox 0 ≡ 1
  pub question : stage_of ((accounts_of w.first.vat).questions 0) ≡ Some stages.Finished
  pub answer : stage_of ((accounts_of w.second.vat).answers 0) ≡ Some stages.Returned
  pub not_held : IsHeldThere w at_second 0 → ⊥

-- The Return is expected at the first vat and the Finish at the second one, neither at the other, and no Bootstrap under the same number.
pub record IsNextExpected (w : VatPair) : Type 0 where
  pub returned : IsExpected (accounts_of w.first.vat) bootstrap_returned
  pub finished : IsExpected (accounts_of w.second.vat) (finish_message 0 true)
  pub no_return : IsExpected (accounts_of w.second.vat) bootstrap_returned → ⊥
  pub no_finish : IsExpected (accounts_of w.first.vat) (finish_message 0 true) → ⊥
  pub no_bootstrap : IsExpected (accounts_of w.second.vat) (bootstrap_message 0) → ⊥

-- the pair with more messages to the second vat after those on the way, and with these alone
abbrev pub with_more : VatPair → List Message → VatPair
with_more w messages = record w { second = with_mail w.second messages }

abbrev pub with_only : VatPair → List Message → VatPair
with_only w messages = record w { second = record w.second { inbox = messages } }

-- A Release beside the Finish lowers the export past its count, and one by two is at fault by itself.
pub record IsTooMuch (w : VatPair) : Type 0 where
  pub beside : LowersFit (with_more w (release_message 0 1 ∷ [])) → ⊥
  pub alone : AreSpared (with_only w (release_message 0 2 ∷ [])) → ⊥

abbrev pub Crossing : Type 0
Crossing =
    (moves : List Move) × Plays (new_pair None (Some 0)) crossing moves × IsOwedByFinish (last_of (new_pair None (Some 0)) moves)
    × IsNextExpected (last_of (new_pair None (Some 0)) moves)
    × IsTooMuch (last_of (new_pair None (Some 0)) moves)

-- The Return comes to the question that was given up, and nothing is given back for it: the Finish that is still on the way does that.
abbrev pub sent_for_ignored : List Message
sent_for_ignored = []

abbrev pub ignored : List (Side × Moment)
ignored = crossing ++ (at_first, comes bootstrap_returned []) ∷ []

abbrev pub IgnoredIsOwed : Type 0
IgnoredIsOwed =
    (moves : List Move) × Plays (new_pair None (Some 0)) ignored moves
    × (count_of (last_of (new_pair None (Some 0)) moves).second.vat.counts.exports 0
    ≡ owed (with_more (last_of (new_pair None (Some 0)) moves) sent_for_ignored) at_second 0)

-- Each vat asks for the other one's bootstrap object, and the second one calls what it got. The first vat answers with the second one's own object, and
-- holds it on for that answer alone.
abbrev object_settled : Effect
object_settled = effects.Settled 0 (outcomes.Results (cap 0) (caps.Import 0 ∷ []))

abbrev pub answered_with_own : List (Side × Moment)
answered_with_own =
    (at_first, bootstrap_does)
    ∷ (at_second, bootstrap_comes)
    ∷ (at_first, comes bootstrap_returned (object_settled ∷ []))
    ∷ (at_first, does (events.Finish 0) values.Nothing (sends (finish_message 0 false) ∷ []))
    ∷ (at_second, comes (finish_message 0 false) [])
    ∷ (at_second, bootstrap_does)
    ∷ (at_first, bootstrap_comes)
    ∷ (at_second, comes bootstrap_returned (object_settled ∷ []))
    ∷ (at_second, does (events.Call (caps.Import 0) small_request) (values.Question 1) (sends (small_call 1 (on_import 0)) ∷ []))
    ∷ (at_first, comes (small_call 1 (on_import 0)) (effects.Deliver 0 (origins.Answer 1) 0 small_request ∷ []))
    ∷ (
      at_first,
      does
          (events.Answer (origins.Answer 1) (outcomes.Results one_object (caps.Import 0 ∷ [])))
          values.Nothing
          (sends (return_message 1 (results one_object (descriptors.ReceiverHosted 0 ∷ []))) ∷ []),
    )
    ∷ (
      at_second,
      comes
          (return_message 1 (results one_object (descriptors.ReceiverHosted 0 ∷ [])))
          (effects.Settled 1 (outcomes.Results one_object (caps.Object 0 ∷ [])) ∷ []),
    ) ∷ []

-- No message is on the way, and the first application released all that it held. The second vat's export is left, which a kept answer names.
pub record IsLeftForAnswer (w : VatPair) : Type 0 where
  pub quiet : AreQuiet w
  pub released : HasReleased w.first.vat
  pub left : IsNumberOf w.second.vat.counts.exports 0 (caps.Object 0)
  pub held : IsHeldThere w at_second 0
  pub named : IsNamedByAnswer w.first.vat 0
  pub no_value : IsValueOfAnother w.first.vat 0 → ⊥

abbrev pub AnswerKeepsExport : Type 0
AnswerKeepsExport = (moves : List Move) × Plays two_vats answered_with_own moves × IsLeftForAnswer (last_of two_vats moves)

-- A call waits at a promise.
abbrev pub waiting_call : List (Side × Moment)
waiting_call =
    (at_first, does events.Promise (values.Promise 0) [])
    ∷ (at_first, does (events.Call (caps.Promise 0) small_request) (values.Question 0) []) ∷ []

-- the state with a question that was sent, a promise that came to a question's path, an answer that was given one, and an export of one
abbrev pub with_sent : State → State
with_sent s =
    with_questions s (
    insert
    s.entries.questions
    0
    (new_exchange (record { forwards = None; ticket = Some 0; is_sent = true; is_delivered = false; mentions = [] }))
    )

abbrev pub with_path : State → State
with_path s = record s { values = record s.values { promises = insert s.values.promises 1 (Some (caps.Pipelined 0 [])) } }

abbrev pub with_path_given : State → State
with_path_given s =
    record s { values = record s.values { answers = insert s.values.answers 0 (Some (outcomes.Results one_object (caps.Pipelined 0 [] ∷ []))) } }

abbrev pub with_path_exported : State → State
with_path_exported s = with_exports s (insert s.counts.exports 0 (new_counted (caps.Pipelined 0 [])))

-- The vat is orderly. It isn't where the question of its waiting call was sent, nor where a question's path is a promise's value, was given or is exported.
pub record IsOrderlyAsItIs (s : State) : Type 0 where
  pub orderly : IsOrderly s
  pub unsent : IsOrderly (with_sent s) → ⊥
  pub no_path : IsOrderly (with_path s) → ⊥
  pub none_given : IsOrderly (with_path_given s) → ⊥
  pub none_exported : IsOrderly (with_path_exported s) → ⊥

abbrev pub WaitingIsOrderly : Type 0
WaitingIsOrderly =
    (moves : List Move) × Plays (new_pair None None) waiting_call moves × IsOrderlyAsItIs (last_of (new_pair None None) moves).first.vat
