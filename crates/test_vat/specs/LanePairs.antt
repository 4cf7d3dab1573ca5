-- Pairs of two vats that moves come to, in which a clause must leave something out.
use Rattle.std.specs.Prelude.{◌≡◌, true, List, [], ◌∷◌}
use Rattle.std.specs.List.{AllByRecursion}
use Rattle.cp_messages.specs.declared.descriptor.Descriptor.TheVariants as descriptors
use Rattle.cp_messages.specs.declared.resolve.Resolution.TheVariants as resolutions
use Rattle.cp_refs.specs.declared.cap.Cap.TheVariants as caps
use Rattle.cp_refs.specs.declared.call.Origin.TheVariants as origins
use Rattle.cp_refs.specs.declared.outcome.Outcome.TheVariants as outcomes
use Rattle.cp_vat_machine.specs.Run.{Moment}
use Rattle.cp_vat_machine.specs.Writing.{IsExport}
use Rattle.cp_vat_machine.specs.declared.effect.Effect.TheVariants as effects
use Rattle.cp_vat_machine.specs.declared.event.Event.TheVariants as events
use Rattle.cp_vat_machine.specs.declared.event.Value.TheVariants as values
use Rattle.cp_vat_pair_laws.specs.Accounts.{accounts_of, is_given_up}
use Rattle.cp_vat_pair_laws.specs.VatPair.{VatPair, Side, at_first, at_second, Move, last_of}
use Rattle.cp_vat_pair_laws.specs.Naming.{EachOnWay, table_of, IsOfKindAfter, looked_at, place_of}
use Rattle.cp_vat_pair_laws.specs.Phases.{EndsAt, Phase, CameToOther, ToldOther, HostedThere}
use Rattle.test_vat.specs.RowWords.{comes, does, call_message, return_message, finish_message, resolve_message, sends, on_whole_answer, results, one_object, request, small_request, small_call, bootstrap_comes, bootstrap_does}
use Rattle.test_vat.specs.PairRows.{Plays}
use Rattle.test_vat.specs.LaneRows.{two_vats, given_reference}

-- what a whole answer gives is called
abbrev calls_whole : Moment
calls_whole = does (events.Call (caps.Pipelined 0 []) small_request) (values.Question 1) (sends (small_call 1 (on_whole_answer 0)) ∷ [])

abbrev calls_again : Moment
calls_again = does (events.Call (caps.Pipelined 0 []) small_request) (values.Question 2) (sends (small_call 2 (on_whole_answer 0)) ∷ [])

-- The second vat answers with an open promise, as its export 1.
abbrev makes_promise : Moment
makes_promise = does events.Promise (values.Promise 0) []

abbrev gives_promise : Moment
gives_promise =
    does
    (events.Answer (origins.Answer 1) (outcomes.Results one_object (caps.Promise 0 ∷ [])))
    values.Nothing
    (sends (return_message 1 (results one_object (descriptors.SenderPromise 1 ∷ []))) ∷ [])

-- A question is finished before its Return comes, which names a promise. The Finish lowers that export, and its number is an object's from then on.
-- All Returns are still on the way.
abbrev pub number_again : List (Side × Moment)
number_again =
    (at_first, bootstrap_does)
    ∷ (at_first, calls_whole)
    ∷ (at_first, does (events.Finish 1) values.Nothing (sends (finish_message 1 true) ∷ []))
    ∷ (at_first, calls_again)
    ∷ (at_second, bootstrap_comes)
    ∷ (at_second, comes (small_call 1 (on_whole_answer 0)) (effects.Deliver 0 (origins.Answer 1) 0 small_request ∷ []))
    ∷ (at_second, makes_promise)
    ∷ (at_second, gives_promise)
    ∷ (at_second, comes (finish_message 1 true) [])
    ∷ (at_second, comes (small_call 2 (on_whole_answer 0)) (effects.Deliver 0 (origins.Answer 2) 1 small_request ∷ []))
    ∷ (
      at_second,
      does
          (events.Answer (origins.Answer 2) (outcomes.Results one_object (caps.Object 5 ∷ [])))
          values.Nothing
          (sends (return_message 2 (results one_object (descriptors.SenderHosted 1 ∷ []))) ∷ []),
    ) ∷ []

-- The question was given up, and what its Return names isn't of its export's kind. All that is looked at when it comes is.
pub record IsOfOtherKind (w : VatPair) : Type 0 where
  pub given_up : is_given_up ((accounts_of w.first.vat).questions 1) ≡ true
  pub other_kind : EachOnWay w.first.inbox (λ before m after. AllByRecursion (IsOfKindAfter w.second.vat after) (table_of m)) → ⊥
  pub is_of_kind : EachOnWay w.first.inbox (λ before m after. AllByRecursion (IsOfKindAfter w.second.vat after) (looked_at w.first.vat m))

abbrev pub NumberAgain : Type 0
NumberAgain = (moves : List Move) × Plays two_vats number_again moves × IsOfOtherKind (last_of two_vats moves)

-- The first vat lends its object 5. The second one answers with an open promise, and resolves that to what it was lent. The Return is on the way.
abbrev pub settled_ahead : List (Side × Moment)
settled_ahead =
    (at_first, bootstrap_does)
    ∷ (
      at_first,
      does
          (events.Call (caps.Pipelined 0 []) (request one_object (caps.Object 5 ∷ [])))
          (values.Question 1)
          (sends (call_message 1 (on_whole_answer 0) one_object (descriptors.SenderHosted 0 ∷ [])) ∷ []),
    )
    ∷ (at_second, bootstrap_comes)
    ∷ (
      at_second,
      comes
          (call_message 1 (on_whole_answer 0) one_object (descriptors.SenderHosted 0 ∷ []))
          (effects.Deliver 0 (origins.Answer 1) 0 (request one_object (caps.Import 0 ∷ [])) ∷ []),
    )
    ∷ (at_second, makes_promise)
    ∷ (at_second, gives_promise)
    ∷ (at_second, does (events.Resolve 0 (caps.Import 0)) values.Nothing (sends (resolve_message 1 (resolutions.Cap (descriptors.ReceiverHosted 0))) ∷ [])) ∷ []

-- The second vat's place for the reference ends at the first one's own object already, and the message on the way reports a promise for it. It isn't
-- elsewhere otherwise, and no phase is its own.
pub record IsToldAhead (w : VatPair) : Type 0 where
  pub ends : EndsAt w.second.vat (place_of w.second.vat given_reference) 0
  pub is_own : IsExport w.first.vat 0 (caps.Object 5)
  pub told : ToldOther w.first w.second given_reference []
  pub not_come : CameToOther w.first.vat given_reference → ⊥
  pub not_hosted : HostedThere w.first w.second given_reference [] → ⊥
  pub no_phase : Phase w.first w.second given_reference [] → ⊥

abbrev pub SettledAhead : Type 0
SettledAhead = (moves : List Move) × Plays two_vats settled_ahead moves × IsToldAhead (last_of two_vats moves)
