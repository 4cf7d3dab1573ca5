-- Pairs of two vats in which what is owed, expected and orderly is told one by one.
use Rattle.std.specs.Prelude.{◌≡◌, refl, ◌+◌, if◌then◌else◌, List, [], ◌∷◌, map, Option, Some, None, is_none, is_some, ltb, Result, Ok, Err, flat_map, option_to_list}
use Rattle.std.specs.FinMap.{get}
use Rattle.std.specs.Option.{option_map_or}
use Rattle.std.specs.List.{list_any}
use Rattle.std.proofs.Common.{inl, inr, ◌∙◌, arith, ap, subst, sym, true≢false}
use Rattle.cp_tables.specs.Table.{Table}
use Rattle.cp_tables.specs.Counted.{count_of}
use Rattle.cp_tables.specs.declared.counted.Counted.{Counted}
use Rattle.cp_tables.proofs.TableLemmas.{get-insert_same}
use Rattle.cp_refs.specs.declared.cap.Cap.{Cap}
use Rattle.cp_refs.specs.declared.call.WaitingCall.{WaitingCall}
use Rattle.cp_refs.specs.declared.call.Origin.TheVariants as origins
use Rattle.cp_refs.specs.declared.route.Gate.TheVariants as gates
use Rattle.cp_vat_machine.specs.InUse.{is_import, caps_given, value_unless}
use Rattle.cp_vat_machine.specs.Receiving.{times, less_by}
use Rattle.cp_vat_machine.specs.Step.{Receives}
use Rattle.cp_vat_machine.specs.declared.fault.PeerFault.{PeerFault}
use Rattle.cp_vat_machine.specs.declared.fault.PeerFault.TheVariants as faults
use Rattle.cp_vat_pair_laws.specs.Accounts.{accounts_of, asked_account, kept_account, is_given_up, results_in}
use Rattle.cp_vat_pair_laws.specs.Owed.{owed, named_on_way}
use Rattle.cp_vat_pair_laws.specs.VatPair.{at_second, VatPair}
use Rattle.cp_vat_pair_laws.specs.Orderly.{IsHeldBack, IsPlainValue, IsPlainAnswer, IsPlainExport, IsOrderly}
use Rattle.cp_vat_pair_laws.specs.Numbers.{IsHeldThere}
use Rattle.cp_vat_pair_laws.specs.Expected.{stage_of, IsAwaited, IsKept}
use Rattle.cp_vat_pair_laws.proofs.counts.Moves.{holds_of}
use Rattle.test_vat.specs.CountPairs.{crossing, IsOwedByFinish, IsNextExpected, with_more, IsTooMuch, Crossing, ignored, IgnoredIsOwed, answered_with_own, IsLeftForAnswer, AnswerKeepsExport, sent_for_ignored, waiting_call, IsOrderlyAsItIs, WaitingIsOrderly}
use Rattle.test_vat.specs.RowWords.{release_message, small_request}
use Rattle.test_vat.proofs.Known.{get_is, entries_is}
use Rattle.test_vat.proofs.Uses.{values_are, idle_imports_are}
use Rattle.test_vat.proofs.KnownPairs.{KnownPair, pair, new_pairs, KnownMove, move, find_moves, moves_of, plays, last_known, last_is}

abbrev begun : KnownPair
begun = new_pairs None (Some 0)

abbrev crossing_moves : List KnownMove
crossing_moves = moves_of (find_moves begun crossing)

abbrev crossed : KnownPair
crossed = last_known begun crossing_moves

none_named : named_on_way (accounts_of (pair crossed).first.vat).questions (pair crossed).first.inbox 0 ≡ 0
none_named = ap (λ o. times 0 (if is_given_up (asked_account o) then [] else (0 ∷ [])) + 0) (get_is crossed.first.vat.asked 0)

none_held : IsHeldThere (pair crossed) at_second 0 → ⊥
none_held (inl there) = true≢false (sym there ∙ ap is_some (get_is crossed.first.vat.imports 0))
none_held (inr named) = absurd (omega (arith, named, none_named))

owed_by_finish : IsOwedByFinish (pair crossed)
owed_by_finish =
    record {
      counted = ap (λ o. option_map_or (λ entry. entry.count) o 0) (get_is crossed.second.vat.exports 0);
      held = ap (λ o. option_map_or (λ entry. entry.count) o 0) (get_is crossed.first.vat.imports 0);
      named = none_named;
      lowered = ap (λ o. times 0 (results_in (kept_account o)) + 0) (get_is crossed.second.vat.answering 0);
      question = ap (λ o. stage_of (asked_account o)) (get_is crossed.first.vat.asked 0);
      answer = ap (λ o. stage_of (kept_account o)) (get_is crossed.second.vat.answering 0);
      not_held = none_held;
    }

next_expected : IsNextExpected (pair crossed)
next_expected =
    record {
      returned = subst (λ o. IsAwaited (asked_account o)) (sym (get_is crossed.first.vat.asked 0)) tt;
      finished = subst (λ o. IsKept (kept_account o)) (sym (get_is crossed.second.vat.answering 0)) tt;
      no_return = λ h. subst (λ o. IsAwaited (asked_account o)) (get_is crossed.second.vat.asked 0) h;
      no_finish = λ h. subst (λ o. IsKept (kept_account o)) (get_is crossed.first.vat.answering 0) h;
      no_bootstrap = λ h. true≢false (ap is_some (subst (λ o. kept_account o ≡ None) (get_is crossed.second.vat.answering 0) h));
    }

-- a Release by two is at fault
too_large : Receives (pair crossed).second.vat (release_message 0 2) (Err faults.ReleaseTooLarge)
too_large =
    let exports : Table (Counted Cap) = (pair crossed).second.vat.counts.exports in
    let by : Option (Counted Cap) → Result (Table (Counted Cap)) PeerFault
    = λ o. if is_none o then Err faults.UnknownExport
    else (if ltb (option_map_or (λ entry. entry.count) o 0) 2 then Err faults.ReleaseTooLarge else Ok (less_by exports 0 2 o)) in
    (Err faults.ReleaseTooLarge, sym (ap by (get_is crossed.second.vat.exports 0)), refl)

too_much : IsTooMuch (pair crossed)
too_much =
    record {
      beside = λ h. omega (arith, h at_second 0, owed_by_finish.lowered, owed_by_finish.counted);
      alone = λ h. h at_second (release_message 0 2) [] faults.ReleaseTooLarge refl too_large;
    }

pub is_crossing : Crossing
is_crossing = (
  map move crossing_moves,
  plays begun crossing refl,
  subst IsOwedByFinish (sym (last_is begun crossing_moves)) owed_by_finish,
  subst IsNextExpected (sym (last_is begun crossing_moves)) next_expected,
  subst IsTooMuch (sym (last_is begun crossing_moves)) too_much,
)

abbrev ignored_moves : List KnownMove
ignored_moves = moves_of (find_moves begun ignored)

abbrev past : KnownPair
past = last_known begun ignored_moves

abbrev IsOwed : VatPair → Type 0
IsOwed w = count_of w.second.vat.counts.exports 0 ≡ owed (with_more w sent_for_ignored) at_second 0

is_owed : IsOwed (pair past)
is_owed =
    let counted : count_of (pair past).second.vat.counts.exports 0 ≡ 1 = ap (λ o. option_map_or (λ entry. entry.count) o 0) (get_is past.second.vat.exports 0) in
    let held : count_of (pair past).first.vat.counts.imports 0 ≡ 0 = ap (λ o. option_map_or (λ entry. entry.count) o 0) (get_is past.first.vat.imports 0) in
    let lowered : times 0 (results_in (kept_account (get (pair past).second.vat.entries.answers 0))) ≡ 1
    = ap (λ o. times 0 (results_in (kept_account o))) (get_is past.second.vat.answering 0) in
    omega (arith, counted, held, lowered)

pub ignored_is_owed : IgnoredIsOwed
ignored_is_owed = (map move ignored_moves, plays begun ignored refl, subst IsOwed (sym (last_is begun ignored_moves)) is_owed)

abbrev both_begun : KnownPair
both_begun = new_pairs (Some 0) (Some 0)

abbrev answered_moves : List KnownMove
answered_moves = moves_of (find_moves both_begun answered_with_own)

abbrev answered : KnownPair
answered = last_known both_begun answered_moves

left_for_answer : IsLeftForAnswer (pair answered)
left_for_answer =
    record {
      quiet = (refl, refl);
      released =
          record {
            released_idle = idle_imports_are answered.first.vat;
            promises = λ i. ap (λ cs. list_any (is_import i) (flat_map option_to_list cs)) (values_are answered.first.vat.promises);
            results = λ i. ap (λ cs. list_any (is_import i) (flat_map (λ question. caps_given question.outcome) cs)) (values_are answered.first.vat.questions);
            calls = λ i. ap (λ cs. list_any (is_import i) (flat_map (λ call. call.request.caps) cs)) (values_are answered.first.vat.calls);
          };
      left = (1, get_is answered.second.vat.exports 0);
      held = inl (ap is_some (get_is answered.first.vat.imports 0));
      named = ap (λ cs. list_any (is_import 0) (flat_map caps_given cs)) (values_are answered.first.vat.answers);
      no_value = λ h. true≢false (sym h ∙ ap (λ es. list_any (is_import 0) (flat_map (λ entry. value_unless 0 entry) es)) (entries_is answered.first.vat.import_values));
    }

pub answer_keeps_export : AnswerKeepsExport
answer_keeps_export = (map move answered_moves, plays both_begun answered_with_own refl, subst IsLeftForAnswer (sym (last_is both_begun answered_moves)) left_for_answer)

abbrev waiting_begun : KnownPair
waiting_begun = new_pairs None None

abbrev waiting_moves : List KnownMove
waiting_moves = moves_of (find_moves waiting_begun waiting_call)

abbrev waits : KnownPair
waits = last_known waiting_begun waiting_moves

abbrev held_call : WaitingCall
held_call = record { ticket = 0; origin = origins.Own 0; request = small_request; gate = gates.Promise 0 }

orderly_as_it_is : IsOrderlyAsItIs (pair waits).first.vat
orderly_as_it_is =
    record {
      orderly =
          subst (λ w. IsOrderly w.first.vat) (last_is waiting_begun waiting_moves)
          (holds_of None None (map move waiting_moves) (plays waiting_begun waiting_call refl).0 (refl, refl)).first;
      unsent = λ h. true≢false
          (subst IsHeldBack (get-insert_same (pair waits).first.vat.entries.questions 0 _) (h.held.back 0 held_call 0 (get_is waits.first.vat.calls 0) refl)).0.0;
      no_path = λ h. true≢false (subst IsPlainValue (get-insert_same (pair waits).first.vat.values.promises 1 _) (h.values 1));
      none_given = λ h. true≢false (subst IsPlainAnswer (get-insert_same (pair waits).first.vat.values.answers 0 _) (h.answers 0));
      none_exported = λ h. true≢false (subst IsPlainExport (get-insert_same (pair waits).first.vat.counts.exports 0 _) (h.exports 0));
    }

pub waiting_is_orderly : WaitingIsOrderly
waiting_is_orderly = (
  map move waiting_moves,
  plays waiting_begun waiting_call refl,
  subst (λ w. IsOrderlyAsItIs w.first.vat) (sym (last_is waiting_begun waiting_moves)) orderly_as_it_is,
)
