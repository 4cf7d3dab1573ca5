-- The pairs in which a clause must leave something out.
use Rattle.std.specs.Prelude.{refl, if◌then◌else◌, false, List, [], ◌∷◌, ◌++◌, map, Some}
use Rattle.std.specs.List.{AllByRecursion}
use Rattle.std.proofs.Common.{ap, subst, sym}
use Rattle.cp_tree.specs.Node.{cap}
use Rattle.cp_messages.specs.declared.descriptor.Descriptor.TheVariants as descriptors
use Rattle.cp_messages.specs.declared.message.Message.{Message}
use Rattle.cp_vat_pair_laws.specs.Accounts.{asked_account, is_given_up}
use Rattle.cp_vat_pair_laws.specs.Naming.{IsOfKindAfter, IsOfExportUnless, looked_at}
use Rattle.test_vat.specs.RowWords.{return_message, results, one_object}
use Rattle.test_vat.specs.LanePairs.{number_again, IsOfOtherKind, NumberAgain}
use Rattle.test_vat.proofs.Known.{get_is}
use Rattle.test_vat.proofs.KnownPairs.{KnownPair, pair, new_pairs, KnownMove, move, find_moves, moves_of, plays, last_known, last_is}

abbrev begun : KnownPair
begun = new_pairs (Some 0) (Some 0)

abbrev again_moves : List KnownMove
again_moves = moves_of (find_moves begun number_again)

abbrev past_again : KnownPair
past_again = last_known begun again_moves

abbrev promise_told : Message
promise_told = return_message 1 (results one_object (descriptors.SenderPromise 1 ∷ []))

abbrev last_told : Message
last_told = return_message 2 (results one_object (descriptors.SenderHosted 1 ∷ []))

abbrev later : List Message
later = promise_told ∷ last_told ∷ []

-- what holds of each message and those after it
abbrev EachAfter : (Message → List Message → Type 0) → List Message → Type 0
EachAfter Holds [] = Unit {0}
EachAfter Holds (m ∷ after) = Holds m after × EachAfter Holds after

after_it : (Holds : Message → List Message → Type 0) (before after : List Message) (m : Message) → EachAfter Holds (before ++ m ∷ after) → Holds m after
after_it Holds [] after m all = all.0
after_it Holds (x ∷ before) after m all = after_it Holds before after m all.1

abbrev LooksRight : Message → List Message → Type 0
LooksRight m after = AllByRecursion (IsOfKindAfter (pair past_again).second.vat after) (looked_at (pair past_again).first.vat m)

all_look_right : EachAfter LooksRight (pair past_again).first.inbox
all_look_right = (
  subst (λ given_up. AllByRecursion (IsOfKindAfter (pair past_again).second.vat later) (if given_up then [] else descriptors.SenderHosted 0 ∷ []))
      (sym (ap (λ o. is_given_up (asked_account o)) (get_is past_again.first.vat.asked 0)))
      (subst (IsOfExportUnless false (descriptors.SenderHosted 0)) (sym (get_is past_again.second.vat.exports 0)) tt, tt),
  (
    subst (λ given_up. AllByRecursion (IsOfKindAfter (pair past_again).second.vat (last_told ∷ [])) (if given_up then [] else descriptors.SenderPromise 1 ∷ []))
        (sym (ap (λ o. is_given_up (asked_account o)) (get_is past_again.first.vat.asked 1))) tt,
    (
      subst (λ given_up. AllByRecursion (IsOfKindAfter (pair past_again).second.vat []) (if given_up then [] else descriptors.SenderHosted 1 ∷ []))
          (sym (ap (λ o. is_given_up (asked_account o)) (get_is past_again.first.vat.asked 2)))
          (subst (IsOfExportUnless false (descriptors.SenderHosted 1)) (sym (get_is past_again.second.vat.exports 1)) tt, tt),
      tt,
    ),
  ),
)

other_kind : IsOfOtherKind (pair past_again)
other_kind =
    record {
      given_up = ap (λ o. is_given_up (asked_account o)) (get_is past_again.first.vat.asked 1);
      other_kind = λ h.
          subst
          (IsOfExportUnless false (descriptors.SenderPromise 1))
          (get_is past_again.second.vat.exports 1)
          (h
          (return_message 0 (results (cap 0) (descriptors.SenderHosted 0 ∷ [])) ∷ [])
          (last_told ∷ [])
          promise_told
          refl).0;
      is_of_kind = λ before after m is. after_it LooksRight before after m (subst (EachAfter LooksRight) is all_look_right);
    }

pub number_is_again : NumberAgain
number_is_again = (map move again_moves, plays begun number_again refl, subst IsOfOtherKind (sym (last_is begun again_moves)) other_kind)
