-- A pair in which a reference is told a promise that leads back to an object already.
use Rattle.std.specs.Prelude.{◌≡◌, refl, ℕ, Bool, true, false, List, [], ◌∷◌, ◌++◌, map, Option, Some, None, is_some}
use Rattle.std.specs.List.{AllByRecursion}
use Rattle.std.specs.FinMap.{get}
use Rattle.std.proofs.Common.{inl, ap, subst, sym, ◌∙◌, unwrap_or, true≢false}
use Rattle.cp_tree.specs.Node.{cap}
use Rattle.cp_messages.specs.declared.descriptor.Descriptor.{Descriptor}
use Rattle.cp_messages.specs.declared.descriptor.Descriptor.TheVariants as descriptors
use Rattle.cp_messages.specs.declared.message.Message.{Message}
use Rattle.cp_messages.specs.declared.resolve.Resolution.TheVariants as resolutions
use Rattle.cp_refs.specs.Route.{promise_way}
use Rattle.cp_refs.specs.Values.{ValueMaps}
use Rattle.cp_refs.specs.declared.cap.Cap.TheVariants as caps
use Rattle.cp_refs.specs.declared.outcome.Outcome.TheVariants as outcomes
use Rattle.cp_vat_machine.specs.Writing.{ResolvesTo, end_by, end_within}
use Rattle.cp_vat_machine.specs.Calling.{plain, on_wire, came_to, reference_of, question_reference}
use Rattle.cp_vat_machine.specs.Calling as calling
use Rattle.cp_vat_machine.specs.InUse.{is_question_here}
use Rattle.cp_vat_pair_laws.specs.Lane.{cap_of}
use Rattle.cp_vat_pair_laws.specs.Naming.{answered_cap, place_of}
use Rattle.cp_vat_pair_laws.specs.Phases.{EndsAt, IsOnly, tells, told_by, Phase, absent, unopened, unsettled, told, free, marked, embargoed, echoed, local_open, ToldOther}
use Rattle.test_vat.specs.RowWords.{return_message, resolve_message, results, one_object}
use Rattle.test_vat.specs.LaneRows.{given_reference}
use Rattle.test_vat.specs.LanePairs.{settled_ahead, IsToldAhead, SettledAhead}
use Rattle.test_vat.proofs.Known.{get_is}
use Rattle.test_vat.proofs.Owning.{reference_is}
use Rattle.test_vat.proofs.KnownPairs.{KnownPair, pair, new_pairs, KnownMove, move, find_moves, moves_of, plays, last_known, last_is}

abbrev begun : KnownPair
begun = new_pairs (Some 0) (Some 0)

abbrev ahead_moves : List KnownMove
ahead_moves = moves_of (find_moves begun settled_ahead)

abbrev past : KnownPair
past = last_known begun ahead_moves

abbrev is_on_wire : calling.Standing → Bool
is_on_wire plain = false
is_on_wire on_wire = true
is_on_wire (came_to value) = false

abbrev is_hosted : Option Descriptor → Bool
is_hosted (Some (descriptors.ReceiverHosted e)) = true
is_hosted other = false

in_all : {X : Type 0} (P : X → Type 0) (before after : List X) (m : X) → AllByRecursion P (before ++ m ∷ after) → P m
in_all P [] after m h = h.0
in_all P (x ∷ before) after m h = in_all P before after m h.1

none_in : {X : Type 0} (before after : List X) (m : X) → [] ≡ before ++ m ∷ after → ⊥
none_in [] after m is = cc
none_in (x ∷ before) after m is = cc

-- the place: a promise that came to what was lent
place_is : place_of (pair past).second.vat given_reference ≡ Some (caps.Promise 0)
place_is = ap (answered_cap (0 ∷ [])) (get_is past.second.vat.answers 1)

comes_back : (values : ValueMaps) → get values.promises 0 ≡ Some (Some (caps.Import 0)) → ResolvesTo values (caps.Promise 0) (caps.Import 0)
comes_back values is = (2, ap (λ o. end_by (λ next. end_within 1 values next) (caps.Promise 0) (promise_way 0 o)) is)

ends_there : EndsAt (pair past).second.vat (place_of (pair past).second.vat given_reference) 0
ends_there = rw (place_is) (comes_back (pair past).second.vat.values (get_is past.second.vat.promises 0))

-- the reference: open, and told a promise
open_yet : reference_of (pair past).first.vat.values (cap_of given_reference) ≡ on_wire
open_yet = reference_is past.first.vat (cap_of given_reference)

not_other : {A : Type 0} (r : calling.Standing) → is_on_wire r ≡ false → reference_of (pair past).first.vat.values (cap_of given_reference) ≡ r → A
not_other r other e = absurd (true≢false (ap is_on_wire (sym open_yet ∙ e) ∙ other))

told_promise : ToldOther (pair past).first (pair past).second given_reference []
told_promise =
    record {
      yet = inl open_yet;
      closed = (outcomes.Results one_object (caps.Promise 0 ∷ []), get_is past.second.vat.answers 1);
      before = return_message 0 (results (cap 0) (descriptors.SenderHosted 0 ∷ [])) ∷ [];
      telling = return_message 1 (results one_object (descriptors.SenderPromise 1 ∷ []));
      after = resolve_message 1 (resolutions.Cap (descriptors.ReceiverHosted 0)) ∷ [];
      only = record { all = refl; it = refl; none_before = refl; none_after = refl };
      says = tt;
    }

abbrev on_the_way : List Message
on_the_way =
    return_message 0 (results (cap 0) (descriptors.SenderHosted 0 ∷ []))
    ∷ return_message 1 (results one_object (descriptors.SenderPromise 1 ∷ []))
    ∷ resolve_message 1 (resolutions.Cap (descriptors.ReceiverHosted 0)) ∷ []

they_are : on_the_way ≡ (pair past).first.inbox
they_are = refl

abbrev TellsNoHost : Message → Type 0
TellsNoHost m = tells given_reference m ≡ true → is_hosted (told_by given_reference m) ≡ false

none_tells : AllByRecursion TellsNoHost on_the_way
none_tells = (λ h. refl, (λ h. refl, (λ h. refl, tt)))

not_told : (before after : List Message) (m : Message) → IsOnly (pair past).first.inbox (tells given_reference) before m after → (e : ℕ)
    → told_by given_reference m ≡ Some (descriptors.ReceiverHosted e) → ⊥
not_told before after m only e says =
    true≢false (sym (ap is_hosted says) ∙ in_all TellsNoHost before after m (subst (AllByRecursion TellsNoHost) (they_are ∙ only.all) none_tells) only.it)

no_phase : Phase (pair past).first (pair past).second given_reference [] → ⊥
no_phase (absent p) = not_other plain refl (ap (question_reference (0 ∷ [])) p.none)
no_phase (unopened p) = none_in p.before p.after p.opening p.only.all
no_phase (unsettled p) = true≢false (ap (λ o. is_some (unwrap_or o None)) (sym (get_is past.second.vat.answers 1) ∙ p.open_.0))
no_phase (told p) = not_told p.before p.after p.telling p.only p.number p.says
no_phase (free p) = not_other (came_to (caps.Object p.object)) refl p.came
no_phase (marked p) = not_other (came_to (caps.Object p.comes.object)) refl p.comes.came
no_phase (embargoed p) = not_other (came_to (caps.Object p.comes.object)) refl p.comes.came
no_phase (echoed p) = not_other (came_to (caps.Object p.comes.object)) refl p.comes.came
no_phase (local_open p) = true≢false (sym p.open_.0 ∙ ap is_question_here (get_is past.first.vat.questions 1))

ahead : IsToldAhead (pair past)
ahead =
    record {
      ends = ends_there;
      is_own = (1, get_is past.first.vat.exports 0);
      told = told_promise;
      not_come = λ came. not_other (came_to came.0) refl came.1;
      not_hosted = λ there. there.hosted;
      no_phase = no_phase;
    }

pub is_settled_ahead : SettledAhead
is_settled_ahead = (map move ahead_moves, plays begun settled_ahead refl, subst IsToldAhead (sym (last_is begun ahead_moves)) ahead)
