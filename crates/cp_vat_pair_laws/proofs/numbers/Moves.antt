-- Numbers of exports after each list of moves of two vats.
use Rattle.std.specs.Prelude.{◌≡◌, refl, ℕ, ◌+◌, ◌<◌, false, List, [], ◌∷◌, Option, Some, None, is_some, IsTrue, Result}
use Rattle.std.specs.FinMap.{get, empty}
use Rattle.std.proofs.Common.{arith, inl, inr, sym, true≢false}
use Rattle.cp_tables.specs.Table.{Table}
use Rattle.cp_tables.specs.Counted.{IsCount, AreCounts, count_of}
use Rattle.cp_tables.specs.declared.counted.Counted.{Counted}
use Rattle.cp_tables.proofs.CountedLemmas.{AreCounts-empty}
use Rattle.cp_messages.specs.declared.message.Message.{Message}
use Rattle.cp_refs.specs.declared.cap.Cap.{Cap}
use Rattle.cp_vat_machine.specs.State.{State}
use Rattle.cp_vat_machine.specs.Step.{Follows, all_left, found_full, Step, was_closed, ran_out, refused, did, received, faulted}
use Rattle.cp_vat_machine.specs.declared.effect.Effect.{Effect}
use Rattle.cp_vat_machine.specs.declared.entry.ImportKind.{ImportKind}
use Rattle.cp_vat_machine.specs.declared.event.Event.{Event}
use Rattle.cp_vat_machine.specs.declared.event.Event.TheVariants as events
use Rattle.cp_vat_machine.specs.declared.event.Value.{Value}
use Rattle.cp_vat_machine.specs.declared.fault.VatFault.{VatFault}
use Rattle.cp_vat_pair_laws.specs.Accounts.{Accounts, accounts_of, lowerable, lowered_by}
use Rattle.cp_vat_pair_laws.specs.Owed.{named_on_way, owed_between}
use Rattle.cp_vat_pair_laws.specs.VatPair.{VatPair, new_pair, Side, at_first, at_second, across, end_of, Move, messages_sent, Takes, with_mail, Makes, Moves, last_of, AreOpen}
use Rattle.cp_vat_pair_laws.specs.Lives.{IsUsual, AreUsual, AreAgreed}
use Rattle.cp_vat_pair_laws.specs.Expected.{HoldsAlways}
use Rattle.cp_vat_pair_laws.specs.Numbers.{IsNumberOf, Changes, AreCounted, IsHeldThere, IsHeldOver, NumbersStay, FreeIsFree}
use Rattle.cp_vat_pair_laws.proofs.numbers.Receives.{rules_change}
use Rattle.cp_vat_pair_laws.proofs.numbers.Changes.{AreBoth, changes_count, changes_stay, lowering_to, lowering_stays}
use Rattle.cp_vat_pair_laws.proofs.counts.Moves.{Holds, holds_of, move_keeps, first_open, closed_open}

-- the message of an event, if it is one, is a usual one
abbrev IsUsualEvent : Event → Type 0
IsUsualEvent (events.Receive m) = IsUsual m
IsUsualEvent other = Unit {0}

usual_event : (event : Event) (inbox rest : List Message) → AreUsual inbox → Takes inbox event rest → IsUsualEvent event
usual_event (events.Receive m) inbox rest usual takes = (rw takes at usual).0
usual_event events.Bootstrap inbox rest usual takes = tt
usual_event (events.Call cap request) inbox rest usual takes = tt
usual_event (events.Answer origin outcome) inbox rest usual takes = tt
usual_event events.Promise inbox rest usual takes = tt
usual_event (events.Resolve p cap) inbox rest usual takes = tt
usual_event (events.Finish q) inbox rest usual takes = tt
usual_event (events.Release i) inbox rest usual takes = tt
usual_event (events.Forget p) inbox rest usual takes = tt
usual_event events.Idle inbox rest usual takes = tt

-- what follows, while the vat is open
follows_change : (mid new : State) (rest : List Effect) → new.is_closed ≡ false → Follows mid rest new → Changes mid.counts new.counts
follows_change mid new rest open_ (all_left leave) = rules_change.leaves mid new rest leave
follows_change mid new rest open_ (found_full leave all closed) = closed_open closed open_

-- each count stays one
step_counts : {old new : State} {event : Event} {result : Result Value VatFault} {effects : List Effect} → new.is_closed ≡ false → IsUsualEvent event → AreBoth old.counts
    → Step old event result effects new → AreBoth new.counts
step_counts open_ usual all (was_closed event closed) = closed_open closed open_
step_counts open_ usual all (ran_out event was closed) = closed_open closed open_
step_counts open_ usual all (refused event was does) = all
step_counts {old = old} {new = new} open_ usual all (did {value = value} event first more mid was does follows same) =
    changes_count (changes_count all (rules_change.does old event (value, first, mid) does)) (follows_change mid new more open_ follows)
step_counts {old = old} {new = new} open_ usual all (received m first more mid was does follows same) =
    let lowers = rules_change.receives old m (first, mid) usual does in
    changes_count
    (changes_count ((lowering_to old m lowers.0 lowers.1).counts all.0, all.1) lowers.2)
    (follows_change mid new more open_ follows)
step_counts open_ usual all (faulted m was does closed) = closed_open closed open_

-- An export stays that isn't lowered to 0.
abbrev IsLeft : State → Event → ℕ → Type 0
IsLeft old (events.Receive m) e = lowered_by (lowerable (accounts_of old)) m e < count_of old.counts.exports e
IsLeft old other e = Unit {0}

step_stays : {old new : State} {event : Event} {result : Result Value VatFault} {effects : List Effect} → new.is_closed ≡ false → IsUsualEvent event → (e : ℕ) (cap : Cap)
    → IsLeft old event e → IsNumberOf old.counts.exports e cap → Step old event result effects new → IsNumberOf new.counts.exports e cap
step_stays open_ usual e cap left is (was_closed event closed) = is
step_stays open_ usual e cap left is (ran_out event was closed) = closed_open closed open_
step_stays open_ usual e cap left is (refused event was does) = is
step_stays {old = old} {new = new} open_ usual e cap left is (did {value = value} event first more mid was does follows same) =
    changes_stay e cap (changes_stay e cap is (rules_change.does old event (value, first, mid) does)) (follows_change mid new more open_ follows)
step_stays {old = old} {new = new} open_ usual e cap left is (received m first more mid was does follows same) =
    let lowers = rules_change.receives old m (first, mid) usual does in
    changes_stay e cap
    (changes_stay e cap (lowering_stays old m lowers.0 e cap usual lowers.1 left is) lowers.2)
    (follows_change mid new more open_ follows)
step_stays open_ usual e cap left is (faulted m was does closed) = closed_open closed open_

-- what is owed beside what the message lowers is left
left_by : (event : Event) (here : State) (there : Accounts) (inbox rest to_there : List Message) (e : ℕ) → Takes inbox event rest
    → count_of here.counts.exports e ≡ owed_between there to_there (accounts_of here) inbox e → 0 < there.imports e + named_on_way there.questions to_there e
    → IsLeft here event e
left_by (events.Receive m) here there inbox rest to_there e takes counts held =
    let now : count_of here.counts.exports e ≡ owed_between there to_there (accounts_of here) (m ∷ rest) e = rw takes at counts in
    omega (arith, now, held)
left_by events.Bootstrap here there inbox rest to_there e takes counts held = tt
left_by (events.Call cap request) here there inbox rest to_there e takes counts held = tt
left_by (events.Answer origin outcome) here there inbox rest to_there e takes counts held = tt
left_by events.Promise here there inbox rest to_there e takes counts held = tt
left_by (events.Resolve p cap) here there inbox rest to_there e takes counts held = tt
left_by (events.Finish q) here there inbox rest to_there e takes counts held = tt
left_by (events.Release i) here there inbox rest to_there e takes counts held = tt
left_by (events.Forget p) here there inbox rest to_there e takes counts held = tt
left_by events.Idle here there inbox rest to_there e takes counts held = tt

-- What holds of a pair and its counts.
pub record Counts (w : VatPair) : Type 0 where
  pub holds : Holds w
  pub first : AreBoth w.first.vat.counts
  pub second : AreBoth w.second.vat.counts

move_counts : (w : VatPair) (move : Move) → Counts w → Makes w move → AreOpen move.after → Counts move.after
move_counts w move counts makes open_ = by move.side makes.steps makes.takes makes.sends
  where
    by : (side : Side) → Step (end_of w side).vat move.moment.event move.moment.result move.moment.effects (end_of move.after side).vat
        → Takes (end_of w side).inbox move.moment.event (end_of move.after side).inbox
        → end_of move.after (across side) ≡ with_mail (end_of w (across side)) (messages_sent move.moment.effects) → Counts move.after
    by at_first steps takes sends =
        record {
          holds = move_keeps at_first w move.after move.moment counts.holds open_ steps takes sends;
          first = step_counts open_.0 (usual_event move.moment.event w.first.inbox move.after.first.inbox counts.holds.agreed.usual takes) counts.first steps;
          second = rw (sends) counts.second;
        }
    by at_second steps takes sends =
        record {
          holds = move_keeps at_second w move.after move.moment counts.holds open_ steps takes sends;
          first = rw (sends) counts.first;
          second = step_counts open_.1 (usual_event move.moment.event w.second.inbox move.after.second.inbox counts.holds.agreed.usual_back takes) counts.second steps;
        }

all_count : (moves : List Move) (w : VatPair) → Counts w → Moves w moves → AreOpen (last_of w moves) → Counts (last_of w moves)
all_count [] w counts made open_ = counts
all_count (move ∷ more) w counts made open_ =
    all_count more move.after (move_counts w move counts made.0 (first_open more move.after made.1 open_)) made.1 open_

none_counts : AreBoth (record { exports = empty; imports = empty })
none_counts = (AreCounts-empty Cap, AreCounts-empty ImportKind)

pub counts_of : (one other : Option ℕ) (moves : List Move) → Moves (new_pair one other) moves → AreOpen (last_of (new_pair one other) moves)
    → Counts (last_of (new_pair one other) moves)
counts_of one other moves made open_ =
    let opens = first_open moves (new_pair one other) made open_ in
    all_count moves (new_pair one other) (record { holds = holds_of one other [] tt opens; first = none_counts; second = none_counts }) made open_

pub counted_at : (w : VatPair) → Counts w → AreCounted w
counted_at w counts at_first = counts.first
counted_at w counts at_second = counts.second

pub are_counted : HoldsAlways AreCounted
are_counted one other moves made open_ = counted_at (last_of (new_pair one other) moves) (counts_of one other moves made open_)

-- What the other vat holds is counted.
count_above : {X : Type 0} (table : Table (Counted X)) (i : ℕ) (o : Option (Counted X)) → get table i ≡ o → AreCounts table → IsTrue (is_some o) → 0 < count_of table i
count_above table i None is all there = absurd (true≢false (sym there))
count_above table i (Some entry) is all there =
    let counted : IsCount entry.count = rw (is) at (all i) in
    rw (is) counted.0

held_count : (w : VatPair) (side : Side) (e : ℕ) → Counts w → IsHeldThere w side e
    → 0 < (accounts_of (end_of w (across side)).vat).imports e + named_on_way (accounts_of (end_of w (across side)).vat).questions (end_of w (across side)).inbox e
held_count w side e counts (inl there) =
    let above = count_above (end_of w (across side)).vat.counts.imports e (get (end_of w (across side)).vat.counts.imports e) refl (counted_at w counts (across side)).1 there in
    omega (arith, above)
held_count w side e counts (inr named) = omega (arith, named)

-- a number stays in each move
move_stays : (w : VatPair) (move : Move) → Counts w → Makes w move → AreOpen move.after → (side : Side) (e : ℕ) (cap : Cap) → IsNumberOf (end_of w side).vat.counts.exports e cap
    → IsHeldThere w side e → IsNumberOf (end_of move.after side).vat.counts.exports e cap
move_stays w move counts makes open_ side e cap is held = by move.side side makes.steps makes.takes makes.sends is (held_count w side e counts held)
  where
    agreed : AreAgreed w
    agreed = counts.holds.agreed

    by : (mover side : Side) → Step (end_of w mover).vat move.moment.event move.moment.result move.moment.effects (end_of move.after mover).vat
        → Takes (end_of w mover).inbox move.moment.event (end_of move.after mover).inbox
        → end_of move.after (across mover) ≡ with_mail (end_of w (across mover)) (messages_sent move.moment.effects) → IsNumberOf (end_of w side).vat.counts.exports e cap
        → 0 < (accounts_of (end_of w (across side)).vat).imports e + named_on_way (accounts_of (end_of w (across side)).vat).questions (end_of w (across side)).inbox e
        → IsNumberOf (end_of move.after side).vat.counts.exports e cap
    by at_first at_first steps takes sends is held =
        step_stays open_.0 (usual_event move.moment.event w.first.inbox move.after.first.inbox agreed.usual takes) e cap
        (left_by move.moment.event w.first.vat (accounts_of w.second.vat) w.first.inbox move.after.first.inbox w.second.inbox e takes (agreed.counts e) held) is steps
    by at_second at_second steps takes sends is held =
        step_stays open_.1 (usual_event move.moment.event w.second.inbox move.after.second.inbox agreed.usual_back takes) e cap
        (left_by move.moment.event w.second.vat (accounts_of w.first.vat) w.second.inbox move.after.second.inbox w.first.inbox e takes (agreed.counts_back e) held) is steps
    by at_first at_second steps takes sends is held = rw (sends) is
    by at_second at_first steps takes sends is held = rw (sends) is

all_stay : (more : List Move) (w : VatPair) → Counts w → Moves w more → AreOpen (last_of w more) → (side : Side) (e : ℕ) (cap : Cap) → IsNumberOf (end_of w side).vat.counts.exports e cap
    → IsHeldOver w side e more → IsNumberOf (end_of (last_of w more) side).vat.counts.exports e cap
all_stay [] w counts made open_ side e cap is held = is
all_stay (move ∷ more) w counts made open_ side e cap is held =
    let open_after = first_open more move.after made.1 open_ in
    all_stay more move.after (move_counts w move counts made.0 open_after) made.1 open_ side e cap
    (move_stays w move counts made.0 open_after side e cap is held.0) held.1

pub numbers_stay : NumbersStay
numbers_stay one other moves more made goes open_ side e cap is held =
    let w : VatPair = last_of (new_pair one other) moves in
    all_stay more w (counts_of one other moves made (first_open more w goes open_)) goes open_ side e cap is held

-- a number without an export
owed_at : (w : VatPair) (side : Side) (e : ℕ) → AreAgreed w
    → count_of (end_of w side).vat.counts.exports e
    ≡ owed_between (accounts_of (end_of w (across side)).vat) (end_of w (across side)).inbox (accounts_of (end_of w side).vat) (end_of w side).inbox e
owed_at w at_first e agreed = agreed.counts e
owed_at w at_second e agreed = agreed.counts_back e

pub free_is_free : HoldsAlways FreeIsFree
free_is_free one other moves made open_ side e none held =
    let w : VatPair = last_of (new_pair one other) moves in
    let counts = counts_of one other moves made open_ in
    let nothing : count_of (end_of w side).vat.counts.exports e ≡ 0 = rw (none) refl in
    absurd (omega (arith, owed_at w side e counts.holds.agreed, nothing, held_count w side e counts held))
