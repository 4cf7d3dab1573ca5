-- Each move keeps what holds of a pair in which nothing is finished, released or forgotten.
use Rattle.std.specs.Prelude.{◌≡◌, refl, ℕ, ◌+◌, ◌<◌, if◌then◌else◌, Bool, true, false, List, [], ◌∷◌, ◌++◌, Option, Some, None, is_some, IfSome, IsTrue, Result, Ok, Err}
use Rattle.std.specs.List.{list_any, count_by}
use Rattle.std.specs.FinMap.{get}
use Rattle.std.proofs.Common.{arith, ap, sym, ◌∙◌, true≢false}
use Rattle.std.proofs.lemmas.List.Folds.{list_any-append}
use Rattle.cp_tables.specs.Counted.{count_of, IsCount}
use Rattle.cp_tables.specs.declared.counted.Counted.{Counted}
use Rattle.cp_messages.specs.declared.message.Message.{Message}
use Rattle.cp_messages.specs.declared.message.Message.TheVariants as messages
use Rattle.cp_messages.specs.declared.resolve.Resolve.{Resolve}
use Rattle.cp_refs.specs.declared.cap.Cap.{Cap}
use Rattle.cp_refs.specs.declared.cap.Cap.TheVariants as caps
use Rattle.cp_vat_machine.specs.State.{State}
use Rattle.cp_vat_machine.specs.Receiving.{times}
use Rattle.cp_vat_machine.specs.Give.{returned_mentions}
use Rattle.cp_vat_machine.specs.Calling.{OwnDone}
use Rattle.cp_vat_machine.specs.Local.{Local}
use Rattle.cp_vat_machine.specs.Run.{Moment}
use Rattle.cp_vat_machine.specs.Step.{Does, Step, was_closed, ran_out, refused, did, received, faulted, Follows, all_left, found_full}
use Rattle.cp_vat_machine.specs.declared.effect.Effect.{Effect}
use Rattle.cp_vat_machine.specs.declared.entry.ImportKind.{ImportKind}
use Rattle.cp_vat_machine.specs.declared.event.Event.{Event}
use Rattle.cp_vat_machine.specs.declared.event.Event.TheVariants as events
use Rattle.cp_vat_machine.specs.declared.event.Value.{Value}
use Rattle.cp_vat_machine.specs.declared.fault.VatFault.{VatFault}
use Rattle.cp_vat_machine.proofs.Basics.{none_out, or_first, or_second}
use Rattle.cp_vat_laws.specs.Within.{Within}
use Rattle.cp_vat_laws.proofs.within.Between.{local_is_within}
use Rattle.cp_vat_laws.proofs.within.Step.{does_within, receives_within, step_keeps}
use Rattle.cp_vat_pair_laws.specs.Ledger.{named_by}
use Rattle.cp_vat_pair_laws.specs.Accounts.{Account, accounts_of, is_given_up, taken_in, Lowerable, lowerable, lowered_by, lowerable_after}
use Rattle.cp_vat_pair_laws.specs.Owed.{named_on_way, lowered_on_way}
use Rattle.cp_vat_pair_laws.specs.VatPair.{VatPair, Side, at_first, at_second, across, End, end_of, Move, Makes, messages_sent, Takes, with_mail, AreOpen}
use Rattle.cp_vat_pair_laws.specs.Lives.{IsUsual, AreUsual, Agree, AreAgreed}
use Rattle.cp_vat_pair_laws.specs.Naming.{is_loop, is_echo, AreLooped}
use Rattle.cp_vat_pair_laws.specs.Lane.{IsStill}
use Rattle.cp_vat_pair_laws.specs.Phases.{gives_up, IsQuiet}
use Rattle.cp_vat_pair_laws.specs.Places.{NoneFinished, IsLastOf, AreLast}
use Rattle.cp_vat_pair_laws.specs.LaneKept.{EndHolds, StillHolds}
use Rattle.cp_vat_pair_laws.specs.Orderly.{IsOrderly}
use Rattle.cp_vat_pair_laws.proofs.counts.Moves.{Holds, move_keeps, agree_back}
use Rattle.cp_vat_pair_laws.proofs.still.Grows.{NameNot, last_stays, count_more, any_none, grown_none}
use Rattle.cp_vat_pair_laws.proofs.still.Go.{leave_grows}
use Rattle.cp_vat_pair_laws.proofs.still.Does.{Moved, grown_moved, moved_then, does_moved}
use Rattle.cp_vat_pair_laws.proofs.still.Receives.{ComesToHeld, receives_moved}

-- What isn't named on the way isn't taken in, and where nothing is given up nothing is lowered.
taken_not : (questions : ℕ → Option Account) (e : ℕ) (m : Message) → times e (named_by m) ≡ 0 → times e (taken_in questions m) ≡ 0
taken_not questions e (messages.Return r) not_ = by (is_given_up (questions r.answer_id))
  where
    by : (b : Bool) → times e (if b then [] else returned_mentions r.returned) ≡ 0
    by true = refl
    by false = not_
taken_not questions e m not_ = not_

way_not : (questions : ℕ → Option Account) (e : ℕ) (ms : List Message) → NameNot e ms → named_on_way questions ms e ≡ 0
way_not questions e [] h = refl
way_not questions e (m ∷ ms) h = omega (arith, taken_not questions e m h.0, way_not questions e ms h.1)

lowers_none : (lists : Lowerable) (m : Message) (e : ℕ) → IsUsual m → gives_up m ≡ false → lowered_by lists m e ≡ 0
lowers_none lists (messages.Release r) e usual quiet = absurd (true≢false quiet)
lowers_none lists (messages.Return r) e usual quiet = rw (usual.1.0) refl
lowers_none lists (messages.Finish f) e usual quiet = rw (quiet) refl
lowers_none lists (messages.Unimplemented t) e usual quiet = absurd usual.1
lowers_none lists (messages.Abort x) e usual quiet = refl
lowers_none lists (messages.Call c) e usual quiet = refl
lowers_none lists (messages.Resolve r) e usual quiet = refl
lowers_none lists (messages.Bootstrap b) e usual quiet = refl
lowers_none lists (messages.Disembargo d) e usual quiet = refl
lowers_none lists (messages.Other which body) e usual quiet = refl

none_lowered : (lists : Lowerable) (ms : List Message) (e : ℕ) → AreUsual ms → list_any gives_up ms ≡ false → lowered_on_way lists ms e ≡ 0
none_lowered lists [] e usual quiet = refl
none_lowered lists (m ∷ ms) e usual quiet =
    omega (
      arith,
      lowers_none lists m e usual.0 (or_first (gives_up m) (list_any gives_up ms) quiet),
      none_lowered (lowerable_after m lists) ms e usual.1 (or_second (gives_up m) (list_any gives_up ms) quiet),
    )

-- So a Resolve comes to an import that is held.
counted_there : (s : State) (e : ℕ) (count : ℕ) (o : Option (Counted Cap)) → get s.counts.exports e ≡ o → IfSome o (λ entry. IsCount entry.count)
    → (c : Cap) → o ≡ Some (record { count = count; kept = c }) → 0 < count_of s.counts.exports e
counted_there s e count None at fine c is = none_out is
counted_there s e count (Some entry) at fine c is = rw (at) fine.0

held_if : (o : Option (Counted ImportKind)) (s : State) (i : ℕ) → get s.counts.imports i ≡ o → 0 < count_of s.counts.imports i → IsTrue (is_some o)
held_if None s i at above = absurd (never (rw at at above))
  where
    never : 0 < 0 → ⊥
    never n = omega (arith, n)
held_if (Some entry) s i at above = refl

pub resolve_is_held : (here there : End) (r : Resolve) (rest : List Message) → Agree (accounts_of here.vat) (messages.Resolve r ∷ rest) (accounts_of there.vat) there.inbox
    → Local there.vat → list_any gives_up there.inbox ≡ false → IsLastOf there.vat (messages.Resolve r) rest → IsTrue (is_some (get here.vat.counts.imports r.promise_id))
resolve_is_held here there r rest agree local_ quiet last =
    let e = r.promise_id in
    let owed : count_of there.vat.counts.exports e
    ≡ count_of here.vat.counts.imports e + named_on_way (accounts_of here.vat).questions (messages.Resolve r ∷ rest) e
    + lowered_on_way (lowerable (accounts_of there.vat)) there.inbox e = agree.counts_back e in
    let named = way_not (accounts_of here.vat).questions e (messages.Resolve r ∷ rest) last.4 in
    let lowered_ = none_lowered (lowerable (accounts_of there.vat)) there.inbox e agree.usual_back quiet in
    let above = counted_there there.vat e last.2.0 (get there.vat.counts.exports e) refl (local_.counts e) (caps.Promise last.0) last.2.1 in
    held_if (get here.vat.counts.imports e) here.vat e refl (omega (arith, owed, named, lowered_, above))

pub comes_to_held : (here there : End) (m : Message) (rest : List Message) → Agree (accounts_of here.vat) (m ∷ rest) (accounts_of there.vat) there.inbox
    → Local there.vat → list_any gives_up there.inbox ≡ false → IsLastOf there.vat m rest → ComesToHeld here.vat m
comes_to_held here there (messages.Resolve r) rest agree local_ quiet last = resolve_is_held here there r rest agree local_ quiet last
comes_to_held here there m rest agree local_ quiet last = tt

-- what one step keeps, with the message that it takes
pub record StepMoved (old : State) (inbox : List Message) (effects : List Effect) (new : State) (rest : List Message) : Type 0 where
  pub arrived : List Message
  pub took : inbox ≡ arrived ++ rest
  pub moved : Moved arrived old effects new

closed_open : {A : Type 0} {b : Bool} → b ≡ true → b ≡ false → A
closed_open closed open_ = absurd (true≢false (sym closed ∙ open_))

pub own_takes : (old : State) (event : Event) (out : Result OwnDone VatFault) (inbox rest : List Message) → Does old event out → Takes inbox event rest → inbox ≡ rest
own_takes old (events.Receive m) out inbox rest does takes = absurd does
own_takes old events.Bootstrap out inbox rest does takes = sym takes
own_takes old (events.Call cap request) out inbox rest does takes = sym takes
own_takes old (events.Answer origin outcome) out inbox rest does takes = sym takes
own_takes old events.Promise out inbox rest does takes = sym takes
own_takes old (events.Resolve p cap) out inbox rest does takes = sym takes
own_takes old (events.Finish q) out inbox rest does takes = sym takes
own_takes old (events.Release i) out inbox rest does takes = sym takes
own_takes old (events.Forget p) out inbox rest does takes = sym takes
own_takes old events.Idle out inbox rest does takes = sym takes

follows_moved : {arrived : List Message} {old mid new : State} {first rest : List Effect} → Within mid None [] → new.is_closed ≡ false → Moved arrived old first mid
    → Follows mid rest new → Moved arrived old (first ++ rest) new
follows_moved {mid = mid} {new = new} {rest = rest} h open_ moved (all_left leave) = moved_then moved (leave_grows mid new rest h leave)
follows_moved h open_ moved (found_full leave all closed) = closed_open closed open_

pub step_moved : {old new : State} {event : Event} {result : Result Value VatFault} {effects : List Effect} (inbox rest : List Message) → Local old → NoneFinished old
    → ((m : Message) (more : List Message) → inbox ≡ m ∷ more → IsUsual m × (gives_up m ≡ false) × ComesToHeld old m) → Takes inbox event rest → IsStill event
    → new.is_closed ≡ false → Step old event result effects new → StepMoved old inbox effects new rest
step_moved inbox rest local_ none front takes still open_ (was_closed event closed) = closed_open closed open_
step_moved inbox rest local_ none front takes still open_ (ran_out event was closed) = closed_open closed open_
step_moved {old = old} inbox rest local_ none front takes still open_ (refused {fault = fault} event was does) =
    record { arrived = []; took = own_takes old event (Err fault) inbox rest does takes; moved = grown_moved (grown_none old) }
step_moved {old = old} {new = new} inbox rest local_ none front takes still open_ (did {value = value} event first more mid was does follows all) =
    let within = does_within old event (value, first, mid) local_ does in
    let own = does_moved old event (value, first, mid) (local_is_within old local_) still does in
    record {
      arrived = [];
      took = own_takes old event (Ok (value, first, mid)) inbox rest does takes;
      moved = rw (all) (follows_moved within open_ own follows);
    }
step_moved {old = old} {new = new} inbox rest local_ none front takes still open_ (received m first more mid was does follows all) =
    let known = front m rest takes in
    let within = receives_within old m (first, mid) local_ does in
    let own = receives_moved old (local_is_within old local_) local_.none_over_ none m (first, mid) known.0 known.1 known.2 does in
    record { arrived = m ∷ []; took = takes; moved = rw (all) (follows_moved within open_ own follows) }
step_moved inbox rest local_ none front takes still open_ (faulted m was does closed) = closed_open closed open_

-- The two ends after it.
any_back : (p : Message → Bool) (xs ys : List Message) → list_any p (xs ++ ys) ≡ false → list_any p ys ≡ false
any_back p xs ys none = or_second (list_any p xs) (list_any p ys) (sym (list_any-append p xs ys) ∙ none)

last_back : (s : State) (xs ys : List Message) → AreLast s (xs ++ ys) → AreLast s ys
last_back s [] ys h = h
last_back s (x ∷ xs) ys h = last_back s xs ys h.1

module _ (here there : End) (new : State) (rest : List Message) (effects : List Effect) (step : StepMoved here.vat here.inbox effects new rest) where
  abbrev here_after : End
  here_after = record { vat = new; inbox = rest }

  abbrev there_after : End
  there_after = with_mail there (messages_sent effects)

  taken_loops : (n : ℕ) → count_by (is_loop n) here.inbox ≡ count_by (is_loop n) step.arrived + count_by (is_loop n) rest
  taken_loops n = ap (count_by (is_loop n)) step.took ∙ count_more (is_loop n) step.arrived rest

  taken_echoes : (n : ℕ) → count_by (is_echo n) here.inbox ≡ count_by (is_echo n) step.arrived + count_by (is_echo n) rest
  taken_echoes n = ap (count_by (is_echo n)) step.took ∙ count_more (is_echo n) step.arrived rest

  loops_here : AreLooped here.vat there.inbox here.inbox → AreLooped new there_after.inbox rest
  loops_here h n =
      omega
      (arith, h n, taken_echoes n, step.moved.loops.embargoes n, count_more (is_loop n) there.inbox (messages_sent effects))

  loops_there : AreLooped there.vat here.inbox there.inbox → AreLooped there.vat rest there_after.inbox
  loops_there h n =
      omega (arith, h n, taken_loops n, step.moved.loops.echoes n, count_more (is_echo n) there.inbox (messages_sent effects))

  pub quiet_here : IsQuiet here → IsQuiet here_after
  quiet_here h =
      record {
        questions = step.moved.mails.unfinished h.questions;
        inbox = any_back gives_up step.arrived rest (sym (ap (list_any gives_up) step.took) ∙ h.inbox);
      }

  pub quiet_there : NoneFinished here.vat → IsQuiet there → IsQuiet there_after
  quiet_there none h =
      record { questions = h.questions; inbox = any_none gives_up there.inbox (messages_sent effects) h.inbox (step.moved.mails.quiet none) }

  last_here : AreLast there.vat here.inbox → AreLast there.vat rest
  last_here h = last_back there.vat step.arrived rest (rw (← step.took) h)

  last_there : AreLast here.vat there.inbox → AreLast new there_after.inbox
  last_there h =
      last_stays here.vat new step.moved.ways step.moved.exports there.inbox (messages_sent effects) step.moved.mails.names h step.moved.mails.last

  pub ends_here : Local new → IsOrderly new → EndHolds here there → EndHolds here_after there_after
  ends_here local_ orderly h =
      record { local_ = local_; orderly = orderly; quiet = quiet_here h.quiet; loops = loops_here h.loops; last = last_here h.last }

  pub ends_there : EndHolds here there → EndHolds there here → EndHolds there_after here_after
  ends_there other h =
      record {
        local_ = h.local_;
        orderly = h.orderly;
        quiet = quiet_there other.quiet.questions h.quiet;
        loops = loops_there h.loops;
        last = last_there h.last;
      }

-- the step of the one end
any_front : (p : Message → Bool) (m : Message) (more ms : List Message) → ms ≡ m ∷ more → list_any p ms ≡ false → p m ≡ false
any_front p m more ms is none = or_first (p m) (list_any p more) (sym (ap (list_any p) is) ∙ none)

pub front_known : (here there : End) → EndHolds here there → EndHolds there here → Agree (accounts_of here.vat) here.inbox (accounts_of there.vat) there.inbox
    → (m : Message) (more : List Message) → here.inbox ≡ m ∷ more → IsUsual m × (gives_up m ≡ false) × ComesToHeld here.vat m
front_known here there one other agree m more is =
    let agree_now : Agree (accounts_of here.vat) (m ∷ more) (accounts_of there.vat) there.inbox = rw is at agree in
    let last_now : AreLast there.vat (m ∷ more) = rw is at one.last in (
      agree_now.usual.0,
      any_front gives_up m more here.inbox is one.quiet.inbox,
      comes_to_held here there m more agree_now other.local_ other.quiet.inbox last_now.0,
    )

pub end_moved : (here there after : End) (moment : Moment) → EndHolds here there → EndHolds there here
    → Agree (accounts_of here.vat) here.inbox (accounts_of there.vat) there.inbox → IsStill moment.event → after.vat.is_closed ≡ false
    → Step here.vat moment.event moment.result moment.effects after.vat → Takes here.inbox moment.event after.inbox
    → StepMoved here.vat here.inbox moment.effects after.vat after.inbox
end_moved here there after moment one other agree still open_ steps takes =
    step_moved here.inbox after.inbox one.local_ one.quiet.questions (front_known here there one other agree) takes still open_ steps

-- from either side
pub agree_at : (side : Side) (w : VatPair) → AreAgreed w
    → Agree (accounts_of (end_of w side).vat) (end_of w side).inbox (accounts_of (end_of w (across side)).vat) (end_of w (across side)).inbox
agree_at at_first w agreed = agreed
agree_at at_second w agreed = agree_back agreed

pub end_open : (side : Side) (w : VatPair) → AreOpen w → (end_of w side).vat.is_closed ≡ false
end_open at_first w open_ = open_.0
end_open at_second w open_ = open_.1

holds_now : (w : VatPair) → StillHolds w → Holds w
holds_now w h = record { agreed = h.agreed; first = (h.ends at_first).orderly; second = (h.ends at_second).orderly }

pub other_end : (side : Side) (w : VatPair) → StillHolds w → EndHolds (end_of w (across side)) (end_of w side)
other_end at_first w h = h.ends at_second
other_end at_second w h = h.ends at_first

pub move_moved : (w : VatPair) (move : Move) → StillHolds w → Makes w move → AreOpen move.after → IsStill move.moment.event
    → StepMoved (end_of w move.side).vat (end_of w move.side).inbox move.moment.effects (end_of move.after move.side).vat (end_of move.after move.side).inbox
move_moved w move h makes open_ still =
    end_moved (end_of w move.side) (end_of w (across move.side)) (end_of move.after move.side) move.moment (h.ends move.side) (other_end move.side w h) (agree_at move.side w h.agreed)
    still (end_open move.side move.after open_) makes.steps makes.takes

pub still_kept : (w : VatPair) (move : Move) → StillHolds w → Makes w move → AreOpen move.after → IsStill move.moment.event → StillHolds move.after
still_kept w move h makes open_ still =
    by move.side move.after move.moment makes.steps makes.sends (move_moved w move h makes open_ still)
    (move_keeps move.side w move.after move.moment (holds_now w h) open_ makes.steps makes.takes makes.sends) open_
  where
    by : (side : Side) (after : VatPair) (moment : Moment) → Step (end_of w side).vat moment.event moment.result moment.effects (end_of after side).vat
        → end_of after (across side) ≡ with_mail (end_of w (across side)) (messages_sent moment.effects)
        → StepMoved (end_of w side).vat (end_of w side).inbox moment.effects (end_of after side).vat (end_of after side).inbox → Holds after → AreOpen after
        → StillHolds after
    by at_first after moment steps sends moved holds open_now = record { agreed = holds.agreed; ends = ends }
      where
        local_ : Local after.first.vat
        local_ = step_keeps w.first.vat after.first.vat moment.event moment.result moment.effects (h.ends at_first).local_ open_now.0 steps

        ends : (side : Side) → EndHolds (end_of after side) (end_of after (across side))
        ends at_first = rw (sends) (ends_here w.first w.second after.first.vat after.first.inbox moment.effects moved local_ holds.first (h.ends at_first))
        ends at_second = rw (sends) (ends_there w.first w.second after.first.vat after.first.inbox moment.effects moved (h.ends at_first) (h.ends at_second))
    by at_second after moment steps sends moved holds open_now = record { agreed = holds.agreed; ends = ends }
      where
        local_ : Local after.second.vat
        local_ = step_keeps w.second.vat after.second.vat moment.event moment.result moment.effects (h.ends at_second).local_ open_now.1 steps

        ends : (side : Side) → EndHolds (end_of after side) (end_of after (across side))
        ends at_first = rw (sends) (ends_there w.second w.first after.second.vat after.second.inbox moment.effects moved (h.ends at_second) (h.ends at_first))
        ends at_second = rw (sends) (ends_here w.second w.first after.second.vat after.second.inbox moment.effects moved local_ holds.second (h.ends at_second))
