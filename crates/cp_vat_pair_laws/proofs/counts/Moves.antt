-- Two vats agree after each list of moves.
use Rattle.std.specs.Prelude.{◌≡◌, refl, ℕ, Bool, true, false, List, [], ◌∷◌, ◌++◌, Option, Result, Ok, Err}
use Rattle.std.proofs.Common.{ap, sym, ◌∙◌, true≢false}
use Rattle.cp_tables.specs.Counted.{count_of}
use Rattle.cp_messages.specs.declared.message.Message.{Message}
use Rattle.cp_vat_machine.specs.State.{State}
use Rattle.cp_vat_machine.specs.Run.{Moment}
use Rattle.cp_vat_machine.specs.Step.{Does, Step, was_closed, ran_out, refused, did, received, faulted}
use Rattle.cp_vat_machine.specs.Calling.{OwnDone}
use Rattle.cp_vat_machine.specs.declared.effect.Effect.{Effect}
use Rattle.cp_vat_machine.specs.declared.event.Event.{Event}
use Rattle.cp_vat_machine.specs.declared.event.Event.TheVariants as events
use Rattle.cp_vat_machine.specs.declared.event.Value.{Value}
use Rattle.cp_vat_machine.specs.declared.fault.VatFault.{VatFault}
use Rattle.cp_vat_pair_laws.specs.Accounts.{Accounts, accounts_of}
use Rattle.cp_vat_pair_laws.specs.VatPair.{VatPair, new_pair, Side, at_first, at_second, across, end_of, Move, messages_sent, Takes, with_mail, Moves, last_of, AreOpen}
use Rattle.cp_vat_pair_laws.specs.Owed.{owed}
use Rattle.cp_vat_pair_laws.specs.Lives.{Agree, AreAgreed}
use Rattle.cp_vat_pair_laws.specs.Laws.{CountsAgree}
use Rattle.cp_vat_pair_laws.specs.Orderly.{IsOrderly}
use Rattle.cp_vat_pair_laws.proofs.counts.AgreeAll.{keeps_by}
use Rattle.cp_vat_pair_laws.proofs.NewPairs.{new_agree, new_orderly}
use Rattle.cp_vat_pair_laws.proofs.counts.rules.TwoParts.{sends_both, sends_none, hears_both}
use Rattle.cp_vat_pair_laws.proofs.counts.rules.Does.{does_goes}
use Rattle.cp_vat_pair_laws.proofs.counts.rules.Receives.{receives_heeds, follows_goes}

-- a call of the application takes no message
no_message : (old : State) (event : Event) (out : Result OwnDone VatFault) (inbox rest : List Message) → Does old event out → Takes inbox event rest → rest ≡ inbox
no_message old (events.Receive m) out inbox rest does takes = absurd does
no_message old events.Bootstrap out inbox rest does takes = takes
no_message old (events.Call cap request) out inbox rest does takes = takes
no_message old (events.Answer origin outcome) out inbox rest does takes = takes
no_message old events.Promise out inbox rest does takes = takes
no_message old (events.Resolve p cap) out inbox rest does takes = takes
no_message old (events.Finish q) out inbox rest does takes = takes
no_message old (events.Release i) out inbox rest does takes = takes
no_message old (events.Forget p) out inbox rest does takes = takes
no_message old events.Idle out inbox rest does takes = takes

pub closed_open : {A : Type 0} {b : Bool} → b ≡ true → b ≡ false → A
closed_open closed open_ = absurd (true≢false (sym closed ∙ open_))

-- after a step of the one, while it is open
abbrev AgreeOn : State → List Message → Accounts → List Message → Type 0
AgreeOn new rest other to_other = Agree (accounts_of new) rest other to_other × IsOrderly new

same_inbox : (old : State) (inbox rest to_other : List Message) (other : Accounts) → rest ≡ inbox → Agree (accounts_of old) inbox other to_other
    → Agree (accounts_of old) rest other to_other
same_inbox old inbox rest to_other other same agree = rw (same) agree

step_agrees : {old new : State} {event : Event} {result : Result Value VatFault} {effects : List Effect} (inbox rest to_other : List Message) (other : Accounts) → IsOrderly old
    → Agree (accounts_of old) inbox other to_other → Takes inbox event rest → new.is_closed ≡ false → Step old event result effects new
    → AgreeOn new rest other (to_other ++ messages_sent effects)
step_agrees inbox rest to_other other orderly agree takes open_ (was_closed event closed) = closed_open closed open_
step_agrees inbox rest to_other other orderly agree takes open_ (ran_out event was closed) = closed_open closed open_
step_agrees {old = old} inbox rest to_other other orderly agree takes open_ (refused {fault = fault} event was does) =
    let same = no_message old event (Err fault) inbox rest does takes in
    (keeps_by.sends (same_inbox old inbox rest to_other other same agree) (sends_none old old [] refl refl), orderly)
step_agrees {old = old} {new = new} inbox rest to_other other orderly agree takes open_ (did {value = value} event first more mid was does follows all) =
    let same = no_message old event (Ok (value, first, mid)) inbox rest does takes in
    let goes = does_goes old event (value, first, mid) orderly does in
    let on = follows_goes mid new more open_ goes.1 follows in
    rw (all) (keeps_by.sends (same_inbox old inbox rest to_other other same agree) (sends_both old mid new first more goes.0 on.0), on.1)
step_agrees {old = old} {new = new} inbox rest to_other other orderly agree takes open_ (received m first more mid was does follows all) =
    let there : Agree (accounts_of old) (m ∷ rest) other to_other = rw takes at agree in
    let heeds = receives_heeds old m (first, mid) there.usual.0.0 orderly does in
    let on = follows_goes mid new more open_ heeds.1 follows in
    rw (all) (keeps_by.hears there (hears_both old mid new m first more heeds.0 on.0), on.1)
step_agrees inbox rest to_other other orderly agree takes open_ (faulted m was does closed) = closed_open closed open_

-- a vat that is open was so before
pub step_open : {old new : State} {event : Event} {result : Result Value VatFault} {effects : List Effect} → new.is_closed ≡ false → Step old event result effects new
    → old.is_closed ≡ false
step_open open_ (was_closed event closed) = open_
step_open open_ (ran_out event was closed) = was
step_open open_ (refused event was does) = was
step_open open_ (did event first more mid was does follows all) = was
step_open open_ (received m first more mid was does follows all) = was
step_open open_ (faulted m was does closed) = was

-- what holds of a pair
pub record Holds (w : VatPair) : Type 0 where
  pub agreed : AreAgreed w
  pub first : IsOrderly w.first.vat
  pub second : IsOrderly w.second.vat

pub agree_back : {one other : Accounts} {to_one to_other : List Message} → Agree one to_one other to_other → Agree other to_other one to_one
agree_back agree =
    record {
      usual = agree.usual_back;
      usual_back = agree.usual;
      lives = agree.lives_back;
      lives_back = agree.lives;
      counts = agree.counts_back;
      counts_back = agree.counts;
    }

pub move_keeps : (side : Side) (old after : VatPair) (moment : Moment) → Holds old → AreOpen after
    → Step (end_of old side).vat moment.event moment.result moment.effects (end_of after side).vat → Takes (end_of old side).inbox moment.event (end_of after side).inbox
    → end_of after (across side) ≡ with_mail (end_of old (across side)) (messages_sent moment.effects) → Holds after
move_keeps at_first old after moment holds open_ steps takes sends =
    let on = step_agrees old.first.inbox after.first.inbox old.second.inbox (accounts_of old.second.vat) holds.first holds.agreed takes open_.0 steps in
    record { agreed = rw (sends) on.0; first = on.1; second = rw (sends) holds.second }
move_keeps at_second old after moment holds open_ steps takes sends =
    let on = step_agrees old.second.inbox after.second.inbox old.first.inbox (accounts_of old.first.vat) holds.second (agree_back holds.agreed) takes open_.1 steps in
    record { agreed = rw (sends) (agree_back on.0); first = rw (sends) holds.first; second = on.1 }

move_open : (side : Side) (old after : VatPair) (moment : Moment) → AreOpen after
    → Step (end_of old side).vat moment.event moment.result moment.effects (end_of after side).vat
    → end_of after (across side) ≡ with_mail (end_of old (across side)) (messages_sent moment.effects) → AreOpen old
move_open at_first old after moment open_ steps sends = (step_open open_.0 steps, sym (ap (λ end. end.vat.is_closed) sends) ∙ open_.1)
move_open at_second old after moment open_ steps sends = (sym (ap (λ end. end.vat.is_closed) sends) ∙ open_.0, step_open open_.1 steps)

-- moves one after another
pub first_open : (moves : List Move) (w : VatPair) → Moves w moves → AreOpen (last_of w moves) → AreOpen w
first_open [] w made open_ = open_
first_open (move ∷ more) w made open_ =
    move_open move.side w move.after move.moment (first_open more move.after made.1 open_) made.0.steps made.0.sends

all_hold : (moves : List Move) (w : VatPair) → Holds w → Moves w moves → AreOpen (last_of w moves) → Holds (last_of w moves)
all_hold [] w holds made open_ = holds
all_hold (move ∷ more) w holds made open_ =
    all_hold more move.after
    (move_keeps move.side w move.after move.moment holds (first_open more move.after made.1 open_) made.0.steps made.0.takes made.0.sends) made.1 open_

-- after all moves of two new vats
pub holds_of : (one other : Option ℕ) (moves : List Move) → Moves (new_pair one other) moves → AreOpen (last_of (new_pair one other) moves) → Holds (last_of (new_pair one other) moves)
holds_of one other moves made open_ =
    all_hold moves (new_pair one other) (record { agreed = new_agree one other; first = new_orderly one; second = new_orderly other }) made open_

owed_at : (side : Side) (w : VatPair) (e : ℕ) → AreAgreed w → count_of (end_of w side).vat.counts.exports e ≡ owed w side e
owed_at at_first w e agreed = agreed.counts e
owed_at at_second w e agreed = agreed.counts_back e

pub counts_agree : CountsAgree
counts_agree one other moves made open_ side e = owed_at side (last_of (new_pair one other) moves) e (holds_of one other moves made open_).agreed
