-- What holds of a vat and its peer at each point of an event: after its own part, and after each turn of waiting calls.
use Rattle.std.specs.Prelude.{◌≡◌, refl, ℕ, true, false, List, [], ◌∷◌, Some, None, Ok}
use Rattle.std.specs.FinMap.{get}
use Rattle.std.proofs.Common.{sym, true≢false}
use Rattle.cp_tables.specs.declared.exchange.Stage.{Stage}
use Rattle.cp_tables.specs.declared.exchange.Stage.TheVariants as stages
use Rattle.cp_messages.specs.declared.message.Message.{Message}
use Rattle.cp_refs.specs.declared.cap.Cap.{Cap}
use Rattle.cp_refs.specs.declared.call.WaitingCall.{WaitingCall}
use Rattle.cp_refs.specs.declared.call.Origin.TheVariants as origins
use Rattle.cp_vat_machine.specs.State.{State}
use Rattle.cp_vat_machine.specs.Then.{Done}
use Rattle.cp_vat_machine.specs.Go.{IsNext, GoTo, without_call, underway}
use Rattle.cp_vat_machine.specs.Calling.{OwnDone}
use Rattle.cp_vat_machine.specs.Local.{Local, is_open_stage, IsWaiting, IsTicketOf}
use Rattle.cp_vat_machine.specs.Step.{Does, Receives}
use Rattle.cp_vat_machine.specs.declared.effect.Effect.{Effect}
use Rattle.cp_vat_machine.specs.declared.event.Event.{Event}
use Rattle.cp_vat_laws.specs.Within.{Within, WaitsFor}
use Rattle.cp_vat_laws.proofs.Tables.{there_of}
use Rattle.cp_vat_laws.proofs.within.Leave.{turn_within}
use Rattle.cp_vat_laws.proofs.within.Between.{local_is_within}
use Rattle.cp_vat_laws.proofs.within.Step.{does_within, receives_within}
use Rattle.cp_vat_pair_laws.specs.Accounts.{accounts_of}
use Rattle.cp_vat_pair_laws.specs.VatPair.{End, messages_sent, with_mail}
use Rattle.cp_vat_pair_laws.specs.Lane.{own_ticket, IsStill}
use Rattle.cp_vat_pair_laws.specs.Lives.{standing_at, standing_of, will_stand, returns_of, Fits, Agree}
use Rattle.cp_vat_pair_laws.specs.Orderly.{IsOrderly}
use Rattle.cp_vat_pair_laws.specs.Phases.{gives_up}
use Rattle.cp_vat_pair_laws.specs.Places.{NoneFinished}
use Rattle.cp_vat_pair_laws.proofs.counts.AgreeAll.{keeps_by}
use Rattle.cp_vat_pair_laws.proofs.counts.rules.Go.{turn_goes}
use Rattle.cp_vat_pair_laws.proofs.counts.rules.Does.{does_goes}
use Rattle.cp_vat_pair_laws.proofs.counts.rules.Receives.{receives_heeds}
use Rattle.cp_vat_pair_laws.proofs.still.Go.{turn_grows}
use Rattle.cp_vat_pair_laws.proofs.still.Does.{does_moved}
use Rattle.cp_vat_pair_laws.proofs.still.Receives.{ComesToHeld, receives_moved}
use Rattle.cp_vat_pair_laws.proofs.lane.parts.Lives.{IsOpened, will_stay, none_fits, fresh_unopened}
use Rattle.cp_vat_pair_laws.proofs.lane.other.NotOfLane.{IsFreshThere}

-- a vat within an event, with the messages to it, and the other end with what was sent so far
pub record Midway (s : State) (inbox : List Message) (other : End) : Type 0 where
  pub within : Within s None []
  pub unfinished : NoneFinished s
  pub orderly : IsOrderly s
  pub agreed : Agree (accounts_of s) inbox (accounts_of other.vat) other.inbox

pub turn_midway : {s mid : State} {inbox : List Message} {other : End} (call : WaitingCall) (cap : Cap) (first : List Effect) → Midway s inbox other → IsNext s call cap
    → GoTo (without_call s call) (underway call) cap (Ok (first, mid)) → Midway mid inbox (with_mail other (messages_sent first))
turn_midway {s = s} {mid = mid} call cap first h next goes =
    let sends = turn_goes s mid call cap first h.orderly next goes in
    record {
      within = turn_within h.within call cap next (first, mid) goes;
      unfinished = (turn_grows h.within call cap next (first, mid) goes).mails.unfinished h.unfinished;
      orderly = sends.1;
      agreed = keeps_by.sends h.agreed sends.0;
    }

pub does_midway : (s : State) (inbox : List Message) (other : End) (event : Event) (done : OwnDone) → Local s → NoneFinished s → IsOrderly s
    → Agree (accounts_of s) inbox (accounts_of other.vat) other.inbox → IsStill event → Does s event (Ok done)
    → Midway done.2 inbox (with_mail other (messages_sent done.1))
does_midway s inbox other event done local_ none orderly agree still does =
    let sends = does_goes s event done orderly does in
    record {
      within = does_within s event done local_ does;
      unfinished = (does_moved s event done (local_is_within s local_) still does).mails.unfinished none;
      orderly = sends.1;
      agreed = keeps_by.sends agree sends.0;
    }

pub receives_midway : (s : State) (m : Message) (rest : List Message) (other : End) (done : Done) → Local s → NoneFinished s → IsOrderly s
    → Agree (accounts_of s) (m ∷ rest) (accounts_of other.vat) other.inbox → gives_up m ≡ false → ComesToHeld s m → Receives s m (Ok done)
    → Midway done.1 rest (with_mail other (messages_sent done.0))
receives_midway s m rest other done local_ none orderly agree quiet held does =
    let hears = receives_heeds s m done agree.usual.0.0 orderly does in
    record {
      within = receives_within s m done local_ does;
      unfinished = (receives_moved s (local_is_within s local_) local_.none_over_ none m done agree.usual.0 quiet held does).mails.unfinished none;
      orderly = hears.1;
      agreed = keeps_by.hears agree hears.0;
    }

-- Under the number of a question that isn't there, no Call is on the way to the other end, and none of its waiting calls has that answer.
pub open_standing : (stage : Stage) (mentions : List ℕ) → is_open_stage stage ≡ true → IsOpened (standing_at stage mentions)
open_standing stages.Open mentions is = tt
open_standing stages.Finished mentions is = tt
open_standing stages.Returned mentions is = absurd (true≢false (sym is))

pub fresh_there : {s : State} {inbox : List Message} {other : End} → Midway s inbox other → Local other.vat → (q : ℕ) → get s.entries.questions q ≡ None → IsFreshThere other q
fresh_there {s = s} {inbox = inbox} {other = other} h local_ q none =
    let fits : Fits None (returns_of q inbox) (will_stand q other.inbox (standing_of ((accounts_of other.vat).answers q))) = rw none at (h.agreed.lives q) in
    record {
      on_way = fresh_unopened q (returns_of q inbox) other.inbox (standing_of ((accounts_of other.vat).answers q)) fits;
      held = λ ticket call is from. held_by ticket call is from fits;
    }
  where
    held_by : (ticket : ℕ) (call : WaitingCall) → get other.vat.waiting.calls ticket ≡ Some call → call.origin ≡ origins.Answer q
        → Fits None (returns_of q inbox) (will_stand q other.inbox (standing_of ((accounts_of other.vat).answers q))) → ⊥
    held_by ticket call is from fits =
        let waits = there_of (IsWaiting other.vat ticket) (get other.vat.waiting.calls ticket) call is (local_.waiting ticket) in
        let whose : IsTicketOf other.vat (origins.Answer q) ticket = rw from at waits.whose in
        let stands : IsOpened (standing_of ((accounts_of other.vat).answers q)) = rw (whose.1) (open_standing whose.0.stage whose.0.kept.mentions whose.2) in
        none_fits (returns_of q inbox) (will_stand q other.inbox (standing_of ((accounts_of other.vat).answers q))) fits
        (will_stay q other.inbox (standing_of ((accounts_of other.vat).answers q)) stands)

-- and bears its ticket
pub own_ticket_is : {s : State} → Within s None [] → (call : WaitingCall) (cap : Cap) → IsNext s call cap → (q : ℕ) → call.origin ≡ origins.Own q
    → own_ticket (get s.entries.questions q) ≡ call.ticket ∷ []
own_ticket_is {s = s} h call cap next q from =
    let waits = there_of (WaitsFor s call.ticket) (get s.waiting.calls call.ticket) call next.waits (h.waiting call.ticket) in
    let whose : IsTicketOf s (origins.Own q) call.ticket = rw from at waits.2 in
    rw (whose.1, whose.4, whose.3) refl
