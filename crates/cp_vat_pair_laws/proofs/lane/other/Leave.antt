-- Waiting calls that leave at the other end keep a lane.
use Rattle.std.specs.Prelude.{◌≡◌, ◌⊎◌, refl, ℕ, Bool, true, false, List, [], ◌∷◌, Option, Some, None, IfSome, Result, Ok, Err}
use Rattle.std.specs.FinMap.{get}
use Rattle.std.proofs.Common.{inl, inr, sym, ◌∙◌, true≢false}
use Rattle.std.proofs.lemmas.List.{append-nil}
use Rattle.cp_tables.specs.declared.exchange.Exchange.{Exchange}
use Rattle.cp_tables.specs.declared.exchange.Stage.{Stage}
use Rattle.cp_tables.specs.declared.exchange.Stage.TheVariants as stages
use Rattle.cp_messages.specs.declared.message.Message.{Message}
use Rattle.cp_refs.specs.declared.call.WaitingCall.{WaitingCall}
use Rattle.cp_vat_machine.specs.State.{State, gave, none_over, with_over}
use Rattle.cp_vat_machine.specs.Go.{Leave, stays, leaves, finds_table_full, NoneOver}
use Rattle.cp_vat_machine.specs.Local.{Local}
use Rattle.cp_vat_machine.specs.declared.effect.Effect.{Effect}
use Rattle.cp_vat_machine.specs.declared.entry.AnswerEntry.{AnswerEntry}
use Rattle.cp_vat_machine.specs.declared.entry.QuestionEntry.{QuestionEntry}
use Rattle.cp_vat_machine.specs.declared.fault.PeerFault.{PeerFault}
use Rattle.cp_vat_machine.proofs.Basics.{none_out}
use Rattle.cp_vat_laws.proofs.Tables.{here_of, there_of}
use Rattle.cp_vat_pair_laws.specs.VatPair.{End, with_mail, messages_sent}
use Rattle.cp_vat_pair_laws.specs.Accounts.{asked_account, kept_account, is_releasing, is_finish_noted}
use Rattle.cp_vat_pair_laws.specs.Ledger.{opens, finishes}
use Rattle.cp_vat_pair_laws.specs.Lives.{Standing, absent, ungiven, left_ungiven, given, mistaken, standing_at, standing_of, stands_after, will_stand, returns_of, Fits, FitsOpen, FitsReturned, FitsNone, FitsAt, opened, finished}
use Rattle.cp_vat_pair_laws.specs.Places.{NoneFinished}
use Rattle.cp_vat_pair_laws.specs.Lane.{Reference, Delivery}
use Rattle.cp_vat_pair_laws.specs.Phases.{of_lane, waits_for, AllWait, LeadsBack, ComesBack, Phase, absent as unheard, unopened, unsettled, told, free, marked, embargoed, echoed, local_open, IsElsewhere, came_to_other, told_other, hosted_there, LaneHolds}
use Rattle.cp_vat_pair_laws.proofs.still.Grows.{PlacesStay, places_same, places_both}
use Rattle.cp_vat_pair_laws.proofs.still.Go.{leave_grows}
use Rattle.cp_vat_pair_laws.proofs.lane.parts.Midway.{Midway, turn_midway, fresh_there}
use Rattle.cp_vat_pair_laws.proofs.lane.other.Chain.{IsThere}
use Rattle.cp_vat_pair_laws.proofs.lane.other.Give.{NoneLeft}
use Rattle.cp_vat_pair_laws.proofs.lane.other.Turn.{same_mail, turn_kept, turn_known}

-- An answer that was finished before it was given will be so, or a mistake.
abbrev IsLeft : Standing → Type 0
IsLeft left_ungiven = Unit {0}
IsLeft mistaken = Unit {0}
IsLeft other = ⊥

left_opened : (st : Standing) → IsLeft st → IsLeft (opened st)
left_opened absent is = absurd is
left_opened ungiven is = absurd is
left_opened left_ungiven is = tt
left_opened (given m) is = absurd is
left_opened mistaken is = tt

left_finished : (r : Bool) (st : Standing) → IsLeft st → IsLeft (finished r st)
left_finished r absent is = absurd is
left_finished r ungiven is = absurd is
left_finished true left_ungiven is = tt
left_finished false left_ungiven is = tt
left_finished r (given m) is = absurd is
left_finished true mistaken is = tt
left_finished false mistaken is = tt

left_after : (q : ℕ) (m : Message) (st : Standing) → IsLeft st → IsLeft (stands_after q m st)
left_after q m st is = by (opens q m) (finishes q m) refl refl
  where
    by : (o f : Bool) → opens q m ≡ o → finishes q m ≡ f → IsLeft (stands_after q m st)
    by true f o_ f_ = rw (o_) (left_opened st is)
    by false true o_ f_ = rw (o_, f_) (left_finished (is_releasing m) st is)
    by false false o_ f_ = rw (o_, f_) is

will_left : (q : ℕ) (ms : List Message) (st : Standing) → IsLeft st → IsLeft (will_stand q ms st)
will_left q [] st is = is
will_left q (m ∷ ms) st is = will_left q ms (stands_after q m st) (left_after q m st is)

open_left : (rs : List (List ℕ)) (st : Standing) → IsLeft st → FitsOpen rs st → ⊥
open_left [] left_ungiven is fits = fits
open_left [] mistaken is fits = fits
open_left (r ∷ []) left_ungiven is fits = fits
open_left (r ∷ []) mistaken is fits = fits
open_left (r ∷ s ∷ rs) left_ungiven is fits = fits
open_left (r ∷ s ∷ rs) mistaken is fits = fits
open_left rs absent is fits = absurd is
open_left rs ungiven is fits = absurd is
open_left rs (given m) is fits = absurd is

returned_left : (rs : List (List ℕ)) (st : Standing) → IsLeft st → FitsReturned rs st → ⊥
returned_left [] left_ungiven is fits = fits
returned_left [] mistaken is fits = fits
returned_left (r ∷ rs) left_ungiven is fits = fits
returned_left (r ∷ rs) mistaken is fits = fits
returned_left rs absent is fits = absurd is
returned_left rs ungiven is fits = absurd is
returned_left rs (given m) is fits = absurd is

none_left : (rs : List (List ℕ)) (st : Standing) → IsLeft st → FitsNone rs st → ⊥
none_left [] left_ungiven is fits = fits
none_left [] mistaken is fits = fits
none_left (r ∷ rs) left_ungiven is fits = fits
none_left (r ∷ rs) mistaken is fits = fits
none_left rs absent is fits = absurd is
none_left rs ungiven is fits = absurd is
none_left rs (given m) is fits = absurd is

-- a question that wasn't finished
at_left : (stage : Stage) (rs : List (List ℕ)) (st : Standing) → is_finish_noted stage ≡ false → IsLeft st → FitsAt stage rs st → ⊥
at_left stages.Open rs st not is fits = open_left rs st is fits
at_left stages.Returned rs st not is fits = returned_left rs st is fits
at_left stages.Finished rs st not is fits = true≢false not

asked_left : (o : Option (Exchange QuestionEntry)) (rs : List (List ℕ)) (st : Standing) → IfSome o (λ entry. is_finish_noted entry.stage ≡ false) → IsLeft st
    → Fits (asked_account o) rs st → ⊥
asked_left None rs st not is fits = none_left rs st is fits
asked_left (Some entry) rs st not is fits = by entry.kept.is_sent refl
  where
    by : (b : Bool) → entry.kept.is_sent ≡ b → ⊥
    by true t = let at : FitsAt entry.stage rs st = rw t at fits in at_left entry.stage rs st not is at
    by false t = let at : FitsNone rs st = rw t at fits in none_left rs st is at

-- So no answer was finished before it was given, where no question was.
pub none_is_left : {s : State} {inbox : List Message} {other : End} → Midway s inbox other → NoneFinished other.vat → NoneLeft s
none_is_left {s = s} {inbox = inbox} {other = other} h none a =
    here_of (λ (x : Exchange AnswerEntry). is_finish_noted x.stage ≡ false) (get s.entries.answers a) (λ entry is. by entry is (is_finish_noted entry.stage) refl)
  where
    left_at : (stage : Stage) (mentions : List ℕ) → is_finish_noted stage ≡ true → IsLeft (standing_at stage mentions)
    left_at stages.Open mentions is = absurd (true≢false (sym is))
    left_at stages.Returned mentions is = absurd (true≢false (sym is))
    left_at stages.Finished mentions is = tt

    by : (entry : Exchange AnswerEntry) → get s.entries.answers a ≡ Some entry → (b : Bool) → is_finish_noted entry.stage ≡ b → is_finish_noted entry.stage ≡ false
    by entry is false t = t
    by entry is true t =
        let stands : IsLeft (standing_of (kept_account (get s.entries.answers a))) = rw (is) (left_at entry.stage entry.kept.mentions t) in
        absurd
        (asked_left (get other.vat.entries.questions a) (returns_of a other.inbox) (will_stand a inbox (standing_of (kept_account (get s.entries.answers a)))) (none a)
        (will_left a inbox (standing_of (kept_account (get s.entries.answers a))) stands) (h.agreed.lives_back a))

-- where the vat rests
module _ (here : End) (s : State) (inbox : List Message) (rests : NoneOver s) where
  abbrev rested : State
  rested = with_over s none_over

  rest_comes : (ref : Reference) (made : List ℕ) → ComesBack here (record { vat = s; inbox = inbox }) ref made → ComesBack here (record { vat = rested; inbox = inbox }) ref made
  rest_comes ref made p = record { object = p.object; number = p.number; came = p.came; is_export = p.is_export; ends = p.ends; goes_back = p.goes_back; no_waits = p.no_waits }

  none_waits : (ref : Reference) (made : List ℕ) (e : ℕ) → AllWait here (record { vat = s; inbox = inbox }) made (LeadsBack s e)
      → AllWait here (record { vat = rested; inbox = inbox }) made (LeadsBack rested e)
  none_waits ref made e waiting ticket call is = by (waiting ticket call is)
    where
      by : of_lane made (waits_for here.vat call.origin) ≡ [] ⊎ LeadsBack s e call.gate → of_lane made (waits_for here.vat call.origin) ≡ [] ⊎ LeadsBack rested e call.gate
      by (inl none) = inl none
      by (inr (cap, gave_, way_)) =
          none_out (sym (there_of (λ (c : WaitingCall). gave s.waiting.over c.gate ≡ None) (get s.waiting.calls ticket) call is (rests ticket)) ∙ gave_)

  rest_phase : (ref : Reference) (made : List ℕ) → Phase here (record { vat = s; inbox = inbox }) ref made → Phase here (record { vat = rested; inbox = inbox }) ref made
  rest_phase ref made (unheard p) = unheard (record { none = p.none; unmade = p.unmade })
  rest_phase ref made (unopened p) = unopened (record { open_ = p.open_; before = p.before; opening = p.opening; after = p.after; only = p.only; sent_after = p.sent_after; mark = p.mark; untold = p.untold; no_back = p.no_back; no_waits = p.no_waits; none_here = p.none_here })
  rest_phase ref made (unsettled p) = unsettled (record { yet = p.yet; gate = p.gate; open_ = p.open_; waiting = p.waiting; mark = p.mark; untold = p.untold; no_back = p.no_back; none_here = p.none_here })
  rest_phase ref made (told p) = told (record { yet = p.yet; object = p.object; number = p.number; is_export = p.is_export; ends = p.ends; before = p.before; telling = p.telling; after = p.after; only = p.only; says = p.says; back_after = p.back_after; goes_back = p.goes_back; waiting = none_waits ref made p.number p.waiting; mark = p.mark; none_here = p.none_here })
  rest_phase ref made (free p) = free (record { object = p.object; came = p.came; mark = p.mark; no_back = p.no_back; no_waits = p.no_waits; no_way = p.no_way; waiting = p.waiting })
  rest_phase ref made (marked p) = marked (record { comes = rest_comes ref made p.comes; mark = p.mark; none_here = p.none_here })
  rest_phase ref made (embargoed p) = embargoed (record { comes = rest_comes ref made p.comes; embargo = p.embargo; mark = p.mark; before = p.before; loop = p.loop; after = p.after; only = p.only; sent_before = p.sent_before; no_echo = p.no_echo; waiting = p.waiting })
  rest_phase ref made (echoed p) = echoed (record { comes = rest_comes ref made p.comes; embargo = p.embargo; mark = p.mark; before = p.before; echo = p.echo; after = p.after; only = p.only; back_before = p.back_before; no_loop = p.no_loop; no_way = p.no_way; waiting = p.waiting })
  rest_phase ref made (local_open p) = local_open (record { gate = p.gate; open_ = p.open_; waiting = p.waiting; no_back = p.no_back; no_waits = p.no_waits; no_way = p.no_way })

  rest_elsewhere : (ref : Reference) (made : List ℕ) → IsElsewhere here (record { vat = s; inbox = inbox }) ref made → IsElsewhere here (record { vat = rested; inbox = inbox }) ref made
  rest_elsewhere ref made (came_to_other p) = came_to_other p
  rest_elsewhere ref made (told_other p) = told_other (record { yet = p.yet; closed = p.closed; before = p.before; telling = p.telling; after = p.after; only = p.only; says = p.says })
  rest_elsewhere ref made (hosted_there p) = hosted_there (record { yet = p.yet; hosted = p.hosted; untold = p.untold })

  pub rest_kept : (ref : Reference) (made : List ℕ) (delivered : List Delivery) → LaneHolds here (record { vat = s; inbox = inbox }) ref made delivered
      → LaneHolds here (record { vat = rested; inbox = inbox }) ref made delivered
  rest_kept ref made delivered (inl elsewhere) = inl (rest_elsewhere ref made elsewhere)
  rest_kept ref made delivered (inr lane) =
      inr (record { whole = lane.whole; targets = lane.targets; none_held = lane.none_held; delivered_ = lane.delivered_; phase = rest_phase ref made lane.phase })

-- All that leave.
abbrev LeftKept : End → State → List Effect → Result State PeerFault → List Message → Type 0
LeftKept here s all (Ok last) inbox =
    (ref : Reference) (made : List ℕ) (delivered : List Delivery) → LaneHolds here (record { vat = s; inbox = inbox }) ref made delivered
    → LaneHolds (with_mail here (messages_sent all)) (record { vat = last; inbox = inbox }) ref made delivered
LeftKept here s all (Err fault) inbox = Unit {0}

abbrev IsFinal : State → Result State PeerFault → Type 0
IsFinal final (Ok last) = PlacesStay last final
IsFinal final (Err fault) = Unit {0}

leave_by : {s : State} {all : List Effect} {out : Result State PeerFault} (here : End) (final : State) (inbox : List Message) → Local here.vat → NoneFinished here.vat
    → Midway s inbox here → IsThere here s final inbox → IsFinal final out → Leave s all out → LeftKept here s all out inbox
leave_by {s = s} here final inbox local_ unfinished h known ends_ (stays none) = λ ref made delivered lane. rw (append-nil here.inbox) (rest_kept here s inbox none ref made delivered lane)
leave_by {s = s} {all = all} here final inbox local_ unfinished h known ends_ (leaves {mid = mid} {first = first} {rest = rest} {last = last} call cap next goes more is) =
    by last more ends_ (λ known_ ends. leave_by (with_mail here (messages_sent first)) final inbox local_ unfinished (turn_midway call cap first h next goes) known_ ends more)
  where
    by : (last : Result State PeerFault) → Leave mid rest last → IsFinal final last
        → (IsThere (with_mail here (messages_sent first)) mid final inbox → IsFinal final last → LeftKept (with_mail here (messages_sent first)) mid rest last inbox)
        → LeftKept here s all last inbox
    by (Err fault) more ends deeper = tt
    by (Ok new) more ends deeper = λ ref made delivered lane.
        let within = (turn_midway {inbox = inbox} {other = here} call cap first h next goes).within in
        let later = places_both (leave_grows mid new rest within more).places ends in
        let left_ = none_is_left h unfinished in
        rw
        (← same_mail here first rest all is)
        (deeper (turn_known here s final inbox h.within h.unfinished left_ known (fresh_there h local_) call cap next (first, mid) goes later) ends ref made delivered
        (turn_kept here s final inbox h.within h.unfinished left_ known (fresh_there h local_) call cap next (first, mid) goes later ref made delivered lane))
leave_by here final inbox local_ unfinished h known ends_ (finds_table_full call cap next goes) = tt

pub leave_kept : {s last : State} {all : List Effect} (here : End) (inbox : List Message) → Local here.vat → NoneFinished here.vat → Midway s inbox here
    → IsThere here s last inbox → Leave s all (Ok last) → (ref : Reference) (made : List ℕ) (delivered : List Delivery)
    → LaneHolds here (record { vat = s; inbox = inbox }) ref made delivered → LaneHolds (with_mail here (messages_sent all)) (record { vat = last; inbox = inbox }) ref made delivered
leave_kept {last = last} here inbox local_ unfinished h known leave = leave_by here last inbox local_ unfinished h known (places_same refl refl) leave
