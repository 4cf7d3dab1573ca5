-- Waiting calls that leave at its own end keep each lane, turn by turn, and where the gates are forgotten.
use Rattle.std.specs.Prelude.{◌≡◌, ◌⊎◌, refl, ℕ, List, [], ◌++◌, None, Result, Ok, Err}
use Rattle.std.specs.FinMap.{get}
use Rattle.std.proofs.Common.{inl, inr, ap, sym, ◌∙◌, append-nil, append_assoc}
use Rattle.cp_messages.specs.declared.message.Message.{Message}
use Rattle.cp_refs.specs.declared.call.WaitingCall.{WaitingCall}
use Rattle.cp_refs.specs.declared.route.Gate.{Gate}
use Rattle.cp_vat_machine.specs.State.{State, gave, none_over, with_over}
use Rattle.cp_vat_machine.specs.Calling.{mark_of}
use Rattle.cp_vat_machine.specs.Go.{NoneOver, Leave, stays, leaves, finds_table_full}
use Rattle.cp_vat_machine.specs.declared.effect.Effect.{Effect}
use Rattle.cp_vat_machine.specs.declared.fault.PeerFault.{PeerFault}
use Rattle.cp_vat_machine.proofs.Basics.{none_out}
use Rattle.cp_vat_laws.proofs.Tables.{there_of}
use Rattle.cp_vat_pair_laws.specs.VatPair.{End, messages_sent, with_mail}
use Rattle.cp_vat_pair_laws.specs.Lane.{Reference, import_, path_to, cap_of, own_ticket, Delivery}
use Rattle.cp_vat_pair_laws.specs.Phases.{of_lane, waits_as, AllWaitHere, GaveObject, IsAbsent, IsYet, IsUnheld, IsLocalOpen, Absent, absent, InLane, LaneHolds}
use Rattle.cp_vat_pair_laws.proofs.counts.rules.TwoParts.{sent_both}
use Rattle.cp_vat_pair_laws.proofs.lane.own.Calm.{LevelHere, CalmHere, calm_here}
use Rattle.cp_vat_pair_laws.proofs.lane.own.Phase.{another_phase}
use Rattle.cp_vat_pair_laws.proofs.lane.parts.Silent.{Silent, bearing_same}
use Rattle.cp_vat_pair_laws.proofs.lane.own.NotOfLane.{silent_here}
use Rattle.cp_vat_pair_laws.proofs.lane.parts.Midway.{Midway, turn_midway}
use Rattle.cp_vat_pair_laws.proofs.lane.own.Turn.{lane_delivered, lane_delivered_both, turn_lane, turn_tickets}

-- Where no call's gate is over, the gates are forgotten: nothing of a lane changes.
module _ (here there : End) (ref : Reference) (made : List ℕ) (none : NoneOver here.vat) where
  abbrev later : State
  later = with_over here.vat none_over

  abbrev forgotten : End
  forgotten = record { vat = later; inbox = here.inbox }

  free_waits : (k : ℕ) → AllWaitHere here made (GaveObject here.vat k) → AllWaitHere forgotten made (GaveObject later k)
  free_waits k waiting ticket call is = by (waiting ticket call is)
    where
      by : of_lane made (waits_as call call.origin) ≡ [] ⊎ GaveObject here.vat k call.gate → of_lane made (waits_as call call.origin) ≡ [] ⊎ GaveObject later k call.gate
      by (inl nothing) = inl nothing
      by (inr gave_) = none_out (sym (there_of (λ (c : WaitingCall). gave here.vat.waiting.over c.gate ≡ None) (get here.vat.waiting.calls ticket) call is (none ticket)) ∙ gave_)

  silent : Silent here.vat [] later
  silent = record { calls = refl; bearing = bearing_same here.vat later refl; no_call = refl; no_delivery = refl }

  level : LevelHere here there made later here.inbox []
  level = silent_here here there made later here.inbox (inl refl) [] silent

  absent_later : (r : Reference) → IsAbsent here.vat there.vat r → IsAbsent later there.vat r
  absent_later (import_ i) is = is
  absent_later (path_to q path) is = is

  unheld_later : (r : Reference) → IsUnheld here.vat r made → IsUnheld later r made
  unheld_later (import_ i) is = is
  unheld_later (path_to q path) is = is

  local_later : (r : Reference) (gate : Gate) → IsLocalOpen here.vat r gate → IsLocalOpen later r gate
  local_later (import_ i) gate is = is
  local_later (path_to q path) gate is = is

  yet_later : IsYet here.vat ref made → IsYet later ref made
  yet_later (inl open_) = inl open_
  yet_later (inr unheld) = inr (unheld_later ref unheld)

  absent_on : (delivered : List Delivery) → Absent here there ref made → InLane here there ref made delivered → LaneHolds forgotten (with_mail there []) ref made delivered
  absent_on delivered p lane =
      inr
      (another_phase here there ref made later here.inbox [] level delivered lane.delivered_ lane
      (absent (record { none = absent_later ref p.none; unmade = p.unmade })))

  calm : CalmHere here there ref made later here.inbox []
  calm =
      record {
        level = level;
        open_ = λ is. is;
        yet = yet_later;
        came = λ value is. is;
        local_ = local_later ref;
        mark = marks ref;
        exports = λ e cap is. is;
        gave_ = free_waits;
        unopened_ = λ is. refl;
        no_loop = λ n is. refl;
        front = inl refl;
      }
    where
      marks : (r : Reference) → mark_of later (cap_of r) ≡ mark_of here.vat (cap_of r)
      marks (import_ i) = refl
      marks (path_to q path) = refl

  pub forgotten_lane : (delivered : List Delivery) → LaneHolds here there ref made delivered → LaneHolds forgotten (with_mail there []) ref made delivered
  forgotten_lane delivered holds = calm_here here there ref made later here.inbox [] calm delivered (absent_on delivered) holds

-- one turn after another
with_both : (there : End) (first more : List Effect)
    → with_mail (with_mail there (messages_sent first)) (messages_sent more) ≡ with_mail there (messages_sent (first ++ more))
with_both there first more =
    ap (λ inbox. record there { inbox = inbox })
    (append_assoc there.inbox (messages_sent first) (messages_sent more) ∙ ap (λ ms. there.inbox ++ ms) (sym (sent_both first more)))

abbrev LaneLeft : State → List Message → End → Reference → List ℕ → List Delivery → State → List Effect → Result State PeerFault → Type 0
LaneLeft old inbox there ref made delivered s all (Ok last) =
    LaneHolds (record { vat = last; inbox = inbox }) (with_mail there (messages_sent all)) ref made (delivered ++ lane_delivered old there.vat made all)
LaneLeft old inbox there ref made delivered s all (Err fault) = Unit {0}

leave_by : {s : State} {all : List Effect} {out : Result State PeerFault} (old : State) (inbox : List Message) (there : End) (ref : Reference) (made : List ℕ)
    (delivered : List Delivery) → Midway s inbox there
    → ((q : ℕ) → of_lane made (own_ticket (get s.entries.questions q)) ≡ of_lane made (own_ticket (get old.entries.questions q)))
    → LaneHolds (record { vat = s; inbox = inbox }) there ref made delivered → Leave s all out → LaneLeft old inbox there ref made delivered s all out
leave_by {s = s} old inbox there ref made delivered h tickets holds (stays none) =
    rw (append-nil delivered) (forgotten_lane (record { vat = s; inbox = inbox }) there ref made none delivered holds)
leave_by {s = s} old inbox there ref made delivered h tickets holds (leaves {mid = mid} {first = first} {rest = rest} {last = last} call cap next goes more same) =
    let here : End = record { vat = s; inbox = inbox } in
    let one = turn_lane old here there ref made delivered h call cap next first mid goes tickets holds in
    let later = turn_tickets old here there ref made delivered h call cap next first mid goes tickets in
    let two = leave_by old inbox (with_mail there (messages_sent first)) ref made (delivered ++ lane_delivered old there.vat made first) (turn_midway call cap first h next goes)
    later one more in
    rw (same) (both last two)
  where
    both : (last : Result State PeerFault)
        → LaneLeft old inbox (with_mail there (messages_sent first)) ref made (delivered ++ lane_delivered old there.vat made first) mid rest last
        → LaneLeft old inbox there ref made delivered s (first ++ rest) last
    both (Ok new) two =
        rw (
          ← with_both there first rest,
          lane_delivered_both old there.vat made first rest,
          ← append_assoc delivered (lane_delivered old there.vat made first) (lane_delivered old there.vat made rest),
        )
        two
    both (Err fault) two = tt
leave_by old inbox there ref made delivered h tickets holds (finds_table_full call cap next goes) = tt

pub leave_lane : (old s last : State) (all : List Effect) (inbox : List Message) (there : End) (ref : Reference) (made : List ℕ) (delivered : List Delivery)
    → Midway s inbox there → ((q : ℕ) → of_lane made (own_ticket (get s.entries.questions q)) ≡ of_lane made (own_ticket (get old.entries.questions q)))
    → LaneHolds (record { vat = s; inbox = inbox }) there ref made delivered → Leave s all (Ok last)
    → LaneHolds (record { vat = last; inbox = inbox }) (with_mail there (messages_sent all)) ref made (delivered ++ lane_delivered old there.vat made all)
leave_lane old s last all inbox there ref made delivered h tickets holds leave = leave_by old inbox there ref made delivered h tickets holds leave
