-- Waiting calls that leave keep the invariant.
use Rattle.std.specs.Prelude.{◌≡◌, refl, List, [], ◌∷◌, None, Result, Ok, Err}
use Rattle.std.proofs.Common.{arith, ap}
use Rattle.cp_refs.specs.Route.{Routes}
use Rattle.cp_refs.specs.declared.cap.Cap.{Cap}
use Rattle.cp_refs.specs.declared.call.WaitingCall.{WaitingCall}
use Rattle.cp_refs.specs.declared.route.Gate.{Gate}
use Rattle.cp_refs.specs.declared.route.Route.{Route}
use Rattle.cp_refs.specs.declared.route.Route.TheVariants as routes
use Rattle.cp_vat_machine.specs.State.{State}
use Rattle.cp_vat_machine.specs.Go.{IsNext, without_call, underway, held_at, Go, GoTo, Leave, stays, leaves, finds_table_full}
use Rattle.cp_vat_machine.specs.Trace.{Turn, leaving_turns}
use Rattle.cp_vat_machine.specs.declared.effect.Effect.{Effect}
use Rattle.cp_vat_machine.specs.declared.fault.PeerFault.{PeerFault}
use Rattle.cp_vat_laws.specs.Within.{Within}
use Rattle.cp_vat_laws.specs.OrderKept.{AreOrderly, OrderHolds}
use Rattle.cp_vat_machine.proofs.Basics.{ok_in}
use Rattle.cp_vat_laws.proofs.order.Same.{same_passes, IsGoing}
use Rattle.cp_vat_laws.proofs.order.Closes.{passes_both}
use Rattle.cp_vat_laws.proofs.order.Sound.{sound_within, waiting_ungiven}
use Rattle.cp_vat_laws.proofs.order.Exits.{go_done}
use Rattle.cp_vat_laws.proofs.order.Turn.{turned_holds}
use Rattle.cp_vat_laws.proofs.order.WaitingGoes.{going, exits_turned}
use Rattle.cp_vat_laws.proofs.order.WaitingStays.{stays_turned}
use Rattle.cp_vat_laws.proofs.order.Rest.{rests_holds}

module _ (past : List Turn) (old : State) (call : WaitingCall) (cap : Cap) (first : List Effect) (mid : State) (within : Within old None []) (later : Within mid None [])
    (h : OrderHolds past old) (next : IsNext old call cap) where
  gone_holds : (route : Route) → Routes old.values cap route → Go (without_call old call) (underway call) route (Ok (first, mid)) → IsGoing route
      → OrderHolds (going old call first mid ∷ past) mid
  gone_holds route way goes is_going =
      let sound = sound_within old None [] within in
      let after = sound_within mid None [] later in
      let may = waiting_ungiven old call within next.waits in
      let gone = go_done (without_call old call) (underway call) route (first, mid) goes is_going may.0 may.1 in
      let passes = passes_both old (without_call old call) mid (same_passes old (without_call old call) refl refl refl (omega arith)) gone.closes.passes gone.closes.adds in
      turned_holds past (going old call first mid) sound after passes h
      (exits_turned past old call cap route first mid sound after passes h next way is_going gone.closes.calls gone.exits)

  waits_holds : (to : Gate) → Routes old.values cap (routes.Wait to) → Go (without_call old call) (underway call) (routes.Wait to) (Ok (first, mid))
      → OrderHolds (going old call first mid ∷ past) mid
  waits_holds to way goes = by first mid (ok_in _ _ goes) later
    where
      at_hold : Within (held_at (without_call old call) (underway call) to) None []
          → OrderHolds (going old call [] (held_at (without_call old call) (underway call) to) ∷ past) (held_at (without_call old call) (underway call) to)
      at_hold then =
          let sound = sound_within old None [] within in
          let after = sound_within (held_at (without_call old call) (underway call) to) None [] then in
          let may = waiting_ungiven old call within next.waits in
          turned_holds past (going old call [] (held_at (without_call old call) (underway call) to)) sound after (same_passes old _ refl refl refl (omega arith)) h
          (stays_turned past old call cap to sound h next way may.2 after)

      by : (f : List Effect) (m : State) → ◌≡◌ {A = List Effect × State} (f, m) ([], held_at (without_call old call) (underway call) to) → Within m None []
          → OrderHolds (going old call f m ∷ past) m
      by f m is then = rw (ap (λ d. d.0) is, ap (λ d. d.1) is) (at_hold (rw (ap (λ d. d.1) is) at then))

  went_holds : (route : Route) → Routes old.values cap route → Go (without_call old call) (underway call) route (Ok (first, mid)) → OrderHolds (going old call first mid ∷ past) mid
  went_holds (routes.Deliver k) way goes = gone_holds (routes.Deliver k) way goes tt
  went_holds (routes.Import i) way goes = gone_holds (routes.Import i) way goes tt
  went_holds (routes.Pipe q path) way goes = gone_holds (routes.Pipe q path) way goes tt
  went_holds (routes.Wait g) way goes = waits_holds g way goes
  went_holds (routes.Fail x) way goes = gone_holds (routes.Fail x) way goes tt

  -- The invariant holds after the turn of a call that goes.
  pub goes_holds : GoTo (without_call old call) (underway call) cap (Ok (first, mid)) → OrderHolds (going old call first mid ∷ past) mid
  goes_holds goes = went_holds goes.0 goes.1 goes.2

-- What each turn of a call that goes keeps of a vat within an event.
abbrev pub GoesWithin : Type 0
GoesWithin =
    (old mid : State) (call : WaitingCall) (cap : Cap) (first : List Effect) → Within old None [] → IsNext old call cap
    → GoTo (without_call old call) (underway call) cap (Ok (first, mid)) → Within mid None []

-- what holds after all turns of waiting calls
abbrev pub LeftInOrder : List Turn → Result State PeerFault → Type 0
LeftInOrder turns (Ok last) = OrderHolds turns last
LeftInOrder turns (Err fault) = AreOrderly turns

pub leave_holds : GoesWithin → {old : State} {all : List Effect} {out : Result State PeerFault} (leave : Leave old all out) (past : List Turn) → Within old None []
    → OrderHolds past old → LeftInOrder (leaving_turns leave past) out
leave_holds keeps {old = old} (stays none) past within h = rests_holds past old h none
leave_holds keeps {old = old} (leaves {mid = mid} {first = first} call cap next goes rest is) past within h =
    let later = keeps old mid call cap first within next goes in
    leave_holds keeps rest (going old call first mid ∷ past) later (goes_holds past old call cap first mid within later h next goes)
leave_holds keeps (finds_table_full call cap next goes) past within h = h.orderly
