-- Waiting calls leave in this many turns at most.
use Rattle.std.specs.Prelude.{◌≡◌, refl, ℕ, zero, suc, ◌+◌, ◌≤◌, ◌<◌, List, [], ◌∷◌, Option, Some, None, is_some, Ok}
use Rattle.std.specs.List.{sum_by}
use Rattle.std.specs.FinMap.{remove, values}
use Rattle.std.proofs.Common.{arith, ap}
use Rattle.std.proofs.lemmas.List.Sums.{sum_by-cons}
use Rattle.cp_tables.proofs.TableLemmas.{get-remove_same}
use Rattle.cp_refs.specs.Route.{Routes}
use Rattle.cp_refs.specs.declared.cap.Cap.{Cap}
use Rattle.cp_refs.specs.declared.call.WaitingCall.{WaitingCall}
use Rattle.cp_refs.specs.declared.route.Gate.{Gate}
use Rattle.cp_refs.specs.declared.route.Route.{Route}
use Rattle.cp_refs.specs.declared.route.Route.TheVariants as routes
use Rattle.cp_vat_machine.specs.State.{State, Over, gave}
use Rattle.cp_vat_machine.specs.Then.{Done}
use Rattle.cp_vat_machine.specs.Go.{IsNext, without_call, underway, held_at, Go, GoTo}
use Rattle.cp_vat_machine.specs.Local.{one_if}
use Rattle.cp_vat_machine.proofs.Basics.{ok_in}
use Rattle.cp_vat_laws.specs.Within.{Within}
use Rattle.cp_vat_laws.proofs.Tables.{put_sum, gone_sum}
use Rattle.cp_vat_laws.proofs.order.Same.{IsGoing, ends_well, waits_well}
use Rattle.cp_vat_laws.proofs.order.Sound.{sound_within, waiting_ungiven}
use Rattle.cp_vat_laws.proofs.order.Exits.{go_done}

abbrev one_each : WaitingCall → ℕ
one_each call = 1

abbrev if_over : Over → WaitingCall → ℕ
if_over over call = one_if (is_some (gave over call.gate))

-- how many calls wait, and how many of them at a gate that is over
abbrev waiting_number : State → ℕ
waiting_number s = sum_by one_each (values s.waiting.calls)

abbrev over_number : State → ℕ
over_number s = sum_by (if_over s.waiting.over) (values s.waiting.calls)

-- A call that leaves for good may end any gate, and one that waits on has one turn less.
abbrev turns_of : ℕ → ℕ
turns_of zero = 0
turns_of (suc n) = turns_of n + suc n

abbrev pub turns_left : State → ℕ
turns_left s = turns_of (waiting_number s) + over_number s

one_at_most : (o : Option Cap) → one_if (is_some o) ≤ 1
one_at_most None = omega arith
one_at_most (Some cap) = omega arith

over_within : (over : Over) (calls : List WaitingCall) → sum_by (if_over over) calls ≤ sum_by one_each calls
over_within over [] = omega arith
over_within over (call ∷ calls) =
    omega (arith, over_within over calls, one_at_most (gave over call.gate), sum_by-cons (if_over over) call calls, sum_by-cons one_each call calls)

falls_by : (m n o p : ℕ) → n ≡ suc m → o ≤ m → turns_of m + o < turns_of n + p
falls_by m n o p is few = rw is (omega (arith, few))

module _ {s : State} (h : Within s None []) (call : WaitingCall) (given : Cap) (next : IsNext s call given) where
  abbrev in_hand : State
  in_hand = without_call s call

  one_less : waiting_number in_hand + 1 ≡ waiting_number s
  one_less = gone_sum one_each s.waiting.calls call.ticket call next.waits

  its_gate : ◌≡◌ {A = ℕ} (if_over s.waiting.over call) 1
  its_gate = rw (next.ended) refl

  over_less : over_number in_hand + 1 ≡ over_number s
  over_less = omega (arith, its_gate, gone_sum (if_over s.waiting.over) s.waiting.calls call.ticket call next.waits)

  -- it left for good
  gone_falls : (mid : State) → mid.waiting.calls ≡ remove s.waiting.calls call.ticket → turns_left mid < turns_left s
  gone_falls mid same =
      let number : waiting_number mid ≡ waiting_number in_hand = ap (λ calls. sum_by one_each (values calls)) same in
      falls_by (waiting_number mid) (waiting_number s) (over_number mid) (over_number s) (omega (arith, number, one_less))
      (over_within mid.waiting.over (values mid.waiting.calls))

  -- it waits on, at a gate that isn't over
  waits_falls : (to : Gate) → Routes s.values given (routes.Wait to) → turns_left (held_at in_hand (underway call) to) < turns_left s
  waits_falls to way =
      let mid : State = held_at in_hand (underway call) to in
      let held : WaitingCall = record { ticket = call.ticket; origin = call.origin; request = call.request; gate = to } in
      let sound = sound_within s None [] h in
      let ahead = (waits_well s sound to (ends_well s sound given (routes.Wait to) (h.gifts call.gate given next.ended).0 way)).0 in
      let none = get-remove_same s.waiting.calls call.ticket in
      let number : waiting_number mid + 0 ≡ waiting_number in_hand + 1 = put_sum one_each in_hand.waiting.calls call.ticket held None none in
      let over : over_number mid + 0 ≡ over_number in_hand + if_over s.waiting.over held =
      put_sum (if_over s.waiting.over) in_hand.waiting.calls call.ticket held None none in
      let not_over : ◌≡◌ {A = ℕ} (if_over s.waiting.over held) 0 = rw ahead refl in
      let same : turns_of (waiting_number mid) ≡ turns_of (waiting_number s) = ap turns_of (omega (arith, number, one_less)) in
      omega (arith, same, over, over_less, not_over)

  -- Each turn leaves fewer.
  pub turn_falls : (done : Done) → GoTo in_hand (underway call) given (Ok done) → turns_left done.1 < turns_left s
  turn_falls done (route, way, goes) = by route way goes
    where
      for_good : (route : Route) → IsGoing route → Go in_hand (underway call) route (Ok done) → turns_left done.1 < turns_left s
      for_good route going goes =
          let may = waiting_ungiven s call h next.waits in
          gone_falls done.1 (go_done in_hand (underway call) route done goes going may.0 may.1).closes.calls

      by : (route : Route) → Routes s.values given route → Go in_hand (underway call) route (Ok done) → turns_left done.1 < turns_left s
      by (routes.Deliver k) way goes = for_good (routes.Deliver k) tt goes
      by (routes.Import i) way goes = for_good (routes.Import i) tt goes
      by (routes.Pipe q path) way goes = for_good (routes.Pipe q path) tt goes
      by (routes.Wait to) way goes = rw (ok_in _ _ goes) (waits_falls to way)
      by (routes.Fail x) way goes = for_good (routes.Fail x) tt goes
