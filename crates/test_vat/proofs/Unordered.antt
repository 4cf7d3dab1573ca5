-- Turns that aren't in order.
use Rattle.std.specs.Prelude.{◌≡◌, refl, ℕ, Bool, true, false, List, [], ◌∷◌, ◌++◌, length, Option, Some, None}
use Rattle.std.proofs.Common.{arith, sym, ap, ◌∙◌, true≢false, inl, inr}
use Rattle.std.specs.Ordering.{nat_cmp}
use Rattle.std.specs.Cmp.{nat_cmp_total}
use Rattle.std.specs.FinMap.{get, insert, empty, get-empty, get-insert, get-remove}
use Rattle.cp_refs.specs.declared.call.Origin.TheVariants as origins
use Rattle.cp_refs.specs.declared.outcome.Outcome.{Outcome}
use Rattle.cp_refs.specs.declared.route.Route.{Route}
use Rattle.cp_refs.specs.declared.route.Route.TheVariants as routes
use Rattle.cp_vat_machine.specs.declared.effect.Effect.{Effect}
use Rattle.cp_vat_machine.specs.declared.effect.Effect.TheVariants as effects
use Rattle.cp_vat_machine.specs.Trace.{Turn}
use Rattle.cp_vat_machine.specs.Ports.{Port, calls_of, port_of, PortRoute}
use Rattle.cp_vat_machine.specs.Exits.{exits_of}
use Rattle.cp_vat_machine.specs.Telling.{Fulfillment, TellsItsFulfillment, FulfillmentTold, AnswerTold, was_finished}
use Rattle.cp_vat_machine.specs.InOrder.{has_left, OtherTicket, GoesByItsPort, LeftOrWaits, InOrder}
use Rattle.test_vat.specs.Rows.{small_request}
use Rattle.test_vat.specs.OrderRows.{IsOrderedUnless, one_in_order, going_twice, going_elsewhere, never_going, telling_nothing}
use Rattle.test_vat.proofs.OneWaits.{s_5, held_2, outcome_1, bootstrap_step, step_1, step_2, step_3, delivers_2, pipelined_is}
use Rattle.test_vat.proofs.Inverts.{some_inj, none_not_some}
use Rattle.test_vat.proofs.Pinned.{object_route}
use Rattle.test_vat.proofs.Ordered.{rest_turn, past_2, answer_turn, leave_turn, port_2, calls_2, exits_2, pairs_from, all_from}

-- the call goes twice
exits_twice : exits_of (rest_turn s_5 ∷ leave_turn ∷ leave_turn ∷ answer_turn ∷ past_2)
    ≡ record { ticket = 0; route = routes.Deliver 0 } ∷ record { ticket = 1; route = routes.Deliver 5 } ∷ record { ticket = 1; route = routes.Deliver 5 } ∷ []
exits_twice = rw (get-empty {X = Outcome} nat_cmp 2) refl

not_twice : InOrder (rest_turn s_5 ∷ leave_turn ∷ leave_turn ∷ answer_turn ∷ past_2) → ⊥
not_twice ordered = let (first, ((second, third), last)) = pairs_from OtherTicket _ _ exits_twice ordered.once in second refl

pub goes_once : IsOrderedUnless one_in_order going_twice
unfolding bootstrap_step step_1 step_2 step_3 delivers_2 pipelined_is
goes_once = (pipelined_is, not_twice)

-- the port's route, once the answer is given
abbrev else_turn : Turn
else_turn = record leave_turn { effects = effects.Deliver 6 (origins.Answer 2) 1 small_request ∷ [] }

object_of : Route → ℕ
object_of (routes.Deliver k) = k
object_of other = 0

port_is : (port : Port) → port_of (calls_of past_2) 1 ≡ Some port → port ≡ port_2
port_is port is = sym (some_inj (ap (λ calls. port_of calls 1) (sym calls_2) ∙ is))

else_route : (route : Route) → PortRoute (else_turn ∷ answer_turn ∷ past_2) port_2 route → route ≡ routes.Deliver 5
else_route route routed = object_route s_5.values 5 route (simp (get-insert {X = Option Outcome} nat_cmp_total, get-empty {X = Option Outcome} nat_cmp) at routed)

not_elsewhere : InOrder (rest_turn s_5 ∷ else_turn ∷ answer_turn ∷ past_2) → ⊥
unfolding object_of
not_elsewhere ordered = by_exit ordered.by_ports.1.0.0
  where
    by_exit : GoesByItsPort (else_turn ∷ answer_turn ∷ past_2) (record { ticket = 1; route = routes.Deliver 6 }) → ⊥
    by_exit (port, is_port, routed) = absurd (omega (arith, ap object_of (else_route (routes.Deliver 6) (rw (port_is port is_port) at routed))))

pub goes_by_port : IsOrderedUnless one_in_order going_elsewhere
unfolding bootstrap_step step_1 step_2 step_3 delivers_2 pipelined_is
goes_by_port = (pipelined_is, not_elsewhere)

-- the call is dropped: it is gone, and the route of its port is to the object
still_route : (route : Route) → PortRoute (rest_turn s_5 ∷ answer_turn ∷ past_2) port_2 route → route ≡ routes.Deliver 5
still_route route routed = object_route s_5.values 5 route (simp (get-insert {X = Option Outcome} nat_cmp_total, get-empty {X = Option Outcome} nat_cmp) at routed)

gone_1 : get s_5.waiting.calls 1 ≡ None
gone_1 = get-remove nat_cmp_total (insert empty 1 held_2) 1 1

not_left : has_left (exits_of (rest_turn s_5 ∷ answer_turn ∷ past_2)) 1 ≡ false
not_left = ap (λ exits. has_left ((exits ++ []) ++ []) 1) exits_2

not_dropped : InOrder (rest_turn s_5 ∷ answer_turn ∷ past_2) → ⊥
unfolding object_of
not_dropped ordered = let (one, zero) = all_from _ _ _ calls_2 ordered.none_kept.0 in by_call one
  where
    by_call : LeftOrWaits (rest_turn s_5 ∷ answer_turn ∷ past_2) s_5 (record { ticket = 1; port = port_2 }) → ⊥
    by_call (inl left) = true≢false (sym left ∙ not_left)
    by_call (inr (inl (call, n, waits, at_gate, is_open))) = none_not_some (sym gone_1 ∙ waits)
    by_call (inr (inr (gate, routed))) = absurd (omega (arith, ap object_of (still_route (routes.Wait gate) routed)))

pub goes_at_all : IsOrderedUnless one_in_order never_going
unfolding bootstrap_step step_1 step_2 step_3 delivers_2 pipelined_is
goes_at_all = (pipelined_is, not_dropped)

-- the answer isn't told
abbrev mute_turn : Turn
mute_turn = record answer_turn { effects = [] }

silent : (finished : Bool) (told : List Effect) → told ≡ [] → AnswerTold mute_turn 1 outcome_1 finished told → ⊥
silent true told none is = absurd (omega (arith, ap length (sym none ∙ is)))
silent false told none (returned, is, bears) = absurd (omega (arith, ap length (sym none ∙ is)))

not_mute : TellsItsFulfillment mute_turn → ⊥
not_mute (fulfillment, gives, told) = by_gift fulfillment gives told
  where
    by_gift : (fulfillment : Option Fulfillment) → fulfillment ≡ Some (record { origin = origins.Answer 1; outcome = outcome_1 }) → FulfillmentTold mute_turn fulfillment [] → ⊥
    by_gift fulfillment is told = silent (was_finished (get mute_turn.before.entries.answers 1)) [] refl (rw (is) at told)

pub tells : IsOrderedUnless one_in_order telling_nothing
unfolding bootstrap_step step_1 step_2 step_3 delivers_2 pipelined_is
tells = (pipelined_is, λ ordered. not_mute ordered.told.1.1.0)
