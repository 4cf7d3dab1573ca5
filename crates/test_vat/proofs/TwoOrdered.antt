-- The row in which two calls wait for one answer is in order.
use Rattle.std.specs.Prelude.{◌≡◌, refl, List, [], ◌∷◌, Option, Some, None}
use Rattle.std.proofs.Common.{arith, ap, inl, inr}
use Rattle.std.specs.Ordering.{nat_cmp}
use Rattle.std.specs.Cmp.{nat_cmp_total}
use Rattle.std.specs.FinMap.{get, get-empty, get-insert}
use Rattle.cp_tables.specs.declared.counted.Counted.{Counted}
use Rattle.cp_messages.specs.declared.descriptor.Descriptor.TheVariants as descriptors
use Rattle.cp_refs.specs.declared.cap.Cap.{Cap}
use Rattle.cp_refs.specs.declared.cap.Cap.TheVariants as caps
use Rattle.cp_refs.specs.declared.call.Origin.TheVariants as origins
use Rattle.cp_refs.specs.declared.outcome.Outcome.{Outcome}
use Rattle.cp_refs.specs.declared.route.Gate.TheVariants as gates
use Rattle.cp_refs.specs.declared.route.Route.TheVariants as routes
use Rattle.cp_vat_machine.specs.declared.event.Event.TheVariants as events
use Rattle.cp_vat_machine.specs.declared.event.Value.TheVariants as values
use Rattle.cp_vat_machine.specs.Give.{return_of}
use Rattle.cp_vat_machine.specs.Trace.{Turn, own_part, goes, rests}
use Rattle.cp_vat_machine.specs.Ports.{answer_path, absences, calls_of, port_of, PortRoute}
use Rattle.cp_vat_machine.specs.Exits.{exits_of}
use Rattle.cp_vat_machine.specs.Telling.{TellsItsFulfillment}
use Rattle.cp_vat_machine.specs.InOrder.{Rises, has_left, ExitsByPorts, AtRest, InOrder, RunsInOrder}
use Rattle.test_vat.specs.Rows.{small_call, on_answer}
use Rattle.test_vat.specs.OrderRows.{IsOrderedUnless, other_way, delivered_to, two_in_order}
use Rattle.test_vat.proofs.OneWaits.{bootstrap_step}
use Rattle.test_vat.proofs.OneWaits.{s_3', held_2, outcome_1, returned_1, step_1, step_2}
use Rattle.test_vat.proofs.Pinned.{s_4, s_4'}
use Rattle.test_vat.proofs.TwoLeave.{held_3, kept_1_last, g_4, h_4, j_4, both_leave, step_3_waits, step_4, two_is}
use Rattle.test_vat.proofs.Ordered.{rest_turn, past_2, port_1, port_2, calls_2, by_ports_2, none_kept_2, told_2, rest_told, all_of, pairs_of, pairs_from}

-- the turns
abbrev also_turn : Turn
also_turn = record { cause = own_part (events.Receive (small_call 3 (on_answer 1 0))) values.Nothing; before = s_3'; effects = []; after = s_4 }

abbrev past_3 : List Turn
past_3 = rest_turn s_4 ∷ also_turn ∷ past_2

abbrev answer_turn : Turn
answer_turn =
    record {
      cause = own_part (events.Answer (origins.Answer 1) outcome_1) values.Nothing;
      before = s_4';
      effects = return_of 1 returned_1 ∷ [];
      after = g_4;
    }

abbrev first_turn : Turn
first_turn = record { cause = goes held_2; before = g_4; effects = delivered_to 2 1 ∷ []; after = h_4 }

abbrev second_turn : Turn
second_turn = record { cause = goes held_3; before = h_4; effects = delivered_to 3 2 ∷ []; after = j_4 }

abbrev past_4 : List Turn
past_4 = rest_turn j_4 ∷ second_turn ∷ first_turn ∷ answer_turn ∷ past_3

-- the second call that waits has the first one's port
life_3 : absences (answer_path 1 (0 ∷ [])) past_2 ≡ 2
life_3 = simp (get-insert {X = Option Outcome} nat_cmp_total, get-empty {X = Option Outcome} nat_cmp) refl

calls_3 : calls_of past_3 ≡ record { ticket = 2; port = port_2 } ∷ record { ticket = 1; port = port_2 } ∷ record { ticket = 0; port = port_1 } ∷ []
calls_3 = rw (calls_2, life_3) refl

exits_4 : exits_of past_4 ≡ record { ticket = 0; route = routes.Deliver 0 } ∷ record { ticket = 1; route = routes.Deliver 5 } ∷ record { ticket = 2; route = routes.Deliver 5 } ∷ []
exits_4 = rw (get-empty {X = Outcome} nat_cmp 2, get-empty {X = Outcome} nat_cmp 3) refl

waits_3 : PortRoute past_3 port_2 (routes.Wait (gates.Answer 1 (0 ∷ [])))
waits_3 = simp (get-insert {X = Option Outcome} nat_cmp_total, get-empty {X = Option Outcome} nat_cmp) refl

goes_first : PortRoute (first_turn ∷ answer_turn ∷ past_3) port_2 (routes.Deliver 5)
goes_first = simp (get-insert {X = Option Outcome} nat_cmp_total, get-empty {X = Option Outcome} nat_cmp) (1, refl)

goes_second : PortRoute (second_turn ∷ first_turn ∷ answer_turn ∷ past_3) port_2 (routes.Deliver 5)
goes_second = simp (get-insert {X = Option Outcome} nat_cmp_total, get-empty {X = Option Outcome} nat_cmp) (1, refl)

-- each goes by its port, and none is kept
port_of_1 : port_of (calls_of past_3) 1 ≡ Some port_2
port_of_1 = ap (λ calls. port_of calls 1) calls_3

port_of_2 : port_of (calls_of past_3) 2 ≡ Some port_2
port_of_2 = ap (λ calls. port_of calls 2) calls_3

also_by_port : ExitsByPorts past_2 also_turn
also_by_port = rw (get-empty {X = Outcome} nat_cmp 3) tt

rests_3 : AtRest (also_turn ∷ past_2) (rest_turn s_4) rests
rests_3 = all_of _ _ _ calls_3 (inr (inr (gates.Answer 1 (0 ∷ []), waits_3)), (inr (inr (gates.Answer 1 (0 ∷ []), waits_3)), (inl refl, tt)))

rests_4 : AtRest (second_turn ∷ first_turn ∷ answer_turn ∷ past_3) (rest_turn j_4) rests
rests_4 =
    all_of _ _ _ calls_3 (inl (ap (λ exits. has_left exits 2) exits_4), (inl (ap (λ exits. has_left exits 1) exits_4), (inl (ap (λ exits. has_left exits 0) exits_4), tt)))

-- the answer alone is told
also_told : TellsItsFulfillment also_turn
also_told = (None, rw (get-empty {X = Outcome} nat_cmp 3) refl, refl)

exported_5 : get g_4.counts.exports 1 ≡ Some (record { count = 1; kept = caps.Object 5 })
exported_5 = simp (get-insert {X = Counted Cap} nat_cmp_total) refl

answer_told : TellsItsFulfillment answer_turn
answer_told = (
  Some (record { origin = origins.Answer 1; outcome = outcome_1 }),
  refl,
  rw (kept_1_last) (returned_1, refl, (descriptors.SenderHosted 1 ∷ [], refl, ((5, (1, exported_5), (0, refl)), tt))),
)

first_told : TellsItsFulfillment first_turn
first_told = (None, refl, refl)

second_told : TellsItsFulfillment second_turn
second_told = (None, refl, refl)

-- their tickets rise
order_4 : InOrder past_4
order_4 =
    record {
      rising = pairs_of _ _ _ exits_4 ((λ port e is. omega arith, (λ port e is. omega arith, tt)), ((λ port e is. omega arith, tt), (tt, tt)));
      once = pairs_of _ _ _ exits_4 ((λ e. absurd (omega (arith, e)), (λ e. absurd (omega (arith, e)), tt)), ((λ e. absurd (omega (arith, e)), tt), (tt, tt)));
      by_ports = (tt, (((port_2, port_of_2, goes_second), tt), (((port_2, port_of_1, goes_first), tt), (tt, (tt, (also_by_port, by_ports_2))))));
      none_kept = (rests_4, (tt, (tt, (tt, (rests_3, (tt, none_kept_2))))));
      told = (rest_told j_4, (second_told, (first_told, (answer_told, (rest_told s_4, (also_told, told_2))))));
    }

pub two_leave_in_order : RunsInOrder (Some 0) two_in_order
unfolding bootstrap_step step_1 step_2 step_3_waits step_4 both_leave two_is
two_leave_in_order = (two_is, order_4)

-- The same turns, the later call's before the earlier one's, aren't in order.
abbrev swapped : List Turn
swapped = rest_turn j_4 ∷ first_turn ∷ second_turn ∷ answer_turn ∷ past_3

exits_swapped : exits_of swapped ≡ record { ticket = 0; route = routes.Deliver 0 } ∷ record { ticket = 2; route = routes.Deliver 5 } ∷ record { ticket = 1; route = routes.Deliver 5 } ∷ []
exits_swapped = rw (get-empty {X = Outcome} nat_cmp 2, get-empty {X = Outcome} nat_cmp 3) refl

not_swapped : InOrder swapped → ⊥
not_swapped ordered =
    let (first, ((second, third), last)) = pairs_from (Rises (calls_of past_3)) _ _ exits_swapped ordered.rising in
    absurd (omega (arith, second port_2 port_of_2 port_of_1))

pub two_rise : IsOrderedUnless two_in_order other_way
unfolding bootstrap_step step_1 step_2 step_3_waits step_4 both_leave two_is
two_rise = (two_is, not_swapped)
