-- Rows are in order.
use Rattle.std.specs.Prelude.{◌≡◌, refl, List, [], ◌∷◌, Option, Some, None}
use Rattle.std.proofs.Common.{arith, inl, inr}
use Rattle.std.specs.List.{AllByRecursion}
use Rattle.std.specs.Ordering.{nat_cmp}
use Rattle.std.specs.Cmp.{nat_cmp_total}
use Rattle.std.specs.FinMap.{get, empty, get-empty, get-insert}
use Rattle.cp_tables.specs.declared.counted.Counted.{Counted}
use Rattle.cp_tables.specs.declared.exchange.Exchange.{Exchange}
use Rattle.cp_messages.specs.declared.descriptor.Descriptor.TheVariants as descriptors
use Rattle.cp_messages.specs.declared.message.Message.TheVariants as messages
use Rattle.cp_refs.specs.declared.cap.Cap.{Cap}
use Rattle.cp_refs.specs.declared.cap.Cap.TheVariants as caps
use Rattle.cp_refs.specs.declared.call.Origin.TheVariants as origins
use Rattle.cp_messages.specs.declared.target.Target.TheVariants as targets
use Rattle.cp_refs.specs.declared.outcome.Outcome.{Outcome}
use Rattle.cp_refs.specs.declared.route.Gate.TheVariants as gates
use Rattle.cp_refs.specs.declared.route.Route.TheVariants as routes
use Rattle.cp_vat_machine.specs.declared.effect.Effect.TheVariants as effects
use Rattle.cp_vat_machine.specs.declared.entry.AnswerEntry.{AnswerEntry}
use Rattle.cp_vat_machine.specs.declared.event.Event.TheVariants as events
use Rattle.cp_vat_machine.specs.declared.event.Value.TheVariants as values
use Rattle.cp_vat_machine.specs.Answering.{bootstrap_outcome}
use Rattle.cp_vat_machine.specs.Give.{return_of}
use Rattle.cp_vat_machine.specs.State.{State, new_state, with_over, none_over}
use Rattle.cp_vat_machine.specs.Trace.{Turn, own_part, goes, rests}
use Rattle.cp_vat_machine.specs.Ports.{Port, answer_path, capability, absences, calls_of, PortRoute}
use Rattle.cp_vat_machine.specs.Exits.{exits_of}
use Rattle.cp_vat_machine.specs.Telling.{TellsItsFulfillment}
use Rattle.cp_vat_machine.specs.InOrder.{EachPair, EachTurn, ExitsByPorts, AtRest, InOrder, RunsInOrder}
use Rattle.test_vat.specs.Rows.{bootstrap_answered, pipelined_waits, small_call, on_answer, small_request}
use Rattle.test_vat.specs.OrderRows.{one_in_order}
use Rattle.test_vat.proofs.OneWaits.{given_0, returned_0, bootstrap_is, bootstrap_step}
use Rattle.test_vat.proofs.OneWaits.{s_1, s_2, s_2', s_3, s_3', s_5, g_3, held_2, outcome_1, returned_1, export_0, kept_1_now, step_1, step_2, step_3, delivers_2, waits_is, pipelined_is}

-- nothing is given where the vat rests
pub rest_told : (s : State) → TellsItsFulfillment (record { cause = rests; before = s; effects = []; after = with_over s none_over })
rest_told s = (None, refl, refl)

abbrev pub bootstrap_turn : Turn
bootstrap_turn =
    record {
      cause = own_part (events.Receive (messages.Bootstrap (record { question_id = 0 }))) values.Nothing;
      before = new_state (Some 0);
      effects = return_of 0 returned_0 ∷ [];
      after = given_0;
    }

-- the bootstrap's answer names its export
pub bootstrap_told : TellsItsFulfillment bootstrap_turn
bootstrap_told = (
  Some (record { origin = origins.Answer 0; outcome = bootstrap_outcome (Some 0) }),
  refl,
  rw (get-empty {X = Exchange AnswerEntry} nat_cmp 0) (returned_0, refl, (descriptors.SenderHosted 0 ∷ [], refl, ((0, (1, get-insert nat_cmp_total empty 0 _ 0), (0, refl)), tt))),
)

pub bootstrap_in_order : RunsInOrder (Some 0) bootstrap_answered
unfolding bootstrap_is bootstrap_step
bootstrap_in_order = (
  bootstrap_is,
  record { rising = tt; once = tt; by_ports = (tt, (tt, tt)); none_kept = (tt, (tt, tt)); told = (rest_told given_0, (bootstrap_told, tt)) },
)

-- the turns of the row that waits
abbrev pub rest_turn : State → Turn
rest_turn s = record { cause = rests; before = s; effects = []; after = with_over s none_over }

abbrev pub past_0 : List Turn
past_0 = rest_turn given_0 ∷ bootstrap_turn ∷ []

abbrev pub call_turn : Turn
call_turn =
    record {
      cause = own_part (events.Receive (small_call 1 (targets.ImportedCap 0))) values.Nothing;
      before = s_1;
      effects = effects.Deliver 0 (origins.Answer 1) 0 small_request ∷ [];
      after = s_2;
    }

abbrev pub past_1 : List Turn
past_1 = rest_turn s_2 ∷ call_turn ∷ past_0

abbrev pub wait_turn : Turn
wait_turn = record { cause = own_part (events.Receive (small_call 2 (on_answer 1 0))) values.Nothing; before = s_2'; effects = []; after = s_3 }

abbrev pub past_2 : List Turn
past_2 = rest_turn s_3 ∷ wait_turn ∷ past_1

-- the first call names an object, the second what its answer gives
abbrev pub port_1 : Port
port_1 = record { name = capability (caps.Object 0); life = 0 }

abbrev pub port_2 : Port
port_2 = record { name = answer_path 1 (0 ∷ []); life = 2 }

pub life_2 : absences (answer_path 1 (0 ∷ [])) past_1 ≡ 2
life_2 = simp (get-insert {X = Option Outcome} nat_cmp_total, get-empty {X = Option Outcome} nat_cmp) refl

pub calls_2 : calls_of past_2 ≡ record { ticket = 1; port = port_2 } ∷ record { ticket = 0; port = port_1 } ∷ []
calls_2 = rw (export_0, life_2) refl

pub exits_2 : exits_of past_2 ≡ record { ticket = 0; route = routes.Deliver 0 } ∷ []
exits_2 = rw (get-empty {X = Outcome} nat_cmp 2) refl

waits_2 : PortRoute past_2 port_2 (routes.Wait (gates.Answer 1 (0 ∷ [])))
waits_2 = simp (get-insert {X = Option Outcome} nat_cmp_total, get-empty {X = Option Outcome} nat_cmp) refl

-- each call goes by its port
call_by_port : ExitsByPorts past_0 call_turn
call_by_port = rw (export_0) ((port_1, refl, (1, refl)), tt)

by_ports_1 : EachTurn ExitsByPorts past_1
by_ports_1 = (tt, (call_by_port, (tt, (tt, tt))))

pub by_ports_2 : EachTurn ExitsByPorts past_2
by_ports_2 = (tt, (rw (get-empty {X = Outcome} nat_cmp 2) tt, by_ports_1))

-- each of a list, and the pairs of a list, that is another one
pub all_of : {X : Type 0} (P : X → Type 0) (xs ys : List X) → xs ≡ ys → AllByRecursion P ys → AllByRecursion P xs
all_of P xs ys is all = rw (is) all

pub pairs_of : {X : Type 0} (R : X → X → Type 0) (xs ys : List X) → xs ≡ ys → EachPair R ys → EachPair R xs
pairs_of R xs ys is pairs = rw (is) pairs

pub pairs_from : {X : Type 0} (R : X → X → Type 0) (xs ys : List X) → xs ≡ ys → EachPair R xs → EachPair R ys
pairs_from R xs ys is pairs = rw (is) at pairs

pub all_from : {X : Type 0} (P : X → Type 0) (xs ys : List X) → xs ≡ ys → AllByRecursion P xs → AllByRecursion P ys
all_from P xs ys is all = rw (is) at all

-- none is kept
rests_1 : AtRest (call_turn ∷ past_0) (rest_turn s_2) rests
rests_1 = rw (export_0) (inl refl, tt)

rests_2 : AtRest (wait_turn ∷ past_1) (rest_turn s_3) rests
rests_2 = all_of _ _ _ calls_2 (inr (inr (gates.Answer 1 (0 ∷ []), waits_2)), (inl refl, tt))

none_kept_1 : EachTurn (λ past turn. AtRest past turn turn.cause) past_1
none_kept_1 = (rests_1, (tt, (tt, (tt, tt))))

pub none_kept_2 : EachTurn (λ past turn. AtRest past turn turn.cause) past_2
none_kept_2 = (rests_2, (tt, none_kept_1))

-- and nothing is given
call_told : TellsItsFulfillment call_turn
call_told = (None, rw (export_0) refl, refl)

wait_told : TellsItsFulfillment wait_turn
wait_told = (None, rw (get-empty {X = Outcome} nat_cmp 2) refl, refl)

told_1 : AllByRecursion TellsItsFulfillment past_1
told_1 = (rest_told s_2, (call_told, (rest_told given_0, (bootstrap_told, tt))))

pub told_2 : AllByRecursion TellsItsFulfillment past_2
told_2 = (rest_told s_3, (wait_told, told_1))

order_2 : InOrder past_2
order_2 = record { rising = pairs_of _ _ _ exits_2 (tt, tt); once = pairs_of _ _ _ exits_2 (tt, tt); by_ports = by_ports_2; none_kept = none_kept_2; told = told_2 }

pub waits_in_order : RunsInOrder (Some 0) pipelined_waits
unfolding bootstrap_step step_1 step_2 waits_is
waits_in_order = (waits_is, order_2)

-- the turns of the row in which the call leaves
abbrev pub answer_turn : Turn
answer_turn =
    record {
      cause = own_part (events.Answer (origins.Answer 1) outcome_1) values.Nothing;
      before = s_3';
      effects = return_of 1 returned_1 ∷ [];
      after = g_3;
    }

abbrev pub leave_turn : Turn
leave_turn = record { cause = goes held_2; before = g_3; effects = effects.Deliver 5 (origins.Answer 2) 1 small_request ∷ []; after = s_5 }

abbrev past_3 : List Turn
past_3 = rest_turn s_5 ∷ leave_turn ∷ answer_turn ∷ past_2

exits_3 : exits_of past_3 ≡ record { ticket = 0; route = routes.Deliver 0 } ∷ record { ticket = 1; route = routes.Deliver 5 } ∷ []
exits_3 = rw (get-empty {X = Outcome} nat_cmp 2) refl

goes_2 : PortRoute (leave_turn ∷ answer_turn ∷ past_2) port_2 (routes.Deliver 5)
goes_2 = simp (get-insert {X = Option Outcome} nat_cmp_total, get-empty {X = Option Outcome} nat_cmp) (1, refl)

leaves_by_port : ExitsByPorts (answer_turn ∷ past_2) leave_turn
leaves_by_port = rw (life_2) ((port_2, refl, goes_2), tt)

rests_3 : AtRest (leave_turn ∷ answer_turn ∷ past_2) (rest_turn s_5) rests
rests_3 = all_of _ _ _ calls_2 (rw (get-empty {X = Outcome} nat_cmp 2) (inl refl), (inl refl, tt))

-- the answer's Return names the new export, and the waiting call's turn gives nothing
exported_5 : get g_3.counts.exports 1 ≡ Some (record { count = 1; kept = caps.Object 5 })
exported_5 = simp (get-insert {X = Counted Cap} nat_cmp_total) refl

answer_told : TellsItsFulfillment answer_turn
answer_told = (
  Some (record { origin = origins.Answer 1; outcome = outcome_1 }),
  refl,
  rw (kept_1_now) (returned_1, refl, (descriptors.SenderHosted 1 ∷ [], refl, ((5, (1, exported_5), (0, refl)), tt))),
)

leave_told : TellsItsFulfillment leave_turn
leave_told = (None, refl, refl)

order_3 : InOrder past_3
order_3 =
    record {
      rising = pairs_of _ _ _ exits_3 ((λ port e is. omega arith, tt), (tt, tt));
      once = pairs_of _ _ _ exits_3 ((λ e. absurd (omega (arith, e)), tt), (tt, tt));
      by_ports = (tt, (leaves_by_port, (tt, by_ports_2)));
      none_kept = (rests_3, (tt, (tt, none_kept_2)));
      told = (rest_told s_5, (leave_told, (answer_told, told_2)));
    }

pub leaves_in_order : RunsInOrder (Some 0) one_in_order
unfolding bootstrap_step step_1 step_2 step_3 delivers_2 pipelined_is
leaves_in_order = (pipelined_is, order_3)
