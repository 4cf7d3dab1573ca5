-- The turns of calls that enter keep the invariant.
use Rattle.std.specs.Prelude.{◌≡◌, ◌⊎◌, refl, ℕ, zero, suc, ◌+◌, true, List, [], ◌∷◌, flat_map, Option, Some, None, Ok}
use Rattle.std.specs.FinMap.{get, insert}
use Rattle.std.proofs.Common.{arith, inl, inr, ap, subst, sym, ◌∙◌}
use Rattle.cp_refs.specs.At.{cap_at}
use Rattle.cp_refs.specs.Route.{promise_way, open_way, question_way, outcome_way, route_by, route_within, Routes}
use Rattle.cp_refs.specs.Values.{ValueMaps}
use Rattle.cp_refs.specs.declared.cap.Cap.{Cap}
use Rattle.cp_refs.specs.declared.cap.Cap.TheVariants as caps
use Rattle.cp_refs.specs.declared.call.WaitingCall.{WaitingCall}
use Rattle.cp_refs.specs.declared.call.Origin.{Origin}
use Rattle.cp_refs.specs.declared.outcome.Outcome.{Outcome}
use Rattle.cp_refs.specs.declared.route.Gate.{Gate}
use Rattle.cp_refs.specs.declared.route.Gate.TheVariants as gates
use Rattle.cp_refs.specs.declared.route.Route.{Route}
use Rattle.cp_refs.specs.declared.route.Route.TheVariants as routes
use Rattle.cp_refs.specs.declared.values.QuestionState.{QuestionState}
use Rattle.cp_refs.specs.declared.values.QuestionKind.{QuestionKind}
use Rattle.cp_refs.specs.declared.values.QuestionKind.TheVariants as kinds
use Rattle.cp_vat_machine.specs.State.{State, none_over, gave}
use Rattle.cp_vat_machine.specs.Calling.{mark_of}
use Rattle.cp_vat_machine.specs.Go.{PendingCall, held_at, Go}
use Rattle.cp_vat_machine.specs.Local.{IsTicketOf}
use Rattle.cp_vat_machine.specs.Trace.{Turn}
use Rattle.cp_vat_machine.specs.Ports.{Name, answer_path, capability, entry_of_event, NameRoute, is_there}
use Rattle.cp_vat_machine.specs.Exits.{exits_in, exit_by, given_to}
use Rattle.cp_vat_machine.specs.declared.effect.Effect.{Effect}
use Rattle.cp_vat_machine.specs.declared.event.Event.{Event}
use Rattle.cp_vat_machine.specs.declared.event.Value.{Value}
use Rattle.cp_vat_laws.specs.OrderKept.{Leads, FitsName, OrderHolds}
use Rattle.cp_vat_machine.proofs.Basics.{some_out, none_out, ok_in}
use Rattle.cp_vat_laws.proofs.order.Passes.{Sound, Passes}
use Rattle.cp_vat_laws.proofs.order.Names.{IsOff, name_follows}
use Rattle.cp_vat_laws.proofs.order.Same.{same_passes, IsGoing, going_kept}
use Rattle.cp_vat_laws.proofs.order.Closes.{AddsNone, passes_both}
use Rattle.cp_vat_laws.proofs.order.Give.{IsUngiven}
use Rattle.cp_vat_laws.proofs.order.Exits.{IsGone, go_done}
use Rattle.cp_vat_laws.proofs.order.Grows.{GrowsTo, grow_name, grow_there, opens_none}
use Rattle.cp_vat_laws.proofs.order.NewCall.{IsSent, IsFresh, go_same, go_stays}
use Rattle.cp_vat_laws.proofs.order.Rest.{none_gave}
use Rattle.cp_vat_laws.proofs.order.WaitingStays.{stands_there, leads_there, free_there, no_failure}
use Rattle.cp_vat_laws.proofs.order.Turn.{turned_holds}
use Rattle.cp_vat_laws.proofs.order.Enters.{owning, free_over, IsUnmarked, exits_entering, waits_entering}

-- no capability leads to an embargo
abbrev IsPlainWait : Route → Type 0
IsPlainWait (routes.Wait (gates.Embargo n)) = ⊥
IsPlainWait other = Unit {0}

open_plain : (kind : QuestionKind) (q : ℕ) (path : List ℕ) → IsPlainWait (open_way kind q path)
open_plain kinds.Wire q path = tt
open_plain kinds.Local q path = tt

module _ (values : ValueMaps) where
  promise_plain : (n p : ℕ) (r : Route) → ((c : Cap) → route_within n values c ≡ Some r → IsPlainWait r) → (o : Option (Option Cap))
      → route_by (λ next. route_within n values next) (promise_way p o) ≡ Some r → IsPlainWait r
  promise_plain n p r more None e = none_out e
  promise_plain n p r more (Some None) e = subst IsPlainWait (some_out e) tt
  promise_plain n p r more (Some (Some v)) e = more v e

  outcome_plain : (n q : ℕ) (path : List ℕ) (r : Route) → ((c : Cap) → route_within n values c ≡ Some r → IsPlainWait r) → (kind : QuestionKind) (o : Option Outcome)
      → route_by (λ next. route_within n values next) (outcome_way kind q path o) ≡ Some r → IsPlainWait r
  outcome_plain n q path r more kind None e = subst IsPlainWait (some_out e) (open_plain kind q path)
  outcome_plain n q path r more kind (Some outcome) e = more (cap_at outcome path) e

  question_plain : (n q : ℕ) (path : List ℕ) (r : Route) → ((c : Cap) → route_within n values c ≡ Some r → IsPlainWait r) → (o : Option QuestionState)
      → route_by (λ next. route_within n values next) (question_way q path o) ≡ Some r → IsPlainWait r
  question_plain n q path r more None e = none_out e
  question_plain n q path r more (Some question) e = outcome_plain n q path r more question.kind question.outcome e

  plain_within : (n : ℕ) (c : Cap) (r : Route) → route_within n values c ≡ Some r → IsPlainWait r
  plain_within zero c r e = none_out e
  plain_within (suc n) caps.None r e = subst IsPlainWait (some_out e) tt
  plain_within (suc n) (caps.Object k) r e = subst IsPlainWait (some_out e) tt
  plain_within (suc n) (caps.Promise p) r e = promise_plain n p r (λ c k. plain_within n c r k) (get values.promises p) e
  plain_within (suc n) (caps.Import i) r e = subst IsPlainWait (some_out e) tt
  plain_within (suc n) (caps.Pipelined q path) r e = question_plain n q path r (λ c k. plain_within n c r k) (get values.questions q) e
  plain_within (suc n) (caps.Broken x) r e = subst IsPlainWait (some_out e) tt

  pub no_embargo : (c : Cap) (g : Gate) → Routes values c (routes.Wait g) → (n : ℕ) → g ≡ gates.Embargo n → ⊥
  no_embargo c g h n at = subst (λ x. IsPlainWait (routes.Wait x)) at (plain_within h.0 c (routes.Wait g) h.1)

-- what a call names has no mark
abbrev pub IsClear : State → Name → Type 0
IsClear s (answer_path a path) = Unit {0}
IsClear s (capability c) = mark_of s c ≡ None

clear_unmarked : (s : State) (name : Name) → IsClear s name → IsUnmarked s name
clear_unmarked s (answer_path a path) clear = tt
clear_unmarked s (capability c) clear = λ m is off. none_out (sym clear ∙ is)

clear_fits : (s : State) (name : Name) (g : Gate) → IsClear s name → IsOff s.values name → ((n : ℕ) → g ≡ gates.Embargo n → ⊥) → FitsName s name g
clear_fits s (answer_path a path) g clear off never = free_there s g never
clear_fits s (capability c) g clear off never = (off, rw (clear) (free_there s g never))

clear_apart : (s : State) (name : Name) (n : ℕ) → s.waiting.over ≡ none_over → IsClear s name → FitsName s name (gates.Embargo n) → ⊥
clear_apart s (answer_path a path) n none clear fits = free_over s n none fits
clear_apart s (capability c) n none clear fits = free_over s n none (rw (clear) at fits.1)

-- The state in which the call goes: values grew, nothing is over, and no other call waits.
pub record IsCome (old mid : State) (call : PendingCall) : Type 0 where
  pub passes : Passes old mid
  pub grows : GrowsTo old.values mid.values
  pub over : mid.waiting.over ≡ none_over
  pub calls : mid.waiting.calls ≡ old.waiting.calls
  pub next : mid.next_ticket ≡ old.next_ticket + 1
  pub ticket : call.ticket ≡ old.next_ticket
  pub whose : IsTicketOf mid call.origin call.ticket
  pub ungiven : IsUngiven mid call.origin
  pub fresh : IsFresh mid call.origin

pub given_none : (s : State) (origin : Origin) → IsUngiven s origin → given_to s.waiting.over origin ≡ None
given_none s (Rattle.cp_refs.specs.declared.call.Origin.TheVariants.Answer a) h = h.1
given_none s (Rattle.cp_refs.specs.declared.call.Origin.TheVariants.Own q) h = h.3

module _ (past : List Turn) (event : Event) (value : Value) (old between : State) (call : PendingCall) (name : Name) (h : OrderHolds past old) (sound : Sound old)
    (entry : entry_of_event old event value ≡ Some (record { ticket = old.next_ticket; origin = call.origin; name = name })) (none : old.waiting.over ≡ none_over)
    (come : IsCome old between call) (there : is_there old.values name ≡ true) where
  there_between : is_there between.values name ≡ true
  there_between = grow_there old.values between.values come.grows name there

  -- The call exits at once.
  module _ (first : List Effect) (mid : State) (later : Sound mid) (route : Route) (goes : Go between call route (Ok (first, mid))) (going_on : IsGoing route)
      (way : NameRoute between.values name route) (off : IsSent route ⊎ IsOff between.values name) (un : IsUnmarked old name) where
    gone : IsGone between call route (first, mid)
    gone = go_done between call route (first, mid) goes going_on come.whose come.ungiven

    there_mid : is_there mid.values name ≡ true
    there_mid = go_stays between call route (first, mid) goes come.fresh name there_between

    way_by : IsSent route ⊎ IsOff between.values name → NameRoute mid.values name route
    way_by (inl is_sent) = rw (go_same between call route (first, mid) goes is_sent) way
    way_by (inr is_off) =
        name_follows between mid (opens_none between come.over) later gone.closes.passes name route route there_between there_mid is_off way (going_kept mid route going_on)

    exits_are : exits_in (owning event value old first mid) ≡ record { ticket = old.next_ticket; route = route } ∷ []
    exits_are = rw (entry, ← come.ticket) gone.exits

    pub exits_hold : OrderHolds (owning event value old first mid ∷ past) mid
    exits_hold =
        turned_holds past (owning event value old first mid) sound later (passes_both old between mid come.passes gone.closes.passes gone.closes.adds) h
        (exits_entering past event value old first mid call.origin name h entry none there_mid (gone.closes.next ∙ come.next) between.values route going_on way
        (λ r k. grow_name old.values between.values come.grows name r there k)
        un (gone.closes.calls ∙ come.calls) exits_are (way_by off))

  -- The call waits at a gate, with the mark of what it names.
  module _ (first : List Effect) (g : Gate) (later : Sound (held_at between call g)) (quiet : (s : State) → flat_map (exit_by s) first ≡ []) (route : Route)
      (way : NameRoute between.values name route) (leads : Leads (held_at between call g) g route) (fits : FitsName (held_at between call g) name g)
      (up : (gate : Gate) (n : ℕ) → FitsName old name gate → g ≡ gates.Embargo n → gate ≡ gates.Embargo n)
      (down : (gate : Gate) (n : ℕ) → FitsName old name gate → gate ≡ gates.Embargo n → g ≡ gates.Embargo n) where
    abbrev mid : State
    mid = held_at between call g

    abbrev its_held : WaitingCall
    its_held = record { ticket = call.ticket; origin = call.origin; request = call.request; gate = g }

    none_exits : exits_in (owning event value old first mid) ≡ []
    none_exits = rw (entry, quiet mid) (no_failure old.next_ticket (given_to between.waiting.over call.origin) (given_none between call.origin come.ungiven))

    adds : AddsNone between mid
    adds = record { promises = λ p some. some; answers = λ a some. some; questions = λ q some. some; imports = λ i some. some }

    calls_are : mid.waiting.calls ≡ insert old.waiting.calls old.next_ticket its_held
    calls_are = ap (λ t. insert t call.ticket its_held) come.calls ∙ ap (λ k. insert old.waiting.calls k its_held) come.ticket

    pub held_holds : OrderHolds (owning event value old first mid ∷ past) mid
    held_holds =
        turned_holds past (owning event value old first mid) sound later
        (passes_both old between mid come.passes (same_passes between mid refl refl refl (omega arith)) adds)
        h
        (waits_entering past event value old first mid call.origin name h entry none there_between come.next its_held route calls_are none_exits way leads fits up down)

  -- The call goes by its route, and what it names has no mark and isn't open on the wire.
  module _ (first : List Effect) (mid : State) (later : Sound mid) (off : IsOff between.values name) (clear : IsClear old name) (still : IsClear between name) where
    wait_by : (g : Gate) → NameRoute between.values name (routes.Wait g) → ((n : ℕ) → g ≡ gates.Embargo n → ⊥) → (f : List Effect) (m : State) → Sound m
        → ◌≡◌ {A = List Effect × State} (f, m) ([], held_at between call g) → OrderHolds (owning event value old f m ∷ past) m
    wait_by g way never f m then is =
        rw
        (ap (λ d. d.0) is, ap (λ d. d.1) is)
        (held_holds [] g (rw (ap (λ d. d.1) is) at then) (λ s. refl) (routes.Wait g) way
        (leads_there (held_at between call g) g (gave between.waiting.over g) (ap (λ o. gave o g) come.over ∙ none_gave g) (stands_there (held_at between call g) g never))
        (clear_fits (held_at between call g) name g (clear_held g name still) (off_held g name off) never)
        (λ gate n fits at. absurd (never n at))
        (λ gate n fits at. absurd (clear_apart old name n none clear (subst (λ x. FitsName old name x) at fits))))
      where
        clear_held : (g : Gate) (name : Name) → IsClear between name → IsClear (held_at between call g) name
        clear_held g (answer_path a path) k = tt
        clear_held g (capability caps.None) k = k
        clear_held g (capability (caps.Object x)) k = k
        clear_held g (capability (caps.Promise p)) k = k
        clear_held g (capability (caps.Import i)) k = k
        clear_held g (capability (caps.Pipelined q path)) k = k
        clear_held g (capability (caps.Broken x)) k = k

        off_held : (g : Gate) (name : Name) → IsOff between.values name → IsOff (held_at between call g).values name
        off_held g name k = k

    pub routed_holds : (route : Route) → NameRoute between.values name route → ((g : Gate) → route ≡ routes.Wait g → (n : ℕ) → g ≡ gates.Embargo n → ⊥)
        → Go between call route (Ok (first, mid)) → OrderHolds (owning event value old first mid ∷ past) mid
    routed_holds (routes.Deliver k) way never goes = exits_hold first mid later (routes.Deliver k) goes tt way (inr off) (clear_unmarked old name clear)
    routed_holds (routes.Import i) way never goes = exits_hold first mid later (routes.Import i) goes tt way (inr off) (clear_unmarked old name clear)
    routed_holds (routes.Pipe q path) way never goes = exits_hold first mid later (routes.Pipe q path) goes tt way (inr off) (clear_unmarked old name clear)
    routed_holds (routes.Wait g) way never goes = wait_by g way (never g refl) first mid later (ok_in _ _ goes)
    routed_holds (routes.Fail x) way never goes = exits_hold first mid later (routes.Fail x) goes tt way (inr off) (clear_unmarked old name clear)
