-- Calls wait on rightly after one turn of waiting calls.
use Rattle.std.specs.Prelude.{◌≡◌, refl, ℕ, ◌==◌, Bool, true, false, List, Option, Some, None, IfSome, Ok}
use Rattle.std.specs.FinMap.{get, remove}
use Rattle.std.proofs.Common.{ap, sym, ◌∙◌}
use Rattle.cp_tables.specs.Table.{Table}
use Rattle.cp_messages.specs.declared.descriptor.Descriptor.{Descriptor}
use Rattle.cp_messages.specs.declared.target.Target.{Target}
use Rattle.cp_messages.specs.declared.target.Target.TheVariants as targets
use Rattle.cp_refs.specs.Route.{way, Routes}
use Rattle.cp_refs.specs.declared.cap.Cap.{Cap}
use Rattle.cp_refs.specs.declared.call.WaitingCall.{WaitingCall}
use Rattle.cp_refs.specs.declared.call.Origin.{Origin}
use Rattle.cp_refs.specs.declared.call.Origin.TheVariants as origins
use Rattle.cp_refs.specs.declared.route.Gate.{Gate}
use Rattle.cp_refs.specs.declared.route.Gate.TheVariants as gates
use Rattle.cp_refs.specs.declared.route.Route.{Route}
use Rattle.cp_refs.specs.declared.route.Route.TheVariants as routes
use Rattle.cp_vat_machine.specs.State.{State, gave}
use Rattle.cp_vat_machine.specs.Then.{Done}
use Rattle.cp_vat_machine.specs.Capacity.{Fresh}
use Rattle.cp_vat_machine.specs.Writing.{WritesDescriptors, promised}
use Rattle.cp_vat_machine.specs.Go.{PendingCall, held_at, delivered, GoOut, Go, IsNext, without_call, underway}
use Rattle.cp_vat_machine.specs.Waits.{Port, on, on_answer, LeadsBy, PortRoutes, WaitsBy, WaitsAt, WaitRightly}
use Rattle.cp_vat_machine.specs.declared.effect.Effect.{Effect}
use Rattle.cp_vat_machine.proofs.Basics.{some_out, none_out, is_equal, ok_in, then_out, put_at, gone_at}
use Rattle.cp_vat_pair_laws.specs.Turns.{NoneLeadsToOver, MayGo, TurnKeeps}
use Rattle.cp_vat_pair_laws.proofs.counts.rules.Say.{said_all}
use Rattle.cp_vat_pair_laws.proofs.waiting.Routes.{open_gate, no_open, none_leads}
use Rattle.cp_vat_pair_laws.proofs.waiting.Fail.{given_keeps, left_ungiven}
use Rattle.cp_vat_laws.proofs.order.Routes.{one_route}

-- what waiting rightly looks at: values, gates that are over, embargoes and the calls
pub record SameBut (old mid : State) : Type 0 where
  pub values : mid.values ≡ old.values
  pub over : mid.waiting.over ≡ old.waiting.over
  pub embargoes : mid.marks.embargoes ≡ old.marks.embargoes

leads_by : (old mid : State) (gate : Gate) (o : Option Cap) (route : Route) → mid.values ≡ old.values → LeadsBy old gate o route → LeadsBy mid gate o route
leads_by old mid gate None route same h = h
leads_by old mid gate (Some cap) route same h = rw (same) h

port_by : (old mid : State) (port : Port) (route : Route) → SameBut old mid → PortRoutes old port route → PortRoutes mid port route
port_by old mid (on cap) route same h = rw (same.values) h
port_by old mid (on_answer a path) route same h =
    rw (same.over) (leads_by old mid (gates.Answer a path) (gave old.waiting.over (gates.Answer a path)) route same.values h)

waits_of : (old mid : State) (port : Port) (gate : Gate) (o : Option Cap) → SameBut old mid → WaitsBy old port gate o → WaitsBy mid port gate o
waits_of old mid port (gates.Answer a path) o same h = (h.0, leads_by old mid (gates.Answer a path) o h.0 same.values h.1, port_by old mid port h.0 same h.2)
waits_of old mid port (gates.Promise p) o same h = (h.0, leads_by old mid (gates.Promise p) o h.0 same.values h.1, port_by old mid port h.0 same h.2)
waits_of old mid port (gates.Question q path) o same h = (h.0, leads_by old mid (gates.Question q path) o h.0 same.values h.1, port_by old mid port h.0 same h.2)
waits_of old mid port (gates.Embargo n) (Some cap) same h = (h.0, leads_by old mid (gates.Embargo n) (Some cap) h.0 same.values h.1, port_by old mid port h.0 same h.2)
waits_of old mid port (gates.Embargo n) None same h = (h.0, rw (same.embargoes) h.1, h.2)

same_gave : (old mid : State) (gate : Gate) → SameBut old mid → gave mid.waiting.over gate ≡ gave old.waiting.over gate
same_gave old mid gate same = ap (λ over. gave over gate) same.over

waits_at : (old mid : State) (port : Option Port) (gate : Gate) → SameBut old mid → WaitsAt old port gate → WaitsAt mid port gate
waits_at old mid None gate same h = h
waits_at old mid (Some port) gate same h =
    rw (same_gave old mid gate same) (waits_of old mid port gate (gave old.waiting.over gate) same h)

-- the turn of a call that stays at another gate
ended_routes : (s : State) (port : Port) (gate : Gate) (cap : Cap) → WaitsBy s port gate (Some cap) → (route : Route) × Routes s.values cap route × PortRoutes s port route
ended_routes s port (gates.Answer a path) cap h = h
ended_routes s port (gates.Promise p) cap h = h
ended_routes s port (gates.Question q path) cap h = h
ended_routes s port (gates.Embargo n) cap h = h

stays_by : (mid : State) (port : Port) (gate : Gate) → ((n : ℕ) → gate ≡ gates.Embargo n → ⊥) → PortRoutes mid port (routes.Wait gate) → WaitsBy mid port gate None
stays_by mid port (gates.Answer a path) never h = (routes.Wait (gates.Answer a path), refl, h)
stays_by mid port (gates.Promise p) never h = (routes.Wait (gates.Promise p), refl, h)
stays_by mid port (gates.Question q path) never h = (routes.Wait (gates.Question q path), refl, h)
stays_by mid port (gates.Embargo n) never h = absurd (never n refl)

stays_at : (old mid : State) (port : Option Port) (from to : Gate) (cap : Cap) → SameBut old mid → WaitsAt old port from → gave old.waiting.over from ≡ Some cap
    → Routes old.values cap (routes.Wait to) → gave old.waiting.over to ≡ None → WaitsAt mid port to
stays_at old mid None from to c same h given way none = h
stays_at old mid (Some port) from to c same h given way none =
    let routes_now = ended_routes old port from c (rw (← given) h) in
    let is : routes_now.0 ≡ routes.Wait to = one_route old.values c routes_now.0 (routes.Wait to) routes_now.1 way in
    let here : PortRoutes old port (routes.Wait to) = rw (← is) routes_now.2 in
    rw
    (same_gave old mid to same, none)
    (stays_by mid port to (λ n e. open_gate old.values c (gates.Embargo n) (way.0, way.1 ∙ ap (λ g. Some (routes.Wait g)) e)) (port_by old mid port (routes.Wait to) same here))

-- what a turn leaves of the calls
gone_calls : (old mid : State) (ports : Table Port) (ticket u : ℕ) (b : Bool) → (ticket == u) ≡ b → SameBut old mid → mid.waiting.calls ≡ remove old.waiting.calls ticket
    → WaitRightly old ports → IfSome (get mid.waiting.calls u) (λ call. WaitsAt mid (get ports u) call.gate)
gone_calls old mid ports ticket u true t same calls h = rw (calls, gone_at old.waiting.calls ticket u true t) tt
gone_calls old mid ports ticket u false t same calls h =
    rw (calls, gone_at old.waiting.calls ticket u false t) (each (get old.waiting.calls u) (h u))
  where
    each : (o : Option WaitingCall) → IfSome o (λ call. WaitsAt old (get ports u) call.gate) → IfSome o (λ call. WaitsAt mid (get ports u) call.gate)
    each None k = tt
    each (Some call) k = waits_at old mid (get ports u) call.gate same k

pub out_same : (s : State) (call : PendingCall) (target : Target) (origin : Origin) (done : Done) → GoOut s call target origin (Ok done)
    → SameBut s done.1 × (done.1.waiting.calls ≡ s.waiting.calls)
out_same s call target (origins.Answer a) done goes =
    let first = then_out {A = ℕ} {B = Done} (Fresh s.entries.questions) _ done goes in
    let parts = then_out {A = List Descriptor × State} {B = Done} (WritesDescriptors s call.request.caps) _ done first.2 in
    let said = said_all call.request.caps s parts.0 parts.1 in
    rw
    (ok_in _ _ parts.2) (
      record { values = ap (λ x. x.values) said.only; over = ap (λ x. x.waiting.over) said.only; embargoes = ap (λ x. x.marks.embargoes) said.only },
      ap (λ x. x.waiting.calls) said.only,
    )
out_same s call target (origins.Own q) done goes =
    let parts = then_out {A = List Descriptor × State} {B = Done} (WritesDescriptors s call.request.caps) _ done goes.2 in
    let said = said_all call.request.caps s parts.0 parts.1 in
    rw
    (ok_in _ _ parts.2) (
      record { values = ap (λ x. x.values) said.only; over = ap (λ x. x.waiting.over) said.only; embargoes = ap (λ x. x.marks.embargoes) said.only },
      ap (λ x. x.waiting.calls) said.only,
    )

delivered_same : (s : State) (origin : Origin) → SameBut s (delivered s origin) × ((delivered s origin).waiting.calls ≡ s.waiting.calls)
delivered_same s (origins.Answer a) = (record { values = refl; over = refl; embargoes = refl }, refl)
delivered_same s (origins.Own q) = (record { values = refl; over = refl; embargoes = refl }, refl)

-- the call left, and nothing changed that waiting calls look at
abbrev Left : State → WaitingCall → State → Type 0
Left old call mid = SameBut old mid × (mid.waiting.calls ≡ remove old.waiting.calls call.ticket)

left_by : (old mid : State) (call : WaitingCall) → SameBut (without_call old call) mid × (mid.waiting.calls ≡ (without_call old call).waiting.calls) → Left old call mid
left_by old mid call same = (record { values = same.0.values; over = same.0.over; embargoes = same.0.embargoes }, same.1)

leaving : (old mid : State) (ports : Table Port) (call : WaitingCall) → Left old call mid → WaitRightly old ports → WaitRightly mid ports
leaving old mid ports call left h u = gone_calls old mid ports call.ticket u (call.ticket == u) refl left.0 left.1 h

there_waits : (s : State) (port : Option Port) (call : WaitingCall) (o : Option WaitingCall) → o ≡ Some call → IfSome o (λ other. WaitsAt s port other.gate) → WaitsAt s port call.gate
there_waits s port call None e h = none_out e
there_waits s port call (Some other) e h = rw (ap (λ held. held.gate) (some_out (sym e))) h

at_ticket : (old : State) (ports : Table Port) (call : WaitingCall) → get old.waiting.calls call.ticket ≡ Some call → WaitRightly old ports → WaitsAt old (get ports call.ticket) call.gate
at_ticket old ports call is h = there_waits old (get ports call.ticket) call (get old.waiting.calls call.ticket) is (h call.ticket)

held_again : (old : State) (ports : Table Port) (call : WaitingCall) (to : Gate) (u : ℕ) (b : Bool) → (call.ticket == u) ≡ b
    → WaitsAt (held_at (without_call old call) (underway call) to) (get ports call.ticket) to → WaitRightly old ports
    → IfSome (get (held_at (without_call old call) (underway call) to).waiting.calls u) (λ c. WaitsAt (held_at (without_call old call) (underway call) to) (get ports u) c.gate)
held_again old ports call to u true t here h =
    rw (put_at (remove old.waiting.calls call.ticket) call.ticket u _ true t, ← is_equal call.ticket u t) here
held_again old ports call to u false t here h =
    rw
    (put_at (remove old.waiting.calls call.ticket) call.ticket u _ false t, gone_at old.waiting.calls call.ticket u false t)
    (each (get old.waiting.calls u) (h u))
  where
    each : (o : Option WaitingCall) → IfSome o (λ c. WaitsAt old (get ports u) c.gate)
        → IfSome o (λ c. WaitsAt (held_at (without_call old call) (underway call) to) (get ports u) c.gate)
    each None k = tt
    each (Some c) k =
        waits_at old (held_at (without_call old call) (underway call) to) (get ports u) c.gate (record { values = refl; over = refl; embargoes = refl }) k

turn_rightly : (old mid : State) (ports : Table Port) (call : WaitingCall) (c : Cap) (route : Route) (first : List Effect) → WaitRightly old ports → NoneLeadsToOver old
    → IsNext old call c → Routes old.values c route → MayGo old ports call.origin route → Go (without_call old call) (underway call) route (Ok (first, mid))
    → WaitRightly mid ports
turn_rightly old mid ports call c (routes.Deliver k) first h over next way may goes =
    let is : mid ≡ delivered (without_call old call) call.origin = ap (λ d. d.1) (ok_in _ _ goes) in
    rw (is) (leaving old (delivered (without_call old call) call.origin) ports call (left_by old _ call (delivered_same (without_call old call) call.origin)) h)
turn_rightly old mid ports call c (routes.Import i) first h over next way may goes =
    leaving old mid ports call (left_by old mid call (out_same (without_call old call) (underway call) (targets.ImportedCap i) call.origin (first, mid) goes)) h
turn_rightly old mid ports call c (routes.Pipe q path) first h over next way may goes =
    leaving old mid ports call (left_by old mid call (out_same (without_call old call) (underway call) (targets.PromisedAnswer (promised q path)) call.origin (first, mid) goes)) h
turn_rightly old mid ports call c (routes.Wait to) first h over next way may goes =
    let is : mid ≡ held_at (without_call old call) (underway call) to = ap (λ d. d.1) (ok_in _ _ goes) in
    rw
    (is)
    (λ u.
    held_again old ports call to u (call.ticket == u) refl
    (stays_at old (held_at (without_call old call) (underway call) to) (get ports call.ticket) call.gate to c (record { values = refl; over = refl; embargoes = refl })
    (at_ticket old ports call next.waits h) next.ended way (over c to way))
    h)
turn_rightly old mid ports call c (routes.Fail x) first h over next way may goes =
    let left : WaitRightly (without_call old call) ports = leaving old (without_call old call) ports call (record { values = refl; over = refl; embargoes = refl }, refl) h in
    (given_keeps (without_call old call) ports call.origin x (first, mid) goes (left_ungiven old ports call call.origin may) (no_open old over)).0 left

over_by : (old mid : State) → SameBut old mid → NoneLeadsToOver old → NoneLeadsToOver mid
over_by old mid same over c gate way = same_gave old mid gate same ∙ over c gate (rw (← same.values) way)

turn_over : (old mid : State) (ports : Table Port) (call : WaitingCall) (c : Cap) (route : Route) (first : List Effect) → NoneLeadsToOver old → MayGo old ports call.origin route
    → Go (without_call old call) (underway call) route (Ok (first, mid)) → NoneLeadsToOver mid
turn_over old mid ports call c (routes.Deliver k) first over may goes =
    let is : mid ≡ delivered (without_call old call) call.origin = ap (λ d. d.1) (ok_in _ _ goes) in
    rw (is) (over_by old _ (left_by old _ call (delivered_same (without_call old call) call.origin)).0 over)
turn_over old mid ports call c (routes.Import i) first over may goes =
    over_by old mid (left_by old mid call (out_same (without_call old call) (underway call) (targets.ImportedCap i) call.origin (first, mid) goes)).0 over
turn_over old mid ports call c (routes.Pipe q path) first over may goes =
    over_by old mid (left_by old mid call (out_same (without_call old call) (underway call) (targets.PromisedAnswer (promised q path)) call.origin (first, mid) goes)).0 over
turn_over old mid ports call c (routes.Wait to) first over may goes =
    let is : mid ≡ held_at (without_call old call) (underway call) to = ap (λ d. d.1) (ok_in _ _ goes) in
    rw (is) (over_by old (held_at (without_call old call) (underway call) to) (record { values = refl; over = refl; embargoes = refl }) over)
turn_over old mid ports call c (routes.Fail x) first over may goes =
    none_leads mid (given_keeps (without_call old call) ports call.origin x (first, mid) goes (left_ungiven old ports call call.origin may) (no_open old over)).1

pub turn_keeps : TurnKeeps
turn_keeps = record { rightly = turn_rightly; over = turn_over }
