-- A call that enters: it exits at once, or waits at a gate.
use Rattle.std.specs.Prelude.{◌≡◌, ◌⊎◌, refl, ℕ, ◌+◌, ◌<◌, ◌==◌, ◌||◌, Bool, true, false, List, [], ◌∷◌, Option, Some, None, is_some, IfSome, IsSome}
use Rattle.std.specs.FinMap.{get, insert}
use Rattle.std.proofs.Common.{arith, inl, inr, ap, subst, sym, ◌∙◌, true≢false}
use Rattle.cp_refs.specs.declared.call.WaitingCall.{WaitingCall}
use Rattle.cp_refs.specs.declared.call.Origin.{Origin}
use Rattle.cp_refs.specs.declared.route.Gate.{Gate}
use Rattle.cp_refs.specs.declared.route.Gate.TheVariants as gates
use Rattle.cp_refs.specs.declared.route.Route.{Route}
use Rattle.cp_refs.specs.Values.{ValueMaps}
use Rattle.cp_vat_machine.specs.State.{State, none_over, gave}
use Rattle.cp_vat_machine.specs.Calling.{reference_of, mark_of}
use Rattle.cp_vat_machine.specs.Trace.{Turn, own_part}
use Rattle.cp_vat_machine.specs.Ports.{Name, answer_path, capability, Entry, entry_of_event, entry_of, Port, calls_of, port_of, NameRoute, PortRoute, absences, is_there}
use Rattle.cp_vat_machine.specs.Exits.{exits_in}
use Rattle.cp_vat_machine.specs.InOrder.{has_left}
use Rattle.cp_vat_machine.specs.declared.effect.Effect.{Effect}
use Rattle.cp_vat_machine.specs.declared.event.Event.{Event}
use Rattle.cp_vat_machine.specs.declared.event.Value.{Value}
use Rattle.cp_vat_laws.specs.OrderKept.{Stands, Leads, IsFree, FitsMark, FitsName, is_off_wire, WaitsFor, AreOfOne, OrderHolds}
use Rattle.cp_vat_machine.proofs.Basics.{some_out, none_out, is_equal, is_itself, put_at}
use Rattle.cp_vat_laws.proofs.order.Basics.{there_is, are_equal}
use Rattle.cp_vat_laws.proofs.order.Routes.{one_name}
use Rattle.cp_vat_laws.proofs.order.Waits.{port_before, alive_route}
use Rattle.cp_vat_laws.proofs.order.Same.{IsGoing}
use Rattle.cp_vat_laws.proofs.order.Rest.{none_gave}
use Rattle.cp_vat_laws.proofs.order.Turn.{IsHeldNow, ExitsNow, Turned}

-- the turn of an event's own part
abbrev pub owning : Event → Value → State → List Effect → State → Turn
owning event value old first mid = record { cause = own_part event value; before = old; effects = first; after = mid }

-- a free embargo is over
pub free_over : (s : State) (n : ℕ) → s.waiting.over ≡ none_over → IsFree s (gates.Embargo n) → ⊥
free_over s n none free =
    let over : get s.waiting.over.embargoes n ≡ None = ap (λ o. gave o (gates.Embargo n)) none ∙ none_gave (gates.Embargo n) in
    true≢false (sym free ∙ ap is_some over)

-- what the call names isn't marked with an embargo, or is open on the wire
abbrev pub IsUnmarked : State → Name → Type 0
IsUnmarked old (answer_path a path) = Unit {0}
IsUnmarked old (capability c) = (m : ℕ) → mark_of old c ≡ Some (Some m) → is_off_wire (reference_of old.values c) ≡ true → ⊥

module _ (past : List Turn) (event : Event) (value : Value) (old : State) (first : List Effect) (mid : State) (origin : Origin) (name : Name) (h : OrderHolds past old)
    (entry : entry_of_event old event value ≡ Some (record { ticket = old.next_ticket; origin = origin; name = name })) (none : old.waiting.over ≡ none_over)
    (there : is_there mid.values name ≡ true) (more : mid.next_ticket ≡ old.next_ticket + 1) where
  abbrev turn : Turn
  turn = owning event value old first mid

  abbrev its_port : Port
  its_port = record { name = name; life = absences name past }

  port_is : port_of (calls_of (turn ∷ past)) old.next_ticket ≡ Some its_port
  port_is = rw (entry, is_itself old.next_ticket) refl

  lasts_now : absences name (turn ∷ past) ≡ absences name past
  lasts_now = rw (there) refl

  port_route : (route : Route) → NameRoute mid.values name route → PortRoute (turn ∷ past) its_port route
  port_route route goes = rw (are_equal (absences name (turn ∷ past)) (absences name past) lasts_now) goes

  -- A call of the same port that waits: its gate fits the name, and stands where that leads.
  pub record IsFellow (gate : Gate) : Type 0 where
    pub fits : FitsName old name gate
    pub route : Route
    pub goes : NameRoute old.values name route
    pub stands : Stands old gate route

  fellow : (u : ℕ) (c : WaitingCall) → get old.waiting.calls u ≡ Some c → AreOfOne (turn ∷ past) old.next_ticket u → IsFellow c.gate
  fellow u c is same =
      let w = there_is (λ x. WaitsFor past old u x.gate) (get old.waiting.calls u) c is (h.waits u) in
      let low = h.below u w.port w.called in
      let mine : same.0 ≡ its_port = some_out (sym same.1 ∙ port_is) in
      let its : w.port ≡ its_port = some_out (sym w.called ∙ sym (port_before past turn u low) ∙ same.2) ∙ mine in
      let alive : absences w.port.name past ≡ w.port.life = rw (its) refl in
      let over : gave old.waiting.over c.gate ≡ None = ap (λ o. gave o c.gate) none ∙ none_gave c.gate in
      record {
        fits = subst (λ p. FitsName old p.name c.gate) its (w.fits alive).1;
        route = w.route;
        goes = subst (λ p. NameRoute old.values p.name w.route) its (alive_route past old w.port w.route h.after alive w.goes);
        stands = rw (over) at w.leads;
      }

  low_of : (u : ℕ) (c : WaitingCall) → get old.waiting.calls u ≡ Some c → u < old.next_ticket
  low_of u c is =
      let w = there_is (λ x. WaitsFor past old u x.gate) (get old.waiting.calls u) c is (h.waits u) in
      h.below u w.port w.called

  mark_by : (mark : Option (Option ℕ)) (n : ℕ) → FitsMark old mark (gates.Embargo n) → (m : ℕ) × (mark ≡ Some (Some m))
  mark_by None n f = absurd (free_over old n none f)
  mark_by (Some None) n f = absurd f
  mark_by (Some (Some m)) n f = (m, refl)

  unmarked_by : (name : Name) (n : ℕ) → IsUnmarked old name → FitsName old name (gates.Embargo n) → ⊥
  unmarked_by (answer_path a path) n un f = free_over old n none f
  unmarked_by (capability c) n un f = let marked = mark_by (mark_of old c) n f.1 in un marked.0 marked.1 f.0

  -- none of its port waits where it exits
  module _ (between : ValueMaps) (route : Route) (going_on : IsGoing route) (goes : NameRoute between name route)
      (grown : (r : Route) → NameRoute old.values name r → NameRoute between name r) (un : IsUnmarked old name) where
    none_by : (g : Gate) (r : Route) → FitsName old name g → NameRoute old.values name r → Stands old g r → ⊥
    none_by (gates.Answer a path) r fits way stands = subst IsGoing (one_name between name route r goes (grown r way) ∙ stands) going_on
    none_by (gates.Promise p) r fits way stands = subst IsGoing (one_name between name route r goes (grown r way) ∙ stands) going_on
    none_by (gates.Question q path) r fits way stands = subst IsGoing (one_name between name route r goes (grown r way) ∙ stands) going_on
    none_by (gates.Embargo n) r fits way stands = unmarked_by name n un fits

    none_waits : (u : ℕ) (c : WaitingCall) → get old.waiting.calls u ≡ Some c → AreOfOne (turn ∷ past) old.next_ticket u → ⊥
    none_waits u c is same = let f = fellow u c is same in none_by c.gate f.route f.fits f.goes f.stands

    module _ (calls : mid.waiting.calls ≡ old.waiting.calls) (exits : exits_in turn ≡ record { ticket = old.next_ticket; route = route } ∷ [])
        (here : NameRoute mid.values name route) where
      gone_by : (o : Option WaitingCall) → get old.waiting.calls old.next_ticket ≡ o → o ≡ None
      gone_by None is = refl
      gone_by (Some c) is = absurd (never (low_of old.next_ticket c is))
        where
          never : old.next_ticket < old.next_ticket → ⊥
          never e = omega (arith, e)

      ahead_by : (u : ℕ) (o : Option WaitingCall) → get old.waiting.calls u ≡ o → IsSome o → AreOfOne (turn ∷ past) old.next_ticket u → old.next_ticket < u
      ahead_by u None is some same = absurd (true≢false (sym some))
      ahead_by u (Some c) is some same = absurd (none_waits u c is same)

      exit_now : ExitsNow past turn (record { ticket = old.next_ticket; route = route })
      exit_now =
          record {
            gone =
                record {
                  given = omega (arith, more);
                  gone = rw (calls) (gone_by (get old.waiting.calls old.next_ticket) refl);
                  ahead = λ u some same. ahead_by u (get old.waiting.calls u) refl (rw (calls) at some) same;
                };
            by_port = (its_port, port_is, port_route route here);
            other = λ earlier g e. absurd (never earlier.ticket g.given e);
            late = λ earlier g same. g.given;
          }
        where
          never : (t : ℕ) → t < old.next_ticket → t ≡ old.next_ticket → ⊥
          never t low e = omega (arith, low, e)

      enters_now : (o : Option Entry) → o ≡ Some (record { ticket = old.next_ticket; origin = origin; name = name })
          → IfSome o (λ e. (old.next_ticket < mid.next_ticket) × ((has_left (exits_in turn) e.ticket ≡ true) ⊎ IsSome (get mid.waiting.calls e.ticket)))
      enters_now None is = none_out is
      enters_now (Some e) is =
          (omega (arith, more), inl (rw (exits) (ap (λ b. b || false) (are_equal old.next_ticket e.ticket (sym (ap (λ x. x.ticket) (some_out is)))))))

      -- The call exits at once.
      pub exits_entering : Turned past turn
      exits_entering =
          record {
            held = λ u c is. inl (rw (calls) at is);
            leaves = λ u some. inr (rw (calls) some);
            enters = enters_now (entry_of turn) entry;
            exits = rw (exits) exit_now;
            at_rest = tt;
          }

  -- one that waits
  module _ (held : WaitingCall) (route : Route) (calls : mid.waiting.calls ≡ insert old.waiting.calls old.next_ticket held)
      (exits : exits_in turn ≡ []) (here : NameRoute mid.values name route) (leads : Leads mid held.gate route) (fits : FitsName mid name held.gate)
      (up : (gate : Gate) (n : ℕ) → FitsName old name gate → held.gate ≡ gates.Embargo n → gate ≡ gates.Embargo n)
      (down : (gate : Gate) (n : ℕ) → FitsName old name gate → gate ≡ gates.Embargo n → held.gate ≡ gates.Embargo n) where
    waits_now : WaitsFor (turn ∷ past) mid old.next_ticket held.gate
    waits_now =
        record {
          port = its_port;
          called = port_is;
          route = route;
          leads = leads;
          goes = port_route route here;
          fits = λ e. (there, fits);
        }

    held_of : (u : ℕ) (b : Bool) → (old.next_ticket == u) ≡ b → (c : WaitingCall) → get mid.waiting.calls u ≡ Some c
        → ((old.next_ticket ≡ u) × (c ≡ held)) ⊎ (get old.waiting.calls u ≡ Some c)
    held_of u true e c is = inl (is_equal old.next_ticket u e, some_out (sym is ∙ ap (λ t. get t u) calls ∙ put_at old.waiting.calls old.next_ticket u held true e))
    held_of u false e c is = inr (sym (ap (λ t. get t u) calls ∙ put_at old.waiting.calls old.next_ticket u held false e) ∙ is)

    up_by : (other : ℕ) (c : WaitingCall) (n : ℕ) → AreOfOne (turn ∷ past) old.next_ticket other → held.gate ≡ gates.Embargo n
        → ((old.next_ticket ≡ other) × (c ≡ held)) ⊎ (get old.waiting.calls other ≡ Some c) → c.gate ≡ gates.Embargo n
    up_by other c n same at (inl now) = ap (λ x. x.gate) now.1 ∙ at
    up_by other c n same at (inr was) = up c.gate n (fellow other c was same).fits at

    down_by : (other : ℕ) (c : WaitingCall) (n : ℕ) → AreOfOne (turn ∷ past) old.next_ticket other → c.gate ≡ gates.Embargo n
        → ((old.next_ticket ≡ other) × (c ≡ held)) ⊎ (get old.waiting.calls other ≡ Some c) → held.gate ≡ gates.Embargo n
    down_by other c n same at (inl now) = sym (ap (λ x. x.gate) now.1) ∙ at
    down_by other c n same at (inr was) = down c.gate n (fellow other c was same).fits at

    held_now : IsHeldNow past turn old.next_ticket held
    held_now =
        record {
          waits = waits_now;
          joins = λ other c n is same over at. up_by other c n same at (held_of other (old.next_ticket == other) refl c is);
          joined = λ other c n is same over at. down_by other c n same at (held_of other (old.next_ticket == other) refl c is);
          late = λ exit g same. g.given;
        }

    held_by : (u : ℕ) (c : WaitingCall) → ((old.next_ticket ≡ u) × (c ≡ held)) ⊎ (get old.waiting.calls u ≡ Some c) → (get old.waiting.calls u ≡ Some c) ⊎ IsHeldNow past turn u c
    held_by u c (inl now) = inr (subst (λ t. IsHeldNow past turn t c) now.0 (subst (λ x. IsHeldNow past turn old.next_ticket x) (sym now.1) held_now))
    held_by u c (inr was) = inl was

    stays_by : (u : ℕ) (b : Bool) → (old.next_ticket == u) ≡ b → IsSome (get old.waiting.calls u) → IsSome (get mid.waiting.calls u)
    stays_by u true e some = rw (calls, put_at old.waiting.calls old.next_ticket u held true e) refl
    stays_by u false e some = rw (calls, put_at old.waiting.calls old.next_ticket u held false e) some

    enters_held : (o : Option Entry) → o ≡ Some (record { ticket = old.next_ticket; origin = origin; name = name })
        → IfSome o (λ e. (old.next_ticket < mid.next_ticket) × ((has_left (exits_in turn) e.ticket ≡ true) ⊎ IsSome (get mid.waiting.calls e.ticket)))
    enters_held None is = none_out is
    enters_held (Some e) is = (
      omega (arith, more),
      inr (rw (calls, put_at old.waiting.calls old.next_ticket e.ticket held true (are_equal old.next_ticket e.ticket (sym (ap (λ x. x.ticket) (some_out is))))) refl),
    )

    -- The call waits.
    pub waits_entering : Turned past turn
    waits_entering =
        record {
          held = λ u c is. held_by u c (held_of u (old.next_ticket == u) refl c is);
          leaves = λ u some. inr (stays_by u (old.next_ticket == u) refl some);
          enters = enters_held (entry_of turn) entry;
          exits = rw (exits) tt;
          at_rest = tt;
        }
