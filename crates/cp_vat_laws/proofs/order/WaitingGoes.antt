-- A waiting call that goes: it exits, or waits on at another gate.
use Rattle.std.specs.Prelude.{◌≡◌, ◌⊎◌, refl, ℕ, ◌<◌, ◌≤◌, ◌==◌, Bool, true, false, List, [], ◌∷◌, Option, Some, None, IsSome}
use Rattle.std.specs.FinMap.{get, remove}
use Rattle.std.proofs.Common.{arith, inl, inr, ap, subst, sym, ◌∙◌, true≢false}
use Rattle.cp_refs.specs.Route.{Routes}
use Rattle.cp_refs.specs.declared.cap.Cap.{Cap}
use Rattle.cp_refs.specs.declared.call.WaitingCall.{WaitingCall}
use Rattle.cp_refs.specs.declared.route.Gate.{Gate}
use Rattle.cp_refs.specs.declared.route.Gate.TheVariants as gates
use Rattle.cp_refs.specs.declared.route.Route.{Route}
use Rattle.cp_vat_machine.specs.State.{State, gave}
use Rattle.cp_vat_machine.specs.Go.{IsNext}
use Rattle.cp_vat_machine.specs.Trace.{Turn, goes}
use Rattle.cp_vat_machine.specs.Ports.{Name, Port, calls_of, port_of, PortRoute, absences}
use Rattle.cp_vat_machine.specs.Exits.{exits_in}
use Rattle.cp_vat_machine.specs.InOrder.{has_left}
use Rattle.cp_vat_machine.specs.declared.effect.Effect.{Effect}
use Rattle.cp_vat_laws.specs.OrderKept.{LeadsBy, Leads, WaitsFor, AreOfOne, OrderHolds}
use Rattle.cp_vat_machine.proofs.Basics.{some_out, none_out, is_itself, gone_at}
use Rattle.cp_vat_laws.proofs.order.Basics.{there_is}
use Rattle.cp_vat_laws.proofs.order.Passes.{Sound, Passes}
use Rattle.cp_vat_laws.proofs.order.Routes.{one_route, one_port}
use Rattle.cp_vat_laws.proofs.order.Names.{IsOff}
use Rattle.cp_vat_laws.proofs.order.Waits.{port_stays, port_before, port_follows, off_of}
use Rattle.cp_vat_laws.proofs.order.Same.{IsGoing, going_kept}
use Rattle.cp_vat_laws.proofs.order.Turn.{ExitsNow, Turned}

-- the turn of a call that goes
abbrev pub going : State → WaitingCall → List Effect → State → Turn
going old call first mid = record { cause = goes call; before = old; effects = first; after = mid }

module _ (past : List Turn) (old : State) (call : WaitingCall) (cap : Cap) (route : Route) (first : List Effect) (mid : State) (sound : Sound old) (later : Sound mid)
    (passes : Passes old mid) (h : OrderHolds past old) (next : IsNext old call cap) (way : Routes old.values cap route) where
  abbrev turn : Turn
  turn = going old call first mid

  pub here : WaitsFor past old call.ticket call.gate
  here = there_is (λ c. WaitsFor past old call.ticket c.gate) (get old.waiting.calls call.ticket) call next.waits (h.waits call.ticket)

  pub below : call.ticket < old.next_ticket
  below = h.below call.ticket here.port here.called

  pub its_route : here.route ≡ route
  its_route =
      let leads : Routes old.values cap here.route = rw (next.ended) at here.leads in
      one_route old.values cap here.route route leads way

  -- its port's route
  pub port_goes : PortRoute past here.port route
  port_goes = rw (its_route) at here.goes

  pub alive_off : absences here.port.name past ≡ here.port.life → (Rattle.cp_vat_machine.specs.Ports.is_there old.values here.port.name ≡ true) × IsOff old.values here.port.name
  alive_off e = let f = here.fits e in (f.0, off_of past turn sound later passes h.after here.port.name call.gate f.1)

  -- the gate of a call that goes is over, so none of its port waits at an open embargo
  pub not_embargoed : (ticket : ℕ) (other : WaitingCall) (n : ℕ) → get old.waiting.calls ticket ≡ Some other → AreOfOne past call.ticket ticket → other.gate ≡ gates.Embargo n
      → get old.waiting.over.embargoes n ≡ None → ⊥
  not_embargoed ticket other n is same at none =
      let joined = h.together ticket call.ticket other call n is next.waits (same.0, same.2, same.1) at none in
      let over : gave old.waiting.over (gates.Embargo n) ≡ Some cap = rw (joined) at next.ended in
      none_out (sym none ∙ over)

  -- one that waits with it at the same port has the same route
  same_route : (ticket : ℕ) (other : WaitingCall) (is : get old.waiting.calls ticket ≡ Some other) → AreOfOne past call.ticket ticket
      → (w : WaitsFor past old ticket other.gate) → w.route ≡ route
  same_route ticket other is same w =
      let mine : same.0 ≡ here.port = some_out (sym same.1 ∙ here.called) in
      let its : w.port ≡ here.port = some_out (sym w.called ∙ same.2) ∙ mine in
      let there : PortRoute past here.port w.route = rw (its) at w.goes in
      one_port past here.port w.route route there port_goes

  module _ (going_on : IsGoing route) where
    -- so it is over too, and came later
    ahead_by : (ticket : ℕ) (other : WaitingCall) → get old.waiting.calls ticket ≡ Some other → AreOfOne past call.ticket ticket → (g : Gate) → other.gate ≡ g → (o : Option Cap)
        → gave old.waiting.over g ≡ o → LeadsBy old g o route → call.ticket ≤ ticket
    ahead_by ticket other is same (gates.Answer a path) at None none leads = absurd (subst IsGoing leads going_on)
    ahead_by ticket other is same (gates.Promise p) at None none leads = absurd (subst IsGoing leads going_on)
    ahead_by ticket other is same (gates.Question q path) at None none leads = absurd (subst IsGoing leads going_on)
    ahead_by ticket other is same (gates.Embargo n) at None none leads = absurd (not_embargoed ticket other n is same at none)
    ahead_by ticket other is same g at (Some given) over leads = next.lowest ticket other given is (rw (at) over)

    ahead : (ticket : ℕ) (other : WaitingCall) → get old.waiting.calls ticket ≡ Some other → (call.ticket == ticket) ≡ false → AreOfOne past call.ticket ticket → call.ticket < ticket
    ahead ticket other is differ same =
        let w = there_is (λ c. WaitsFor past old ticket c.gate) (get old.waiting.calls ticket) other is (h.waits ticket) in
        let leads : Leads old other.gate route = rw (same_route ticket other is same w) at w.leads in
        strictly (ahead_by ticket other is same other.gate refl (gave old.waiting.over other.gate) refl leads) differ
      where
        strictly : call.ticket ≤ ticket → (call.ticket == ticket) ≡ false → call.ticket < ticket
        strictly low e = grind (arith, Rattle.std.proofs.lemmas.Bool.Decides.nat_tests)

    module _ (calls : mid.waiting.calls ≡ remove old.waiting.calls call.ticket) (exits : exits_in turn ≡ record { ticket = call.ticket; route = route } ∷ []) where
      left_of : (u : ℕ) (b : Bool) → (call.ticket == u) ≡ b → (c : WaitingCall) → get mid.waiting.calls u ≡ Some c → (b ≡ false) × (get old.waiting.calls u ≡ Some c)
      left_of u true e c is = none_out (sym (gone_at old.waiting.calls call.ticket u true e) ∙ ap (λ t. get t u) (sym calls) ∙ is)
      left_of u false e c is = (refl, sym (gone_at old.waiting.calls call.ticket u false e) ∙ ap (λ t. get t u) (sym calls) ∙ is)

      stays_by : (u : ℕ) (b : Bool) → (call.ticket == u) ≡ b → IsSome (get old.waiting.calls u) → (has_left (exits_in turn) u ≡ true) ⊎ IsSome (get mid.waiting.calls u)
      stays_by u true e some = inl (rw (exits, e) refl)
      stays_by u false e some = inr (rw (calls, gone_at old.waiting.calls call.ticket u false e) some)

      one_before : (u : ℕ) (c : WaitingCall) → get old.waiting.calls u ≡ Some c → AreOfOne (turn ∷ past) call.ticket u → AreOfOne past call.ticket u
      one_before u c is same =
          let w = there_is (λ c. WaitsFor past old u c.gate) (get old.waiting.calls u) c is (h.waits u) in (
            same.0,
            sym (port_before past turn call.ticket below) ∙ same.1,
            sym (port_before past turn u (h.below u w.port w.called)) ∙ same.2,
          )

      ahead_of : (u : ℕ) (o : Option WaitingCall) → get mid.waiting.calls u ≡ o → IsSome o → AreOfOne (turn ∷ past) call.ticket u → call.ticket < u
      ahead_of u None is some same = absurd (true≢false (sym some))
      ahead_of u (Some c) is some same =
          let was = left_of u (call.ticket == u) refl c is in
          ahead u c was.1 was.0 (one_before u c was.1 same)

      exit_now : ExitsNow past turn (record { ticket = call.ticket; route = route })
      exit_now =
          record {
            gone =
                record {
                  given = omega (arith, below, passes.next);
                  gone = rw (calls) (gone_at old.waiting.calls call.ticket call.ticket true (is_itself call.ticket));
                  ahead = λ u some same. ahead_of u (get mid.waiting.calls u) refl some same;
                };
            by_port = (
              here.port,
              port_stays past turn call.ticket here.port below here.called,
              port_follows past turn sound later passes h.after here.port route route (h.lives call.ticket here.port here.called) alive_off port_goes (going_kept mid route going_on),
            );
            other = λ earlier g e. none_out (sym g.gone ∙ ap (λ u. get old.waiting.calls u) e ∙ next.waits);
            late = λ earlier g same. g.ahead call.ticket (rw (next.waits) refl) (same.0, sym (port_before past turn earlier.ticket g.given) ∙ same.1, sym (port_before past turn call.ticket below) ∙ same.2);
          }

      -- The call exits.
      pub exits_turned : Turned past turn
      exits_turned =
          record {
            held = λ u c is. inl (left_of u (call.ticket == u) refl c is).1;
            leaves = λ u some. stays_by u (call.ticket == u) refl some;
            enters = tt;
            exits = rw (exits) exit_now;
            at_rest = tt;
          }
