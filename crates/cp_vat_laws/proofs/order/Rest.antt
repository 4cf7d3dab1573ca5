-- The vat rests: gates that are over are forgotten.
use Rattle.std.specs.Prelude.{◌≡◌, ◌⊎◌, refl, ℕ, ◌≤◌, ◌==◌, Bool, true, false, List, [], ◌∷◌, Option, Some, None, is_some, IfSome, IsSome}
use Rattle.std.specs.List.{AllByRecursion}
use Rattle.std.specs.Ordering.{nat_cmp}
use Rattle.std.specs.FinMap.{get, get-empty}
use Rattle.std.proofs.Common.{inl, inr, ap, subst, sym, ◌∙◌, true≢false}
use Rattle.std.proofs.lemmas.List.{append-nil}
use Rattle.cp_refs.specs.declared.cap.Cap.{Cap}
use Rattle.cp_refs.specs.declared.call.WaitingCall.{WaitingCall}
use Rattle.cp_refs.specs.declared.outcome.Outcome.{Outcome}
use Rattle.cp_refs.specs.declared.route.Gate.{Gate}
use Rattle.cp_refs.specs.declared.route.Gate.TheVariants as gates
use Rattle.cp_refs.specs.declared.route.Route.{Route}
use Rattle.cp_refs.specs.declared.route.Route.TheVariants as routes
use Rattle.cp_vat_machine.specs.State.{State, gave, none_over, with_over}
use Rattle.cp_vat_machine.specs.Go.{NoneOver}
use Rattle.cp_vat_machine.specs.Calling.{mark_of}
use Rattle.cp_vat_machine.specs.Trace.{Turn, rests}
use Rattle.cp_vat_machine.specs.Ports.{Name, answer_path, capability, Port, Called, calls_of, port_of, LifeRoute, PortRoute, KeptRoute, EndedRoute, absences}
use Rattle.cp_vat_machine.specs.Exits.{Exit, exits_of}
use Rattle.cp_vat_machine.specs.InOrder.{IsEmbargoed, has_left, LeftOrWaits}
use Rattle.cp_vat_laws.specs.OrderKept.{Stands, Leads, IsFree, FitsMark, FitsName, WaitsFor, HasGone, LeftOrHeld, OrderHolds}
use Rattle.cp_vat_machine.proofs.Basics.{some_out, none_out, is_equal}
use Rattle.cp_vat_laws.proofs.order.Basics.{there_is}
use Rattle.cp_vat_laws.proofs.order.Waits.{lasts, lives_on, alive_route}

pub none_gave : (g : Gate) → gave none_over g ≡ None
none_gave (gates.Answer a path) = rw (get-empty {X = Outcome} nat_cmp a) refl
none_gave (gates.Promise p) = get-empty {X = Cap} nat_cmp p
none_gave (gates.Question q path) = rw (get-empty {X = Outcome} nat_cmp q) refl
none_gave (gates.Embargo n) = get-empty {X = Cap} nat_cmp n

-- where nothing is over, a route is kept as it is
ended_none : (s : State) (g : Gate) (o : Option Cap) → o ≡ None → EndedRoute s.values g o (routes.Wait g)
ended_none s g None e = refl
ended_none s g (Some c) e = none_out (sym e)

pub kept_none : (s : State) (r : Route) → s.waiting.over ≡ none_over → KeptRoute s r r
kept_none s (routes.Deliver k) none = refl
kept_none s (routes.Import i) none = refl
kept_none s (routes.Pipe q path) none = refl
kept_none s (routes.Wait g) none = ended_none s g (gave s.waiting.over g) (ap (λ o. gave o g) none ∙ none_gave g)
kept_none s (routes.Fail x) none = refl

-- the turn in which a vat rests
abbrev pub resting : State → Turn
resting s = record { cause = rests; before = s; effects = []; after = with_over s none_over }

module _ (past : List Turn) (s : State) (h : OrderHolds past s) (none : NoneOver s) where
  abbrev last : State
  last = with_over s none_over

  abbrev turn : Turn
  turn = resting s

  life_by : (port : Port) (r : Route) → port.life ≤ absences port.name past → PortRoute past port r → (b : Bool) → (absences port.name (turn ∷ past) == port.life) ≡ b
      → LifeRoute b turn port.name (PortRoute past port) r
  life_by port r low went true e =
      alive_route past s port r h.after (lasts past turn port.name port.life low (is_equal (absences port.name (turn ∷ past)) port.life e)).0 went
  life_by port r low went false e = (r, went, kept_none last r refl)

  port_rests : (port : Port) (r : Route) → port.life ≤ absences port.name past → PortRoute past port r → PortRoute (turn ∷ past) port r
  port_rests port r low went = life_by port r low went (absences port.name (turn ∷ past) == port.life) refl

  -- a gate that isn't over stands where it did
  stands_on : (g : Gate) (r : Route) → Stands s g r → Stands last g r
  stands_on (gates.Answer a path) r e = e
  stands_on (gates.Promise p) r e = e
  stands_on (gates.Question q path) r e = e
  stands_on (gates.Embargo n) r e = e

  leads_on : (g : Gate) (r : Route) → gave s.waiting.over g ≡ None → Leads s g r → Leads last g r
  leads_on g r standing leads = rw (none_gave g) (stands_on g r (rw (standing) at leads))

  free_on : (g : Gate) → gave s.waiting.over g ≡ None → IsFree s g → IsFree last g
  free_on (gates.Answer a path) standing f = tt
  free_on (gates.Promise p) standing f = tt
  free_on (gates.Question q path) standing f = tt
  free_on (gates.Embargo n) standing f = absurd (true≢false (sym f ∙ ap is_some standing))

  mark_on : (mark : Option (Option ℕ)) (g : Gate) → gave s.waiting.over g ≡ None → FitsMark s mark g → FitsMark last mark g
  mark_on None g standing f = free_on g standing f
  mark_on (Some None) g standing f = f
  mark_on (Some (Some n)) g standing f = (f.0, get-empty {X = Cap} nat_cmp n)

  fits_on : (name : Name) (g : Gate) → gave s.waiting.over g ≡ None → FitsName s name g → FitsName last name g
  fits_on (answer_path a path) g standing f = free_on g standing f
  fits_on (capability c) g standing f = (f.0, mark_on (mark_of s c) g standing f.1)

  waits_rest : (ticket : ℕ) (g : Gate) → gave s.waiting.over g ≡ None → WaitsFor past s ticket g → WaitsFor (turn ∷ past) last ticket g
  waits_rest ticket g standing w =
      let low = h.lives ticket w.port w.called in
      record {
        port = w.port;
        called = w.called;
        route = w.route;
        leads = leads_on g w.route standing w.leads;
        goes = port_rests w.port w.route low w.goes;
        fits =
            λ e.
            let still = lasts past turn w.port.name w.port.life low e in
            (still.1, fits_on w.port.name g standing (w.fits still.0).1);
      }

  standing_of : (ticket : ℕ) (call : WaitingCall) → get s.waiting.calls ticket ≡ Some call → gave s.waiting.over call.gate ≡ None
  standing_of ticket call is = there_is (λ c. gave s.waiting.over c.gate ≡ None) (get s.waiting.calls ticket) call is (none ticket)

  waits_by : (ticket : ℕ) (o : Option WaitingCall) → get s.waiting.calls ticket ≡ o → IfSome o (λ call. WaitsFor past s ticket call.gate)
      → IfSome o (λ call. WaitsFor (turn ∷ past) last ticket call.gate)
  waits_by ticket None is w = tt
  waits_by ticket (Some call) is w = waits_rest ticket call.gate (standing_of ticket call is) w

  waits_now : (ticket : ℕ) → IfSome (get s.waiting.calls ticket) (λ call. WaitsFor (turn ∷ past) last ticket call.gate)
  waits_now ticket = waits_by ticket (get s.waiting.calls ticket) refl (h.waits ticket)

  -- no call is kept
  module _ (call : Called) where
    rests_by : (held : WaitingCall) → port_of (calls_of past) call.ticket ≡ Some call.port → get s.waiting.calls call.ticket ≡ Some held → WaitsFor past s call.ticket held.gate
        → gave s.waiting.over held.gate ≡ None
        → IsEmbargoed last call.ticket ⊎ ((gate : Gate) × PortRoute (turn ∷ past) call.port (routes.Wait gate))
    rests_by held is there w standing = by held.gate refl (rw (standing) at w.leads)
      where
        routed : (g : Gate) → w.route ≡ routes.Wait g → PortRoute (turn ∷ past) call.port (routes.Wait g)
        routed g e =
            let same : w.port ≡ call.port = some_out (sym w.called ∙ is) in
            let there : PortRoute past w.port (routes.Wait g) = rw (e) at w.goes in
            let low = h.lives call.ticket w.port w.called in
            subst (λ p. PortRoute (turn ∷ past) p (routes.Wait g)) same (port_rests w.port (routes.Wait g) low there)

        by : (g : Gate) → held.gate ≡ g → Stands s g w.route → IsEmbargoed last call.ticket ⊎ ((gate : Gate) × PortRoute (turn ∷ past) call.port (routes.Wait gate))
        by (gates.Answer a path) at stands = inr (gates.Answer a path, routed (gates.Answer a path) stands)
        by (gates.Promise p) at stands = inr (gates.Promise p, routed (gates.Promise p) stands)
        by (gates.Question q path) at stands = inr (gates.Question q path, routed (gates.Question q path) stands)
        by (gates.Embargo n) at stands = inl (held, n, there, at, rw (stands.1) refl)

    held_rests : (o : Option WaitingCall) → get s.waiting.calls call.ticket ≡ o → IsSome o → port_of (calls_of past) call.ticket ≡ Some call.port
        → IsEmbargoed last call.ticket ⊎ ((gate : Gate) × PortRoute (turn ∷ past) call.port (routes.Wait gate))
    held_rests None there some is = absurd (true≢false (sym some))
    held_rests (Some held) there some is =
        let w = there_is (λ c. WaitsFor past s call.ticket c.gate) (get s.waiting.calls call.ticket) held there (h.waits call.ticket) in
        rests_by held is there w (standing_of call.ticket held there)

    left_by : LeftOrHeld past s call → LeftOrWaits (turn ∷ past) last call
    left_by k = by k.1
      where
        by : (has_left (exits_of past) call.ticket ≡ true) ⊎ IsSome (get s.waiting.calls call.ticket) → LeftOrWaits (turn ∷ past) last call
        by (inl left) = inl (rw (append-nil (exits_of past)) left)
        by (inr some) = inr (held_rests (get s.waiting.calls call.ticket) refl some k.0)

  all_left : (calls : List Called) → AllByRecursion (LeftOrHeld past s) calls → AllByRecursion (LeftOrWaits (turn ∷ past) last) calls
  all_left [] k = tt
  all_left (call ∷ calls) k = (left_by call k.0, all_left calls k.1)

  entered_on : (calls : List Called) → AllByRecursion (LeftOrHeld past s) calls → AllByRecursion (LeftOrHeld (turn ∷ past) last) calls
  entered_on [] k = tt
  entered_on (call ∷ calls) k = ((k.0.0, rw (append-nil (exits_of past)) k.0.1), entered_on calls k.1)

  gone_on : (exits : List Exit) → AllByRecursion (HasGone past s) exits → AllByRecursion (HasGone (turn ∷ past) last) exits
  gone_on [] k = tt
  gone_on (exit ∷ exits) k = (record { given = k.0.given; gone = k.0.gone; ahead = k.0.ahead }, gone_on exits k.1)

  -- The invariant holds where the vat rests.
  pub rests_holds : OrderHolds (turn ∷ past) last
  rests_holds =
      record {
        after = refl;
        below = h.below;
        lives = λ ticket port is. lives_on past turn port.name port.life (h.lives ticket port is);
        waits = waits_now;
        together =
            λ ticket other call held n is there same at over.
            h.together ticket other call held n is there same at (rw (at) at (standing_of ticket call is));
        entered = entered_on (calls_of past) h.entered;
        left = rw (append-nil (exits_of past)) (gone_on (exits_of past) h.left);
        orderly =
            record {
              rising = rw (append-nil (exits_of past)) h.orderly.rising;
              once = rw (append-nil (exits_of past)) h.orderly.once;
              by_ports = (tt, h.orderly.by_ports);
              none_kept = (all_left (calls_of past) h.entered, h.orderly.none_kept);
            };
      }
