-- A waiting call that goes to another gate.
use Rattle.std.specs.Prelude.{◌≡◌, ◌⊎◌, refl, ℕ, ◌<◌, ◌==◌, Bool, true, false, List, [], ◌∷◌, Option, Some, None, IsSome}
use Rattle.std.specs.FinMap.{get, remove}
use Rattle.std.proofs.Common.{arith, inl, inr, ap, sym, ◌∙◌}
use Rattle.cp_refs.specs.Route.{Routes}
use Rattle.cp_refs.specs.declared.cap.Cap.{Cap}
use Rattle.cp_refs.specs.declared.call.WaitingCall.{WaitingCall}
use Rattle.cp_refs.specs.declared.outcome.Outcome.{Outcome}
use Rattle.cp_refs.specs.declared.route.Gate.{Gate}
use Rattle.cp_refs.specs.declared.route.Gate.TheVariants as gates
use Rattle.cp_refs.specs.declared.route.Route.TheVariants as routes
use Rattle.cp_vat_machine.specs.State.{State, gave}
use Rattle.cp_vat_machine.specs.Go.{IsNext, without_call, underway, held_at}
use Rattle.cp_vat_machine.specs.Calling.{mark_of}
use Rattle.cp_vat_machine.specs.Trace.{Turn}
use Rattle.cp_vat_machine.specs.Ports.{Name, answer_path, capability, EndedRoute}
use Rattle.cp_vat_machine.specs.Exits.{exits_in, failure_by, given_to}
use Rattle.cp_vat_laws.specs.OrderKept.{Stands, LeadsBy, IsFree, FitsMark, FitsName, WaitsFor, AreOfOne, OrderHolds}
use Rattle.cp_vat_machine.proofs.Basics.{some_out, none_out, is_equal, put_at, gone_at}
use Rattle.cp_vat_laws.proofs.order.Basics.{there_is}
use Rattle.cp_vat_laws.proofs.order.Passes.{Sound, Passes}
use Rattle.cp_vat_laws.proofs.order.Waits.{port_stays, port_before, lasts, port_follows}
use Rattle.cp_vat_laws.proofs.order.Same.{same_passes, ends_well, waits_well}
use Rattle.cp_vat_laws.proofs.order.Turn.{IsHeldNow, Turned}
use Rattle.cp_vat_laws.proofs.order.WaitingGoes as leaving
use Rattle.cp_vat_laws.proofs.order.WaitingGoes.{going}

-- a gate that isn't over stands for itself, but an embargo
pub stands_there : (s : State) (g : Gate) → ((n : ℕ) → g ≡ gates.Embargo n → ⊥) → Stands s g (routes.Wait g)
stands_there s (gates.Answer a path) never = refl
stands_there s (gates.Promise p) never = refl
stands_there s (gates.Question q path) never = refl
stands_there s (gates.Embargo n) never = absurd (never n refl)

pub leads_there : (s : State) (g : Gate) (o : Option Cap) → o ≡ None → Stands s g (routes.Wait g) → LeadsBy s g o (routes.Wait g)
leads_there s g None e h = h
leads_there s g (Some c) e h = none_out (sym e)

pub kept_there : (s : State) (g : Gate) (o : Option Cap) → o ≡ None → EndedRoute s.values g o (routes.Wait g)
kept_there s g None e = refl
kept_there s g (Some c) e = none_out (sym e)

pub free_there : (s : State) (g : Gate) → ((n : ℕ) → g ≡ gates.Embargo n → ⊥) → IsFree s g
free_there s (gates.Answer a path) never = tt
free_there s (gates.Promise p) never = tt
free_there s (gates.Question q path) never = tt
free_there s (gates.Embargo n) never = absurd (never n refl)

pub no_failure : (ticket : ℕ) (o : Option Outcome) → o ≡ None → failure_by ticket o ≡ []
no_failure ticket None e = refl
no_failure ticket (Some outcome) e = none_out (sym e)

module _ (past : List Turn) (old : State) (call : WaitingCall) (cap : Cap) (to : Gate) (sound : Sound old) (h : OrderHolds past old) (next : IsNext old call cap)
    (way : Routes old.values cap (routes.Wait to)) (ungiven : given_to old.waiting.over call.origin ≡ None) where
  abbrev mid : State
  mid = held_at (without_call old call) (underway call) to

  abbrev turn : Turn
  turn = going old call [] mid

  abbrev now_held : WaitingCall
  now_held = record { ticket = call.ticket; origin = call.origin; request = call.request; gate = to }

  module _ (later : Sound mid) where
    passes : Passes old mid
    passes = same_passes old mid refl refl refl (omega arith)

    well : (gave old.waiting.over to ≡ None) × ((n : ℕ) → to ≡ gates.Embargo n → ⊥)
    well = waits_well old sound to (ends_well old sound cap (routes.Wait to) (sound.gifts call.gate cap next.ended).plain_ way)

    here : WaitsFor past old call.ticket call.gate
    here = leaving.here past old call cap (routes.Wait to) [] mid sound later passes h next way

    below : call.ticket < old.next_ticket
    below = leaving.below past old call cap (routes.Wait to) [] mid sound later passes h next way

    its_gate : (n : ℕ) → call.gate ≡ gates.Embargo n → get old.waiting.over.embargoes n ≡ None → ⊥
    its_gate n at none = let over : gave old.waiting.over (gates.Embargo n) ≡ Some cap = rw (at) at next.ended in none_out (sym none ∙ over)

    mark_fits : (mark : Option (Option ℕ)) → FitsMark old mark call.gate → FitsMark mid mark to
    mark_fits None f = free_there mid to well.1
    mark_fits (Some None) f = f
    mark_fits (Some (Some n)) f = absurd (its_gate n f.0 f.1)

    mark_is : (c : Cap) → FitsMark old (mark_of old c) call.gate → FitsMark mid (mark_of mid c) to
    mark_is c f = mark_fits (mark_of old c) f

    fits_name : (name : Name) → FitsName old name call.gate → FitsName mid name to
    fits_name (answer_path a path) f = free_there mid to well.1
    fits_name (capability c) f = (f.0, mark_is c f.1)

    waits_now : WaitsFor (turn ∷ past) mid call.ticket to
    unfolding here
    waits_now =
        record {
          port = here.port;
          called = port_stays past turn call.ticket here.port below here.called;
          route = routes.Wait to;
          leads = leads_there mid to (gave old.waiting.over to) well.0 (stands_there mid to well.1);
          goes =
              port_follows past turn sound later passes h.after here.port (routes.Wait to) (routes.Wait to) (h.lives call.ticket here.port here.called)
              (leaving.alive_off past old call cap (routes.Wait to) [] mid sound later passes h next way)
              (leaving.port_goes past old call cap (routes.Wait to) [] mid sound later passes h next way)
              (kept_there mid to (gave old.waiting.over to) well.0);
          fits =
              λ e.
              let still = lasts past turn here.port.name here.port.life (h.lives call.ticket here.port here.called) e in
              (still.1, fits_name here.port.name (here.fits still.0).1);
        }

    -- what waits now
    held_of : (u : ℕ) (b : Bool) → (call.ticket == u) ≡ b → (c : WaitingCall) → get mid.waiting.calls u ≡ Some c
        → ((call.ticket ≡ u) × (c ≡ now_held)) ⊎ (get old.waiting.calls u ≡ Some c)
    held_of u true e c is =
        inl (is_equal call.ticket u e, some_out (sym is ∙ put_at (remove old.waiting.calls call.ticket) call.ticket u now_held true e))
    held_of u false e c is =
        inr (sym (put_at (remove old.waiting.calls call.ticket) call.ticket u now_held false e ∙ gone_at old.waiting.calls call.ticket u false e) ∙ is)

    one_before : (u : ℕ) (c : WaitingCall) → get old.waiting.calls u ≡ Some c → AreOfOne (turn ∷ past) call.ticket u → AreOfOne past call.ticket u
    one_before u c is same =
        let w = there_is (λ c. WaitsFor past old u c.gate) (get old.waiting.calls u) c is (h.waits u) in (
          same.0,
          sym (port_before past turn call.ticket below) ∙ same.1,
          sym (port_before past turn u (h.below u w.port w.called)) ∙ same.2,
        )

    joined_by : (other : ℕ) (held : WaitingCall) (n : ℕ) → AreOfOne (turn ∷ past) call.ticket other → get old.waiting.over.embargoes n ≡ None → held.gate ≡ gates.Embargo n
        → ((call.ticket ≡ other) × (held ≡ now_held)) ⊎ (get old.waiting.calls other ≡ Some held) → to ≡ gates.Embargo n
    joined_by other held n same none at (inl now) = sym (ap (λ c. c.gate) now.1) ∙ at
    joined_by other held n same none at (inr was) =
        absurd (leaving.not_embargoed past old call cap (routes.Wait to) [] mid sound later passes h next way other held n was (one_before other held was same) at none)

    held_now : IsHeldNow past turn call.ticket now_held
    held_now =
        record {
          waits = waits_now;
          joins = λ other held n is same none at. absurd (well.1 n at);
          joined = λ other held n is same none at. joined_by other held n same none at (held_of other (call.ticket == other) refl held is);
          late = λ exit g same. g.ahead call.ticket (rw (next.waits) refl) (same.0, sym (port_before past turn exit.ticket g.given) ∙ same.1, sym (port_before past turn call.ticket below) ∙ same.2);
        }

    held_by : (u : ℕ) (c : WaitingCall) → ((call.ticket ≡ u) × (c ≡ now_held)) ⊎ (get old.waiting.calls u ≡ Some c)
        → (get old.waiting.calls u ≡ Some c) ⊎ IsHeldNow past turn u c
    held_by u c (inl now) = inr (rw (← now.0, now.1) held_now)
    held_by u c (inr was) = inl was

    stays_by : (u : ℕ) (b : Bool) → (call.ticket == u) ≡ b → IsSome (get old.waiting.calls u) → IsSome (get mid.waiting.calls u)
    stays_by u true e some = rw (put_at (remove old.waiting.calls call.ticket) call.ticket u now_held true e) refl
    stays_by u false e some = rw (put_at (remove old.waiting.calls call.ticket) call.ticket u now_held false e, gone_at old.waiting.calls call.ticket u false e) some

    none_exits : exits_in turn ≡ []
    none_exits = no_failure call.ticket (given_to old.waiting.over call.origin) ungiven

    -- The call waits on.
    pub stays_turned : Turned past turn
    stays_turned =
        record {
          held = λ u c is. held_by u c (held_of u (call.ticket == u) refl c is);
          leaves = λ u some. inr (stays_by u (call.ticket == u) refl some);
          enters = tt;
          exits = rw (none_exits) tt;
          at_rest = tt;
        }
