-- What holds after a turn, from what the turn did.
use Rattle.std.specs.Prelude.{◌≡◌, ◌≢◌, ◌⊎◌, refl, ℕ, ◌<◌, ◌≤◌, ◌==◌, ◌||◌, cond, Bool, true, false, List, [], ◌∷◌, ◌++◌, Option, Some, None, IfSome, IsSome}
use Rattle.std.specs.List.{AllByRecursion}
use Rattle.std.specs.FinMap.{get}
use Rattle.std.proofs.Common.{arith, inl, inr, subst, sym, ◌∙◌, true≢false}
use Rattle.cp_refs.specs.declared.cap.Cap.{Cap}
use Rattle.cp_refs.specs.declared.call.WaitingCall.{WaitingCall}
use Rattle.cp_refs.specs.declared.route.Gate.TheVariants as gates
use Rattle.cp_vat_machine.specs.Trace.{Turn}
use Rattle.cp_vat_machine.specs.Ports.{Entry, entry_of, Port, Called, with_entry, calls_of, port_of, absences}
use Rattle.cp_vat_machine.specs.Exits.{Exit, exits_in, exits_of}
use Rattle.cp_vat_machine.specs.InOrder.{EachPair, Rises, OtherTicket, GoesByItsPort, AtRest, has_left}
use Rattle.cp_vat_laws.specs.OrderKept.{WaitsFor, AreOfOne, HasGone, LeftOrHeld, AreOrderly, OrderHolds}
use Rattle.cp_vat_machine.proofs.Basics.{some_out, none_out, is_equal, is_itself}
use Rattle.cp_vat_laws.proofs.order.Basics.{there_is}
use Rattle.cp_vat_laws.proofs.order.Passes.{Sound, Passes}
use Rattle.cp_vat_laws.proofs.order.Waits.{EntersNext, enters_next, port_stays, port_before, lives_on, waits_on}

-- A call that waits at a gate from this turn on: it waits for its port, and calls of that port wait at one embargo, and left before it.
pub record IsHeldNow (past : List Turn) (turn : Turn) (ticket : ℕ) (call : WaitingCall) : Type 0 where
  pub waits : WaitsFor (turn ∷ past) turn.after ticket call.gate
  pub joins : (other : ℕ) (held : WaitingCall) (n : ℕ) → get turn.after.waiting.calls other ≡ Some held → AreOfOne (turn ∷ past) ticket other
      → get turn.after.waiting.over.embargoes n ≡ None → call.gate ≡ gates.Embargo n → held.gate ≡ gates.Embargo n
  pub joined : (other : ℕ) (held : WaitingCall) (n : ℕ) → get turn.after.waiting.calls other ≡ Some held → AreOfOne (turn ∷ past) ticket other
      → get turn.after.waiting.over.embargoes n ≡ None → held.gate ≡ gates.Embargo n → call.gate ≡ gates.Embargo n
  pub late : (exit : Exit) → HasGone past turn.before exit → AreOfOne (turn ∷ past) exit.ticket ticket → exit.ticket < ticket

-- A call that leaves in this turn, after those of its port that left before.
pub record ExitsNow (past : List Turn) (turn : Turn) (exit : Exit) : Type 0 where
  pub gone : HasGone (turn ∷ past) turn.after exit
  pub by_port : GoesByItsPort (turn ∷ past) exit
  pub other : (earlier : Exit) → HasGone past turn.before earlier → earlier.ticket ≢ exit.ticket
  pub late : (earlier : Exit) → HasGone past turn.before earlier → AreOfOne (turn ∷ past) earlier.ticket exit.ticket → earlier.ticket < exit.ticket

abbrev pub AtMostOne : {X : Type 0} → (X → Type 0) → List X → Type 0
AtMostOne P [] = Unit {0}
AtMostOne P (x ∷ []) = P x
AtMostOne P (x ∷ y ∷ more) = ⊥

-- What a turn did to calls.
pub record Turned (past : List Turn) (turn : Turn) : Type 0 where
  pub held : (ticket : ℕ) (call : WaitingCall) → get turn.after.waiting.calls ticket ≡ Some call → (get turn.before.waiting.calls ticket ≡ Some call) ⊎ IsHeldNow past turn ticket call
  pub leaves : (ticket : ℕ) → IsSome (get turn.before.waiting.calls ticket) → (has_left (exits_in turn) ticket ≡ true) ⊎ IsSome (get turn.after.waiting.calls ticket)
  pub enters : IfSome (entry_of turn) (λ e. (turn.before.next_ticket < turn.after.next_ticket) × ((has_left (exits_in turn) e.ticket ≡ true) ⊎ IsSome (get turn.after.waiting.calls e.ticket)))
  pub exits : AtMostOne (ExitsNow past turn) (exits_in turn)
  pub at_rest : AtRest past turn turn.cause

-- lists of exits
left_first : (one more : List Exit) (ticket : ℕ) → has_left one ticket ≡ true → has_left (one ++ more) ticket ≡ true
left_first [] more ticket h = absurd (true≢false (sym h))
left_first (exit ∷ one) more ticket h = by (exit.ticket == ticket) (has_left one ticket) (left_first one more ticket) h
  where
    by : (b c : Bool) → (c ≡ true → has_left (one ++ more) ticket ≡ true) → (b || c) ≡ true → (b || has_left (one ++ more) ticket) ≡ true
    by true c deeper h = refl
    by false c deeper h = deeper h

left_then : (one more : List Exit) (ticket : ℕ) → has_left more ticket ≡ true → has_left (one ++ more) ticket ≡ true
left_then [] more ticket h = h
left_then (exit ∷ one) more ticket h = by (exit.ticket == ticket) (left_then one more ticket h)
  where
    by : (b : Bool) → has_left (one ++ more) ticket ≡ true → (b || has_left (one ++ more) ticket) ≡ true
    by true h = refl
    by false h = h

module _ {X : Type 0} where
  all_map : (P Q : X → Type 0) (xs : List X) → ((x : X) → P x → Q x) → AllByRecursion P xs → AllByRecursion Q xs
  all_map P Q [] f h = tt
  all_map P Q (x ∷ xs) f h = (f x h.0, all_map P Q xs f h.1)

  all_both : (P : X → Type 0) (xs ys : List X) → AllByRecursion P xs → AllByRecursion P ys → AllByRecursion P (xs ++ ys)
  all_both P [] ys h k = k
  all_both P (x ∷ xs) ys h k = (h.0, all_both P xs ys h.1 k)

  all_one : (P Q : X → Type 0) (xs : List X) → ((x : X) → P x → Q x) → AtMostOne P xs → AllByRecursion Q xs
  all_one P Q [] f h = tt
  all_one P Q (x ∷ []) f h = (f x h, tt)
  all_one P Q (x ∷ y ∷ more) f h = absurd h

  pairs_map : (R S : X → X → Type 0) (P : X → Type 0) (xs : List X) → ((x y : X) → P x → P y → R x y → S x y) → AllByRecursion P xs → EachPair R xs → EachPair S xs
  pairs_map R S P [] f p h = tt
  pairs_map R S P (x ∷ xs) f p h = (each xs p.1 h.0, pairs_map R S P xs f p.1 h.1)
    where
      each : (ys : List X) → AllByRecursion P ys → AllByRecursion (R x) ys → AllByRecursion (S x) ys
      each [] q k = tt
      each (y ∷ ys) q k = (f x y p.0 q.0 k.0, each ys q.1 k.1)

  pairs_both : (S : X → X → Type 0) (P Q : X → Type 0) (xs ys : List X) → ((x y : X) → P x → Q y → S x y) → AllByRecursion P xs → AtMostOne Q ys → EachPair S xs
      → EachPair S (xs ++ ys)
  pairs_both S P Q [] [] f p q h = tt
  pairs_both S P Q [] (y ∷ []) f p q h = (tt, tt)
  pairs_both S P Q [] (y ∷ z ∷ more) f p q h = absurd q
  pairs_both S P Q (x ∷ xs) ys f p q h = (all_both (S x) xs ys h.0 (all_one Q (S x) ys (λ y. f x y p.0) q), pairs_both S P Q xs ys f p.1 q h.1)

module _ (past : List Turn) (turn : Turn) (sound : Sound turn.before) (later : Sound turn.after) (passes : Passes turn.before turn.after)
    (h : OrderHolds past turn.before) (t : Turned past turn) where
  below_by : (ticket : ℕ) (port : Port) (o : Option Entry) → EntersNext turn.before o → IfSome o (λ e. turn.before.next_ticket < turn.after.next_ticket)
      → port_of (with_entry past o (calls_of past)) ticket ≡ Some port → ticket < turn.after.next_ticket
  below_by ticket port None next more is = omega (arith, h.below ticket port is, passes.next)
  below_by ticket port (Some entry) next more is = by (entry.ticket == ticket) refl is
    where
      by : (b : Bool) → (entry.ticket == ticket) ≡ b → cond b (Some (record { name = entry.name; life = absences entry.name past })) (port_of (calls_of past) ticket) ≡ Some port
          → ticket < turn.after.next_ticket
      by true e is = omega (arith, is_equal entry.ticket ticket e, next, more)
      by false e is = omega (arith, h.below ticket port is, passes.next)

  enters_more : (o : Option Entry) → IfSome o (λ e. (turn.before.next_ticket < turn.after.next_ticket) × ((has_left (exits_in turn) e.ticket ≡ true) ⊎ IsSome (get turn.after.waiting.calls e.ticket)))
      → IfSome o (λ e. turn.before.next_ticket < turn.after.next_ticket)
  enters_more None k = tt
  enters_more (Some entry) k = k.0

  below_now : (ticket : ℕ) (port : Port) → port_of (calls_of (turn ∷ past)) ticket ≡ Some port → ticket < turn.after.next_ticket
  below_now ticket port is = below_by ticket port (entry_of turn) (enters_next turn) (enters_more (entry_of turn) t.enters) is

  lives_by : (ticket : ℕ) (port : Port) (o : Option Entry) → port_of (with_entry past o (calls_of past)) ticket ≡ Some port → port.life ≤ absences port.name (turn ∷ past)
  lives_by ticket port None is = lives_on past turn port.name port.life (h.lives ticket port is)
  lives_by ticket port (Some entry) is = by (entry.ticket == ticket) is
    where
      at_new : (p : Port) → p ≡ record { name = entry.name; life = absences entry.name past } → p.life ≤ absences p.name (turn ∷ past)
      at_new p e = subst (λ x. x.life ≤ absences x.name (turn ∷ past)) (sym e) (lives_on past turn entry.name (absences entry.name past) (omega arith))

      by : (b : Bool) → cond b (Some (record { name = entry.name; life = absences entry.name past })) (port_of (calls_of past) ticket) ≡ Some port → port.life ≤ absences port.name (turn ∷ past)
      by true is = at_new port (sym (some_out is))
      by false is = lives_on past turn port.name port.life (h.lives ticket port is)

  lives_now : (ticket : ℕ) (port : Port) → port_of (calls_of (turn ∷ past)) ticket ≡ Some port → port.life ≤ absences port.name (turn ∷ past)
  lives_now ticket port is = lives_by ticket port (entry_of turn) is

  -- a call that waited before
  pub waited : (ticket : ℕ) (call : WaitingCall) → get turn.before.waiting.calls ticket ≡ Some call → WaitsFor past turn.before ticket call.gate
  waited ticket call is = there_is (λ c. WaitsFor past turn.before ticket c.gate) (get turn.before.waiting.calls ticket) call is (h.waits ticket)

  pub low : (ticket : ℕ) (call : WaitingCall) → get turn.before.waiting.calls ticket ≡ Some call → ticket < turn.before.next_ticket
  low ticket call is = let w = waited ticket call is in h.below ticket w.port w.called

  waits_by : (ticket : ℕ) (o : Option WaitingCall) → get turn.after.waiting.calls ticket ≡ o → IfSome o (λ call. WaitsFor (turn ∷ past) turn.after ticket call.gate)
  waits_by ticket None is = tt
  waits_by ticket (Some call) is = by (t.held ticket call is)
    where
      by : (get turn.before.waiting.calls ticket ≡ Some call) ⊎ IsHeldNow past turn ticket call → WaitsFor (turn ∷ past) turn.after ticket call.gate
      by (inl was) =
          let w = waited ticket call was in
          waits_on past turn sound later passes h.after ticket call.gate w (low ticket call was) (h.lives ticket w.port w.called)
      by (inr now) = now.waits

  -- two calls of one port before
  one_before : (ticket other : ℕ) → ticket < turn.before.next_ticket → other < turn.before.next_ticket → AreOfOne (turn ∷ past) ticket other → AreOfOne past ticket other
  one_before ticket other one two same = (same.0, sym (port_before past turn ticket one) ∙ same.1, sym (port_before past turn other two) ∙ same.2)

  pub one_back : (past : List Turn) (ticket other : ℕ) → AreOfOne past ticket other → AreOfOne past other ticket
  one_back past ticket other same = (same.0, same.2, same.1)

  none_before : (n : ℕ) (o : Option Cap) → get turn.before.waiting.over.embargoes n ≡ o → get turn.after.waiting.over.embargoes n ≡ None → o ≡ None
  none_before n None is none = refl
  none_before n (Some v) is none = none_out (sym none ∙ passes.ended n v is)

  together_by : (ticket other : ℕ) (call held : WaitingCall) (n : ℕ) → get turn.after.waiting.calls ticket ≡ Some call → get turn.after.waiting.calls other ≡ Some held
      → AreOfOne (turn ∷ past) ticket other → call.gate ≡ gates.Embargo n → get turn.after.waiting.over.embargoes n ≡ None
      → (get turn.before.waiting.calls ticket ≡ Some call) ⊎ IsHeldNow past turn ticket call → (get turn.before.waiting.calls other ≡ Some held) ⊎ IsHeldNow past turn other held
      → held.gate ≡ gates.Embargo n
  together_by ticket other call held n is there same at none (inr now) either = now.joins other held n there same none at
  together_by ticket other call held n is there same at none (inl was) (inr now) = now.joined ticket call n is (one_back (turn ∷ past) ticket other same) none at
  together_by ticket other call held n is there same at none (inl was) (inl too) =
      h.together ticket other call held n was too (one_before ticket other (low ticket call was) (low other held too) same) at
      (none_before n (get turn.before.waiting.over.embargoes n) refl none)

  -- what left before doesn't wait, and is ahead
  still_gone : (exit : Exit) → HasGone past turn.before exit → (o : Option WaitingCall) → get turn.after.waiting.calls exit.ticket ≡ o → o ≡ None
  still_gone exit g None is = refl
  still_gone exit g (Some call) is = by (t.held exit.ticket call is)
    where
      by : (get turn.before.waiting.calls exit.ticket ≡ Some call) ⊎ IsHeldNow past turn exit.ticket call → Some call ≡ None
      by (inl was) = none_out (sym g.gone ∙ was)
      by (inr now) = absurd (never (now.late exit g (now.waits.port, now.waits.called, now.waits.called)))
        where
          never : exit.ticket < exit.ticket → ⊥
          never e = omega (arith, e)

  ahead_by : (exit : Exit) → HasGone past turn.before exit → (ticket : ℕ) (o : Option WaitingCall) → get turn.after.waiting.calls ticket ≡ o → IsSome o
      → AreOfOne (turn ∷ past) exit.ticket ticket → exit.ticket < ticket
  ahead_by exit g ticket None is some same = absurd (true≢false (sym some))
  ahead_by exit g ticket (Some call) is some same = by (t.held ticket call is)
    where
      by : (get turn.before.waiting.calls ticket ≡ Some call) ⊎ IsHeldNow past turn ticket call → exit.ticket < ticket
      by (inl was) = g.ahead ticket (rw (was) refl) (one_before exit.ticket ticket g.given (low ticket call was) same)
      by (inr now) = now.late exit g same

  goes_on : (exit : Exit) → HasGone past turn.before exit → HasGone (turn ∷ past) turn.after exit
  goes_on exit g =
      record {
        given = omega (arith, g.given, passes.next);
        gone = still_gone exit g (get turn.after.waiting.calls exit.ticket) refl;
        ahead = λ ticket some same. ahead_by exit g ticket (get turn.after.waiting.calls ticket) refl some same;
      }

  left_now : AllByRecursion (HasGone (turn ∷ past) turn.after) (exits_of past ++ exits_in turn)
  left_now =
      all_both (HasGone (turn ∷ past) turn.after) (exits_of past) (exits_in turn)
      (all_map (HasGone past turn.before) (HasGone (turn ∷ past) turn.after) (exits_of past) goes_on h.left)
      (all_one (ExitsNow past turn) (HasGone (turn ∷ past) turn.after) (exits_in turn) (λ exit e. e.gone) t.exits)

  -- each call left or waits
  entered_by : (call : Called) → LeftOrHeld past turn.before call → LeftOrHeld (turn ∷ past) turn.after call
  entered_by call k = (port_stays past turn call.ticket call.port (h.below call.ticket call.port k.0) k.0, by k.1)
    where
      later_by : (has_left (exits_in turn) call.ticket ≡ true) ⊎ IsSome (get turn.after.waiting.calls call.ticket)
          → (has_left (exits_of past ++ exits_in turn) call.ticket ≡ true) ⊎ IsSome (get turn.after.waiting.calls call.ticket)
      later_by (inl left) = inl (left_then (exits_of past) (exits_in turn) call.ticket left)
      later_by (inr some) = inr some

      by : (has_left (exits_of past) call.ticket ≡ true) ⊎ IsSome (get turn.before.waiting.calls call.ticket)
          → (has_left (exits_of past ++ exits_in turn) call.ticket ≡ true) ⊎ IsSome (get turn.after.waiting.calls call.ticket)
      by (inl left) = inl (left_first (exits_of past) (exits_in turn) call.ticket left)
      by (inr some) = later_by (t.leaves call.ticket some)

  entered_of : (o : Option Entry) → entry_of turn ≡ o
      → IfSome o (λ e. (turn.before.next_ticket < turn.after.next_ticket) × ((has_left (exits_in turn) e.ticket ≡ true) ⊎ IsSome (get turn.after.waiting.calls e.ticket)))
      → AllByRecursion (LeftOrHeld (turn ∷ past) turn.after) (with_entry past o (calls_of past))
  entered_of None is k = all_map (LeftOrHeld past turn.before) (LeftOrHeld (turn ∷ past) turn.after) (calls_of past) entered_by h.entered
  entered_of (Some entry) is k = (
    (
      rw (is, is_itself entry.ticket) refl,
      by k.1,
    ),
    all_map (LeftOrHeld past turn.before) (LeftOrHeld (turn ∷ past) turn.after) (calls_of past) entered_by h.entered,
  )
    where
      by : (has_left (exits_in turn) entry.ticket ≡ true) ⊎ IsSome (get turn.after.waiting.calls entry.ticket)
          → (has_left (exits_of past ++ exits_in turn) entry.ticket ≡ true) ⊎ IsSome (get turn.after.waiting.calls entry.ticket)
      by (inl left) = inl (left_then (exits_of past) (exits_in turn) entry.ticket left)
      by (inr some) = inr some

  -- the order of exits
  rises_on : (one other : Exit) → HasGone past turn.before one → HasGone past turn.before other → Rises (calls_of past) one other → Rises (calls_of (turn ∷ past)) one other
  rises_on one other g k r port is there =
      r port (sym (port_before past turn one.ticket g.given) ∙ is) (sym (port_before past turn other.ticket k.given) ∙ there)

  orderly_now : AreOrderly (turn ∷ past)
  orderly_now =
      record {
        rising =
            pairs_both (Rises (calls_of (turn ∷ past))) (HasGone past turn.before) (ExitsNow past turn) (exits_of past) (exits_in turn)
            (λ one exit g e port is there. e.late one g (port, is, there))
            h.left t.exits
            (pairs_map (Rises (calls_of past)) (Rises (calls_of (turn ∷ past))) (HasGone past turn.before) (exits_of past) rises_on h.left h.orderly.rising);
        once =
            pairs_both OtherTicket (HasGone past turn.before) (ExitsNow past turn) (exits_of past) (exits_in turn) (λ one exit g e. e.other one g) h.left t.exits h.orderly.once;
        by_ports = (all_one (ExitsNow past turn) (GoesByItsPort (turn ∷ past)) (exits_in turn) (λ exit e. e.by_port) t.exits, h.orderly.by_ports);
        none_kept = (t.at_rest, h.orderly.none_kept);
      }

  -- The invariant holds after the turn.
  pub turned_holds : OrderHolds (turn ∷ past) turn.after
  turned_holds =
      record {
        after = refl;
        below = below_now;
        lives = lives_now;
        waits = λ ticket. waits_by ticket (get turn.after.waiting.calls ticket) refl;
        together =
            λ ticket other call held n is there same at none.
            together_by ticket other call held n is there same at none (t.held ticket call is) (t.held other held there);
        entered = entered_of (entry_of turn) refl t.enters;
        left = left_now;
        orderly = orderly_now;
      }
