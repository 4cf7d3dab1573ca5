-- How capabilities are sent.
use Rattle.std.proofs.lemmas.List.{at_drop_more, drop_all}
use Rattle.std.proofs.lemmas.List.Folds.{list_all_at}
use Rattle.std.specs.List.{list_all}
use Rattle.std.proofs.Common.{Bool, true, false, true≢false, subst, append_assoc, append-nil, length, get_or, drop, ◌<◌, ◌≤◌, ◌≡◌, ℕ, suc, ◌+◌, List, [], ◌∷◌, ◌++◌, Option, Result, Ok, Err, Some, None, refl, sym, ap, ◌∙◌}
use Rattle.cp_refs.specs.Route.{Way, ends, leads, missing, way}
use Rattle.cp_refs.specs.Values.{ValueMaps}
use Rattle.cp_refs.specs.declared.cap.Cap.{Cap}
use Rattle.cp_vat_machine.specs.State.{State}
use Rattle.cp_vat_machine.specs.Then.{Each}
use Rattle.cp_vat_machine.specs.Writing.{end_by, end_within, ResolvesTo}
use Rattle.cp_vat_machine.specs.declared.fault.PeerFault.{PeerFault}
use Rattle.cp_vat_state.specs.Halts.{Leaves}
use Rattle.cp_vat_state.specs.declared.step_fault.StepFault.{StepFault}
use Rattle.cp_vat_state.specs.declared.step_fault.StepFault.TheVariants as halts
use Rattle.cp_vat_rules.specs.Leading.{LeadsTo}

end_here : (f : Cap → Option Cap) (c : Cap) (w : Way) → LeadsTo w None → end_by f c w ≡ Some c
end_here f c (ends route) h = refl
end_here f c (leads d) h = absurd h
end_here f c missing h = absurd h

-- a capability whose way ends comes to itself
pub ends_here : (values : ValueMaps) (c : Cap) → LeadsTo (way values c) None → ResolvesTo values c c
ends_here values c h = (1, end_here _ c (way values c) h)

pub next_is : (next : Cap) (w : Way) → LeadsTo w (Some next) → w ≡ leads next
next_is next (ends route) h = absurd h
next_is next (leads d) h = ap leads (sym h)
next_is next missing h = absurd h

-- a capability that leads on comes to what the next one comes to
pub leads_on : (values : ValueMaps) (c next last : Cap) → way values c ≡ leads next → ResolvesTo values next last → ResolvesTo values c last
leads_on values c next last is to = (suc to.0, ap (end_by (λ d. end_within to.0 values d) c) is ∙ to.1)

-- what was done, before what the rest gives
abbrev pub before : {B : Type 0} → List B → Result (List B × State) PeerFault → Result (List B × State) PeerFault
before done (Ok rest) = Ok (done ++ rest.0, rest.1)
before done (Err fault) = Err fault

module _ {A B : Type 0} (Rule : State → A → Result (B × State) PeerFault → Type 0) where
  -- one was done, and the rest follows
  pub each_more : (old mid : State) (x : A) (xs : List A) (y : B) (out : Result (List B × State) PeerFault) → Rule old x (Ok (y, mid)) → Each Rule mid xs out → Each Rule old (x ∷ xs) (before (y ∷ []) out)
  each_more old mid x xs y (Ok rest) first more = (Ok (y, mid), first, (Ok rest, more, refl))
  each_more old mid x xs y (Err fault) first more = (Ok (y, mid), first, (Err fault, more, refl))

  -- one failed, and nothing follows
  pub each_stops : (old : State) (x : A) (xs : List A) (fault : PeerFault) → Rule old x (Err fault) → Each Rule old (x ∷ xs) (Err fault)
  each_stops old x xs fault first = (Err fault, first, refl)

-- a fault passes on
pub leaves_err : {A B : Type 0} (R : Result (A × State) PeerFault → Type 0) (Q : Result (B × State) PeerFault → Type 0) (step_fault : StepFault) (mid new : State) → ((fault : PeerFault) → R (Err fault) → Q (Err fault)) → Leaves R (Err step_fault) mid → Leaves Q (Err step_fault) new
leaves_err R Q (halts.Fault fault) mid new on h = on fault h
leaves_err R Q halts.OutOfMemory mid new on h = tt

before_twice : {B : Type 0} (done more : List B) (out : Result (List B × State) PeerFault) → before done (before more out) ≡ before (done ++ more) out
before_twice done more (Ok rest) = ap (λ l. Ok (l, rest.1)) (sym (append_assoc done more rest.0))
before_twice done more (Err fault) = refl

-- a loop over what is done one by one: what the rest gives, after what was done, the whole gives
module _ {A B : Type 0} (Rule : State → A → Result (B × State) PeerFault → Type 0) (start now : State) (xs : List A) (i : ℕ) (done : List B) (goes_on : (out : Result (List B × State) PeerFault) → Each Rule now (drop i xs) out → Each Rule start xs (before done out)) where
  pub each_step : (x : A) (y : B) (more : List B) (later : State) → i < length xs → x ≡ get_or xs i x → Rule now x (Ok (y, later)) → more ≡ done ++ y ∷ [] → (out : Result (List B × State) PeerFault) → Each Rule later (drop (i + 1) xs) out → Each Rule start xs (before more out)
  each_step x y more later inside is first pushed out rest =
      let here : drop i xs ≡ x ∷ drop (i + 1) xs = at_drop_more (λ l. l) xs i x inside ∙ ap (λ d. d ∷ drop (i + 1) xs) (sym is) in
      let whole = goes_on (before (y ∷ []) out) (subst (λ l. Each Rule now l (before (y ∷ []) out)) (sym here) (each_more Rule now later x (drop (i + 1) xs) y out first rest)) in
      subst (λ o. Each Rule start xs o) (before_twice done (y ∷ []) out ∙ ap (λ l. before l out) (sym pushed)) whole

  pub each_fails : (x : A) (fault : PeerFault) → i < length xs → x ≡ get_or xs i x → Rule now x (Err fault) → Each Rule start xs (Err fault)
  each_fails x fault inside is first =
      let here : drop i xs ≡ x ∷ drop (i + 1) xs = at_drop_more (λ l. l) xs i x inside ∙ ap (λ d. d ∷ drop (i + 1) xs) (sym is) in
      goes_on (Err fault) (subst (λ l. Each Rule now l (Err fault)) (sym here) (each_stops Rule now x (drop (i + 1) xs) fault first))

  pub each_done : length xs ≤ i → Each Rule start xs (Ok (done, now))
  each_done past =
      let whole = goes_on (Ok ([], now)) (subst (λ l. Each Rule now l (Ok ([], now))) (sym (drop_all i xs past)) refl) in
      subst (λ l. Each Rule start xs (Ok (l, now))) (append-nil done) whole

-- what holds of all holds of each
pub each_holds : {X : Type 0} (p : X → Bool) (xs : List X) (i : ℕ) (x : X) → list_all p xs ≡ true → i < length xs → x ≡ get_or xs i x → p x ≡ true
each_holds p xs i x all inside is = at (p x) refl
  where
    at : (b : Bool) → p x ≡ b → p x ≡ true
    at true holds = holds
    at false fails = absurd (true≢false (sym all ∙ list_all_at p xs i x inside (ap p (sym is) ∙ fails)))
