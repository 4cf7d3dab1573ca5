-- Events that a vat does, one after another.
use Rattle.std.proofs.Common.{◌≡◌, inr, ℕ, ◌+◌, ◌≤◌, List, [], ◌∷◌, ◌++◌, length, drop, Option, Some, refl, sym, ap, arith, subst}
use Rattle.std.proofs.lemmas.List.{append_assoc, drop_at, length-append}
use Rattle.cp_vat_machine.specs.State.{State, new_state}
use Rattle.cp_vat_machine.specs.Step.{Step}
use Rattle.cp_vat_machine.specs.Run.{Moment, Steps, Run}
use Rattle.cp_vat_machine.specs.declared.acted.Acted.{Acted}
use Rattle.cp_vat_machine.specs.declared.event.Event.{Event}
use Rattle.cp_vat_machine.specs.declared.event.Value.{Value}
use Rattle.cp_vat_machine.specs.declared.fault.VatFault.{VatFault}
use Rattle.cp_vat_machine.specs.declared.fault.VatFault.TheVariants as refusals
use Rattle.cp_vat_laws.proofs.telling.Runs.{runs_are_in_order}
use Rattle.cp_vat.specs.Running.{moment_of, moments, EndsBy, Continues, Runs}

-- one more step
steps_more : (old mid new : State) (history : List Moment) (moment : Moment) → Steps old history mid → Step mid moment.event moment.result moment.effects new → Steps old (history ++ moment ∷ []) new
steps_more old mid new [] moment still step = subst (λ s. Steps s (moment ∷ []) new) still (new, step, refl)
steps_more old mid new (first ∷ history) moment steps step = (steps.0, steps.1, steps_more steps.0 mid new history moment steps.2 step)

-- Of events of which the first were done, the moments are those of the first.
moments_of_first : (front back : List Event) (done : List (Acted Value)) → length done ≡ length front → moments (front ++ back) done ≡ moments front done
moments_of_first [] [] [] same = refl
moments_of_first [] (event ∷ back) [] same = refl
moments_of_first [] back (acted ∷ done) same = absurd cc
moments_of_first (event ∷ front) back [] same = absurd cc
moments_of_first (event ∷ front) back (acted ∷ done) same = ap (λ h. moment_of event acted ∷ h) (moments_of_first front back done (omega (arith, same)))

-- one more moment
moments_more : (front : List Event) (event : Event) (done : List (Acted Value)) (acted : Acted Value) → length done ≡ length front
    → moments (front ++ event ∷ []) (done ++ acted ∷ []) ≡ moments front done ++ moment_of event acted ∷ []
moments_more [] event [] acted same = refl
moments_more [] event (one ∷ done) acted same = absurd cc
moments_more (one ∷ front) event [] acted same = absurd cc
moments_more (one ∷ front) event (first ∷ done) acted same = ap (λ h. moment_of one first ∷ h) (moments_more front event done acted (omega (arith, same)))

-- an event is done
pub one_more : (old mid new : State) (front : List Event) (event : Event) (done : List (Acted Value)) (acted : Acted Value) → length done ≡ length front
    → Steps old (moments front done) mid → Step mid event (moment_of event acted).result acted.effects new → Steps old (moments (front ++ event ∷ []) (done ++ acted ∷ [])) new
one_more old mid new front event done acted same steps step =
    rw (moments_more front event done acted same) (steps_more old mid new (moments front done) (moment_of event acted) steps step)

-- what was done, and what then ended it
pub ended : (old last : State) (all front back : List Event) (done : List (Acted Value)) (refused : Option (ℕ × VatFault)) → all ≡ front ++ back → length done ≡ length front
    → Steps old (moments front done) last → EndsBy last (length done) back refused → Continues old all done refused
ended old last all front back done refused splits same steps ends =
    rw splits
    (record {
      last = last;
      steps = rw (moments_of_first front back done same) steps;
      within = omega (arith, same, length-append front back);
      ends = rw (drop_at front back (length done) (sym same)) ends;
    })

module _ (all front rest back : List Event) (event : Event) (splits : all ≡ front ++ rest) (next : rest ≡ event ∷ back) where
  -- of events of which some are left, the next is taken
  pub splits_more : all ≡ (front ++ event ∷ []) ++ back
  splits_more = rw (append_assoc front (event ∷ []) back, splits, next) refl

  -- there are more of them than were done
  pub some_left : length front + 1 ≤ length all
  some_left = rw (splits, next, length-append front (event ∷ back)) (omega arith)

none_done : (events : List Event) → moments events [] ≡ []
none_done [] = refl
none_done (event ∷ more) = refl

-- Every run is in order.
ran : (bootstrap : Option ℕ) (events : List Event) (done : List (Acted Value)) (refused : Option (ℕ × VatFault)) (run : Run bootstrap (moments events done))
    → length done ≤ length events → EndsBy run.0 (length done) (drop (length done) events) refused → Runs bootstrap events done refused
ran bootstrap events done refused run within ends =
    record {
      run = run;
      in_order = runs_are_in_order bootstrap (moments events done) run;
      within = within;
      ends = ends;
    }

-- There is no room, and so nothing is done.
pub had_no_room : (bootstrap : Option ℕ) (events : List Event) (done : List (Acted Value)) → done ≡ [] → Runs bootstrap events done (Some (0, refusals.OutOfMemory))
had_no_room bootstrap events done none =
    rw none
    (ran bootstrap events [] (Some (0, refusals.OutOfMemory)) (new_state bootstrap, rw (none_done events) refl) (omega arith) (refl, inr (refl, refl)))

-- what a new vat did
pub begun : (bootstrap : Option ℕ) (vat : State) (events : List Event) (done : List (Acted Value)) (refused : Option (ℕ × VatFault)) → vat ≡ new_state bootstrap
    → Continues vat events done refused → Runs bootstrap events done refused
begun bootstrap vat events done refused new all =
    ran bootstrap events done refused (all.last, subst (λ s. Steps s (moments events done) all.last) new all.steps) all.within all.ends
