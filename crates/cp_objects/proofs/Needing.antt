-- What is lent, once the object is there that makes the calls of others.
use Rattle.std.proofs.Common.{◌≡◌, ◌∙◌, ℕ, ◌+◌, true, false, Option, Some, None, refl, sym, ap}
use Rattle.std.specs.Prelude.{nat_lt}
use Rattle.std.specs.Option.{unwrap_or}
use Rattle.cp_objects.specs.declared.any_object.AnyObject.TheVariants as any
use Rattle.cp_objects.specs.declared.shared_cap.LentCap.{LentCap}
use Rattle.cp_objects.specs.AnyObject.{with_lent}
use Rattle.cp_objects.specs.Counts.{times}
use Rattle.cp_objects.specs.Forwarding.{new_forwarder}
use Rattle.cp_objects.specs.Members.{newborn}
use Rattle.cp_objects.specs.Objects.{ObjectsState, awoken, becoming, forwarder_of, giving_up_import, handing_over, held_by, holding_import, holding_lent, joining_forwarder, lending_cap, lending_from, once_held, placing, with_forwarder}

module _ {A : Type 0} where
  pub was_there : (old : ObjectsState A) (number : ℕ) → old.forwarder ≡ Some number → old ≡ with_forwarder old
  was_there old number there = rw there refl

  pub is_made : (old joined : ObjectsState A) (number : ℕ) → old.forwarder ≡ None → number ≡ old.context.next
      → joined ≡ awoken number (placing number (newborn (any.Forwarder new_forwarder)) (record old { context = record old.context { next = number + 1 } }))
      → record joined { forwarder = Some number } ≡ with_forwarder old
  is_made old joined number none is made =
      rw none (ap (λ (k : ObjectsState A). record k { forwarder = Some number }) made ∙ ap (λ (n : ℕ). joining_forwarder n old) is)

  -- an import is held once
  module _ (number forwarder i : ℕ) (old mid : ObjectsState A) (handed : mid ≡ handing_over number forwarder i old) where
    held_as : (new : ObjectsState A) → new ≡ once_held forwarder i mid → new ≡ holding_import number forwarder i old
    held_as new is = is ∙ ap (λ (k : ObjectsState A). once_held forwarder i k) handed

    pub held_twice : (new : ObjectsState A) → true ≡ nat_lt 1 (times i (held_by forwarder mid)) → new ≡ giving_up_import forwarder i mid → new ≡ holding_import number forwarder i old
    held_twice new twice gave = held_as new (rw (← twice) gave)

    pub held_once : false ≡ nat_lt 1 (times i (held_by forwarder mid)) → mid ≡ holding_import number forwarder i old
    held_once once = held_as mid (rw (← once) refl)

  -- and it is lent
  pub is_lent : (number forwarder : ℕ) (shared : LentCap) (old mid held new : ObjectsState A) → mid ≡ with_forwarder old → mid.forwarder ≡ Some forwarder
      → held ≡ holding_lent number forwarder shared.cap mid → new ≡ becoming forwarder (with_lent shared) (awoken forwarder held) → new ≡ lending_cap number shared old
  is_lent number forwarder shared old mid held new there is holds lent =
      lent ∙ ap (λ (k : ObjectsState A). becoming forwarder (with_lent shared) (awoken forwarder k)) holds
      ∙ ap (λ (k : ℕ). lending_from k number shared mid) (sym (ap (λ (o : Option ℕ). unwrap_or o 0) is))
      ∙ ap (λ (k : ObjectsState A). lending_from (forwarder_of k) number shared k) there
