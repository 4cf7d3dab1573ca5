-- What follows from a check of an event.
use Rattle.std.proofs.Common.{◌≡◌, refl, List, [], ◌∷◌, Result, Ok, Err}
use Rattle.cp_vat_machine.specs.Then.{Unless}
use Rattle.cp_vat.specs.Judging.{judged}

-- without a fault the rule is met
pub unless_passed : {A F : Type 0} (faults : List F) (Rule : Result A F → Type 0) (out : Result A F) → Ok tt ≡ judged faults → Rule out → Unless faults Rule out
unless_passed [] Rule out is met = met
unless_passed (fault ∷ more) Rule out is met = absurd (cc)

-- and with one that is the answer
pub unless_failed : {A F : Type 0} (faults : List F) (Rule : Result A F → Type 0) (fault : F) → Err fault ≡ judged faults → Unless faults Rule (Err fault)
unless_failed [] Rule fault is = absurd (cc)
unless_failed (first ∷ more) Rule fault is = cc

-- where none is told there is none
pub none_judged : {F : Type 0} (faults : List F) → Ok tt ≡ judged faults → faults ≡ []
none_judged [] is = refl
none_judged (fault ∷ more) is = absurd (cc)
