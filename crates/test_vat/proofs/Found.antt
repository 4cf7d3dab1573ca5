-- What a rule gives, found by computing, with the proof that the rule gives it.
use Rattle.std.specs.Prelude.{◌≡◌, refl, ℕ, Bool, true, false, List, [], ◌∷◌, Option, Some, None, Result, Ok, Err}
use Rattle.std.specs.FinMap.{get}
use Rattle.std.proofs.Common.{sym, subst}
use Rattle.cp_vat_machine.specs.State.{State}
use Rattle.cp_vat_machine.specs.Then.{Then, Unless, Each}
use Rattle.cp_vat_machine.specs.declared.fault.PeerFault.{PeerFault}
use Rattle.test_vat.proofs.Known.{Listed, tabled, at, get_is, Known, state}

-- a result, with its value seen in another way
abbrev pub seen : {A B F : Type 0} → (A → B) → Result A F → Result B F
seen view (Ok x) = Ok (view x)
seen view (Err fault) = Err fault

-- a result of the rule, if one was found
pub data Finds {A B F : Type 0} (view : A → B) (Rule : Result B F → Type 0) : Type 0 where
  lacks : Finds view Rule
  found : (out : Result A F) → Rule (seen view out) → Finds view Rule

-- something, and the state with it
abbrev pub beside : {A : Type 0} → A × Known → A × State
beside x = (x.0, state x.1)

-- a value as it is
abbrev pub plain : {A : Type 0} → A → A
plain x = x

module _ {A B F : Type 0} {view : A → B} where
  -- what was found of the one holds of the other
  abbrev pub moved : {X : Type 0} (Rule : X → Result B F → Type 0) {x y : X} → x ≡ y → Finds view (Rule y) → Finds view (Rule x)
  moved Rule e lacks = lacks
  moved Rule e (found out holds) = found out (subst (λ x. Rule x (seen view out)) (sym e) holds)

  abbrev pub decide : (Rule : Bool → Result B F → Type 0) (b : Bool) → Finds view (Rule true) → Finds view (Rule false) → Finds view (Rule b)
  decide Rule true if_so if_not = if_so
  decide Rule false if_so if_not = if_not

  abbrev pub unless : (Rule : Result B F → Type 0) {faults : List F} (known : List F) → faults ≡ known → Finds view Rule → Finds view (Unless faults Rule)
  unless Rule [] e rest = moved (λ faults. Unless faults Rule) e rest
  unless Rule (fault ∷ more) e rest = moved (λ faults. Unless faults Rule) e (found (Err fault) refl)

  -- what gives the one gives the other
  abbrev pub so : {Rule Other : Result B F → Type 0} → ((out : Result B F) → Rule out → Other out) → Finds view Rule → Finds view Other
  so gives lacks = lacks
  so gives (found out holds) = found out (gives (seen view out) holds)

  -- with what a table holds under a number
  module _ {X : Type 0} (es : Listed X) (n : ℕ) (Rule : X → Result B F → Type 0) where
    abbrev pub holding_by : (o : Option X) → get (tabled es) n ≡ o → ((x : X) → Finds view (Rule x)) → Finds view (λ out. (x : X) × (get (tabled es) n ≡ Some x) × Rule x out)
    holding_by None e find = lacks
    holding_by (Some x) e find = so (λ out holds. (x, e, holds)) (find x)

    abbrev pub holding : ((x : X) → Finds view (Rule x)) → Finds view (λ out. (x : X) × (get (tabled es) n ≡ Some x) × Rule x out)
    holding find = holding_by (at es n) (get_is es n) find

module _ {B C D F : Type 0} {other : C → D} {First : Result B F → Type 0} (next : B → Result D F → Type 0) where
  abbrev pub after : (x : B) → First (Ok x) → Finds other (next x) → Finds other (Then First next)
  after x first lacks = lacks
  after x first (found out rest) = found out (Ok x, first, rest)

  abbrev pub follow : {A : Type 0} {view : A → B} → Finds view First → ((x : A) → Finds other (next (view x))) → Finds other (Then First next)
  follow lacks rest = lacks
  follow {view = view} (found (Ok x) first) rest = after (view x) first (rest x)
  follow (found (Err fault) first) rest = found (Err fault) (Err fault, first, refl)

-- one after another
module _ {A B : Type 0} (Rule : State → A → Result (B × State) PeerFault → Type 0) (find : (k : Known) (x : A) → Finds (beside {A = B}) (Rule (state k) x)) where
  abbrev pub find_each : (k : Known) (xs : List A) → Finds (beside {A = List B}) (Each Rule (state k) xs)
  find_each k [] = found (Ok ([], k)) refl
  find_each k (x ∷ xs) = follow _ (find k x) (λ first. follow _ (find_each first.1 xs) (λ rest. found (Ok (first.0 ∷ rest.0, rest.1)) refl))
