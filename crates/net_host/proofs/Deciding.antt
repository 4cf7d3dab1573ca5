-- What follows of a test whether there is something, and of a result that is handed on.
use Rattle.std.proofs.Common.{◌≡◌, ◌≢◌, ◌↔◌, ◌∙◌, ◌==◌, Bool, not, ℕ, List, [], ◌∷◌, Result, Ok, Err, IsTrue, IfErr, OnErr, length, refl, sym, ap, subst, arith}
use Rattle.std.specs.Result.{IsErr, IsErrAnd}
use Rattle.std.proofs.lemmas.Bool.{eq-eqb, false≢true, ne_eqb, not-true}

-- there is something where it isn't so that there is nothing
pub has_some : (b : Bool) (count : ℕ) (xs : List ℕ) → b ≡ (count == 0) → count ≡ length xs → IsTrue (not b) ↔ (xs ≢ [])
has_some b count [] e len = (λ t. absurd (false≢true (sym (not-true b t) ∙ e ∙ eq-eqb count 0 len)), λ some. absurd (some refl))
has_some b count (x ∷ xs) e len = (λ t none. absurd (cc), λ some. ap not (e ∙ ne_eqb count 0 (λ z. omega arith)))

-- what is so of an error that is handed on, or of the one that is made of it
pub err_same : {T E : Type 0} (Q : E → Type 0) (x : E) (r : Result T E) → IsErr r × IsErrAnd r (λ y. y ≡ x) → Q x → IfErr r Q
err_same Q x (Ok y) h q = tt
err_same Q x (Err e) h q = subst (λ y. Q y) (sym h.1) q

pub err_from : {T E : Type 0} {P Q : E → Type 0} (r : Result T E) → IsErr r × IsErrAnd r P → ((e : E) → P e → Q e) → IfErr r Q
err_from (Ok x) h f = tt
err_from (Err e) h f = f e h.1
