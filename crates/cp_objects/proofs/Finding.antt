-- Those that a loop found, before those that it finds in the rest.
use Rattle.std.proofs.Common.{◌≡◌, ◌∙◌, ℕ, Bool, true, false, cond, List, [], ◌∷◌, ◌++◌, append_assoc}
use Rattle.std.proofs.lemmas.Bool.{false≢true}

pub one_more : (b : Bool) (found : List ℕ) (n : ℕ) (rest all : List ℕ) → b ≡ true → found ++ cond b (n ∷ rest) rest ≡ all → (found ++ n ∷ []) ++ rest ≡ all
one_more true found n rest all e before = append_assoc found (n ∷ []) rest ∙ before
one_more false found n rest all e before = absurd (false≢true e)
