-- Lists that are looked at by their indices.
use Rattle.std.proofs.Common.{◌≡◌, ◌<◌, ◌≤◌, ◌+◌, ℕ, Bool, true, false, List, length, take, get_or, refl, sym, ap, ◌∙◌}
use Rattle.std.specs.List.{list_all}
use Rattle.std.proofs.lemmas.List.{take_all}
use Rattle.std.proofs.lemmas.List.Folds.{list_all_at, list_all_more}

module _ {X : Type 0} (p : X → Bool) (xs : List X) (i : ℕ) where
  -- it holds of one more
  pub all_more : (x : X) → i < length xs → x ≡ get_or xs i x → list_all p (take i xs) ≡ true → p x ≡ true → list_all p (take (i + 1) xs) ≡ true
  all_more x inside is before holds = rw (list_all_more p xs i x inside, before, ← is, holds) refl

  -- it fails of one
  pub all_fails : (x : X) → i < length xs → x ≡ get_or xs i x → p x ≡ false → false ≡ list_all p xs
  all_fails x inside is fails = sym (list_all_at p xs i x inside (ap p (sym is) ∙ fails))

  -- none is left
  pub all_done : length xs ≤ i → list_all p (take i xs) ≡ true → true ≡ list_all p xs
  all_done past before = sym before ∙ ap (list_all p) (take_all i xs past)
