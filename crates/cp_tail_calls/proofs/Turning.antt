-- A list is turned one by one.
use Rattle.std.proofs.Common.{◌≡◌, ℕ, suc, ◌+◌, ◌<◌, List, [], ◌∷◌, ◌++◌, map, take, drop, set, get_or, length, sym, ap, ◌∙◌, append_assoc, drop-cons, arith}
use Rattle.std.proofs.lemmas.List.{take_more_set, drop-set-lt}

module _ {X : Type 0} (f : X → X) (xs : List X) (i : ℕ) (x : X) (inside : i < length xs) (item : x ≡ get_or xs i x) where
  -- one more is turned, and the others are still to be
  pub turned_one : take (i + 1) (set xs i (f x)) ++ map f (drop (i + 1) (set xs i (f x))) ≡ take i xs ++ map f (drop i xs)
  turned_one =
      let next : i < i + 1 = omega arith in
      let one : suc i ≡ i + 1 = omega arith in
      let rest : drop i xs ≡ x ∷ drop (i + 1) xs =
      drop-cons xs i x inside ∙ ap (λ (n : ℕ). get_or xs i x ∷ drop n xs) one ∙ ap (λ (y : X). y ∷ drop (i + 1) xs) (sym item)
      in
      ap (λ (ys : List X). ys ++ map f (drop (i + 1) (set xs i (f x)))) (take_more_set xs i (f x) inside)
      ∙ ap (λ (ys : List X). (take i xs ++ f x ∷ []) ++ map f ys) (drop-set-lt (i + 1) xs i (f x) next)
      ∙ append_assoc (take i xs) (f x ∷ []) (map f (drop (i + 1) xs))
      ∙ ap (λ (ys : List X). take i xs ++ map f ys) (sym rest)
