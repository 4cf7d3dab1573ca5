-- A place of a list that is changed in part lies inside it.
use Rattle.std.proofs.Common.{◌≡◌, ℕ, ◌<◌, List, ◌++◌, map, take, drop, length, ap, arith, length-append, length-take, length-drop}
use Rattle.std.proofs.lemmas.List.{length-map}

pub is_inside : {X : Type 0} (f : X → X) (xs ys : List X) (i : ℕ) → ys ≡ map f (take i xs) ++ drop i xs → i < length ys → i < length xs
is_inside f xs ys i is below =
    omega (arith, below, ap length is, length-append (map f (take i xs)) (drop i xs), length-map (take i xs) f, length-take i xs, length-drop i xs)
