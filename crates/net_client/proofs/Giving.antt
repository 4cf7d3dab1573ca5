-- Bytes that are given out.
use Rattle.std.proofs.Common.{◌≡◌, ◌+◌, ◌∙◌, ◌≤◌, min, ℕ, List, [], ◌++◌, length, take, drop, sym, ap, subst}
use Rattle.std.proofs.lemmas.List.{take-append-drop, drop-drop, length-take-le}
use Rattle.std.proofs.Math.Seq.{take-append_seam}
use Rattle.std.proofs.Math.Nat.{min-le_left}

-- The first bytes that are there, as many as there is room for, were copied to where others follow.
pub given_out : (now left bytes copied rest : List ℕ) (given count room : ℕ) → drop given bytes ≡ now → left ≡ now → count ≡ min (length left) room
    → copied ≡ take count left → now ≡ take count (copied ++ rest) ++ drop (given + count) bytes
given_out now left bytes copied rest given count room seen same fits is =
    sym (take-append-drop count now) ∙ ap (λ (xs : List ℕ). xs ++ drop count now) (sym first ∙ sym taken)
    ∙ ap (λ (xs : List ℕ). take count (copied ++ rest) ++ drop count xs) (sym seen)
    ∙ ap (λ (xs : List ℕ). take count (copied ++ rest) ++ xs) (drop-drop count given bytes)
  where
    first : copied ≡ take count now
    first = is ∙ ap (λ (xs : List ℕ). take count xs) same

    few : count ≤ length now
    few = subst (λ (n : ℕ). n ≤ length now) (sym (fits ∙ ap (λ (xs : List ℕ). min (length xs) room) same)) (min-le_left (length now) room)

    long : length copied ≡ count
    long = ap (λ (xs : List ℕ). length xs) first ∙ length-take-le count now few

    taken : take count (copied ++ rest) ≡ copied
    taken = ap (λ (n : ℕ). take n (copied ++ rest)) (sym long) ∙ take-append_seam copied rest
