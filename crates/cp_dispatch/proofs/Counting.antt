-- How holders are counted.
use Rattle.std.proofs.Common.{◌≡◌, ◌<◌, ◌+◌, ℕ, take, drop, get_or, suc, arith, length, List, [], ◌∷◌, ◌++◌, refl, sym, ap, ◌∙◌}
use Rattle.std.proofs.Math.Seq.{drop-cons}
use Rattle.std.proofs.lemmas.List.{take_more}
use Rattle.cp_tables.specs.Table.{Table}
use Rattle.cp_dispatch.specs.Holders.{held_by_less, held_by_one_more, held_by_more, lowered}

-- the last of these imports is counted last
counted_last : (xs : List ℕ) (i : ℕ) (held : Table ℕ) → held_by_more held (xs ++ i ∷ []) ≡ held_by_one_more (held_by_more held xs) i
counted_last [] i held = refl
counted_last (x ∷ xs) i held = counted_last xs i (held_by_one_more held x)

module _ (items : List ℕ) (i d : ℕ) (inside : i < length items) where
  -- one is counted after the first
  pub counted_so_far : (held so_far : Table ℕ) → so_far ≡ held_by_more held (take i items) → held_by_one_more so_far (get_or items i d) ≡ held_by_more held (take (i + 1) items)
  counted_so_far held so_far e =
      ap (λ (t : Table ℕ). held_by_one_more t (get_or items i d)) e
      ∙ sym (counted_last (take i items) (get_or items i d) held)
      ∙ ap (λ (xs : List ℕ). held_by_more held xs) (sym (take_more items i d inside))

  -- one is counted before the others
  pub counted_before : (held : Table ℕ) → held_by_more (held_by_one_more held (get_or items i d)) (drop (i + 1) items) ≡ held_by_more held (drop i items)
  counted_before held =
      let next : i + 1 ≡ suc i = omega arith in
      ap (λ (n : ℕ). held_by_more (held_by_one_more held (get_or items i d)) (drop n items)) next
      ∙ sym (ap (λ (xs : List ℕ). held_by_more held xs) (drop-cons items i d inside))

  -- one is held less before the others
  pub lowered_before : (held : Table ℕ) → held_by_less (lowered held (get_or items i d)) (drop (i + 1) items) ≡ held_by_less held (drop i items)
  lowered_before held =
      let next : i + 1 ≡ suc i = omega arith in
      ap (λ (n : ℕ). held_by_less (lowered held (get_or items i d)) (drop n items)) next
      ∙ sym (ap (λ (xs : List ℕ). held_by_less held xs) (drop-cons items i d inside))
