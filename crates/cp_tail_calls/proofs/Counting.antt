-- What a table lends is counted one by one.
use Rattle.std.proofs.Common.{◌≡◌, ℕ, suc, ◌+◌, ◌<◌, List, drop, get_or, length, sym, ap, ◌∙◌, drop-cons, arith}
use Rattle.cp_tables.specs.Table.{Table}
use Rattle.cp_messages.specs.declared.descriptor.Descriptor.{Descriptor}
use Rattle.cp_tail_calls.specs.Sending.{lent_all, lent_one}

module _ (table : List Descriptor) (i : ℕ) (d : Descriptor) (inside : i < length table) (item : d ≡ get_or table i d) where
  -- one is counted before the others
  pub lent_before : (lent : Table ℕ) → lent_all (lent_one lent d) (drop (i + 1) table) ≡ lent_all lent (drop i table)
  lent_before lent =
      let next : i + 1 ≡ suc i = omega arith in
      ap (λ (n : ℕ). lent_all (lent_one lent d) (drop n table)) next
      ∙ ap (λ (e : Descriptor). lent_all (lent_one lent e) (drop (suc i) table)) item
      ∙ sym (ap (λ (xs : List Descriptor). lent_all lent xs) (drop-cons table i d inside))
