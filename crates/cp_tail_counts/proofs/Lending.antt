-- What results lend the vat is what it takes in of them.
use Rattle.std.specs.Prelude.{◌≡◌, refl, ℕ, ◌+◌, ◌-◌, ◌^◌, ◌<◌, ◌==◌, min, map, if◌then◌else◌, Bool, true, false, List, [], ◌∷◌, Option, Some, None}
use Rattle.std.specs.Option.{option_map_or}
use Rattle.std.specs.FinMap.{get}
use Rattle.std.proofs.Common.{arith, sym, ap, subst, ◌∙◌}
use Rattle.cp_tables.specs.Table.{Table}
use Rattle.cp_tables.specs.declared.exchange.Stage.{Stage}
use Rattle.cp_tables.specs.declared.exchange.Stage.TheVariants as stages
use Rattle.cp_messages.specs.declared.descriptor.Descriptor.{Descriptor}
use Rattle.cp_messages.specs.declared.descriptor.Descriptor.TheVariants as descriptors
use Rattle.cp_messages.specs.declared.returned.Returned.{Returned}
use Rattle.cp_messages.specs.declared.returned.Returned.TheVariants as returns
use Rattle.cp_vat_machine.specs.Receiving.{times}
use Rattle.cp_vat_machine.specs.Give.{returned_mentions}
use Rattle.cp_vat_machine.specs.Writing.{mentions_of}
use Rattle.cp_vat_machine.proofs.Basics.{is_equal, put_at}
use Rattle.cp_vat_pair_laws.specs.Accounts.{Account, is_given_up, is_finish_noted}
use Rattle.cp_vat_pair_laws.specs.Expected.{IsAwaited, IsNotReturned, stage_of}
use Rattle.cp_vat_pair_laws.proofs.counts.rules.Counted.{times_one, times_more}
use Rattle.cp_tail_calls.specs.Seen.{other_way, seen_from_here}
use Rattle.cp_tail_calls.specs.Sending.{lent_all, lent_by, lent_one}

-- how often an import is lent
abbrev count : Table ℕ → ℕ → ℕ
count lent i = option_map_or (λ n. n) (get lent i) 0

module _ (i : ℕ) where
  hosted : (lent : Table ℕ) (j : ℕ) (b : Bool) → (j == i) ≡ b → count lent i + (if b then 1 else 0) < 2 ^ 32
      → count (lent_one lent (descriptors.SenderHosted j)) i ≡ count lent i + (if b then 1 else 0)
  hosted lent j true e less =
      rw
      (put_at lent j i (min (count lent j + 1) (2 ^ 32 - 1)) true e)
      (subst (λ (j : ℕ). min (count lent j + 1) (2 ^ 32 - 1) ≡ count lent i + 1) (sym (is_equal j i e)) (one_more (count lent i) less))
    where
      one_more : (n : ℕ) → n + 1 < 2 ^ 32 → min (n + 1) (2 ^ 32 - 1) ≡ n + 1
      one_more n less = omega arith
  hosted lent j false e less = rw (put_at lent j i (min (count lent j + 1) (2 ^ 32 - 1)) false e) (omega arith)

  one_first : (j : ℕ) (ids : List ℕ) (b : Bool) → (j == i) ≡ b → times i (j ∷ ids) ≡ (if b then 1 else 0) + times i ids
  one_first j ids b e = times_more i j ids ∙ ap (λ (n : ℕ). n + times i ids) (times_one i j b e)

  lent_table : (table : List Descriptor) (lent : Table ℕ) → count lent i + times i (mentions_of (map other_way table)) < 2 ^ 32
      → count (lent_all lent (map other_way table)) i ≡ count lent i + times i (mentions_of (map other_way table))
  lent_table [] lent less = omega arith
  lent_table (d ∷ table) lent less = by d less (λ lent less. lent_table table lent less)
    where
      next : (n one all after whole : ℕ) → whole ≡ one + all → n + whole < 2 ^ 32 → after ≡ n + one → after + all < 2 ^ 32
      next n one all after whole e less is = omega arith

      sum : (n one all after whole last : ℕ) → whole ≡ one + all → after ≡ n + one → last ≡ after + all → last ≡ n + whole
      sum n one all after whole last e is more = omega arith

      first : (n one all whole : ℕ) → whole ≡ one + all → n + whole < 2 ^ 32 → n + one < 2 ^ 32
      first n one all whole e less = omega arith

      hosts : (j : ℕ) → count lent i + times i (j ∷ mentions_of (map other_way table)) < 2 ^ 32
          → ((lent : Table ℕ) → count lent i + times i (mentions_of (map other_way table)) < 2 ^ 32
          → count (lent_all lent (map other_way table)) i ≡ count lent i + times i (mentions_of (map other_way table)))
          → count (lent_all (lent_one lent (descriptors.SenderHosted j)) (map other_way table)) i ≡ count lent i + times i (j ∷ mentions_of (map other_way table))
      hosts j less rest =
          let ids = mentions_of (map other_way table) in
          let one = if j == i then 1 else 0 in
          let whole = one_first j ids (j == i) refl in
          let after = hosted lent j (j == i) refl (first (count lent i) one (times i ids) (times i (j ∷ ids)) whole less) in
          let lent_now = lent_one lent (descriptors.SenderHosted j) in
          sum
          (count lent i)
          one
          (times i ids)
          (count lent_now i)
          (times i (j ∷ ids))
          (count (lent_all lent_now (map other_way table)) i)
          whole
          after
          (rest lent_now (next (count lent i) one (times i ids) (count lent_now i) (times i (j ∷ ids)) whole less after))

      by : (d : Descriptor) → count lent i + times i (mentions_of (other_way d ∷ map other_way table)) < 2 ^ 32
          → ((lent : Table ℕ) → count lent i + times i (mentions_of (map other_way table)) < 2 ^ 32
          → count (lent_all lent (map other_way table)) i ≡ count lent i + times i (mentions_of (map other_way table)))
          → count (lent_all (lent_one lent (other_way d)) (map other_way table)) i ≡ count lent i + times i (mentions_of (other_way d ∷ map other_way table))
      by descriptors.None less rest = rest lent less
      by (descriptors.SenderHosted e) less rest = rest lent less
      by (descriptors.SenderPromise e) less rest = rest lent less
      by (descriptors.ReceiverHosted j) less rest = hosts j less rest
      by (descriptors.ReceiverAnswer answer) less rest = rest lent less
      by (descriptors.ThirdPartyHosted x) less rest = rest lent less
      by (descriptors.Unknown n) less rest = rest lent less

  -- what a question takes in, by its stage
  lent_at : (stage : Stage) (returned x : Returned) (lent : Table ℕ) → IsNotReturned stage → returned ≡ seen_from_here x
      → count lent i + times i (if is_finish_noted stage then [] else returned_mentions returned) < 2 ^ 32
      → count (lent_by lent returned (Some stage)) i ≡ count lent i + times i (if is_finish_noted stage then [] else returned_mentions returned)
  lent_at stages.Open returned (returns.Results p) lent due is less =
      rw (is) (lent_table p.cap_table lent (subst (λ (r : Returned). count lent i + times i (returned_mentions r) < 2 ^ 32) is less))
  lent_at stages.Open returned x lent due is less = rw (is) (omega arith)
  lent_at stages.Finished returned (returns.Results p) lent due is less = rw (is) (omega arith)
  lent_at stages.Finished returned x lent due is less = rw (is) (omega arith)
  lent_at stages.Returned returned x lent due is less = absurd due

  pub lent_as : (o : Option Account) (returned x : Returned) (lent : Table ℕ) → IsAwaited o → returned ≡ seen_from_here x
      → count lent i + times i (if is_given_up o then [] else returned_mentions returned) < 2 ^ 32
      → count (lent_by lent returned (stage_of o)) i ≡ count lent i + times i (if is_given_up o then [] else returned_mentions returned)
  lent_as None returned x lent due is less = absurd due
  lent_as (Some account) returned x lent due is less = lent_at account.stage returned x lent due is less
