-- Counts of exports and imports.
use Rattle.std.proofs.Common.{◌≡◌, ◌≢◌, ◌↔◌, Bool, false, true≢false, IsTrue, IsSome, Option, ℕ, ◌+◌, ◌-◌, ◌≤◌, Result, Ok, Err, Some, None, IfOk, IfErr, OnOk, OnErr, refl, sym, ◌∙◌, arith}
use Rattle.std.specs.FinMap.{get, insert, remove, empty, get-empty}
use Rattle.std.specs.Ordering.{nat_cmp}
use Rattle.cp_tables.specs.Table.{Table}
use Rattle.cp_tables.specs.Counted.{IsCount, AreCounts, new_counted, count_of, with_count}
use Rattle.cp_tables.specs.declared.counted.Counted.{Counted}
use Rattle.cp_tables.specs.declared.fault.TableFault.{TableFault}
use Rattle.cp_tables.specs.declared.fault.TableFault.TheVariants.{Full}
use Rattle.cp_tables.proofs.TableLemmas.{get-insert_same, get-insert_other, get-remove_same, get-remove_other, insert-same, every-insert, every-remove}

-- a table without entries has no count that is none
pub AreCounts-empty : (X : Type 0) → AreCounts {X = X} empty
AreCounts-empty X id = rw (get-empty nat_cmp id) tt

module _ {X : Type 0} where
  -- an entry with a count may be put in
  pub AreCounts-insert : (table : Table (Counted X)) (id : ℕ) (entry : Counted X) → AreCounts table → IsCount entry.count → AreCounts (insert table id entry)
  AreCounts-insert table id entry = every-insert (λ e. IsCount e.count) table id entry

  -- any entry may be taken out
  pub AreCounts-remove : (table : Table (Counted X)) (id : ℕ) → AreCounts table → AreCounts (remove table id)
  AreCounts-remove table id = every-remove (λ e. IsCount e.count) table id

  -- an entry that is there has a count
  pub count_here : (table : Table (Counted X)) (id : ℕ) (entry : Counted X) → Some entry ≡ get table id → AreCounts table → IsCount entry.count
  count_here table id entry there counts = rw (← there) at (counts id)

  -- a new entry is counted once, under whatever number
  pub opened_counts : (table new : Table (Counted X)) (kept : X) (r : Result ℕ TableFault) → IfOk r (λ k. (get table k ≡ None) × (new ≡ insert table k (new_counted kept))) → OnErr r (new ≡ table) → AreCounts table → AreCounts new
  opened_counts table new kept (Ok k) ok err counts = rw ok.1 (AreCounts-insert table k (new_counted kept) counts (omega arith, omega arith))
  opened_counts table new kept (Err fault) ok err counts = rw err counts

  -- the same, under a number that was asked for
  pub opened_counts_at : {A : Type 0} (table new : Table (Counted X)) (k : ℕ) (kept : X) (r : Result A TableFault) → OnOk r (new ≡ insert table k (new_counted kept)) → OnErr r (new ≡ table) → AreCounts table → AreCounts new
  opened_counts_at table new k kept (Ok done) ok err counts = rw ok (AreCounts-insert table k (new_counted kept) counts (omega arith, omega arith))
  opened_counts_at table new k kept (Err fault) ok err counts = rw err counts

  -- raised or refused, a count stays one
  pub raised_count : {A : Type 0} (old new : Counted X) (r : Result A TableFault) → IfOk r (λ _. (old.count ≢ 4294967295) × (new ≡ record old { count = old.count + 1 })) → IfErr r (λ fault. (fault ≡ Full) × (old.count ≡ 4294967295) × (new ≡ old)) → IsCount old.count → IsCount new.count
  raised_count old new (Ok done) ok err count = let below = ok.0 in rw ok.1 (omega arith, omega (arith, count.1))
  raised_count old new (Err fault) ok err count = rw err.2 count

  -- lowered by less than it is, a count stays one
  pub lowered_count : (old new : Counted X) (n : ℕ) (goes : Bool) → (n ≤ old.count) × (new ≡ record old { count = old.count - n }) → (IsTrue goes ↔ (n ≡ old.count)) → goes ≡ false → IsCount old.count → IsCount new.count
  lowered_count old new n goes lowered all stays count =
      let differs : n ≢ old.count = λ e. true≢false (sym (all.1 e) ∙ stays) in
      rw lowered.1 (omega (arith, lowered.0), omega (arith, count.1))

  -- lowered by none, nothing changes
  pub lowered_by_none : (table : Table (Counted X)) (id : ℕ) (old new : Counted X) (n : ℕ) → Some old ≡ get table id → new ≡ record old { count = old.count - n } → n ≡ 0 → insert table id new ≡ table
  lowered_by_none table id old new n there lowered none =
      let same : old.count - n ≡ old.count = omega arith in
      rw (lowered, same) (insert-same table id old (sym there))

  -- an entry that was written back as it was
  pub written_back : (table : Table (Counted X)) (id : ℕ) (old new : Counted X) → Some old ≡ get table id → new ≡ old → insert table id new ≡ table
  written_back table id old new there same = rw same (insert-same table id old (sym there))

  -- ---- what a count is after each step, for callers
  pub count_of-insert_same : (table : Table (Counted X)) (id : ℕ) (entry : Counted X) → count_of (insert table id entry) id ≡ entry.count
  count_of-insert_same table id entry = rw (get-insert_same table id entry)

  pub count_of-insert_other : (table : Table (Counted X)) (id other : ℕ) (entry : Counted X) → other ≢ id → count_of (insert table id entry) other ≡ count_of table other
  count_of-insert_other table id other entry apart = rw (get-insert_other table id other entry apart)

  pub count_of-remove_same : (table : Table (Counted X)) (id : ℕ) → count_of (remove table id) id ≡ 0
  count_of-remove_same table id = rw (get-remove_same table id)

  pub count_of-remove_other : (table : Table (Counted X)) (id other : ℕ) → other ≢ id → count_of (remove table id) other ≡ count_of table other
  count_of-remove_other table id other apart = rw (get-remove_other table id other apart)

  pub count_of-with_count_same : (table : Table (Counted X)) (id count : ℕ) → IsSome (get table id) → count_of (with_count table id count) id ≡ count
  count_of-with_count_same table id count there = by_entry (get table id) refl
    where
      by_entry : (o : Option (Counted X)) → get table id ≡ o → count_of (with_count table id count) id ≡ count
      by_entry None is = absurd (true≢false (sym (rw is at there)))
      by_entry (Some entry) is = rw is (count_of-insert_same table id (record entry { count = count }))

  pub count_of-with_count_other : (table : Table (Counted X)) (id other count : ℕ) → other ≢ id → count_of (with_count table id count) other ≡ count_of table other
  count_of-with_count_other table id other count apart = by_entry (get table id) refl
    where
      by_entry : (o : Option (Counted X)) → get table id ≡ o → count_of (with_count table id count) other ≡ count_of table other
      by_entry None is = rw is refl
      by_entry (Some entry) is = rw is (count_of-insert_other table id other (record entry { count = count }) apart)
