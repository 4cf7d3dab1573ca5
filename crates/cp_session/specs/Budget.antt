-- What the sessions of a host keep, and what they may keep.
use Rattle.std.specs.Prelude.{refl, ℕ, ◌+◌, ◌-◌, ◌*◌, ◌≤◌, Option, Some, None}
use Rattle.std.specs.Coded.{Coded, code_by, coded×, coded_ℕ}
use Rattle.std.specs.List.{sum_by}
use Rattle.std.specs.FinMap as map
use Rattle.cp_tables.specs.Table.{Table}

-- the share of each session, the pool for what they keep beyond their shares, and how many bytes each keeps, by its number
pub record Keeping : Type 0 where
  pub share : ℕ
  pub pool : ℕ
  pub kept : Table ℕ

-- what a session that keeps so many bytes takes of the pool: what is beyond its share
abbrev pub beyond : ℕ → ℕ → ℕ
beyond share bytes = bytes - share

-- what all sessions take of the pool, what one does, and what all but one do
abbrev pub taken_of : ℕ → Table ℕ → ℕ
taken_of share kept = sum_by (beyond share) (map.values kept)

abbrev pub own_of : ℕ → Option ℕ → ℕ
own_of share None = 0
own_of share (Some bytes) = beyond share bytes

abbrev pub others_of : ℕ → Table ℕ → ℕ → ℕ
others_of share kept session = taken_of share (map.remove kept session)

-- the most bytes that a session may keep: its share, and what the others leave of the pool
abbrev pub allowed : Keeping → ℕ → ℕ
allowed k session = k.share + (k.pool - others_of k.share k.kept session)

-- what sessions keep beyond their shares is in the pool
abbrev pub IsWithin : Keeping → Type 0
IsWithin k = taken_of k.share k.kept ≤ k.pool

-- Where sessions are within their budget, all keep no more than a share each and the pool.
abbrev pub KeepNoMore : Type 0
KeepNoMore = (k : Keeping) → IsWithin k → sum_by (λ bytes. bytes) (map.values k.kept) ≤ map.len k.kept * k.share + k.pool

-- Where sessions are within their budget and one comes to keep no more than it may, they still are; so they are where one ends.
abbrev pub StaysWithin : Type 0
StaysWithin =
    (k : Keeping) (session bytes : ℕ) → IsWithin k
    → (bytes ≤ allowed k session → IsWithin (record k { kept = map.insert k.kept session bytes })) × IsWithin (record k { kept = map.remove k.kept session })

-- they are stored as their parts
abbrev pub keeping_code : Coded Keeping
keeping_code =
    code_by (ℕ × (ℕ × Table ℕ)) (coded× coded_ℕ (coded× coded_ℕ (map.code coded_ℕ coded_ℕ))) (λ k. (k.share, (k.pool, k.kept))) (λ parts. record { share = parts.0; pool = parts.1.0; kept = parts.1.1 }) (λ _. refl)
