-- The memory of results that no question took yet.
use Rattle.std.proofs.Common.{◌≡◌, ℕ, ◌+◌, ◌-◌, Option, Some, None, refl, arith}
use Rattle.std.specs.FinMap.{get, insert, remove}
use Rattle.cp_tables.specs.Table.{Table}
use Rattle.cp_messages.specs.declared.returned.Return.{Return}
use Rattle.cp_refs.proofs.Sums.{of_entry, held-insert, held-remove}
use Rattle.cp_tail_calls.specs.Results.{memory_at, return_memory, returns_memory}

at_entry : (o : Option Return) → of_entry return_memory o ≡ memory_at o
at_entry None = refl
at_entry (Some r) = refl

-- a Return is put in place of what was there, or that is taken out
pub put_more : (results : Table Return) (call : ℕ) (r : Return) (bytes others new : ℕ) → bytes ≡ returns_memory results → others ≡ bytes - memory_at (get results call) → new ≡ others + return_memory r
    → new ≡ returns_memory (insert results call r)
put_more results call r bytes others new is less more = omega (arith, is, less, more, held-insert return_memory results call r, held-remove return_memory results call, at_entry (get results call))

pub taken_less : (results : Table Return) (call : ℕ) (bytes new : ℕ) → bytes ≡ returns_memory results → new ≡ bytes - memory_at (get results call) → new ≡ returns_memory (remove results call)
taken_less results call bytes new is less = omega (arith, is, less, held-remove return_memory results call, at_entry (get results call))
