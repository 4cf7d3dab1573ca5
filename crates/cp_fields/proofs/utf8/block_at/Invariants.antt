use Rattle.std.proofs.Common.{◌≡◌, ℕ, ◌+◌, ◌<◌, length, get_or}
use Rattle.cp_fields.specs.Blocks.{byte_before}
use Rattle.cp_fields.proofs.utf8.block_at.Given as goal

abbrev pub invariant-loop-i : goal.invariant-loop-i
invariant-loop-i l = (length l.block ≡ 64) × ((k : ℕ) → k < l.i → get_or l.block k 0 ≡ byte_before l.words l.end (l.first + k))
