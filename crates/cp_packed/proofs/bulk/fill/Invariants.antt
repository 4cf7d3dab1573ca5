use Rattle.std.proofs.Common.{length, ◌-◌, ◌≤◌, ◌≡◌}
use Rattle.cp_packed.specs.Groups.{FillsFront}
use Rattle.cp_packed.proofs.bulk.fill.Given as goal

abbrev pub invariant-filling : goal.invariant-filling
invariant-filling l = FillsFront (length l.fn.block) l.fn.left l.block l.filled l.left × (l.filled ≤ length l.fn.block) × (length l.block ≡ length l.fn.block)

abbrev pub decreases-filling : goal.decreases-filling
decreases-filling l = length l.initial.block - l.filled
