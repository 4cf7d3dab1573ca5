use Rattle.std.proofs.Common.{◌≡◌, ℕ, List, ◌++◌, length}
use Rattle.cp_relay.specs.Relay.{Gives}
use Rattle.cp_relay.proofs.relay.Relay.feed.Given as goal

-- a front of the piece was fed
abbrev pub invariant-feeding : goal.invariant-feeding
invariant-feeding g l = (fed : List ℕ) × (l.fn.piece ≡ fed ++ l.left) × Gives g.V.Visitor.says l.fn.self fed l.self l.fn.visitor l.visitor l.fn.out.items l.out.items

abbrev pub decreases-feeding : goal.decreases-feeding
decreases-feeding g l = length l.left
