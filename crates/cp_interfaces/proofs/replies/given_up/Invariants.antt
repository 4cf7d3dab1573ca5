use Rattle.std.proofs.Common.{◌≡◌, drop}
use Rattle.cp_interfaces.specs.Replies.{given_up, given_up_after}
use Rattle.cp_interfaces.proofs.replies.given_up.Given as goal

-- the imports that were noted, and those of the capabilities that are left
abbrev pub invariant-loop-cap : goal.invariant-loop-cap
invariant-loop-cap l = given_up_after l.keeps l.noted.items (drop l.cap-index l.cap-items) ≡ given_up l.keeps l.cap-items
