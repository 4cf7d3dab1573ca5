use Rattle.std.proofs.Common.{◌≡◌, drop}
use Rattle.cp_relay.specs.Rules.{marks_after}
use Rattle.cp_relay.proofs.rules.marks_after.Given as goal

abbrev pub invariant-loop-grant : goal.invariant-loop-grant
invariant-loop-grant l =
    marks_after l.method.interface l.method.method l.marks (drop l.grant-index l.grants) ≡ marks_after l.method.interface l.method.method 0 l.grants
