use Rattle.std.proofs.Common.{◌≡◌, false, take}
use Rattle.std.specs.List.{list_any}
use Rattle.cp_relay.specs.Rules.{is_granted}
use Rattle.cp_relay.proofs.rules.Rules.is_granted.Given as goal

abbrev pub invariant-loop-grant : goal.invariant-loop-grant
invariant-loop-grant l = list_any (is_granted l.marks l.method.interface l.method.method) (take l.grant-index l.self.grants.items) ≡ false
