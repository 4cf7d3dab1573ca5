use Rattle.std.proofs.Common.{◌≡◌, false, take}
use Rattle.std.specs.List.{list_any}
use Rattle.cp_relay.specs.Rules.{is_method}
use Rattle.cp_relay.proofs.rules.Rules.is_named.Given as goal

abbrev pub invariant-loop-named : goal.invariant-loop-named
invariant-loop-named l = list_any (is_method l.method.interface l.method.method) (take l.named-index l.self.methods.items) ≡ false
