use Rattle.std.proofs.Common.{◌≡◌, drop}
use Rattle.cp_relay.specs.Rules.{name_of}
use Rattle.cp_relay.proofs.rules.Rules.name_of.Given as goal

abbrev pub invariant-loop-named : goal.invariant-loop-named
invariant-loop-named l = name_of l.method.interface l.method.method (drop l.named-index l.self.names.items) ≡ name_of l.method.interface l.method.method l.self.names.items
