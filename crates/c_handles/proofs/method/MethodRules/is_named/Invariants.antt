-- `is_named` has looked at the first of the methods, and none of them is the one.
use Rattle.std.proofs.Common.{◌≡◌, false, take}
use Rattle.std.specs.List.{list_any}
use Rattle.c_handles.specs.Rules.{is_method}
use Rattle.c_handles.proofs.method.MethodRules.is_named.Given as goal

abbrev pub invariant-loop-named : goal.invariant-loop-named
invariant-loop-named l = list_any (is_method l.interface l.method) (take l.named-index l.self.methods.items) ≡ false
