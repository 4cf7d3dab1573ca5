use Rattle.std.proofs.Common.{◌≡◌, take}
use Rattle.cp_vat_machine.specs.Receiving.{path_of}
use Rattle.cp_vat_rules.proofs.promised.path_of.Given as goal

abbrev pub invariant-loop-op : goal.invariant-loop-op
invariant-loop-op l = l.fields.items ≡ path_of (take l.op-index l.transform)
