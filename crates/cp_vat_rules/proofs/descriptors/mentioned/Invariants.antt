use Rattle.std.proofs.Common.{◌≡◌, take}
use Rattle.cp_vat_machine.specs.Writing.{mentions_of}
use Rattle.cp_vat_rules.proofs.descriptors.mentioned.Given as goal

abbrev pub invariant-loop-descriptor : goal.invariant-loop-descriptor
invariant-loop-descriptor l = l.ids.items ≡ mentions_of (take l.descriptor-index l.table)
