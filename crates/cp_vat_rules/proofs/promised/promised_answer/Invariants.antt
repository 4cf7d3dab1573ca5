use Rattle.std.proofs.Common.{◌≡◌, map, take}
use Rattle.cp_messages.specs.declared.promised_answer.Op.TheVariants as ops
use Rattle.cp_vat_rules.proofs.promised.promised_answer.Given as goal

abbrev pub invariant-loop-field : goal.invariant-loop-field
invariant-loop-field l = l.ops.items ≡ map (λ field. ops.GetPointerField field) (take l.field-index l.path)
