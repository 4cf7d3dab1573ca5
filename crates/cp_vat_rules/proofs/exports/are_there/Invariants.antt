use Rattle.std.proofs.Common.{◌≡◌, is_none, false, take}
use Rattle.std.specs.List.{list_any}
use Rattle.std.specs.FinMap as map
use Rattle.cp_vat_rules.proofs.exports.are_there.Given as goal

-- those so far are there
abbrev pub invariant-loop-id : goal.invariant-loop-id
invariant-loop-id l = list_any (λ e. is_none (map.get l.exports e)) (take l.id-index l.ids) ≡ false
