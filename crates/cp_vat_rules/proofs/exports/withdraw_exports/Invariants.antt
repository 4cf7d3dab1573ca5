use Rattle.std.proofs.Common.{◌≡◌, take}
use Rattle.cp_vat_rules.specs.Settling.{lowered_back}
use Rattle.cp_vat_rules.proofs.exports.withdraw_exports.Given as goal

-- what the rest leaves, all leave from the start
abbrev pub invariant-loop-index : goal.invariant-loop-index
invariant-loop-index l = lowered_back l.initial.exports l.ids ≡ lowered_back l.exports (take l.index l.ids)
