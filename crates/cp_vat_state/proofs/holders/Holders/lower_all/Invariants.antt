use Rattle.std.proofs.Common.{◌≡◌, ◌-◌, take}
use Rattle.cp_vat_state.specs.Counts.{number_of, times_in}
use Rattle.cp_vat_state.specs.declared.sought.Sought.{Sought}
use Rattle.cp_vat_state.proofs.holders.Holders.lower_all.Given as goal

-- what was counted less so far
abbrev pub invariant-loop-cap : goal.invariant-loop-cap
invariant-loop-cap l = (s : Sought) → number_of l.self s ≡ number_of l.initial.self s - times_in (take l.cap-index l.caps) s
