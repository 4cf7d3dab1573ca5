use Rattle.std.proofs.Common.{◌≡◌, ◌+◌, take}
use Rattle.cp_vat_state.specs.Counts.{number_of, times_in}
use Rattle.cp_vat_state.specs.declared.sought.Sought.{Sought}
use Rattle.cp_vat_state.proofs.holders.Holders.raise_all.Given as goal

-- what was counted more so far
abbrev pub invariant-loop-place : goal.invariant-loop-place
invariant-loop-place l = (s : Sought) → number_of l.self s ≡ number_of l.initial.self s + times_in (take l.place l.caps) s
