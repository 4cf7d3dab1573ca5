-- `name_all` has named the first of the numbers.
use Rattle.std.proofs.Common.{take}
use Rattle.std.specs.List.{AllZip}
use Rattle.c_handles.specs.Caps.{Names}
use Rattle.c_handles.proofs.caps.name_all.Given as goal

abbrev pub invariant-naming : goal.invariant-naming
invariant-naming l = AllZip Names (take l.numbers-index l.table) l.caps.items
