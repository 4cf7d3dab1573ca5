use Rattle.std.proofs.Common.{◌≡◌, drop}
use Rattle.cp_dispatch.specs.Holders.{held_by_less}
use Rattle.cp_dispatch.proofs.holders.ImportHolders.lower_each.Given as goal

-- once those that are left are held once less, all are
abbrev pub invariant-loop-import : goal.invariant-loop-import
invariant-loop-import l = held_by_less l.self.counts (drop l.import-index l.imports) ≡ held_by_less l.fn.self.counts l.imports
