use Rattle.std.proofs.Common.{◌≡◌, take, drop}
use Rattle.cp_dispatch.specs.Holders.{held_by_more}
use Rattle.cp_dispatch.proofs.holders.ImportHolders.raise_each.Given as goal

-- the imports so far have a holder more, and once those that are left have, all have
abbrev pub invariant-loop-import : goal.invariant-loop-import
invariant-loop-import l =
    (l.self.counts ≡ held_by_more l.fn.self.counts (take l.import-index l.imports))
    × (held_by_more l.self.counts (drop l.import-index l.imports) ≡ held_by_more l.fn.self.counts l.imports)
