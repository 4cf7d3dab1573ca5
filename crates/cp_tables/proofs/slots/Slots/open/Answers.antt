use Rattle.std.proofs.Common.{◌∙◌, ◌≡◌, sym, arith}
use Rattle.slab.specs.Slab.{slab_len}
use Rattle.cp_tables.proofs.TableLemmas.{get-seen, len-seen, seen-insert}
use Rattle.cp_tables.proofs.slots.Slots.open.Goals as goal

pub invariant_of-self-2 : goal.invariant_of-self-2
invariant_of-self-2 g c =
    let len : c.len.result ≡ slab_len c.self.inside.slab = rw (c.len.ensures.value, ← c.self.view_is) (len-seen c.self.inside.slab) in
    omega (arith, len, c.in_ok-insert.ensures.len)

pub returns-clause-opened : goal.returns-clause-opened
returns-clause-opened g c =
    let key = c.in_ok-insert.ensures.key ∙ sym c.vacant_key-key.ensures.value in
    rw (← c.self.view_is) (
      get-seen c.self.inside.slab c.vacant_key-key.result ∙ c.vacant_key-key.ensures.vacant,
      seen-insert c.self.inside.slab c.insert.new.self c.vacant_key-key.result c.args.entry (rw key at c.in_ok-insert.ensures.updates),
    )
