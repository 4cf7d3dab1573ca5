use Rattle.std.proofs.Common.{◌≡◌, arith, is_some}
use Rattle.std.specs.BTreeMap.{btree_map_len}
use Rattle.cp_tables.proofs.TableLemmas.{len-listed, listed-insert, at_most_one}
use Rattle.cp_tables.proofs.keyed.Keyed.open.Goals as goal

pub invariant_of-self-2 : goal.invariant_of-self-2
invariant_of-self-2 g c =
    let len : c.len.result ≡ btree_map_len c.self.inside.entries = rw (c.len.ensures.value, ← c.self.view_is) (len-listed c.self.inside.entries c.insert.ensures.was_ordered) in
    omega (arith, len, c.in_ok-insert.ensures.len, at_most_one (is_some c.in_ok-insert.field-0))

pub returns-clause-opened : goal.returns-clause-opened
returns-clause-opened g c = rw (← c.self.view_is) (listed-insert c.self.inside.entries c.insert.new.self c.args.id c.args.entry c.in_ok-insert.ensures.updates)
