use Rattle.std.proofs.Common.{◌+◌, ◌-◌, length, refl}
use Rattle.cp_frame.proofs.Singles.{empty_of, front_table, open_table}
use Rattle.cp_frame.proofs.rest.Rest.take_table.Goals as goal

pub returns-clause-takes : goal.returns-clause-takes
returns-clause-takes c =
    let r = c.args.self.now in
    let left = c.args.left.now in
    let back = c.in_ok-after.after.now in
    let empty = empty_of c.args.limits r.frame c.requires.frame (c.is_empty.ensures.0 c.if-not-is_empty.false) in
    let none = c.is_empty-else-not-is_empty.ensures.0 c.if-not-is_empty-2.false in
    front_table c.args.limits r (record { frame = c.take_table_group.new.self; group = r.group; taken = r.taken + (length left - length back) }) left back c.requires empty none c.in_ok-after.ensures refl refl

pub returns-clause-begun : goal.returns-clause-begun
returns-clause-begun c =
    let r = c.args.self.now in
    let left = c.args.left.now in
    let back = c.in_ok-after.after.now in
    open_table c.args.limits (record { frame = c.take_table_group.new.self; group = r.group; taken = r.taken + (length left - length back) }) left back c.in_ok-after.ensures
    (c.is_empty-else-not-is_empty.ensures.0 c.if-not-is_empty-2.false)
