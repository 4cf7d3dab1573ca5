use Rattle.std.proofs.Common.{◌<◌, ℕ, List, refl, subst, arith}
use Rattle.cp_packed.specs.Groups.{TakesGroups}
use Rattle.cp_frame.specs.Single.{IsOne}
use Rattle.cp_frame.proofs.Singles.{takes_table, takes_none}
use Rattle.cp_frame.proofs.frame.OpenFrame.take_table_group.Goals as goal

pub returns-then-size-eq0 : goal.returns-then-size-eq0
returns-then-size-eq0 c =
    let f = c.args.self.now in
    takes_none c.args.limits (record { table = c.clear.new.self; total = f.total; segments = f.segments; words = f.words; part = f.part; spare = f.spare }) c.args.left.now
    (record { table = c.clear.ensures.items; total = c.requires.total; segments = c.requires.segments; words = c.requires.words; part = c.requires.part })

pub returns : goal.returns
returns c =
    let f = c.args.self.now in
    let table = c.take_groups.new.words in
    let size = c.size_of_one-size.result in
    let back = c.in_ok-back.back.now in
    let some : 0 < size = omega (arith, c.if-size-eq0.false) in
    let one = subst (λ (T : List ℕ). IsOne c.args.limits T size) c.deref.ensures.value (c.size_of_one-size.ensures some) in
    let taken = subst (λ (old : List ℕ). TakesGroups 1 old 0 c.args.left.now table.items c.take_groups.new.run back) c.requires.table c.in_ok-back.ensures.takes in
    takes_table c.args.limits (record { table = table; total = size; segments = f.segments; words = c.in_ok-self.field-0; part = f.part; spare = c.first_segment.new.spare }) c.args.left.now back table.items size c.take_groups.new.run
    taken one some refl refl c.requires.segments c.in_ok-self.ensures.items c.requires.part
