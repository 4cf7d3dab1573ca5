use Rattle.std.proofs.Common.{◌≡◌, ◌⊎◌, inl, inr, ◌+◌, ◌*◌, ℕ, sym, ap, ◌∙◌, refl, arith}
use Rattle.cp_tree.specs.declared.lent.Top.{Top}
use Rattle.cp_tree.specs.declared.lent.Top.TheVariants as tops
use Rattle.cp_tree.specs.Node.{cost, total_cost, body_cost, number_of}
use Rattle.cp_tree.specs.NodeOf.{nodes_of, bodies_of}
use Rattle.cp_tree.specs.Lent.{top_node}
use Rattle.cp_tree.specs.Spent.{spent}
use Rattle.cp_tree.proofs.Spending.{spent-0, along, step_left, no_more, row_nests_on, bodies_nest_on}
use Rattle.cp_tree.proofs.measure.+measure.Goals as goal

no_cost : (top : Top) → (top ≡ tops.Null) ⊎ ((i : ℕ) × (top ≡ tops.Cap i)) → cost (top_node top) ≡ 0
no_cost top (inl e) = ap (λ (x : Top). cost (top_node x)) e
no_cost top (inr k) = ap (λ (x : Top). cost (top_node x)) k.1

pub nests-returns-in-Null-clause-budget : goal.nests-returns-in-Null-clause-budget
nests-returns-in-Null-clause-budget t c =
    let budget = c.args.budget.now in
    sym (spent-0 budget) ∙ ap (spent budget) (sym (no_cost c.top.result c.in-Null.is) ∙ ap cost c.top.ensures)

pub nests-returns-then-levels-gt0-clause-budget : goal.nests-returns-then-levels-gt0-clause-budget
nests-returns-then-levels-gt0-clause-budget t c =
    let row = c.row_nests in
    let spend = c.spend-in-Struct in
    rw (← c.in-Struct.ensures) (along row.result row.new.budget row.ensures.budget (step_left c.args.budget.now spend.new.budget _ _ _ _ spend.ensures (omega (arith, c.len.ensures.value)) refl))

pub nests-returns-then-levels-gt0-2-clause-budget : goal.nests-returns-then-levels-gt0-2-clause-budget
nests-returns-then-levels-gt0-2-clause-budget t c =
    let row = c.row_nests-then-levels-gt0-2 in
    let spend = c.spend-in-Ptrs in
    rw (← c.in-Ptrs.ensures) (along row.result row.new.budget row.ensures.budget (step_left c.args.budget.now spend.new.budget _ _ _ _ spend.ensures (omega (arith, c.len-in-Ptrs.ensures.value)) refl))

pub nests-returns-then-levels-gt0-3-clause-budget : goal.nests-returns-then-levels-gt0-3-clause-budget
nests-returns-then-levels-gt0-3-clause-budget t c =
    let bodies = c.bodies_nest in
    let spend = c.spend-in-Structs in
    rw (← c.in-Structs.ensures) (along bodies.result bodies.new.budget bodies.ensures.budget (step_left c.args.budget.now spend.new.budget _ _ _ _ spend.ensures (omega arith) refl))

pub row_nests-loop-tree-preserved : goal.row_nests-loop-tree-preserved
row_nests-loop-tree-preserved t c =
    let l = c.loop-tree in
    row_nests_on c.args.levels _ _ _ _ c.args.budget.now l.budget c.nests.new.budget (ap nodes_of c.in-Some.ensures.steps) (c.nests.ensures.deep.0 c.if-not-nests.false) c.if-not-nests.ensures.budget l.invariant

pub row_nests-returns-clause-budget : goal.row_nests-returns-clause-budget
row_nests-returns-clause-budget t c =
    let l = c.loop-tree in
    no_more l.budget _ _ (ap (λ ts. total_cost (nodes_of ts)) c.in-None.ensures.steps) l.invariant.2

pub bodies_nest-loop-body-preserved : goal.bodies_nest-loop-body-preserved
bodies_nest-loop-body-preserved t c =
    let l = c.loop-body in
    bodies_nest_on c.args.levels c.args.price _ _ _ _ _ c.args.budget.now l.budget c.spend.new.budget c.row_nests.new.budget (ap bodies_of c.in-Some.ensures.steps) (c.row_nests.ensures.deep.0 c.if-not-row_nests.false) c.spend.ensures c.if-not-row_nests.ensures.budget l.invariant

pub bodies_nest-returns-clause-budget : goal.bodies_nest-returns-clause-budget
bodies_nest-returns-clause-budget t c =
    let l = c.loop-body in
    let none = ap (λ bs. number_of (bodies_of bs) * c.args.price + body_cost (bodies_of bs)) c.in-None.ensures.steps in
    no_more l.budget _ _ (omega (arith, none)) l.invariant.2
