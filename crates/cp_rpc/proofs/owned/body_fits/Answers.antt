use Rattle.std.proofs.Common.{ℕ, ◌+◌, ◌-◌, ◌≤◌, List, length, Option, Some, subst, sym, ap, ◌∙◌, arith}
use Rattle.cp_tree.specs.Lent.{row_in}
use Rattle.cp_tree.specs.Node.{Nodes, count, greatest_depth, total_cost}
use Rattle.cp_tree.specs.NodeOf.{nodes_of, body_of}
use Rattle.cp_tree.specs.Spent.{spent}
use Rattle.cp_tree.proofs.Spending.{RowNests, row_nests_on, spent-fits, spent-more, no_more}
use Rattle.cp_rpc.proofs.Fitting.{is_spent, not_decided}
use Rattle.cp_rpc.proofs.owned.body_fits.Goals as goal

pub loop-tree-init : goal.loop-tree-init
loop-tree-init c =
    let lent = c.of-lent.result in
    let whole : (List ℕ × Nodes) → Option ℕ = λ b. spent (Some c.args.traversal) (1 + length b.0 + count b.1) in
    let price = ap (λ (n : ℕ). spent (Some c.args.traversal) (1 + length lent.words.now + n)) c.len.ensures.value in
    rw c.into_iter-tree-iterator.ensures.into_iter_gives
    (subst (λ b. RowNests (c.args.nesting - 1) b.1 (whole b) (nodes_of (row_in lent.ptrs)) c.checked_sub-budget.result) c.of-lent.ensures
    (λ h. h, λ h. h, ap (λ x. spent x (total_cost (nodes_of (row_in lent.ptrs)))) (is_spent c.args.traversal _ _ c.checked_sub-budget.ensures ∙ price)))

pub loop-tree-preserved : goal.loop-tree-preserved
loop-tree-preserved c =
    let l = c.loop-tree in
    row_nests_on (c.args.nesting - 1) _ _ _ _ _ l.budget c.nests.new.budget (ap nodes_of c.in-Some.ensures.steps) (c.nests.ensures.deep.0 c.if-not-nests.false) c.if-not-nests.ensures.budget l.invariant

pub returns : goal.returns
returns c =
    let l = c.loop-tree in
    let b = body_of c.args.body.now in
    let none = ap (λ ts. greatest_depth (nodes_of ts)) c.in-None.ensures.steps in
    let deep : greatest_depth b.1 ≤ c.args.nesting - 1 = l.invariant.1 (omega (arith, none)) in
    let left = no_more l.budget _ _ (ap (λ ts. total_cost (nodes_of ts)) c.in-None.ensures.steps) l.invariant.2 in
    let fit = spent-fits c.args.traversal _ l.budget (left ∙ spent-more (Some c.args.traversal) (1 + length b.0 + count b.1) (total_cost b.1)) in
    rw c.is_some.ensures (λ e. (omega (arith, deep, c.if-nesting-eq0.false), fit.0 e), λ k. fit.1 k.1)

pub returns-then-not-nests : goal.returns-then-not-nests
returns-then-not-nests c =
    let l = c.loop-tree in
    let b = body_of c.args.body.now in
    let here = ap (λ ts. greatest_depth (nodes_of ts)) c.in-Some.ensures.steps in
    let all = λ (k : greatest_depth b.1 ≤ c.args.nesting - 1). c.nests.ensures.deep.1 (omega (arith, l.invariant.0 k, here)) in
    not_decided (λ k. sym c.if-not-nests.true ∙ all (omega (arith, k.0)))
