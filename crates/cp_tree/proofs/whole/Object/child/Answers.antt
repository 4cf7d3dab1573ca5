use Rattle.std.proofs.Common.{sym, subst, ◌∙◌, rules}
use Rattle.cp_tree.specs.NodeOf.{node_of}
use Rattle.cp_tree.specs.Shaped.{Shaped}
use Rattle.cp_tree.specs.declared.tree.Tree.{Null, the_lemmas}
use Rattle.cp_tree.proofs.PartsShaped.{pointee_of-shaped}
use Rattle.cp_tree.proofs.whole.Object.child.Goals.{in-Some+in_ok-tree_copy-in-Some, in-None}
use Rattle.cp_tree.proofs.whole.Object.child.Goals as goal

shaped-Null : Shaped (node_of Null)
shaped-Null = search (rules, the_lemmas)

pub invariant_of-result : goal.invariant_of-result
invariant_of-result c =
    elim c.match-pointer.branch [
      | in-Some+in_ok-tree_copy-in-Some w ↦
          let whole = pointee_of-shaped _ c.args.i c.self.invariant.1 in
          let copied = w.in_ok-tree_copy-in-Some.ensures in
          let lent = w.in-Some.ensures in
          rw w.result-is (subst Shaped (sym (copied ∙ lent)) whole)
      | in-None w ↦ rw w.result-is shaped-Null
    ]
