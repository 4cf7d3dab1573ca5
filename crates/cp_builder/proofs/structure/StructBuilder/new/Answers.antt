use Rattle.std.proofs.Common.{rules, ◌≡◌, ℕ, ◌^◌, ◌<◌, List, [], ◌++◌, length, map, replicate, ap, subst, sym, ◌∙◌, arith}
use Rattle.std.proofs.lemmas.List.{length-map, length-replicate}
use Rattle.cp_tree.specs.Node.{Node, null}
use Rattle.cp_tree.specs.NodeOf.{node_of, nodes_of}
use Rattle.cp_tree.specs.Shaped.{EachShaped}
use Rattle.cp_tree.specs.declared.tree.Tree.{Tree}
use Rattle.cp_builder.proofs.Rows.{nulls_shaped}
use Rattle.cp_builder.proofs.structure.StructBuilder.new.Goals as goal

only_nulls : (old new : List Tree) (n : ℕ) → old ≡ [] → map node_of new ≡ map node_of old ++ replicate n null → map node_of new ≡ replicate n null
only_nulls old new n empty grown = grown ∙ ap (λ (ts : List Tree). map node_of ts ++ replicate n null) empty

pub invariant_of-result : goal.invariant_of-result
invariant_of-result g c =
    let row : List Tree = c.push_nulls.new.trees.items in
    let nulls : map node_of row ≡ replicate g.row.P null = only_nulls _ row g.row.P c.in_ok-pointers.ensures.items c.in_ok-push_nulls.ensures in
    let many : length row ≡ g.row.P = sym (length-map row node_of) ∙ ap (λ (ts : List Node). length ts) nulls ∙ length-replicate g.row.P null in (
      (search rules, subst (λ (n : ℕ). n < 2 ^ 16) (sym many) c.requires.pointers),
      search rules,
      omega (arith, many),
      subst (λ (ts : List Node). EachShaped (nodes_of ts)) (sym nulls) (nulls_shaped g.row.P),
    )

pub returns : goal.returns
returns g c = rw (only_nulls _ _ g.row.P c.in_ok-pointers.ensures.items c.in_ok-push_nulls.ensures) (search rules)
