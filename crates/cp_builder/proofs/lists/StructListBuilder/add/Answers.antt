use Rattle.std.proofs.Common.{◌≡◌, ℕ, suc, ◌+◌, ◌*◌, ◌^◌, ◌<◌, List, [], ◌∷◌, map, ap, subst, sym, ◌∙◌}
use Rattle.cp_tree.specs.Node.{Node, structs, Bodies, number_of}
use Rattle.cp_tree.specs.NodeOf.{body_of, bodies_of}
use Rattle.cp_tree.specs.Shaped.{EachEven}
use Rattle.cp_tree.specs.declared.tree.Body.{Body}
use Rattle.cp_builder.specs.Drafts.{item_count, bodies_then, with_last}
use Rattle.cp_builder.proofs.Bodies.{with_body, number_then, even_then}
use Rattle.cp_builder.proofs.lists.StructListBuilder.add.Given.{Over}
use Rattle.cp_builder.proofs.lists.StructListBuilder.add.Goals.{In_ok-push}
use Rattle.cp_builder.proofs.lists.StructListBuilder.add.Goals as goal

added : (g : Over) (c : In_ok-push g) → bodies_of (map body_of c.push.new.self.items) ≡ bodies_then (bodies_of (map body_of c.self.inside.items.items)) (body_of c.into_element.result).0 (body_of c.into_element.result).1
added g c = ap (λ (bs : List Body). bodies_of (map body_of bs)) c.in_ok-push.ensures.items ∙ with_body c.self.inside.items.items c.into_element.result

pub invariant_of-self-2 : goal.invariant_of-self-2
invariant_of-self-2 g c =
    let old : Bodies = bodies_of (map body_of c.self.inside.items.items) in
    let count : number_of (bodies_of (map body_of c.push.new.self.items)) ≡ number_of old + 1 = ap number_of (added g c) ∙ number_then old (body_of c.into_element.result).0 (body_of c.into_element.result).1 in (
      c.self.invariant.0,
      subst (λ (n : ℕ). n < 2 ^ 30) (sym count) (subst (λ (t : Node). item_count t + 1 < 2 ^ 30) (sym c.self.view_is) c.requires.0),
      subst (λ (n : ℕ). n * (g.row.W + g.row.P) < 2 ^ 29) (sym count) (subst (λ (t : Node). (item_count t + 1) * (g.row.W + g.row.P) < 2 ^ 29) (sym c.self.view_is) c.requires.1),
      subst (λ (bs : Bodies). EachEven g.row.W g.row.P bs) (sym (added g c)) (even_then g.row.W g.row.P old (body_of c.into_element.result).0 (body_of c.into_element.result).1 c.self.invariant.3 c.into_element.ensures.even),
    )

pub returns-clause-pushed : goal.returns-clause-pushed
returns-clause-pushed g c =
    rw (← c.self.view_is)
    (ap (λ (bs : Bodies). structs g.row.W g.row.P bs) (added g c) ∙ sym (c.into_element.ensures.added (bodies_of (map body_of c.self.inside.items.items))))
