use Rattle.std.proofs.Common.{◌≡◌, ◌+◌, ◌<◌, ◌≤◌, ◌^◌, List, [], ◌∷◌, ◌++◌, ◌∙◌, ap, sym, subst, map, length, length-append, arith}
use Rattle.std.proofs.lemmas.List.{length-map}
use Rattle.cp_tree.specs.Node.{Node}
use Rattle.cp_tree.specs.NodeOf.{node_of, nodes_of}
use Rattle.cp_tree.specs.Shaped.{Shaped, EachShaped}
use Rattle.cp_tree.specs.declared.tree.Tree.{Tree}
use Rattle.cp_builder.proofs.Rows.{shaped_last}
use Rattle.cp_servants.proofs.payload_builder.PayloadBuilder.pointer.Goals as goal

pub invariant_of-self : goal.invariant_of-self
invariant_of-self c =
    let old = c.self.inside.pointers.items in
    let part = c.into_tree.result in
    let h = c.self.invariant in
    let grown : c.push.new.self.items ≡ old ++ part ∷ [] = c.in_ok-push.ensures.items in
    let more : length c.push.new.self.items ≡ length old + 1 = ap (λ (ts : List Tree). length ts) grown ∙ length-append old (part ∷ []) in
    let seen : length (map node_of c.push.new.self.items) ≡ length old + 1 = length-map c.push.new.self.items node_of ∙ more in
    let few : length (map node_of c.push.new.self.items) < 2 ^ 16 = omega (arith, seen, c.if-len-ge-MOST.false, c.len.ensures) in
    let caps : length c.self.inside.caps.items ≤ length (map node_of c.push.new.self.items) = omega (arith, seen, h.fewer_caps, length-map old node_of) in
    record {
      few_words = h.few_words;
      few_pointers = few;
      fewer_caps = caps;
      shaped =
          subst (λ (ts : List Tree). EachShaped (nodes_of (map node_of ts))) (sym grown)
          (shaped_last old part h.shaped (subst (λ (t : Node). Shaped t) (sym c.into_tree.ensures.tree) c.into_tree.ensures.shaped));
    }
