use Rattle.std.proofs.Common.{◌≡◌, ◌<◌, ◌^◌, ℕ, List, length, map, ap, subst, sym, ◌∙◌, arith}
use Rattle.std.proofs.lemmas.List.{length-map}
use Rattle.cp_tree.specs.Node.{Node}
use Rattle.cp_tree.specs.NodeOf.{node_of}
use Rattle.cp_builder.proofs.Rows.{row_shaped}
use Rattle.cp_builder.proofs.parts.pointers_of.Goals as goal

pub from_shaped-requires : goal.from_shaped-requires
from_shaped-requires c =
    let same : length c.in_ok-trees_of.field-0.items ≡ length c.args.items.items = sym (length-map c.in_ok-trees_of.field-0.items node_of) ∙ ap (λ (ts : List Node). length ts) c.in_ok-trees_of.ensures.trees in
    row_shaped c.in_ok-trees_of.field-0 (omega (arith, same, c.if-len-ge-MOST.false, c.len.ensures)) c.in_ok-trees_of.ensures.shaped
