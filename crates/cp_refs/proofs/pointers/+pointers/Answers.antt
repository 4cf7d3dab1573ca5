use Rattle.std.proofs.Common.{sym, ap, ◌∙◌}
use Rattle.cp_tree.specs.NodeOf.{node_of}
use Rattle.cp_refs.specs.Kept.{pointers_of}
use Rattle.cp_refs.proofs.Keeping.{struct_kept}
use Rattle.cp_refs.proofs.pointers.+pointers.Goals as goal

pub pointers_of-returns-in_ok-ptrs-in-Struct : goal.pointers_of-returns-in_ok-ptrs-in-Struct
pointers_of-returns-in_ok-ptrs-in-Struct t c =
    struct_kept c.in-Struct.body c.new.result c.in_ok-ptrs-in-Struct.ptrs c.deref.result.now c.new.ensures.items c.deref.ensures.value c.in_ok-ptrs-in-Struct.ensures
    ∙ sym (ap (λ u. pointers_of (node_of u)) c.in-Struct.is)
