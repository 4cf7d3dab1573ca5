use Rattle.std.proofs.Common.{◌<◌, length, sym, subst}
use Rattle.std.proofs.lemmas.List.{length-map}
use Rattle.cp_tree.specs.Node.{null}
use Rattle.cp_messages.specs.Fields.{items_of}
use Rattle.cp_messages.specs.Faults.{descriptor_faults}
use Rattle.cp_rpc.proofs.Firsts.{part-none, none-first}
use Rattle.cp_rpc.proofs.payload.CapTableView.descriptor.Goals as goal

pub unreachable-requires : goal.unreachable-requires
unreachable-requires g c =
    let items = items_of (g.S.Source.seen c.self.inside.source) in
    let within : c.args.i < length items = rw length-map at (subst (λ s. c.args.i < length s) (sym c.self.view_is) c.requires) in
    none-first _ c.in-Err.field-0 (rw c.item.ensures.item (part-none descriptor_faults items c.args.i null within c.self.invariant)) c.in-Err.ensures
