use Rattle.std.proofs.Common.{arith, ◌∙◌, sym}
use Rattle.cp_vat_state.proofs.Indexing.{lowered_to, lowered_out, indexed-counted, indexed-removed}
use Rattle.cp_vat_state.proofs.exports.Exported.release.Goals as goal

pub invariant_of-self : goal.invariant_of-self
invariant_of-self c =
    rw (lowered_out c.self.inside.exports c.lower.new.self c.args.id c.args.n c.in-Some.export.now c.lower.result c.in-Some.ensures.value c.if-export-n-2.true c.lower.ensures.gone, c.remove.ensures)
    (indexed-removed c.self.inside.exports c.self.inside.index c.self.invariant c.args.id c.in-Some.export.now c.in-Some-of.hosted (sym c.in-Some.ensures.value) (sym c.of.ensures ∙ c.in-Some-of.is))

pub invariant_of-self-2 : goal.invariant_of-self-2
invariant_of-self-2 c =
    rw (lowered_to c.self.inside.exports c.lower-2.new.self c.args.id c.args.n c.in-Some.export.now c.lower-2.result c.in-Some.ensures.value (omega (arith, c.if-export-n.false, c.if-export-n-2.false)) c.lower-2.ensures.lowered)
    (indexed-counted c.self.inside.exports c.self.inside.index c.self.invariant c.args.id c.in-Some.export.now.count _ c.in-Some.export.now.kept (sym c.in-Some.ensures.value))
