use Rattle.std.proofs.Common.{refl, ap, ◌∙◌, ◌∷◌}
use Rattle.std.specs.Cmp.Lexicographic.{nat_list_cmp_total}
use Rattle.std.specs.FinMap.{get, slice_cmp-IsAntisymmetric, nat_cmp-IsAntisymmetric}
use Rattle.cp_vat_state.proofs.Under.{under-import-gone, under-path-gone, none_marked, gone-none}
use Rattle.cp_vat_state.proofs.marks.Marks.remove_mark.Goals as goal

pub invariant_of-self : goal.invariant_of-self
invariant_of-self c = rw c.remove.ensures.removed (under-import-gone c.self.inside.imports c.self.inside.paths c.self.inside.embargoes c.self.inside.references c.self.invariant c.in-Import.id)

pub invariant_of-self-then-is_some : goal.invariant_of-self-then-is_some
invariant_of-self-then-is_some c =
    rw c.remove-then-is_some.ensures (under-path-gone c.self.inside.imports c.self.inside.paths c.self.inside.embargoes c.self.inside.references c.self.invariant (c.in-Pipelined.question ∷ c.fields-then-is_some.result.now))

pub returns-else-is_some : goal.returns-else-is_some
returns-else-is_some c =
    let none = none_marked _ c.get.result c.is_some.result (c.get.ensures ∙ ap (λ p. get c.self.inside.paths (c.in-Pipelined.question ∷ p)) c.fields.ensures) c.is_some.ensures c.if-is_some.false in
    rw (c.in-Pipelined.is, ← c.self.view_is, gone-none nat_list_cmp_total (slice_cmp-IsAntisymmetric nat_cmp-IsAntisymmetric) c.self.inside.paths (c.in-Pipelined.question ∷ c.in-Pipelined.path) none) refl
