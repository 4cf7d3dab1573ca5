use Rattle.std.proofs.Common.{◌≡◌, ◌<◌, ◌==◌, false, length, arith, refl, sym, ◌∙◌}
use Rattle.std.proofs.lemmas.Bool.Decides.{nat_tests}
use Rattle.std.proofs.lemmas.Result.{err_from_is_err_and}
use Rattle.cp_words.specs.Targets.{segment}
use Rattle.cp_words.specs.Segments.{words_of}
use Rattle.cp_reading.proofs.Roots.{root_near, root_near_fails}
use Rattle.cp_reading.proofs.check.Checker.check_root.Goals as goal

pub returns-in_err-area-clause-fault : goal.returns-in_err-area-clause-fault
returns-in_err-area-clause-fault g c =
    let p = err_from_is_err_and c.from_residual.result c.from_residual.ensures.1 in
    let some : (length (segment (words_of c.args.self.now.segments.now) 0) == 0) ≡ false = rw (← c.segment_at-words.ensures.words) (sym c.is_empty.ensures ∙ c.if-is_empty.false) in
    let within : 0 < length (segment (words_of c.args.self.now.segments.now) 0) = grind (arith, nat_tests) in
    rw (p.1, p.2) (root_near_fails _ _ _ _ _ _ _ within (rw (← c.segment_at-words.ensures.words) refl) c.struct_target.ensures.near c.struct_target.ensures.kind _ (sym c.in_err-area.ensures.area))

pub check_root_body-requires-clause-root : goal.check_root_body-requires-clause-root
check_root_body-requires-clause-root g c =
    let some : (length (segment (words_of c.args.self.now.segments.now) 0) == 0) ≡ false = rw (← c.segment_at-words.ensures.words) (sym c.is_empty.ensures ∙ c.if-is_empty.false) in
    let within : 0 < length (segment (words_of c.args.self.now.segments.now) 0) = grind (arith, nat_tests) in
    root_near _ _ _ _ _ _ _ within (rw (← c.segment_at-words.ensures.words) refl) c.struct_target.ensures.near c.struct_target.ensures.kind _ (sym c.in_ok-area.ensures.area)
