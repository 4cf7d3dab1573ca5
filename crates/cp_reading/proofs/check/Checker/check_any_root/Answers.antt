use Rattle.std.proofs.Common.{◌<◌, length, arith, sym}
use Rattle.std.proofs.lemmas.Bool.Decides.{nat_tests}
use Rattle.cp_words.specs.Targets.{segment}
use Rattle.cp_words.specs.Segments.{words_of}
use Rattle.cp_reading.proofs.Roots.{root_steps}
use Rattle.cp_reading.proofs.check.Checker.check_any_root.Goals as goal

pub check_root_body-requires-clause-root : goal.check_root_body-requires-clause-root
check_root_body-requires-clause-root g c =
    let some = c.requires.some in
    let within : 0 < length (segment (words_of c.args.self.now.segments.now) 0) = grind (arith, nat_tests) in
    root_steps _ _ _ _ _ _ _ _ within (sym c.in-Some.ensures.says) (sym c.in_ok-target-in-Some.ensures.target) c.in-Struct.is (sym c.in_ok-area-in-Some.ensures.area)
