use Rattle.std.proofs.Common.{◌≡◌, ◌∙◌, ◌<◌, ◌+◌, Some, ◌-◌, arith, add-zero, sym, refl}
use Rattle.std.proofs.lemmas.Result.{err_from_is_err_and}
use Rattle.cp_words.specs.Word.{pointer_of}
use Rattle.cp_words.specs.Segments.{words_of}
use Rattle.cp_reading.specs.Reading.{kids_at}
use Rattle.cp_reading.proofs.Nears.{null_left, near_fails, near_body}
use Rattle.cp_reading.proofs.Checks.{row_fails, row_goes_on, row_ends, bodies_fail, bodies_go_on, bodies_end, passed-flat, target_found, one_fewer}
use Rattle.cp_reading.proofs.Charges.{charged_err, charged_ok}
use Rattle.cp_reading.proofs.check.Checker.+check.Goals as goal

pub check_body-returns-in_err-charge-clause-reports : goal.check_body-returns-in_err-charge-clause-reports
check_body-returns-in_err-charge-clause-reports g t c =
    let p = err_from_is_err_and c.from_residual.result c.from_residual.ensures.1 in
    rw (p.1, p.2, charged_err _ _ _ _ _ _ (rw c.price.ensures at c.in_err-charge.ensures.refused))

pub check_body-returns-clause-reports : goal.check_body-returns-clause-reports
check_body-returns-clause-reports g t c = rw (charged_ok _ _ _ _ _ _ (rw c.price.ensures at c.in_ok-charge.ensures.paid)) c.check_parts.ensures.reports

pub check_elements-returns-in_err-check_words-clause-reports : goal.check_elements-returns-in_err-check_words-clause-reports
check_elements-returns-in_err-check_words-clause-reports g t c =
    let p = err_from_is_err_and c.from_residual.result c.from_residual.ensures.1 in
    rw (p.1, p.2) (bodies_fail _ _ _ _ _ _ _ _ _ _ c.loop-i.invariant.3 _ (omega (arith, c.loop-i.invariant.1)) (rw c.loop-i.invariant.5 at c.in_err-check_words.ensures.reports))

pub check_elements-loop-i-preserved : goal.check_elements-loop-i-preserved
check_elements-loop-i-preserved g t c =
    let l = c.loop-i in
    let m = l.invariant.0 in
    let some : 0 < m = omega (arith, l.invariant.1) in
    let fewer = one_fewer m (c.args.words + c.args.ptrs) some in (
      m - 1,
      omega (arith, l.invariant.1),
      omega (arith, l.invariant.2, fewer),
      bodies_go_on _ _ _ _ _ _ _ _ _ _ l.invariant.3 _ _ some (rw l.invariant.5 at c.in_ok-check_words.ensures.reports),
      omega (arith, l.invariant.1, l.invariant.4, fewer, c.in_ok-check_words.ensures.few),
      c.in_ok-check_words.ensures.same ∙ l.invariant.5,
      c.in_ok-check_words.ensures.lent ∙ l.invariant.6,
    )

pub check_elements-returns-clause-reports : goal.check_elements-returns-clause-reports
check_elements-returns-clause-reports g t c = bodies_end _ _ _ _ _ _ _ _ _ _ c.loop-i.invariant.3 (omega (arith, c.loop-i.invariant.1))

pub check_elements-returns-then-ptrs-eq0-clause-reports : goal.check_elements-returns-then-ptrs-eq0-clause-reports
check_elements-returns-then-ptrs-eq0-clause-reports g t c = rw c.if-ptrs-eq0.true (passed-flat _ _ _ _ _ _ _ _)

pub check_words-loop-i-init : goal.check_words-loop-i-init
check_words-loop-i-init g t c = (c.args.count, omega arith, rw add-zero refl, omega arith, refl, refl)

pub check_words-returns-in_err-check_word-clause-reports : goal.check_words-returns-in_err-check_word-clause-reports
check_words-returns-in_err-check_word-clause-reports g t c =
    let p = err_from_is_err_and c.from_residual.result c.from_residual.ensures.1 in
    rw (p.1, p.2) (row_fails _ _ _ _ _ _ c.loop-i.invariant.2 _ (omega (arith, c.loop-i.invariant.1)) (rw c.loop-i.invariant.4 at c.in_err-check_word.ensures.reports))

pub check_words-loop-i-preserved : goal.check_words-loop-i-preserved
check_words-loop-i-preserved g t c =
    let l = c.loop-i in
    let next : c.args.first.word + (l.i + 1) ≡ c.args.first.word + l.i + 1 = omega arith in (
      l.invariant.0 - 1,
      omega (arith, l.invariant.1),
      rw next (row_goes_on _ _ _ _ _ _ l.invariant.2 _ _ (omega (arith, l.invariant.1)) (rw l.invariant.4 at c.in_ok-check_word.ensures.reports)),
      omega (arith, l.invariant.3, c.in_ok-check_word.ensures.few),
      c.in_ok-check_word.ensures.same ∙ l.invariant.4,
      c.in_ok-check_word.ensures.lent ∙ l.invariant.5,
    )

pub check_words-returns-clause-reports : goal.check_words-returns-clause-reports
check_words-returns-clause-reports g t c = row_ends _ _ _ _ _ _ c.loop-i.invariant.2 (omega (arith, c.loop-i.invariant.1))

pub check_ptrs-returns-then-count-eq0-clause-reports : goal.check_ptrs-returns-then-count-eq0-clause-reports
check_ptrs-returns-then-count-eq0-clause-reports g t c = row_ends _ _ _ _ _ _ refl c.if-count-eq0.true

pub check_any-returns-in_err-area-in-Some : goal.check_any-returns-in_err-area-in-Some
check_any-returns-in_err-area-in-Some g t c =
    let p = err_from_is_err_and c.from_residual-in_err-area-in-Some.result c.from_residual-in_err-area-in-Some.ensures.1 in
    let word = c.requires.word_is in
    let says : pointer_of c.args.word ≡ Some c.in-Some.pointer = sym c.in-Some.ensures in
    record { reports = rw (p.1, p.2, ← word, says, target_found _ _ _ _ _ _ (sym c.in_ok-target-in-Some.ensures.target), ← c.in_err-area-in-Some.ensures.area) refl; few = omega arith; same = refl; lent = refl }

pub check_any-returns-in_ok-area-in-Some : goal.check_any-returns-in_ok-area-in-Some
check_any-returns-in_ok-area-in-Some g t c =
    let word = c.requires.word_is in
    let says : pointer_of c.args.word ≡ Some c.in-Some.pointer = sym c.in-Some.ensures in
    record { reports = rw (← word, says, target_found _ _ _ _ _ _ (sym c.in_ok-target-in-Some.ensures.target), ← c.in_ok-area-in-Some.ensures.area) c.check_body.ensures.reports; few = omega (arith, c.check_body.ensures.few); same = c.check_body.ensures.same; lent = c.check_body.ensures.lent }

pub check_word-returns-then-word-eq0-clause-reports : goal.check_word-returns-then-word-eq0-clause-reports
check_word-returns-then-word-eq0-clause-reports g t c = rw (← c.tick.ensures) (null_left c.args.at c.args.word (kids_at c.args.depth (words_of c.args.self.now.segments.now)) (words_of c.args.self.now.segments.now) c.args.self.now.budget c.tick.new.self (sym c.requires.word_is) c.if-word-eq0.true)

pub check_word-returns-in_err-area-in-0-clause-reports : goal.check_word-returns-in_err-area-in-0-clause-reports
check_word-returns-in_err-area-in-0-clause-reports g t c =
    let p = err_from_is_err_and c.from_residual.result c.from_residual.ensures.1 in
    rw (p.1, p.2) (near_fails c.args.at c.args.word (kids_at c.args.depth (words_of c.args.self.now.segments.now)) (words_of c.args.self.now.segments.now) c.args.self.now.budget (c.args.self.now.visits.now + 1) (sym c.requires.word_is) _ c.struct_target.ensures.near _ (sym c.in_err-area-in-0.ensures.area))

pub check_word-returns-in_err-area-in-1-clause-reports : goal.check_word-returns-in_err-area-in-1-clause-reports
check_word-returns-in_err-area-in-1-clause-reports g t c =
    let p = err_from_is_err_and c.from_residual-in_err-area-in-1.result c.from_residual-in_err-area-in-1.ensures.1 in
    rw (p.1, p.2) (near_fails c.args.at c.args.word (kids_at c.args.depth (words_of c.args.self.now.segments.now)) (words_of c.args.self.now.segments.now) c.args.self.now.budget (c.args.self.now.visits.now + 1) (sym c.requires.word_is) _ c.list_target.ensures.near _ (sym c.in_err-area-in-1.ensures.area))

pub check_word-returns-in_ok-area-in-0-clause-reports : goal.check_word-returns-in_ok-area-in-0-clause-reports
check_word-returns-in_ok-area-in-0-clause-reports g t c =
    rw (← c.tick.ensures) (near_body c.args.at c.args.word (kids_at c.args.depth (words_of c.args.self.now.segments.now)) (words_of c.args.self.now.segments.now) c.args.self.now.budget c.tick.new.self (sym c.requires.word_is) _ c.struct_target.ensures.near _ (sym c.in_ok-area-in-0.ensures.area) ∙ c.check_body.ensures.reports)

pub check_word-returns-in_ok-area-in-1-clause-reports : goal.check_word-returns-in_ok-area-in-1-clause-reports
check_word-returns-in_ok-area-in-1-clause-reports g t c =
    rw (← c.tick.ensures) (near_body c.args.at c.args.word (kids_at c.args.depth (words_of c.args.self.now.segments.now)) (words_of c.args.self.now.segments.now) c.args.self.now.budget c.tick.new.self (sym c.requires.word_is) _ c.list_target.ensures.near _ (sym c.in_ok-area-in-1.ensures.area) ∙ c.check_body-in-1.ensures.reports)
