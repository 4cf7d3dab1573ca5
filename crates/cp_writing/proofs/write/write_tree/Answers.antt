use Rattle.std.proofs.Common.{◌≡◌, ◌≤◌, ℕ, List, length, map, max, sym, ap, subst, ◌∙◌, arith}
use Rattle.std.specs.Prelude.{sum}
use Rattle.std.proofs.lemmas.Result.{err_from_is_err_and}
use Rattle.cp_tree.specs.Lent.{node_in}
use Rattle.cp_writing.specs.Layout.{Layout}
use Rattle.cp_writing.specs.Sheets.{Written, written, segments_of}
use Rattle.cp_writing.specs.LaidOut.{capacity_for, laid_out, MeetsLimit}
use Rattle.cp_writing.proofs.LaidOut.{written_is_layout}
use Rattle.cp_writing.proofs.LayoutWords.{meets_fault}
use Rattle.cp_writing.proofs.ArenaWords.{laid_words, laid_within}
use Rattle.cp_writing.proofs.write.write_tree.Goals.{then-max_words-eq0, else-max_words-eq0}
use Rattle.cp_writing.proofs.write.write_tree.Goals as goal

pub returns-clause-layout : goal.returns-clause-layout
returns-clause-layout c =
    let limits = c.args.limits in
    let t = node_in c.args.tree in
    let F = written c.in_ok-arena.arena in
    let words : c.if-max_words-eq0.words ≡ max 1 c.args.max_words = elim c.if-max_words-eq0.branch [
      | then-max_words-eq0 w ↦ omega (arith, w.words-is, w.if-max_words-eq0.true)
      | else-max_words-eq0 w ↦ omega (arith, w.words-is, w.if-max_words-eq0.false)
    ] in
    let is : F ≡ laid_out (capacity_for (max 1 c.args.max_words) limits.segments limits) t =
    c.in_ok-arena.ensures.written
    ∙ ap (λ n. laid_out (capacity_for n c.segments.result limits) t) words
    ∙ ap (λ n. laid_out (capacity_for (max 1 c.args.max_words) n limits) t) c.segments.ensures.value in
    subst (λ S. Layout S (record { words = c.args.max_words; segments = limits.segments }) t) (sym (c.in_ok-into_segments.ensures))
    (written_is_layout c.args.max_words limits t F (omega (arith, c.segments.ensures.value, c.segments.ensures.range)) c.requires.shaped is c.in_ok-arena.ensures.small)

pub returns-clause-small : goal.returns-clause-small
returns-clause-small c =
    let limits = c.args.limits in
    let t = node_in c.args.tree in
    let capacity = capacity_for c.if-max_words-eq0.words c.segments.result limits in
    let is = c.in_ok-into_segments.ensures ∙ ap segments_of c.in_ok-arena.ensures.written in
    subst (λ (s : List (List ℕ)). (length s ≤ limits.segments) × (sum (map length s) ≤ limits.frame_words)) (sym is)
    (omega (arith, laid_within capacity t (omega (arith, c.segments.ensures.range)), c.segments.ensures.value), omega (arith, laid_words capacity t, ap (λ (F : Written). F.words) c.in_ok-arena.ensures.written, c.in_ok-arena.ensures.within))

pub returns-in_err-arena-clause-refused : goal.returns-in_err-arena-clause-refused
returns-in_err-arena-clause-refused c =
    let limits = c.args.limits in
    let t = node_in c.args.tree in
    let fault = c.in_err-arena.field-0.0 in
    let words : c.if-max_words-eq0.words ≡ max 1 c.args.max_words = elim c.if-max_words-eq0.branch [
      | then-max_words-eq0 w ↦ omega (arith, w.words-is, w.if-max_words-eq0.true)
      | else-max_words-eq0 w ↦ omega (arith, w.words-is, w.if-max_words-eq0.false)
    ] in
    let wide = subst (λ n. MeetsLimit limits (capacity_for n c.segments.result limits) t fault) words c.in_err-arena.ensures.refused in
    let met = subst (λ n. MeetsLimit limits (capacity_for (max 1 c.args.max_words) n limits) t fault) c.segments.ensures.value wide in
    let p = err_from_is_err_and c.from_residual.result c.from_residual.ensures.1 in
    rw (p.1, p.2) (meets_fault limits c.args.max_words limits.segments t fault c.requires.shaped met)
