use Rattle.std.proofs.Common.{◌≡◌, ◌∷◌, [], length, map, ap, subst, ◌∙◌, sym, refl, arith}
use Rattle.std.specs.Prelude.{sum}
use Rattle.std.proofs.lemmas.Result.{err_from_is_err_and}
use Rattle.cp_tree.specs.DraftOf.{draft_of}
use Rattle.cp_writing.specs.Sheets.{Written, written, segments_of}
use Rattle.cp_writing.specs.LaidOut.{capacity_for, laid_out, MeetsLimit}
use Rattle.cp_writing.proofs.Alone.{alone_lists}
use Rattle.cp_writing.proofs.LaidOut.{written_is_sole}
use Rattle.cp_writing.proofs.LayoutWords.{meets_alone}
use Rattle.cp_writing.proofs.ArenaWords.{laid_words}
use Rattle.cp_writing.proofs.write.write_draft_bytes.Goals as goal

pub returns-clause-built : goal.returns-clause-built
returns-clause-built c =
    let limits = c.args.limits in
    let t = draft_of c.args.draft.now in
    let F = written c.in_ok-arena.arena in
    let capacity = capacity_for limits.frame_words 1 limits in
    let is : F ≡ laid_out capacity t = c.in_ok-arena.ensures.written ∙ ap (λ n. laid_out (capacity_for n 1 limits) t) c.frame_words.ensures.value in
    let alone = alone_lists capacity (omega arith) t 0 0 (record { full = []; last = 0 ∷ []; words = 1 }) refl in
    let one : F.last ∷ [] ≡ segments_of F = ap (λ (W : Written). W.last ∷ []) is ∙ alone ∙ ap segments_of (sym is) in
    record {
      words = F.last;
      bytes = c.in_ok-into_bytes.ensures;
      layout = written_is_sole limits.frame_words limits t F F.last c.requires.shaped is one c.in_ok-arena.ensures.small;
      small = omega (arith, ap (λ S. sum (map length S)) (one ∙ ap segments_of is), laid_words capacity t, ap (λ (W : Written). W.words) is, c.in_ok-arena.ensures.within);
    }

pub returns-in_err-arena-clause-refused : goal.returns-in_err-arena-clause-refused
returns-in_err-arena-clause-refused c =
    let limits = c.args.limits in
    let t = draft_of c.args.draft.now in
    let fault = c.in_err-arena.field-0.0 in
    let met = subst (λ n. MeetsLimit limits (capacity_for n 1 limits) t fault) c.frame_words.ensures.value c.in_err-arena.ensures.refused in
    let p = err_from_is_err_and c.from_residual-in_err-arena.result c.from_residual-in_err-arena.ensures.1 in
    rw (p.1, p.2) (meets_alone limits limits.frame_words t fault c.requires.shaped met)
