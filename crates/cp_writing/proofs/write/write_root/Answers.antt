use Rattle.std.proofs.Common.{◌∷◌, [], length, map, ap, subst, ◌∙◌, sym, refl, arith}
use Rattle.std.specs.Prelude.{sum}
use Rattle.std.proofs.lemmas.Result.{err_from_is_err_and}
use Rattle.cp_tree.specs.Node.{Node}
use Rattle.cp_tree.specs.NodeOf.{node_of}
use Rattle.cp_writing.specs.Sheets.{Written, written, segments_of}
use Rattle.cp_writing.specs.LaidOut.{capacity_for, laid_out, MeetsLimit}
use Rattle.cp_writing.proofs.Alone.{alone_lists}
use Rattle.cp_writing.proofs.LaidOut.{written_is_built}
use Rattle.cp_writing.proofs.LayoutWords.{meets_alone}
use Rattle.cp_writing.proofs.ArenaWords.{laid_words}
use Rattle.cp_writing.proofs.write.write_root.Goals as goal

pub returns-clause-built : goal.returns-clause-built
returns-clause-built c =
    let limits = c.args.limits in
    let t = c.args.object.now in
    let is =
    c.in_ok-arena.ensures.written
    ∙ ap (λ n. laid_out (capacity_for n 1 limits) (node_of c.tree.result.now)) c.frame_words.ensures.value
    ∙ ap (laid_out (capacity_for limits.frame_words 1 limits)) c.tree.ensures.tree in
    let last =
    c.in_ok-into_last.ensures
    ∙ ap (λ (W : Written). W.last) is in
    let one = ap (λ v. v ∷ []) last ∙ alone_lists (capacity_for limits.frame_words 1 limits) (omega arith) t 0 0 (record { full = []; last = 0 ∷ []; words = 1 }) refl in
    written_is_built limits t (written c.in_ok-arena.arena) c.in_ok-into_last.field-0.items c.tree.ensures.shaped is (one ∙ ap segments_of (sym is)) c.in_ok-arena.ensures.small

pub returns-clause-small : goal.returns-clause-small
returns-clause-small c =
    let limits = c.args.limits in
    let t = c.args.object.now in
    let capacity = capacity_for c.frame_words.result 1 limits in
    let u = node_of c.tree.result.now in
    let last = c.in_ok-into_last.ensures ∙ ap (λ (W : Written). W.last) c.in_ok-arena.ensures.written in
    let one = ap (λ v. v ∷ []) last ∙ alone_lists capacity (omega arith) u 0 0 (record { full = []; last = 0 ∷ []; words = 1 }) refl in
    omega (arith, ap (λ S. sum (map length S)) one, laid_words capacity u, ap (λ (F : Written). F.words) c.in_ok-arena.ensures.written, c.in_ok-arena.ensures.within)

pub returns-in_err-arena-clause-refused : goal.returns-in_err-arena-clause-refused
returns-in_err-arena-clause-refused c =
    let limits = c.args.limits in
    let t = c.args.object.now in
    let fault = c.in_err-arena.field-0.0 in
    let wide = subst (λ n. MeetsLimit limits (capacity_for n 1 limits) (node_of c.tree.result.now) fault) c.frame_words.ensures.value c.in_err-arena.ensures.refused in
    let met = subst (λ (u : Node). MeetsLimit limits (capacity_for limits.frame_words 1 limits) u fault) c.tree.ensures.tree wide in
    let p = err_from_is_err_and c.from_residual.result c.from_residual.ensures.1 in
    rw (p.1, p.2) (meets_alone limits limits.frame_words t fault c.tree.ensures.shaped met)
