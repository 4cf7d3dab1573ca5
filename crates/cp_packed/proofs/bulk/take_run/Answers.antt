use Rattle.std.proofs.Common.{◌≡◌, ◌<◌, ◌≤◌, ◌+◌, ◌-◌, ◌*◌, ◌++◌, ℕ, List, length, get_or, sym, subst, ap, ◌∙◌, arith}
use Rattle.std.proofs.lemmas.List.{take-append-drop}
use Rattle.cp_packed.specs.Words.{words_in}
use Rattle.cp_packed.proofs.Bytes.{take_small}
use Rattle.cp_packed.proofs.Bulks.{takes_run}
use Rattle.cp_packed.proofs.bulk.take_run.Goals as goal
use Rattle.cp_packed.proofs.bulk.take_run.Goals.{then-wanted-missing, else-wanted-missing}

pub returns-clause-takes : goal.returns-clause-takes
returns-clause-takes c =
    let left = c.args.left.now in
    let old = c.args.words.now.items in
    let run = c.args.run.now in
    let count = c.min-count.result in
    let front = c.split_at.result.0.now in
    let back = c.split_at.result.1.now in
    let small = subst (λ (b : List ℕ). (i : ℕ) → get_or b i 0 < 256) (sym c.split_at.ensures.front) (take_small (8 * count) left (λ i. omega (arith, c.type_inv.left i))) in
    let whole : left ≡ front ++ back = rw (c.split_at.ensures.front, c.split_at.ensures.back) (sym (take-append-drop (8 * count) left)) in
    let fits : count ≤ run = elim c.if-wanted-missing.branch [
      | then-wanted-missing w ↦ omega (arith, w.if-wanted-missing.true, w.fitting-is, c.min-count.ensures)
      | else-wanted-missing w ↦ omega (arith, w.if-wanted-missing.false, w.fitting-is, c.min-count.ensures)
    ] in
    let missing : length old + count ≤ c.args.most = elim c.if-wanted-missing.branch [
      | then-wanted-missing w ↦ omega (arith, w.if-wanted-missing.true, w.fitting-is, c.min-count.ensures, c.len.ensures, c.requires.more)
      | else-wanted-missing w ↦ omega (arith, w.if-wanted-missing.false, w.fitting-is, c.min-count.ensures, c.len.ensures, c.requires.more)
    ] in
    let last : length old + count ≡ c.args.most → run - count ≡ 0 = λ e. elim c.if-wanted-missing.branch [
      | then-wanted-missing w ↦ omega (arith, e, w.if-wanted-missing.true, w.fitting-is, c.min-count.ensures, c.len.ensures, c.requires.more)
      | else-wanted-missing w ↦ omega (arith, e, w.if-wanted-missing.false, w.fitting-is, c.min-count.ensures, c.len.ensures, c.requires.more)
    ] in
    takes_run c.args.most old c.take_in.new.words.items left front back run count (run - count) c.split_at.ensures.front_len small whole (c.in_ok-take_in.ensures ∙ ap (λ (ws : List ℕ). ws ++ words_in front) c.in_ok-reserve_words.ensures.items) (omega (arith, fits)) c.requires.few missing last
