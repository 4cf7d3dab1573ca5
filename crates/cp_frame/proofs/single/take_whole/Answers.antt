use Rattle.std.proofs.Common.{◌≡◌, ◌+◌, ◌*◌, ℕ, List, ◌∷◌, [], sym, ◌∙◌, ap, subst, arith}
use Rattle.cp_packed.specs.Words.{words_in}
use Rattle.cp_frame.specs.Single.{TakesWhole}
use Rattle.cp_frame.proofs.Singles.{takes_single}
use Rattle.cp_frame.proofs.single.take_whole.Goals as goal

pub returns : goal.returns
returns c =
    let body = c.split_at.result.1.now in
    let front = c.split_at-2.result.0.now in
    let back = c.split_at-2.result.1.now in
    let words : c.take_segment.new.words.items ≡ words_in front = c.in_ok-take_segment.ensures in
    let held : c.one.result ≡ words_in front ∷ [] = c.one.ensures ∙ ap (λ (ws : List ℕ). ws ∷ []) words in
    subst (λ (S : List (List ℕ)). TakesWhole c.args.limits c.args.bytes.now (8 + 8 * c.in-Some.size) S back) (sym held)
    (takes_single c.args.limits c.args.bytes.now c.in-Some.size body front back c.in-Some.ensures (λ i. omega (arith, c.type_inv.bytes i)) c.split_at.ensures.back c.split_at-2.ensures.front c.split_at-2.ensures.back)
