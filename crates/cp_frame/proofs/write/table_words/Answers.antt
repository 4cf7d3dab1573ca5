use Rattle.std.proofs.Common.{◌≡◌, ◌∙◌, ◌<◌, ◌++◌, ap, sym, subst, get_or, List, ℕ, arith}
use Rattle.cp_frame.specs.Frame.{padded_table}
use Rattle.cp_words.specs.Segments.{words_of}
use Rattle.cp_packed.specs.Words.{words_in, bytes_of}
use Rattle.cp_frame.proofs.Filling.{length_lists}
use Rattle.cp_frame.proofs.Pieces.{table_in_words, padded_small}
use Rattle.cp_frame.proofs.write.table_words.Goals as goal

pub returns : goal.returns
returns c =
    let S = words_of c.args.segments.now in
    let b = c.deref.result.now in
    let text : b ≡ padded_table S = c.deref.ensures.value ∙ c.in_ok-push_table.ensures.put ∙ ap (λ (d : List ℕ). d ++ padded_table S) c.new-bytes.ensures.items in
    let small : (i : ℕ) → get_or b i 0 < 256 = λ i. subst (λ (d : List ℕ). get_or d i 0 < 256) (sym text) (padded_small S i) in
    table_in_words S b (omega (arith, length_lists c.args.segments.now, c.requires.some)) text small ∙ ap (λ (ws : List ℕ). bytes_of ws) (sym (c.in_ok-take_in.ensures ∙ ap (λ (ws : List ℕ). ws ++ words_in b) c.new-words.ensures.items))
