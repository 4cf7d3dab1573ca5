use Rattle.std.proofs.Common.{◌≡◌, ◌≤◌, ◌<◌, ◌+◌, ◌*◌, ℕ, length, ◌++◌, ◌∙◌, List, ap, sym, subst, get_or, arith, append_assoc}
use Rattle.std.proofs.lemmas.List.{take-append-drop}
use Rattle.cp_frame.proofs.Filling.{fills_more, body_more, length_lists}
use Rattle.cp_packed.proofs.Bytes.{words_in_is, take_small}
use Rattle.cp_frame.specs.Parts.{halves, body}
use Rattle.cp_words.specs.Segments.{words_of}
use Rattle.cp_packed.specs.Words.{words_in}
use Rattle.cp_frame.specs.Stream.{named_sizes}
use Rattle.cp_frame.proofs.frame.take_words.Goals as goal

pub close-requires-clause-fills : goal.close-requires-clause-fills
close-requires-clause-fills c =
    let sizes = named_sizes (halves c.args.table.now) in
    let S = words_of c.args.segments.now.items in
    let front = c.split_at.result.0.now in
    let some = words_in_is c.min-taken.result front c.split_at.ensures.front_len (subst (λ (b : List ℕ). (i : ℕ) → get_or b i 0 < 256) (sym c.split_at.ensures.front) (take_small (8 * c.min-taken.result) c.args.left.now (λ i. omega (arith, c.type_inv.left i)))) in
    let taken = c.in_ok-take_in.ensures ∙ ap (λ (ws : List ℕ). ws ++ words_in front) c.in_ok-reserve_words.ensures.items in
    let fitting : length c.args.words.now.items + length (words_in front) ≤ get_or sizes (length S) 0 =
    let next : length S ≡ c.len.result = omega (arith, length_lists c.args.segments.now.items, c.len.ensures) in
    let size : c.size.result ≡ get_or sizes (length S) 0 = c.size.ensures.value ∙ ap (λ i. get_or sizes i 0) (sym next) in
    omega (arith, size, some.0, c.min-taken.ensures, c.len-2.ensures, c.requires.fills.fitting) in
    rw taken (fills_more sizes S c.args.words.now.items (words_in front) c.requires.fills some.1 fitting)

pub returns-clause-body : goal.returns-clause-body
returns-clause-body c =
    let S = words_of c.args.segments.now.items in
    let front = c.split_at.result.0.now in
    let back = c.split_at.result.1.now in
    let some = words_in_is c.min-taken.result front c.split_at.ensures.front_len (subst (λ (b : List ℕ). (i : ℕ) → get_or b i 0 < 256) (sym c.split_at.ensures.front) (take_small (8 * c.min-taken.result) c.args.left.now (λ i. omega (arith, c.type_inv.left i)))) in
    let taken = c.in_ok-take_in.ensures ∙ ap (λ (ws : List ℕ). ws ++ words_in front) c.in_ok-reserve_words.ensures.items in
    let new = c.in_ok-close.ensures.body ∙ ap (λ (ws : List ℕ). body S ws) taken ∙ body_more S c.args.words.now.items (words_in front) ∙ ap (λ (b : List ℕ). body S c.args.words.now.items ++ b) some.2 in
    let whole : front ++ back ≡ c.args.left.now = rw (c.split_at.ensures.front, c.split_at.ensures.back) (take-append-drop (8 * c.min-taken.result) c.args.left.now) in
    ap (λ (b : List ℕ). b ++ back) new ∙ append_assoc (body S c.args.words.now.items) front back ∙ ap (λ (b : List ℕ). body S c.args.words.now.items ++ b) whole
