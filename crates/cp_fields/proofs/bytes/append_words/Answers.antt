use Rattle.std.proofs.Common.{◌≡◌, ◌+◌, ◌*◌, ◌≤◌, ◌++◌, ◌∷◌, [], List, ℕ, sym, ap, ◌∙◌, arith}
use Rattle.std.proofs.lemmas.List.{append_assoc}
use Rattle.std.proofs.lemmas.List.FromFn.{map-range_with_len_more}
use Rattle.cp_tree.specs.Elements.{element, numbers}
use Rattle.cp_fields.proofs.Blocks.{block-more}
use Rattle.cp_fields.proofs.bytes.append_words.Goals as goal

pub whole-preserved : goal.whole-preserved
whole-preserved c =
    let before = c.args.bytes.now.items in
    let ws = c.args.words.now in
    let next : (c.whole.i + 1) * 64 ≡ c.whole.i * 64 + 64 = omega arith in
    let within : c.whole.i * 64 + 64 ≤ c.args.count = omega (arith, c.whole-test.true) in
    c.in_ok-extend_from_slice.ensures.items
    ∙ ap (λ (l : List ℕ). l ++ c.next_block.result) c.whole.invariant
    ∙ append_assoc before (numbers ws 8 (c.whole.i * 64)) c.next_block.result
    ∙ ap (λ (l : List ℕ). before ++ l) (ap (λ (l : List ℕ). numbers ws 8 (c.whole.i * 64) ++ l) c.next_block.ensures ∙ sym (block-more ws c.args.count (c.whole.i * 64) within) ∙ ap (numbers ws 8) (sym next))

pub rest-preserved : goal.rest-preserved
rest-preserved c =
    let before = c.args.bytes.now.items in
    let ws = c.args.words.now in
    let one : numbers ws 8 (c.rest.i + 1) ≡ numbers ws 8 c.rest.i ++ element ws 8 c.rest.i ∷ [] = map-range_with_len_more (element ws 8) 0 c.rest.i c.rest.i (omega arith) in
    c.in_ok-push.ensures.items
    ∙ ap (λ (l : List ℕ). l ++ c.number_at.result ∷ []) c.rest.invariant
    ∙ append_assoc before (numbers ws 8 c.rest.i) (c.number_at.result ∷ [])
    ∙ ap (λ (l : List ℕ). before ++ l) (ap (λ (n : ℕ). numbers ws 8 c.rest.i ++ n ∷ []) c.number_at.ensures.value ∙ sym one)
