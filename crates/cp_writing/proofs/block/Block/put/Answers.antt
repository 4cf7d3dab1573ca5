use Rattle.std.proofs.Common.{◌≡◌, ◌++◌, ◌+◌, ◌*◌, ◌<◌, ℕ, List, length, take, drop, set, ap, ◌∙◌, arith}
use Rattle.std.specs.Int.{to_le_bytes, w64}
use Rattle.cp_writing.specs.Blocks.{words_of_block}
use Rattle.cp_writing.proofs.Blocks.{length_block, put_over, refilled}
use Rattle.cp_writing.proofs.block.Block.put.Goals as goal

pub put_word-requires : goal.put_word-requires
put_word-requires c =
    let b = c.self.inside.bytes.items in
    omega (arith, length_block b c.self.invariant, ap (λ (ws : List ℕ). length ws) c.self.view_is, c.requires, ap (λ (x : List ℕ). length x) c.deref_mut.ensures.value)

pub invariant_of-self : goal.invariant_of-self
invariant_of-self c =
    let b = c.self.inside.bytes.items in
    let at = c.args.at in
    let w = c.args.word in
    let new = c.put_word.new.bytes in
    let same : length new ≡ length b = omega (arith, c.put_word.auto.bytes, ap (λ (x : List ℕ). length x) c.deref_mut.ensures.value) in
    let is = refilled c.self.inside.bytes.len b new c.self.inside.bytes.ok.0 same ∙ c.put_word.ensures ∙ ap (λ (x : List ℕ). (take (8 + 8 * at) x ++ to_le_bytes w64 w) ++ drop (8 + 8 * at + 8) x) c.deref_mut.ensures.value in
    let there : at < length (words_of_block b) = omega (arith, c.requires, ap (λ (ws : List ℕ). length ws) c.self.view_is) in
    (put_over b _ at w c.self.invariant there (omega arith) is).1

pub returns : goal.returns
returns c =
    let b = c.self.inside.bytes.items in
    let at = c.args.at in
    let w = c.args.word in
    let new = c.put_word.new.bytes in
    let same : length new ≡ length b = omega (arith, c.put_word.auto.bytes, ap (λ (x : List ℕ). length x) c.deref_mut.ensures.value) in
    let is = refilled c.self.inside.bytes.len b new c.self.inside.bytes.ok.0 same ∙ c.put_word.ensures ∙ ap (λ (x : List ℕ). (take (8 + 8 * at) x ++ to_le_bytes w64 w) ++ drop (8 + 8 * at + 8) x) c.deref_mut.ensures.value in
    let there : at < length (words_of_block b) = omega (arith, c.requires, ap (λ (ws : List ℕ). length ws) c.self.view_is) in
    (put_over b _ at w c.self.invariant there (omega arith) is).0 ∙ ap (λ (ws : List ℕ). set ws at w) c.self.view_is
