use Rattle.std.proofs.Common.{◌≡◌, ℕ, List, length, ap, ◌∙◌, arith}
use Rattle.std.specs.Int.{from_le_bytes, w64}
use Rattle.cp_packed.specs.Unpacking.{laid_by}
use Rattle.cp_packed.proofs.Headers.{run_word}
use Rattle.cp_packed.proofs.group.OpenGroup.close_word.Goals as goal

pub returns-clause-words : goal.returns-clause-words
returns-clause-words c =
    let part = c.args.self.now.part.items in
    let read : from_le_bytes w64 c.spread.result.0 ≡ from_le_bytes w64 (laid_by 8 255 c.deref.result.now) = c.spread.ensures.word in
    let eight : length part ≡ 8 = omega (arith, c.len.ensures, c.if-len-ne-WORD.false) in
    run_word c.args.self.now.run c.from_le_bytes.result part c.requires eight
    (c.from_le_bytes.ensures ∙ read ∙ ap (λ (b : List ℕ). from_le_bytes w64 (laid_by 8 255 b)) c.deref.ensures.value)
