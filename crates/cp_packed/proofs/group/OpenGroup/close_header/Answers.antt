use Rattle.std.proofs.Common.{◌≡◌, ◌-◌, take, suc, ℕ, List, length, drop, get_or, ap, ◌∙◌, arith}
use Rattle.std.specs.Int.{from_le_bytes, w64}
use Rattle.cp_packed.specs.Unpacking.{laid_by, header_of}
use Rattle.std.proofs.lemmas.List.{get_or_default, take_rest}
use Rattle.cp_packed.proofs.Headers.{header_zeros, header_word}
use Rattle.cp_packed.proofs.group.OpenGroup.close_header.Goals as goal
use Rattle.cp_packed.proofs.group.OpenGroup.close_header.Goals.{then-tag-eq0, else-tag-eq0}

pub returns-clause-words : goal.returns-clause-words
returns-clause-words c =
    let part = c.args.self.now.part.items in
    let tag = c.index-tag.result.now in
    let whole : length part ≡ header_of tag = omega (arith, c.len.ensures, c.header.ensures, c.if-len-header.false) in
    let read : from_le_bytes w64 c.spread.result.0 ≡ from_le_bytes w64 (laid_by 8 tag (take (length c.deref.result.now - 1) (drop 1 c.deref.result.now))) = c.spread.ensures.word in
    let word : c.from_le_bytes.result ≡ from_le_bytes w64 (laid_by 8 tag (drop 1 part)) =
    c.from_le_bytes.ensures ∙ read ∙ ap (λ (b : List ℕ). from_le_bytes w64 (laid_by 8 tag b)) (take_rest c.deref.result.now 1) ∙ ap (λ (b : List ℕ). from_le_bytes w64 (laid_by 8 tag (drop 1 b))) c.deref.ensures.value in
    elim c.if-tag-eq0.branch [
      | then-tag-eq0 w ↦ (let two : length part ≡ 2 = whole ∙ ap (λ (u : ℕ). header_of u) w.if-tag-eq0.true in
          let more : w.index.result.now ≡ get_or part 1 0 = w.index.ensures ∙ get_or_default part 1 w.index.result.now 0 (omega (arith, two)) in
          let count : c.if-tag-eq0.count ≡ suc (get_or part 1 0) = omega (arith, w.count-is, more) in
          header_zeros part tag c.if-tag-eq0.count c.from_le_bytes.result c.index-tag.ensures whole w.if-tag-eq0.true count word)
      | else-tag-eq0 w ↦ header_word part tag c.if-tag-eq0.count c.from_le_bytes.result c.requires.some c.index-tag.ensures whole (λ e. omega (arith, e, w.if-tag-eq0.false)) w.count-is word
    ]
