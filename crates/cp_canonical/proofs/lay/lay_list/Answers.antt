use Rattle.std.proofs.Common.{◌++◌, ◌*◌, ◌%◌, None, length, refl, ap, ◌∙◌, arith}
use Rattle.std.proofs.lemmas.Result.{err_from_is_err_and}
use Rattle.cp_tree.specs.Elements.{elements_of}
use Rattle.cp_canonical.specs.Arenas.{masked, with_list}
use Rattle.cp_canonical.proofs.Listed.{length-listed, listed}
use Rattle.cp_canonical.proofs.Masks.{length-masked}
use Rattle.cp_canonical.proofs.Writes.{fails}
use Rattle.cp_canonical.proofs.lay.lay_list.Goals as goal

pub returns-in_err-append : goal.returns-in_err-append
returns-in_err-append c =
    let a = c.args in
    let long = length-listed a.at a.size a.count a.words.now a.arena.now.words.items c.requires.plain c.requires.words in
    let before = ap (λ ws. length (ws ++ a.words.now)) c.point.ensures.words in
    let p = err_from_is_err_and c.from_residual.result c.from_residual.ensures.1 in
    rw (p.1, p.2) (fails (Unit {0}) (Unit {0}) a.arena.now c.point.new.self c.append.new.self c.append.new.self c.in_err-append.field-0.0 None None (λ ws. ws ++ a.words.now) (with_list a.at (elements_of a.words.now a.size a.count)) c.point.ensures.most (λ i h. h) (omega (arith, long, before)) c.in_err-append.ensures)

pub returns : goal.returns
returns c =
    let a = c.args in
    let done = c.in_ok-append.ensures in
    let so_far = done.0 ∙ ap (λ ws. ws ++ a.words.now) c.point.ensures.words in
    let bits = ap (λ n. a.count * n % 64) c.bits_of.ensures in
    let words = c.keep_bits.ensures.words ∙ ap (λ n. masked n c.append.new.self.words.items) bits ∙ ap (masked _) so_far ∙ listed a.at a.size a.count a.words.now a.arena.now.words.items c.requires.plain c.requires.words c.requires.fit c.words_fit.ensures in
    let same = ap length c.keep_bits.ensures.words ∙ length-masked _ c.append.new.self.words.items in
    (words, (omega (arith, same, done.1.0, c.keep_bits.ensures.most), omega (arith, done.1.1, c.keep_bits.ensures.most)), c.keep_bits.ensures.most ∙ done.2 ∙ c.point.ensures.most, refl)
