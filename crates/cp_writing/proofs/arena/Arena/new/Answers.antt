use Rattle.std.proofs.Common.{◌≡◌, length, ap, ◌∷◌, ◌++◌, ◌∙◌, [], arith}
use Rattle.cp_words.specs.Segments.{words_of}
use Rattle.cp_writing.specs.Strips.{words_on}
use Rattle.cp_writing.proofs.Sheets.{one_blank}
use Rattle.cp_writing.proofs.arena.Arena.new.Goals as goal

pub returns-clause-keeps : goal.returns-clause-keeps
returns-clause-keeps c =
    let none : words_of c.new.result.items ≡ [] = ap words_of c.new.ensures.items in
    let blank : words_on c.append_blank.new.self ≡ 0 ∷ [] = c.in_ok-append_blank.ensures ∙ ap (λ xs. xs ++ 0 ∷ []) (c.in_ok-reserve.ensures ∙ c.requires.blank) in
    (c.requires.capacity, omega (arith, c.requires.capacity.0), omega (arith, ap length none), λ s. one_blank _ _ 1 s none blank)
