use Rattle.std.proofs.Common.{◌≡◌, ◌++◌, inl, inr, ℕ, List, [], length, Option, subst, ap, arith}
use Rattle.std.specs.Int.{to_le_bytes, w64}
use Rattle.std.specs.Vec.{vec_len}
use Rattle.std.proofs.lemmas.List.{nil_from_length}
use Rattle.std.proofs.lemmas.Result.{IfOk-weaker}
use Rattle.cp_words.specs.Segments.{words_of}
use Rattle.cp_packed.specs.Words.{bytes_of}
use Rattle.cp_frame.specs.Parts.{body, rest_of, Takes}
use Rattle.cp_frame.proofs.Begun.{rest_part, rest_taken, rest_word, zero_by}
use Rattle.cp_frame.proofs.frame.OpenFrame.take_of_segments.Goals.{in-Some+in_ok-push_words, in_default}
use Rattle.cp_frame.proofs.frame.OpenFrame.take_of_segments.Goals as goal

pub push_words-requires-clause-begun : goal.push_words-requires-clause-begun
push_words-requires-clause-begun c =
    let h = c.requires.begun in
    let takes = subst (λ (word : Option ℕ). Takes c.args.self.now.part.items c.args.left.now c.take_word.new.part.items word c.in_ok-word.back.now) c.in-Some.is c.in_ok-word.ensures.takes in
    record { table = h.table; whole = h.whole; fills = h.fills; goes_on = h.goes_on; short = omega (arith, ap (λ (b : List ℕ). length b) takes.0) }

pub returns-clause-begun : goal.returns-clause-begun
returns-clause-begun c =
    let h = c.requires.begun in
    elim c.match-word.branch [
      | in-Some+in_ok-push_words w ↦ rw w.self-is w.in_ok-push_words.ensures.begun
      | in_default w ↦
          (let takes = subst (λ (word : Option ℕ). Takes c.args.self.now.part.items c.args.left.now c.take_word.new.part.items word c.in_ok-word.back.now) w.in_default.is c.in_ok-word.ensures.takes in
          rw w.self-is (inl (inr (record { table = h.table; whole = h.whole; fills = h.fills; goes_on = h.goes_on; short = takes.1 }))))
    ]

pub returns-clause-rest : goal.returns-clause-rest
returns-clause-rest c =
    let f = c.args.self.now in
    let X = bytes_of f.table.items ++ body (words_of f.segments.items) f.words.items in
    let part = f.part.items in
    let new = c.take_word.new.part.items in
    let left = c.args.left.now in
    let back = c.in_ok-word.back.now in
    elim c.match-word.branch [
      | in-Some+in_ok-push_words w ↦
          (let takes = subst (λ (word : Option ℕ). Takes part left new word back) w.in-Some.is c.in_ok-word.ensures.takes in
          rw w.self-is (rest_word X part left new back (rest_of w.push_words.new.self) (to_le_bytes w64 w.in-Some.word) takes.0 takes.2 w.in_ok-push_words.ensures.rest))
      | in_default w ↦
          (let takes = subst (λ (word : Option ℕ). Takes part left new word back) w.in_default.is c.in_ok-word.ensures.takes in
          rw w.self-is (rest_part X part left new back takes.0 takes.2))
    ]

pub returns-then-left-ge8-clause-rest : goal.returns-then-left-ge8-clause-rest
returns-then-left-ge8-clause-rest c =
    let f = c.args.self.now in
    let T = bytes_of f.table.items in
    let B = body (words_of f.segments.items) f.words.items in
    let C = body (words_of c.take_words.new.segments.items) c.take_words.new.words.items in
    let part = f.part.items in
    let left = c.args.left.now in
    let zero : vec_len f.part ≡ 0 = zero_by (vec_len f.part) c.is_empty.result c.is_empty.ensures c.if-is_empty.true in
    let none : part ≡ [] = nil_from_length part (omega (arith, zero)) in
    IfOk-weaker c.take_words.result (λ back. C ++ back.now ≡ B ++ left) (λ back. ((T ++ C) ++ part) ++ back.now ≡ ((T ++ B) ++ part) ++ left) (λ back h. rest_taken T B C part back.now left none h) c.take_words.ensures.body
