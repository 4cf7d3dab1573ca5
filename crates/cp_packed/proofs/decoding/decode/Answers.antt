use Rattle.std.proofs.Common.{◌++◌, ◌-◌, ◌≡◌, ℕ, List, Option, Bor, IfSome, length, sym, subst, arith}
use Rattle.std.proofs.lemmas.List.{take-append-drop}
use Rattle.cp_packed.specs.Decoding.{Decodes, TakesHeader, TakesNone}
use Rattle.cp_packed.proofs.Bytes.{bytes_by}
use Rattle.cp_packed.proofs.Opens.{is_by}
use Rattle.cp_packed.proofs.Decoded.{decodes_header, decodes_word, packs_no_header, packs_no_word, packs_no_run, packs_words}
use Rattle.cp_packed.proofs.decoding.decode.Goals as goal

pub returns-then-left-lt8-clause-only : goal.returns-then-left-lt8-clause-only
returns-then-left-lt8-clause-only c = λ ws p. absurd (packs_no_word c.args.bytes.now c.decoding.words.items c.decoding.left.now c.decoding.run c.decoding.invariant c.if-run-gt0.true c.if-left-lt8.true ws p)

pub decoding-preserved-then-run-gt0 : goal.decoding-preserved-then-run-gt0
decoding-preserved-then-run-gt0 c =
    let left = c.decoding.left.now in
    let split : left ≡ c.split_at.result.0.now ++ c.split_at.result.1.now = rw (c.split_at.ensures.front, c.split_at.ensures.back) (sym (take-append-drop 8 left)) in
    subst (λ (ws : List ℕ). Decodes c.args.bytes.now ws (c.decoding.run - 1) c.split_at.result.1.now) (sym c.in_ok-push.ensures.items)
    (decodes_word c.args.bytes.now c.decoding.words.items left c.split_at.result.0.now c.split_at.result.1.now c.decoding.run c.word_of.result c.decoding.invariant c.if-run-gt0.true c.word_of.type_inv c.word_of.ensures split)

pub returns-in_default-clause-only : goal.returns-in_default-clause-only
returns-in_default-clause-only c =
    let none : c.decoding.run ≡ 0 = omega (arith, c.if-run-gt0.false) in
    λ ws p. absurd (packs_no_header c.args.bytes.now c.decoding.words.items c.decoding.left.now c.decoding.run c.decoding.invariant none
    (subst (λ (f : Option (ℕ × Bor (List ℕ))). TakesNone c.decoding.left.now f) c.in_default.is c.in_ok-count.ensures.none) ws p)

pub decoding-preserved : goal.decoding-preserved
decoding-preserved c =
    let none : c.decoding.run ≡ 0 = omega (arith, c.if-run-gt0.false) in
    decodes_header c.args.bytes.now c.decoding.words.items c.decoding.left.now c.take_header.new.words.items c.in-Some.back.now c.decoding.run c.in-Some.count c.decoding.invariant none
    (subst (λ (f : Option (ℕ × Bor (List ℕ))). IfSome f (λ t. TakesHeader c.decoding.words.items c.decoding.left.now c.take_header.new.words.items t.0 t.1.now)) c.in-Some.is c.in_ok-count.ensures.some)

pub returns-then-run-eq0-clause-some : goal.returns-then-run-eq0-clause-some
returns-then-run-eq0-clause-some c =
    packs_words c.args.bytes.now c.decoding.words.items c.decoding.left.now c.decoding.run (bytes_by c.args.bytes.now (λ j. omega (arith, c.type_inv.bytes j))) c.decoding.invariant (is_by (length c.decoding.left.now) 0 (sym c.decoding-test.ensures)) c.if-run-eq0.true

pub returns-clause-only : goal.returns-clause-only
returns-clause-only c = λ ws p. absurd (packs_no_run c.args.bytes.now c.decoding.words.items c.decoding.left.now c.decoding.run c.decoding.invariant (is_by (length c.decoding.left.now) 0 (sym c.decoding-test.ensures)) (omega (arith, c.if-run-eq0.false)) ws p)
