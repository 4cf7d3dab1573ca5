use Rattle.std.proofs.Common.{◌<◌, length, sym, ap, subst, ◌∙◌, arith}
use Rattle.cp_tree.specs.Node.{IsStruct, count, number_of, data_of, row_of}
use Rattle.cp_reading.specs.Rows.{bodies_in}
use Rattle.cp_reading.proofs.Builds.{part-body, part-struct}
use Rattle.cp_canonical.specs.Cut.{most_ptrs, most_words, used_ptrs, used_words}
use Rattle.cp_canonical.proofs.Rows.{body_none, even_at}
use Rattle.cp_canonical.proofs.Steps.{most_ptrs-next, most_words-next}
use Rattle.cp_canonical.proofs.Tops.{struct-words}
use Rattle.cp_canonical.proofs.used.least_sizes.Goals as goal

pub overflow_cast-used_words : goal.overflow_cast-used_words
overflow_cast-used_words c =
    let v = c.args.view.now in
    let within : c.loop-i.i < number_of (bodies_in v) = omega (arith, c.requires.all, c.loop-i-test.true) in
    let is = subst IsStruct (sym c.child-element.ensures) (part-struct v c.loop-i.i within) in
    let even = even_at c.args.of.words c.args.of.ptrs (bodies_in v) c.loop-i.i within c.requires.even in
    let long = ap length (struct-words c.child-element.result c.words.result.now is c.words.ensures) ∙ ap (λ u. length (data_of u)) (c.child-element.ensures ∙ part-body v c.loop-i.i within) in
    omega (arith, c.used_words.ensures.within, long, even.0, c.requires.small)

pub used_ptrs-requires-clause-is_struct : goal.used_ptrs-requires-clause-is_struct
used_ptrs-requires-clause-is_struct c =
    let v = c.args.view.now in
    subst IsStruct (sym c.child-element.ensures) (part-struct v c.loop-i.i (omega (arith, c.requires.all, c.loop-i-test.true)))

pub used_ptrs-requires-clause-all : goal.used_ptrs-requires-clause-all
used_ptrs-requires-clause-all c =
    let v = c.args.view.now in
    let within : c.loop-i.i < number_of (bodies_in v) = omega (arith, c.requires.all, c.loop-i-test.true) in
    ap (λ u. count (row_of u)) (c.child-element.ensures ∙ part-body v c.loop-i.i within) ∙ (even_at c.args.of.words c.args.of.ptrs (bodies_in v) c.loop-i.i within c.requires.even).1

pub loop-i-preserved : goal.loop-i-preserved
loop-i-preserved c =
    let v = c.args.view.now in
    let l = c.loop-i in
    let within : l.i < number_of (bodies_in v) = omega (arith, c.requires.all, c.loop-i-test.true) in
    let is = subst IsStruct (sym c.child-element.ensures) (part-struct v l.i within) in
    let words = c.used_words.ensures.used ∙ ap used_words (struct-words c.child-element.result c.words.result.now is c.words.ensures ∙ ap data_of c.child-element.ensures) in
    let ptrs = c.used_ptrs.ensures.used ∙ ap (λ u. used_ptrs (row_of u)) c.child-element.ensures in
    record {
      words = omega (arith, c.max-words.ensures, words, most_words-next v l.i l.words within, l.invariant.words);
      ptrs = omega (arith, c.max-ptrs.ensures, ptrs, most_ptrs-next v l.i l.ptrs within, l.invariant.ptrs);
    }

pub returns-clause-words : goal.returns-clause-words
returns-clause-words c =
    let bs = bodies_in c.args.view.now in
    omega (arith, c.loop-i.invariant.words, ap most_words (body_none bs c.loop-i.i (omega (arith, c.requires.all, c.loop-i-test.false))))

pub returns-clause-ptrs : goal.returns-clause-ptrs
returns-clause-ptrs c =
    let bs = bodies_in c.args.view.now in
    omega (arith, c.loop-i.invariant.ptrs, ap most_ptrs (body_none bs c.loop-i.i (omega (arith, c.requires.all, c.loop-i-test.false))))
