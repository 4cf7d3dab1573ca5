use Rattle.std.proofs.Common.{ℕ, ◌<◌, ◌+◌, ◌++◌, None, length, take, replicate, refl, sym, ap, subst, ◌∙◌, arith}
use Rattle.std.proofs.lemmas.List.{length-append, length-replicate, length-take}
use Rattle.std.proofs.lemmas.Result.{err_from_is_err_and}
use Rattle.cp_tree.specs.Node.{IsStruct, number_of, data_of}
use Rattle.cp_reading.specs.Rows.{bodies_in}
use Rattle.cp_reading.proofs.Builds.{part-body, part-struct}
use Rattle.cp_canonical.specs.Arenas.{elements_blank}
use Rattle.cp_canonical.proofs.Rows.{drop_bodies, words_at}
use Rattle.cp_canonical.proofs.Steps.{blanks_end, blanks_go_on, blanks_longer}
use Rattle.cp_canonical.proofs.Tops.{struct-words}
use Rattle.cp_canonical.proofs.Writes.{fails}
use Rattle.cp_canonical.proofs.lay.append_elements.Goals as goal

pub slice_bounds-append-end : goal.slice_bounds-append-end
slice_bounds-append-end c =
    let v = c.args.view.now in
    let within : c.loop-i.i < number_of (bodies_in v) = omega (arith, c.requires.all, c.loop-i-test.true) in
    let is = subst IsStruct (sym c.child-element.ensures) (part-struct v c.loop-i.i within) in
    let long = ap length (struct-words c.child-element.result c.words.result.now is c.words.ensures) ∙ ap (λ u. length (data_of u)) (c.child-element.ensures ∙ part-body v c.loop-i.i within) in
    omega (arith, length-take c.args.of.words c.words.result.now, long, words_at c.args.of.words (bodies_in v) c.loop-i.i within c.requires.wide)

pub returns-in_err-append : goal.returns-in_err-append
returns-in_err-append c =
    let v = c.args.view.now in
    let l = c.loop-i in
    let d = c.args.of.words in
    let n = c.args.of.ptrs in
    let now = l.arena.words.items in
    let within : l.i < number_of (bodies_in v) = omega (arith, c.requires.all, c.loop-i-test.true) in
    let is = subst IsStruct (sym c.child-element.ensures) (part-struct v l.i within) in
    let same = struct-words c.child-element.result c.words.result.now is c.words.ensures ∙ ap data_of c.child-element.ensures in
    let longer = blanks_longer d n v l.i now (c.args.arena.now.words.items ++ elements_blank d n (bodies_in v)) within l.invariant.words in
    let p = err_from_is_err_and c.from_residual.result c.from_residual.ensures.1 in
    rw (p.1, p.2) (fails (Unit {0}) (Unit {0}) c.args.arena.now l.arena c.append.new.self c.append.new.self c.in_err-append.field-0.0 None None (λ ws. ws ++ take d c.words.result.now) (λ ws. ws ++ elements_blank d n (bodies_in v)) l.invariant.most (λ i h. h)
    (omega (arith, ap (λ ds. length (now ++ take d ds)) same, longer)) c.in_err-append.ensures)

pub returns-in_err-append_blank : goal.returns-in_err-append_blank
returns-in_err-append_blank c =
    let v = c.args.view.now in
    let l = c.loop-i in
    let d = c.args.of.words in
    let n = c.args.of.ptrs in
    let now = l.arena.words.items in
    let within : l.i < number_of (bodies_in v) = omega (arith, c.requires.all, c.loop-i-test.true) in
    let is = subst IsStruct (sym c.child-element.ensures) (part-struct v l.i within) in
    let same = struct-words c.child-element.result c.words.result.now is c.words.ensures ∙ ap data_of c.child-element.ensures in
    let longer = blanks_longer d n v l.i now (c.args.arena.now.words.items ++ elements_blank d n (bodies_in v)) within l.invariant.words in
    let ok = c.in_ok-append.ensures in
    let words = ok.0 ∙ ap (λ ds. now ++ take d ds) same in
    let p = err_from_is_err_and c.from_residual-in_err-append_blank.result c.from_residual-in_err-append_blank.ensures.1 in
    rw (p.1, p.2) (fails (Unit {0}) (Unit {0}) c.args.arena.now c.append.new.self c.append_blank.new.self c.append_blank.new.self c.in_err-append_blank.field-0.0 None None (λ ws. ws ++ replicate n 0) (λ ws. ws ++ elements_blank d n (bodies_in v)) (ok.2 ∙ l.invariant.most) (λ i h. h)
    (omega (arith, ap length words, length-append c.append.new.self.words.items (replicate n 0), length-replicate {A = ℕ} n 0, longer)) c.in_err-append_blank.ensures)

pub loop-i-preserved : goal.loop-i-preserved
loop-i-preserved c =
    let v = c.args.view.now in
    let l = c.loop-i in
    let d = c.args.of.words in
    let n = c.args.of.ptrs in
    let now = l.arena.words.items in
    let within : l.i < number_of (bodies_in v) = omega (arith, c.requires.all, c.loop-i-test.true) in
    let is = subst IsStruct (sym c.child-element.ensures) (part-struct v l.i within) in
    let same = struct-words c.child-element.result c.words.result.now is c.words.ensures ∙ ap data_of c.child-element.ensures in
    let one = c.in_ok-append.ensures in
    let two = c.in_ok-append_blank.ensures in
    let words = two.0 ∙ ap (λ ws. ws ++ replicate n 0) (one.0 ∙ ap (λ ds. now ++ take d ds) same) in
    record {
      words = ap (λ ws. ws ++ elements_blank d n (drop_bodies (l.i + 1) (bodies_in v))) words ∙ blanks_go_on d n v l.i now (c.args.arena.now.words.items ++ elements_blank d n (bodies_in v)) within l.invariant.words;
      arena = two.1;
      most = two.2 ∙ one.2 ∙ l.invariant.most;
    }

pub returns : goal.returns
returns c =
    let v = c.args.view.now in
    let l = c.loop-i in
    (blanks_end c.args.of.words c.args.of.ptrs v l.i l.arena.words.items _ (omega (arith, c.requires.all, c.loop-i-test.false)) l.invariant.words, l.invariant.arena, l.invariant.most, refl)
