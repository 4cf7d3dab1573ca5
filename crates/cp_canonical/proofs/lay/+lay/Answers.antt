use Rattle.std.proofs.Common.{◌≡◌, ◌<◌, ◌≤◌, ◌+◌, ◌*◌, ◌++◌, None, refl, sym, ap, subst, ◌∙◌, length, take, arith}
use Rattle.std.proofs.Math.Nat.{mul-le-mul_left}
use Rattle.std.proofs.lemmas.List.{length-append, length-set}
use Rattle.std.proofs.lemmas.Nat.{row_fits}
use Rattle.std.proofs.lemmas.Result.{err_from_is_err_and}
use Rattle.cp_tree.specs.Node.{count, depth, number_of, row_of}
use Rattle.cp_tree.specs.Seen.{shape_of}
use Rattle.cp_tree.specs.Shaped.{EachShaped, Shaped}
use Rattle.cp_tree.specs.declared.shape.Shape.TheVariants as shapes
use Rattle.cp_reading.specs.Rows.{bodies_in}
use Rattle.cp_reading.proofs.Builds.{element_nests, part-body, part-row, row_nests}
use Rattle.cp_canonical.specs.Cut.{cut, cut_bodies, cut_row, first_cap, first_cap_in, first_cap_of, most_ptrs, most_words, take_ptrs}
use Rattle.cp_canonical.specs.Arenas.{Writes, elements_blank, with_bodies, with_ptrs, with_row, with_struct, with_tag, with_tree}
use Rattle.cp_canonical.proofs.Begun.{after, all_left, bodies_left, length-struct, length-tag, lent_left, ptrs_caps, ptrs_longer, ptrs_tree, struct_caps, struct_longer, struct_tree, structs_caps, structs_longer, structs_tree, tag_longer}
use Rattle.cp_canonical.proofs.Rows.{has_ptrs, has_words, length-blank, next_place, ptrs_at, shaped_at}
use Rattle.cp_canonical.proofs.Shapes.{ptrs_within, words_within}
use Rattle.cp_canonical.proofs.Steps.{bodies_caps_end, bodies_caps_on, bodies_end, bodies_go_on, bodies_longer, bodies_stop, row_caps_end, row_caps_on, row_ends, row_goes_on, row_longer, row_stops}
use Rattle.cp_canonical.proofs.Tops.{cap-shape, list-shape, null-shape, ptrs-shape, struct-shaped, struct-top, structs-shape, structs-shaped}
use Rattle.cp_canonical.proofs.Writes.{fails, longer_row, longer_tree}
use Rattle.cp_canonical.proofs.lay.+lay.Goals as goal

pub lay-returns-in-Null : goal.lay-returns-in-Null
lay-returns-in-Null t c =
    let a = c.args in
    let words = c.put.ensures.words in
    let most = c.put.ensures.most in
    let same = ap length words in
    rw (null-shape a.view.now c.in-Null.ensures.is) (words, (omega (arith, same, length-set a.arena.now.words.items a.at 0, c.requires.arena.0, most), omega (arith, c.requires.arena.1, most)), most, refl)

pub lay-returns-in-Cap : goal.lay-returns-in-Cap
lay-returns-in-Cap t c = ap (λ u. first_cap (cut u)) (cap-shape c.args.view.now c.in-Cap.index c.in-Cap.ensures.is)

pub lay-lay_struct-requires : goal.lay-lay_struct-requires
lay-lay_struct-requires t c =
    let top = struct-top c.args.view.now c.in-Struct.words c.in-Struct.ptrs c.in-Struct.ensures.is in
    (omega arith, (c.requires.arena, (c.requires.there, (c.requires.shaped, (top.0, top.1)))))

pub lay-lay_ptrs-requires : goal.lay-lay_ptrs-requires
lay-lay_ptrs-requires t c =
    let v = c.args.view.now in
    let top = ptrs-shape v c.in-List.count (subst (λ s. shapes.List s c.in-List.count ≡ shape_of v) c.in-Pointer.is c.in-List.ensures.is) in
    (omega arith, (c.requires.arena, (c.requires.there, (c.requires.shaped, (top.0, top.1)))))

pub lay-lay_list-requires : goal.lay-lay_list-requires
lay-lay_list-requires t c =
    let v = c.args.view.now in
    let is = list-shape v c.in-List.size c.in-List.count c.in-List.ensures.is (λ e. c.in_default.not-Pointer (sym e)) in
    let held = is.held c.words.result.now c.words.ensures in
    record { arena = c.requires.arena; there = c.requires.there; few = is.few c.requires.shaped; plain = is.data_only; fit = subst Shaped held.0 c.requires.shaped; words = held.1 }

pub lay-returns-in_default : goal.lay-returns-in_default
lay-returns-in_default t c =
    let a = c.args in
    let v = a.view.now in
    let is = list-shape v c.in-List.size c.in-List.count c.in-List.ensures.is (λ e. c.in_default.not-Pointer (sym e)) in
    let held = is.held c.words.result.now c.words.ensures in
    subst (λ u. Writes {X = Unit {0}} a.arena.now c.lay_list.new.arena c.lay_list.result (first_cap (cut u)) (with_tree a.at (cut u))) (sym held.0) c.lay_list.ensures

pub lay-lay_structs-requires : goal.lay-lay_structs-requires
lay-lay_structs-requires t c =
    (omega arith, (c.requires.arena, (c.requires.there, (c.requires.shaped, structs-shape c.args.view.now c.in-Structs.words c.in-Structs.ptrs c.in-Structs.count c.in-Structs.ensures.is))))

pub lay_struct-returns-in_err-begin_struct : goal.lay_struct-returns-in_err-begin_struct
lay_struct-returns-in_err-begin_struct t c =
    let a = c.args in
    let v = a.view.now in
    let is = c.requires.is_struct in
    let words = take c.used_words.result c.words-words.result.now in
    let n = c.used_ptrs-ptrs.result in
    let left = lent_left v c.words-words.result.now c.used_words.result is c.words-words.ensures c.used_words.ensures.used in
    let p = err_from_is_err_and c.from_residual.result c.from_residual.ensures.1 in
    rw (p.1, p.2) (fails (Unit {0}) (Unit {0}) a.arena.now a.arena.now c.begin_struct.new.arena c.begin_struct.new.arena c.in_err-begin_struct.field-0.0 None (first_cap (cut v)) (with_struct a.at words n) (with_tree a.at (cut v)) refl (λ i h. cc)
    (rw (left, c.used_ptrs-ptrs.ensures.used) (struct_longer v a.at a.arena.now.words.items is)) c.in_err-begin_struct.ensures)

pub lay_struct-lay_row-requires : goal.lay_struct-lay_row-requires
lay_struct-lay_row-requires t c =
    let a = c.args in
    let n = c.used_ptrs-ptrs.result in
    let words = take c.used_words.result c.words-words.result.now in
    let ok = c.in_ok-begin_struct.ensures in
    let there : c.len.result + length words + n ≤ length c.begin_struct.new.arena.words.items = omega (arith, c.len.ensures, a.arena.now.words.ok.0, ap length ok.0, length-struct a.at n words a.arena.now.words.items) in
    (omega arith, (ok.1, (there, (omega (arith, c.used_ptrs-ptrs.ensures.within, c.requires.all), (struct-shaped a.view.now c.requires.is_struct c.requires.shaped).1))))

pub lay_struct-returns : goal.lay_struct-returns
lay_struct-returns t c =
    let a = c.args in
    let v = a.view.now in
    let is = c.requires.is_struct in
    let n = c.used_ptrs-ptrs.result in
    let old = a.arena.now.words.items in
    let ok = c.in_ok-begin_struct.ensures in
    let row = take_ptrs n (cut_row (row_of v)) in
    let left = lent_left v c.words-words.result.now c.used_words.result is c.words-words.ensures c.used_words.ensures.used in
    let len : c.len.result ≡ length old = omega (arith, c.len.ensures, a.arena.now.words.ok.0) in
    let first = c.len.result + length (take c.used_words.result c.words-words.result.now) in
    after (Unit {0}) a.arena.now c.begin_struct.new.arena c.lay_row.new.arena c.lay_row.result (first_cap_in row) (first_cap (cut v)) (with_row first row) (with_tree a.at (cut v)) ok.2
    (struct_caps v n is c.used_ptrs-ptrs.ensures.used)
    (rw (len, ok.0, left, c.used_ptrs-ptrs.ensures.used) (sym (struct_tree v a.at old is)))
    c.lay_row.ensures

pub lay_ptrs-returns : goal.lay_ptrs-returns
lay_ptrs-returns t c =
    let a = c.args in
    let v = a.view.now in
    let is = c.requires.is_ptrs in
    let old = a.arena.now.words.items in
    let ok = c.in_ok-begin_ptrs.ensures in
    let row = take_ptrs a.number (cut_row (row_of v)) in
    let len : c.len-first.result ≡ length old = omega (arith, c.len-first.ensures, a.arena.now.words.ok.0) in
    after (Unit {0}) a.arena.now c.begin_ptrs.new.arena c.lay_row.new.arena c.lay_row.result (first_cap_in row) (first_cap (cut v)) (with_row c.len-first.result row) (with_tree a.at (cut v)) ok.2
    (ptrs_caps v a.number is c.requires.all)
    (rw (len, ok.0, all_left v a.number c.requires.all) (sym (ptrs_tree v a.at a.number old is c.requires.all)))
    c.lay_row.ensures

pub lay_structs-least_sizes-least-requires : goal.lay_structs-least_sizes-least-requires
lay_structs-least_sizes-least-requires t c =
    let of = c.args.of in
    let e = structs-shaped c.args.view.now of.words of.ptrs of.count c.requires.sizes c.requires.shaped in
    record { all = e.number; even = e.even; small = e.words }

pub lay_structs-begin_elements-requires-clause-small : goal.lay_structs-begin_elements-requires-clause-small
lay_structs-begin_elements-requires-clause-small t c =
    let of = c.args.of in
    let bs = bodies_in c.args.view.now in
    let least = c.least_sizes-least in
    let e = structs-shaped c.args.view.now of.words of.ptrs of.count c.requires.sizes c.requires.shaped in
    let fewer : of.count * (most_words bs + most_ptrs bs) ≤ of.count * (of.words + of.ptrs) = mul-le-mul_left of.count (omega (arith, words_within of.words of.ptrs bs e.even, ptrs_within of.words of.ptrs bs e.even)) in
    let is : least.result.count * (least.result.words + least.result.ptrs) ≡ of.count * (most_words bs + most_ptrs bs) = rw (least.ensures.count, least.ensures.words, least.ensures.ptrs) refl in
    omega (arith, fewer, is, e.small)

pub lay_structs-returns-in_err-begin_elements : goal.lay_structs-returns-in_err-begin_elements
lay_structs-returns-in_err-begin_elements t c =
    let a = c.args in
    let v = a.view.now in
    let of = a.of in
    let least = c.least_sizes-least in
    let e = structs-shaped v of.words of.ptrs of.count c.requires.sizes c.requires.shaped in
    let p = err_from_is_err_and c.from_residual.result c.from_residual.ensures.1 in
    rw (p.1, p.2) (fails (Unit {0}) (Unit {0}) a.arena.now a.arena.now c.begin_elements.new.arena c.begin_elements.new.arena c.in_err-begin_elements.field-0.0 None (first_cap (cut v)) (with_tag a.at least.result.words least.result.ptrs least.result.count) (with_tree a.at (cut v)) refl (λ i h. cc)
    (rw (least.ensures.count, least.ensures.words, least.ensures.ptrs) (tag_longer v a.at of.words of.ptrs of.count a.arena.now.words.items c.requires.sizes e.even e.number)) c.in_err-begin_elements.ensures)

pub lay_structs-append_elements-requires-clause-wide : goal.lay_structs-append_elements-requires-clause-wide
lay_structs-append_elements-requires-clause-wide t c =
    let of = c.args.of in
    let v = c.args.view.now in
    let e = structs-shaped v of.words of.ptrs of.count c.requires.sizes c.requires.shaped in
    rw c.least_sizes-least.ensures.words (has_words of.words of.ptrs (most_words (bodies_in v)) (bodies_in v) (words_within of.words of.ptrs (bodies_in v) e.even) e.even)

pub lay_structs-returns-in_err-append_elements : goal.lay_structs-returns-in_err-append_elements
lay_structs-returns-in_err-append_elements t c =
    let a = c.args in
    let v = a.view.now in
    let of = a.of in
    let least = c.least_sizes-least in
    let ok = c.in_ok-begin_elements.ensures in
    let e = structs-shaped v of.words of.ptrs of.count c.requires.sizes c.requires.shaped in
    let p = err_from_is_err_and c.from_residual-in_err-append_elements.result c.from_residual-in_err-append_elements.ensures.1 in
    rw (p.1, p.2) (fails (Unit {0}) (Unit {0}) a.arena.now c.begin_elements.new.arena c.append_elements.new.arena c.append_elements.new.arena c.in_err-append_elements.field-0.0 None (first_cap (cut v)) (λ ws. ws ++ elements_blank least.result.words least.result.ptrs (bodies_in v)) (with_tree a.at (cut v)) ok.2 (λ i h. cc)
    (rw (ok.0, least.ensures.count, least.ensures.words, least.ensures.ptrs) (structs_longer v a.at of.words of.ptrs of.count a.arena.now.words.items c.requires.sizes e.even e.number)) c.in_err-append_elements.ensures)

pub lay_structs-lay_elements-requires : goal.lay_structs-lay_elements-requires
lay_structs-lay_elements-requires t c =
    let a = c.args in
    let v = a.view.now in
    let bs = bodies_in v in
    let of = a.of in
    let least = c.least_sizes-least in
    let one = c.in_ok-begin_elements.ensures in
    let two = c.in_ok-append_elements.ensures in
    let e = structs-shaped v of.words of.ptrs of.count c.requires.sizes c.requires.shaped in
    let wide = has_words of.words of.ptrs (most_words bs) bs (words_within of.words of.ptrs bs e.even) e.even in
    let number : number_of bs ≡ least.result.count = e.number ∙ sym least.ensures.count in
    let words : length (elements_blank least.result.words least.result.ptrs bs) ≡ least.result.count * (least.result.words + least.result.ptrs) = rw (least.ensures.words, least.ensures.ptrs, least.ensures.count) (length-blank (most_words bs) (most_ptrs bs) bs wide ∙ ap (λ k. k * (most_words bs + most_ptrs bs)) e.number) in
    let begun = c.begin_elements.new.arena.words.items in
    let tag : length begun ≡ length a.arena.now.words.items + 1 = ap length one.0 ∙ length-tag a.at least.result.words least.result.ptrs least.result.count a.arena.now.words.items in
    let there : c.len-first.result + 1 + least.result.count * (least.result.words + least.result.ptrs) ≤ length c.append_elements.new.arena.words.items =
    omega (arith, c.len-first.ensures, a.arena.now.words.ok.0, words, tag, ap length two.0, length-append begun (elements_blank least.result.words least.result.ptrs bs)) in
    (omega arith, (two.1, (there, (number, rw least.ensures.ptrs (has_ptrs of.words of.ptrs (most_ptrs bs) bs (ptrs_within of.words of.ptrs bs e.even) e.even)))))

pub lay_structs-returns : goal.lay_structs-returns
lay_structs-returns t c =
    let a = c.args in
    let v = a.view.now in
    let bs = bodies_in v in
    let of = a.of in
    let old = a.arena.now.words.items in
    let least = c.least_sizes-least in
    let one = c.in_ok-begin_elements.ensures in
    let two = c.in_ok-append_elements.ensures in
    let e = structs-shaped v of.words of.ptrs of.count c.requires.sizes c.requires.shaped in
    let left = cut_bodies least.result.words least.result.ptrs bs in
    let len : c.len-first.result ≡ length old = omega (arith, c.len-first.ensures, a.arena.now.words.ok.0) in
    let is : left ≡ bodies_left v = rw (least.ensures.words, least.ensures.ptrs) refl in
    after (Unit {0}) a.arena.now c.append_elements.new.arena c.lay_elements.new.arena c.lay_elements.result (first_cap_of left) (first_cap (cut v)) (with_bodies (c.len-first.result + 1) least.result.words least.result.ptrs left) (with_tree a.at (cut v)) (two.2 ∙ one.2)
    (ap first_cap_of is ∙ structs_caps v of.words of.ptrs of.count c.requires.sizes)
    (rw (len, two.0, one.0, least.ensures.count, least.ensures.words, least.ensures.ptrs) (sym (structs_tree v a.at of.words of.ptrs of.count old c.requires.sizes e.even e.number)))
    c.lay_elements.ensures

pub lay_ptrs-returns-in_err-begin_ptrs : goal.lay_ptrs-returns-in_err-begin_ptrs
lay_ptrs-returns-in_err-begin_ptrs t c =
    let a = c.args in
    let p = err_from_is_err_and c.from_residual.result c.from_residual.ensures.1 in
    rw (p.1, p.2) (fails (Unit {0}) (Unit {0}) a.arena.now a.arena.now c.begin_ptrs.new.arena c.begin_ptrs.new.arena c.in_err-begin_ptrs.field-0.0 None (first_cap (cut a.view.now)) (with_ptrs a.at a.number) (with_tree a.at (cut a.view.now)) refl (λ i h. cc) (ptrs_longer a.view.now a.at a.number a.arena.now.words.items c.requires.is_ptrs c.requires.all) c.in_err-begin_ptrs.ensures)

pub lay_row-lay-requires : goal.lay_row-lay-requires
lay_row-lay-requires t c =
    let l = c.loop-i in
    let within : l.i < count (row_of c.args.view.now) = omega (arith, c.requires.some) in
    let nests : depth c.child.result < depth c.args.view.now = rw c.child.ensures (row_nests c.args.view.now l.i within) in
    let part = c.child.ensures ∙ part-row c.args.view.now l.i within in
    (omega (arith, nests), (l.invariant.arena, (omega (arith, c.requires.there, l.invariant.longer), subst Shaped (sym part) (shaped_at (row_of c.args.view.now) l.i c.requires.shaped))))

pub lay_row-returns-in_err-lay : goal.lay_row-returns-in_err-lay
lay_row-returns-in_err-lay t c =
    let a = c.args in
    let l = c.loop-i in
    let v = a.view.now in
    let child = ap cut c.child.ensures in
    let all = take_ptrs a.number (cut_row (row_of v)) in
    let p = err_from_is_err_and c.from_residual.result c.from_residual.ensures.1 in
    rw (p.1, p.2) (fails (Unit {0}) (Unit {0}) a.arena.now l.arena c.lay.new.arena c.lay.new.arena c.in_err-lay.field-0.0 (first_cap (cut c.child.result)) (first_cap_in all) (with_tree (a.first + l.i) (cut c.child.result)) (with_row a.first all) l.invariant.most
    (λ j h. row_stops a.first a.number v c.requires.some l.i j (omega arith) l.invariant.caps (sym (ap first_cap child) ∙ h))
    (rw child (row_longer a.first a.number v c.requires.some l.i l.arena.words.items (with_row a.first all a.arena.now.words.items) (omega arith) l.invariant.words))
    c.in_err-lay.ensures)

pub lay_row-loop-i-preserved : goal.lay_row-loop-i-preserved
lay_row-loop-i-preserved t c =
    let a = c.args in
    let l = c.loop-i in
    let v = a.view.now in
    let ok = c.in_ok-lay.ensures in
    let child = ap cut c.child.ensures in
    record {
      words = rw (ok.0, child) (row_goes_on a.first a.number v c.requires.some l.i l.arena.words.items _ (omega arith) l.invariant.words);
      caps = row_caps_on a.first a.number v c.requires.some l.i (omega arith) l.invariant.caps (sym (ap first_cap child) ∙ ok.3);
      arena = ok.1;
      most = ok.2 ∙ l.invariant.most;
      longer = omega (arith, l.invariant.longer, longer_tree (cut c.child.result) (a.first + l.i) l.arena.words.items, ap length ok.0);
    }

pub lay_row-returns : goal.lay_row-returns
lay_row-returns t c =
    let a = c.args in
    let l = c.loop-i in
    (row_ends a.first a.number a.view.now c.requires.some l.i l.arena.words.items _ (omega arith) l.invariant.words, l.invariant.arena, l.invariant.most, row_caps_end a.first a.number a.view.now c.requires.some l.i (omega arith) l.invariant.caps)

pub lay_elements-lay_row-requires : goal.lay_elements-lay_row-requires
lay_elements-lay_row-requires t c =
    let a = c.args in
    let v = a.view.now in
    let l = c.loop-i in
    let m = a.of.words + a.of.ptrs in
    let within : l.i < number_of (bodies_in v) = omega (arith, c.requires.all, c.loop-i-test.true) in
    let part = c.child.ensures ∙ part-body v l.i within in
    let nests : depth c.child.result ≤ depth v = rw c.child.ensures (element_nests v l.i within) in
    let has = ptrs_at a.of.ptrs (bodies_in v) l.i within c.requires.shaped in
    let place = row_fits l.i m a.of.count m c.loop-i-test.true (omega arith) in
    (omega (arith, nests), (l.invariant.arena, (omega (arith, c.requires.there, l.invariant.longer, l.invariant.place, place), (subst (λ u. a.of.ptrs ≤ count (row_of u)) (sym part) has.0, subst (λ u. EachShaped (row_of u)) (sym part) has.1))))

pub lay_elements-returns-in_err-lay_row : goal.lay_elements-returns-in_err-lay_row
lay_elements-returns-in_err-lay_row t c =
    let a = c.args in
    let v = a.view.now in
    let l = c.loop-i in
    let d = a.of.words in
    let n = a.of.ptrs in
    let within : l.i < number_of (bodies_in v) = omega (arith, c.requires.all, c.loop-i-test.true) in
    let all = cut_bodies d n (bodies_in v) in
    let row = take_ptrs n (cut_row (row_of c.child.result)) in
    let part = ap (λ u. take_ptrs n (cut_row (row_of u))) c.child.ensures in
    let p = err_from_is_err_and c.from_residual.result c.from_residual.ensures.1 in
    rw (p.1, p.2) (fails (Unit {0}) (Unit {0}) a.arena.now l.arena c.lay_row.new.arena c.lay_row.new.arena c.in_err-lay_row.field-0.0 (first_cap_in row) (first_cap_of all) (with_row (l.pointers + d) row) (with_bodies a.first d n all) l.invariant.most
    (λ j h. bodies_stop d n v l.i j within l.invariant.caps (sym (ap first_cap_in part) ∙ h))
    (rw part (bodies_longer d n v l.pointers l.i l.arena.words.items (with_bodies a.first d n all a.arena.now.words.items) within l.invariant.words))
    c.in_err-lay_row.ensures)

pub lay_elements-loop-i-preserved : goal.lay_elements-loop-i-preserved
lay_elements-loop-i-preserved t c =
    let a = c.args in
    let v = a.view.now in
    let l = c.loop-i in
    let d = a.of.words in
    let n = a.of.ptrs in
    let ok = c.in_ok-lay_row.ensures in
    let within : l.i < number_of (bodies_in v) = omega (arith, c.requires.all, c.loop-i-test.true) in
    let row = take_ptrs n (cut_row (row_of c.child.result)) in
    let part = ap (λ u. take_ptrs n (cut_row (row_of u))) c.child.ensures in
    record {
      words = rw (ok.0, part) (bodies_go_on d n v l.pointers l.i l.arena.words.items _ within l.invariant.words);
      caps = bodies_caps_on d n v l.i within l.invariant.caps (sym (ap first_cap_in part) ∙ ok.3);
      place = omega (arith, l.invariant.place, next_place a.first l.i (d + n));
      arena = ok.1;
      most = ok.2 ∙ l.invariant.most;
      longer = omega (arith, l.invariant.longer, longer_row row (l.pointers + d) l.arena.words.items, ap length ok.0);
    }

pub lay_elements-returns : goal.lay_elements-returns
lay_elements-returns t c =
    let a = c.args in
    let v = a.view.now in
    let l = c.loop-i in
    let d = a.of.words in
    let n = a.of.ptrs in
    let end : number_of (bodies_in v) ≤ l.i = omega (arith, c.requires.all, c.loop-i-test.false) in
    (bodies_end d n v l.pointers l.i l.arena.words.items _ end l.invariant.words, l.invariant.arena, l.invariant.most, bodies_caps_end d n v l.i end l.invariant.caps)
