use Rattle.std.proofs.Common.{◌≡◌, map, length, refl, sym, ap, ◌∙◌, arith}
use Rattle.std.proofs.lemmas.List.{length-map}
use Rattle.std.proofs.lemmas.Slice.Eq.{bytes_eq-Decides}
use Rattle.cp_words.specs.declared.pointer.ElementSize.TheVariants as sizes
use Rattle.cp_tree.specs.Node.{structs, count, number_of}
use Rattle.cp_tree.specs.NodeOf.{node_of, body_of, nodes_of, bodies_of}
use Rattle.cp_words.specs.Segments.{words_of}
use Rattle.cp_reading.specs.declared.area.Form.TheVariants as forms
use Rattle.cp_tree.proofs.Trees.{body_of-is, node-Ptrs, node-Structs, count-nodes, number-bodies}
use Rattle.cp_reading.proofs.Decided.{same_sizes, not_false, carried, never, has_parts, body_decides, no_body_decides}
use Rattle.cp_reading.proofs.decide.+decide.Goals.{body_holds-then-len-words-via-then-len-words, body_holds-then-len-words-via-else-len-words+then-len-ptrs, fills-then-words-d-via-then-words-d, fills-then-words-d-via-else-words-d+then-ptrs-n, fills-then-words-d-via-else-words-d+else-ptrs-n+then-len-count}
use Rattle.cp_reading.proofs.decide.+decide.Goals as goal

pub denotes-returns-in-Some : goal.denotes-returns-in-Some
denotes-returns-in-Some t c =
    body_decides (words_of c.args.segments.now) c.args.at.segment c.args.at.word (node_of c.args.tree.now)
    (has_parts c.args.tree.now c.in_default.not-Null c.in_default.not-Cap)
    c.in-Some.area c.fills.result c.in-Some.ensures.located c.in-Some.ensures.only c.fills.ensures

pub denotes-returns-in-None : goal.denotes-returns-in-None
denotes-returns-in-None t c =
    no_body_decides (words_of c.args.segments.now) c.args.at.segment c.args.at.word (node_of c.args.tree.now)
    (has_parts c.args.tree.now c.in_default.not-Null c.in_default.not-Cap) c.in-None.ensures.only

pub fills-returns-in-Some : goal.fills-returns-in-Some
fills-returns-in-Some t c =
    let items = c.in-Ptrs-default.items.items in
    let number : count (nodes_of (map node_of items)) ≡ c.len.result = count-nodes (map node_of items) ∙ length-map items node_of ∙ omega (arith, c.len.ensures) in
    let form : forms.List sizes.Pointer (count (nodes_of (map node_of items))) ≡ c.args.area.form = ap (forms.List sizes.Pointer) number ∙ sym c.in-Some.ensures.same.1 in
    rw (ap node_of c.in-Ptrs-default.is-0 ∙ node-Ptrs c.in-Ptrs-default.items) (carried c.row_holds.result (λ d. (form, d)) (λ k. k.1) (rw (c.deref.ensures.value) at c.row_holds.ensures))

pub fills-returns-in-None : goal.fills-returns-in-None
fills-returns-in-None t c =
    let items = c.in-Ptrs-default.items.items in
    let number : count (nodes_of (map node_of items)) ≡ c.len.result = count-nodes (map node_of items) ∙ length-map items node_of ∙ omega (arith, c.len.ensures) in
    rw (ap node_of c.in-Ptrs-default.is-0 ∙ node-Ptrs c.in-Ptrs-default.items) (never (λ k. let e = c.in-None.ensures.other (sym k.0 ∙ ap (forms.List sizes.Pointer) number) in cc))

pub body_holds-returns : goal.body_holds-returns
body_holds-returns t c =
    let b = c.args.body.now in
    let items = b.ptrs.items in
    let words : length b.words.items ≡ c.args.words = omega (arith, c.if-len-words.false, c.len.ensures) in
    let number : count (nodes_of (map node_of items)) ≡ c.args.ptrs = count-nodes (map node_of items) ∙ length-map items node_of ∙ omega (arith, c.if-len-ptrs.false, c.len-else-len-words.ensures) in
    let lent : c.words_at.result.now ≡ c.as_slice.result.now = (bytes_eq-Decides _ _).0 (not_false _ c.if-ne.ensures) in
    let same : b.words.items ≡ c.words_at.result.now = sym (lent ∙ c.as_slice.ensures.value) in
    rw (body_of-is b) (carried c.row_holds.result (λ d. (words, number, same ∙ c.words_at.ensures, d)) (λ k. k.3) (rw (c.deref.ensures.value) at c.row_holds.ensures))

pub body_holds-returns-then-len-words : goal.body_holds-returns-then-len-words
body_holds-returns-then-len-words t c =
    let b = c.args.body.now in
    let items = b.ptrs.items in
    let number : count (nodes_of (map node_of items)) ≡ length items = count-nodes (map node_of items) ∙ length-map items node_of in
    rw (body_of-is b) (elim c.then-len-words.branch [
      | body_holds-then-len-words-via-then-len-words w ↦ never (λ k. w.if-len-words.true (omega (arith, c.len.ensures, k.0)))
      | body_holds-then-len-words-via-else-len-words+then-len-ptrs w ↦ never (λ k. w.if-len-ptrs.true (omega (arith, w.len-else-len-words.ensures, number, k.1)))
    ])

pub fills-returns-then-words-d : goal.fills-returns-then-words-d
fills-returns-then-words-d t c =
    let found = c.in-Structs-Structs in
    let items = found.items.items in
    let shape : node_of c.args.tree.now ≡ structs found.words found.ptrs (bodies_of (map body_of items)) = ap node_of found.is-0 ∙ node-Structs _ _ _ in
    let number : number_of (bodies_of (map body_of items)) ≡ length items = number-bodies (map body_of items) ∙ length-map items body_of in
    rw (shape, found.is-1) (elim c.then-words-d.branch [
      | fills-then-words-d-via-then-words-d w ↦ never (λ k. w.if-words-d.true (same_sizes _ _ _ _ _ _ k.0).0)
      | fills-then-words-d-via-else-words-d+then-ptrs-n w ↦ never (λ k. w.if-ptrs-n.true (same_sizes _ _ _ _ _ _ k.0).1)
      | fills-then-words-d-via-else-words-d+else-ptrs-n+then-len-count w ↦ never (λ k. w.if-len-count.true (omega (arith, w.len-else-ptrs-n.ensures, number, (same_sizes _ _ _ _ _ _ k.0).2)))
    ])

pub fills-returns-else-len-count : goal.fills-returns-else-len-count
fills-returns-else-len-count t c =
    let found = c.in-Structs-Structs in
    let items = found.items.items in
    let shape : node_of c.args.tree.now ≡ structs found.words found.ptrs (bodies_of (map body_of items)) = ap node_of found.is-0 ∙ node-Structs _ _ _ in
    let number : number_of (bodies_of (map body_of items)) ≡ found.count = number-bodies (map body_of items) ∙ length-map items body_of ∙ omega (arith, c.if-len-count.false, c.len-else-ptrs-n.ensures) in
    let words : found.words ≡ found.d = c.if-words-d.false in
    let ptrs : found.ptrs ≡ found.n = c.if-ptrs-n.false in
    rw (shape, found.is-1) (carried c.bodies_hold.result (λ d. (rw (words, ptrs, number) refl, rw (words, ptrs) d)) (λ k. rw (← words, ← ptrs) k.1) (rw (c.deref-in-Structs-Structs.ensures.value) at c.bodies_hold.ensures))
