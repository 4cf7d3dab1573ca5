use Rattle.std.proofs.Common.{◌≡◌, length, map, ap, sym, ◌∙◌, arith}
use Rattle.cp_tree.specs.Node.{count, number_of}
use Rattle.cp_tree.specs.NodeOf.{node_of, body_of, nodes_of, bodies_of}
use Rattle.cp_tree.proofs.Trees.{body_of-is, node-Structs, node-Ptrs, node-Bits}
use Rattle.cp_tree.proofs.Shapes.{node-Struct, node-Voids, node-Bytes, node-Halves, node-Quads, node-Words, count-row, number-row, and_then, and_not}
use Rattle.cp_tree.proofs.shaped.+shaped.Goals as goal

pub body_even-returns-then-element_fits : goal.body_even-returns-then-element_fits
body_even-returns-then-element_fits t c =
    let b = c.args.body.now in
    let number : count (nodes_of (map node_of b.ptrs.items)) ≡ c.len.result = count-row b.ptrs ∙ omega (arith, c.len.ensures) in
    rw (body_of-is b) (and_then _ _ c.if-element_fits.true (rw (c.deref.ensures.value) at c.element_fits.ensures) (rw (c.deref-then-element_fits.ensures.value) at c.row_shaped.ensures)
    (λ k q. (k.0, number ∙ k.1, k.2, q, tt)) (λ r. r.3))

pub body_even-returns-else-element_fits : goal.body_even-returns-else-element_fits
body_even-returns-else-element_fits t c =
    let b = c.args.body.now in
    let number : count (nodes_of (map node_of b.ptrs.items)) ≡ c.len.result = count-row b.ptrs ∙ omega (arith, c.len.ensures) in
    rw (body_of-is b) (and_not _ c.if-element_fits.false (rw (c.deref.ensures.value) at c.element_fits.ensures) (λ r. (r.0, sym number ∙ r.1, r.2)))

pub is_shaped-returns-then-struct_fits : goal.is_shaped-returns-then-struct_fits
is_shaped-returns-then-struct_fits t c =
    let b = c.in-Struct.body in
    let number : count (nodes_of (map node_of b.ptrs.items)) ≡ c.len.result = count-row b.ptrs ∙ omega (arith, c.len.ensures) in
    rw (ap node_of c.in-Struct.is ∙ node-Struct b) (and_then _ _ c.if-struct_fits.true (rw (c.deref.ensures.value, ← number) at c.struct_fits.ensures) (rw (c.deref-then-struct_fits.ensures.value) at c.row_shaped.ensures)
    (λ k q. (k.0, k.1, q)) (λ r. r.2))

pub is_shaped-returns-else-struct_fits : goal.is_shaped-returns-else-struct_fits
is_shaped-returns-else-struct_fits t c =
    let b = c.in-Struct.body in
    let number : count (nodes_of (map node_of b.ptrs.items)) ≡ c.len.result = count-row b.ptrs ∙ omega (arith, c.len.ensures) in
    rw (ap node_of c.in-Struct.is ∙ node-Struct b) (and_not _ c.if-struct_fits.false (rw (c.deref.ensures.value, ← number) at c.struct_fits.ensures) (λ r. (r.0, r.1)))

pub is_shaped-returns-then-count_fits : goal.is_shaped-returns-then-count_fits
is_shaped-returns-then-count_fits t c =
    let v = c.in-Ptrs.items in
    let number : count (nodes_of (map node_of v.items)) ≡ c.len-in-Ptrs.result = count-row v ∙ omega (arith, c.len-in-Ptrs.ensures) in
    rw (ap node_of c.in-Ptrs.is ∙ node-Ptrs v) (and_then _ _ c.if-count_fits.true (rw (← number) at c.count_fits-in-Ptrs.ensures) (rw (c.deref-then-count_fits.ensures.value) at c.row_shaped-then-count_fits.ensures)
    (λ k q. (k, q)) (λ r. r.1))

pub is_shaped-returns-else-count_fits : goal.is_shaped-returns-else-count_fits
is_shaped-returns-else-count_fits t c =
    let v = c.in-Ptrs.items in
    let number : count (nodes_of (map node_of v.items)) ≡ c.len-in-Ptrs.result = count-row v ∙ omega (arith, c.len-in-Ptrs.ensures) in
    rw (ap node_of c.in-Ptrs.is ∙ node-Ptrs v) (and_not _ c.if-count_fits.false (rw (← number) at c.count_fits-in-Ptrs.ensures) (λ r. r.0))

pub is_shaped-returns-then-elements_fit : goal.is_shaped-returns-then-elements_fit
is_shaped-returns-then-elements_fit t c =
    let v = c.in-Structs.items in
    let number : number_of (bodies_of (map body_of v.items)) ≡ c.len-in-Structs.result = number-row v ∙ omega (arith, c.len-in-Structs.ensures) in
    rw (ap node_of c.in-Structs.is ∙ node-Structs _ _ v) (and_then _ _ c.if-elements_fit.true (rw (← number) at c.elements_fit.ensures) (rw (c.deref-then-elements_fit.ensures.value) at c.bodies_even.ensures)
    (λ k q. (k.0, k.1, k.2, q)) (λ r. r.3))

pub is_shaped-returns-else-elements_fit : goal.is_shaped-returns-else-elements_fit
is_shaped-returns-else-elements_fit t c =
    let v = c.in-Structs.items in
    let number : number_of (bodies_of (map body_of v.items)) ≡ c.len-in-Structs.result = number-row v ∙ omega (arith, c.len-in-Structs.ensures) in
    rw (ap node_of c.in-Structs.is ∙ node-Structs _ _ v) (and_not _ c.if-elements_fit.false (rw (← number) at c.elements_fit.ensures) (λ r. (r.0, r.1, r.2)))

pub is_shaped-returns-in-Voids : goal.is_shaped-returns-in-Voids
is_shaped-returns-in-Voids t c = rw (ap node_of c.in-Voids.is ∙ node-Voids c.in-Voids.count) c.count_fits.ensures

pub is_shaped-returns-in-Bits : goal.is_shaped-returns-in-Bits
is_shaped-returns-in-Bits t c =
    let v = c.in-Bits.items in
    let number : length v.items ≡ c.len-in-Bits.result = omega (arith, c.len-in-Bits.ensures) in
    rw (ap node_of c.in-Bits.is ∙ node-Bits v, number) c.count_fits-in-Bits.ensures

pub is_shaped-returns-in-Bytes : goal.is_shaped-returns-in-Bytes
is_shaped-returns-in-Bytes t c = rw (ap node_of c.in-Bytes.is ∙ node-Bytes c.in-Bytes.items) (rw (c.deref-in-Bytes.ensures.value) at c.bytes_fit.ensures)

pub is_shaped-returns-in-Halves : goal.is_shaped-returns-in-Halves
is_shaped-returns-in-Halves t c = rw (ap node_of c.in-Halves.is ∙ node-Halves c.in-Halves.items) (rw (c.deref-in-Halves.ensures.value) at c.halves_fit.ensures)

pub is_shaped-returns-in-Quads : goal.is_shaped-returns-in-Quads
is_shaped-returns-in-Quads t c = rw (ap node_of c.in-Quads.is ∙ node-Quads c.in-Quads.items) (rw (c.deref-in-Quads.ensures.value) at c.quads_fit.ensures)

pub is_shaped-returns-in-Words : goal.is_shaped-returns-in-Words
is_shaped-returns-in-Words t c = rw (ap node_of c.in-Words.is ∙ node-Words c.in-Words.items) (rw (c.deref-in-Words.ensures.value) at c.words_fit.ensures)
