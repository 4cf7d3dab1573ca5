-- A body's tree, apart from the pointer word that has the body.
use Rattle.std.proofs.Common.{◌≡◌, ℕ, ◌+◌, ◌*◌, ◌/◌, List, refl, arith}
use Rattle.cp_tree.specs.Node.{voids, bits, bytes, halves, quads, words, Node, null, cap, struct, list, ptrs, structs, count, greatest_depth, deepest_body, depth, total_cost, body_cost, cost}
use Rattle.cp_reading.specs.Locates.{Locates}
use Rattle.cp_reading.specs.Denotes.{Denotes}
use Rattle.cp_reading.specs.Fills.{IsBody, form_of, Fills}
use Rattle.cp_reading.specs.Reading.{price, IsWhole}

-- how deep the tree nests below its body
abbrev pub inner_depth : Node → ℕ
inner_depth (struct ws ts) = greatest_depth ts
inner_depth (ptrs ts) = greatest_depth ts
inner_depth (structs d n bs) = deepest_body bs
inner_depth other = 0

-- what the tree costs apart from its body
abbrev pub inner_cost : Node → ℕ
inner_cost (struct ws ts) = total_cost ts
inner_cost (ptrs ts) = total_cost ts
inner_cost (structs d n bs) = body_cost bs
inner_cost other = 0

pub depth-body : (t : Node) → IsBody t → depth t ≡ inner_depth t + 1
depth-body null b = absurd b
depth-body (cap i) b = absurd b
depth-body (struct ws ts) b = omega arith
depth-body (list es) b = refl
depth-body (ptrs ts) b = omega arith
depth-body (structs d n bs) b = omega arith

pub cost-body : (t : Node) → IsBody t → cost t ≡ price (form_of t) + inner_cost t
cost-body null b = absurd b
cost-body (cap i) b = absurd b
cost-body (struct ws ts) b = refl
cost-body (list es) b = omega arith
cost-body (ptrs ts) b = let e : (count ts * 64 + 63) / 64 ≡ count ts = omega arith in rw e refl
cost-body (structs d n bs) b = refl

pub form_of-whole : (t : Node) → IsWhole (form_of t)
form_of-whole null = tt
form_of-whole (cap i) = tt
form_of-whole (struct ws ts) = tt
form_of-whole (list (voids n)) = tt
form_of-whole (list (bits bs)) = tt
form_of-whole (list (bytes ns)) = tt
form_of-whole (list (halves ns)) = tt
form_of-whole (list (quads ns)) = tt
form_of-whole (list (words ns)) = tt
form_of-whole (ptrs ts) = tt
form_of-whole (structs d n bs) = tt

-- the word denotes the tree if it has the tree's body
pub denotes_body : (S : List (List ℕ)) (s p : ℕ) (t : Node) (s' q : ℕ) → Locates S s p (form_of t) s' q → Fills S s' q t → Denotes S s p t
denotes_body S s p null s' q l f = absurd f
denotes_body S s p (cap i) s' q l f = absurd f
denotes_body S s p (struct ws ts) s' q l f = (s', q, l, f)
denotes_body S s p (list es) s' q l f = (s', q, l, f)
denotes_body S s p (ptrs ts) s' q l f = (s', q, l, f)
denotes_body S s p (structs d n bs) s' q l f = (s', q, l, f)

-- and only so
pub has_body : (S : List (List ℕ)) (s p : ℕ) (t : Node) → IsBody t → Denotes S s p t → (s' : ℕ) × (q : ℕ) × Locates S s p (form_of t) s' q × Fills S s' q t
has_body S s p null b h = absurd b
has_body S s p (cap i) b h = absurd b
has_body S s p (struct ws ts) b h = h
has_body S s p (list es) b h = h
has_body S s p (ptrs ts) b h = h
has_body S s p (structs d n bs) b h = h
