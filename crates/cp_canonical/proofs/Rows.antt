-- Rows of trees, and elements of composite lists, one by one.
use Rattle.std.proofs.Common.{◌≡◌, ℕ, zero, suc, ◌+◌, ◌*◌, ◌≤◌, ◌<◌, ◌++◌, length, take, replicate, refl, ap, arith}
use Rattle.std.proofs.Math.Nat.{suc-mul}
use Rattle.std.proofs.lemmas.List.{length-append, length-replicate, length-take}
use Rattle.cp_tree.specs.Node.{Nodes, no_nodes, node, Bodies, no_bodies, body, count, number_of, data_of, row_of}
use Rattle.cp_tree.specs.Seen.{node_at, body_at}
use Rattle.cp_tree.specs.Shaped.{Shaped, EachShaped, EachEven}
use Rattle.cp_canonical.specs.Cut.{take_ptrs, cut, cut_row}
use Rattle.cp_canonical.specs.Arenas.{EachHasWords, EachHasPtrs, elements_blank}

-- the trees of a row, and the elements of a list, from one on
abbrev pub drop_row : ℕ → Nodes → Nodes
drop_row zero ts = ts
drop_row (suc i) no_nodes = no_nodes
drop_row (suc i) (node t ts) = drop_row i ts

abbrev pub drop_bodies : ℕ → Bodies → Bodies
drop_bodies zero bs = bs
drop_bodies (suc i) no_bodies = no_bodies
drop_bodies (suc i) (body ws ts bs) = drop_bodies i bs

next_tree : (ts : Nodes) (i : ℕ) → i < count ts → drop_row i ts ≡ node (node_at ts i) (drop_row (suc i) ts)
next_tree no_nodes i h = absurd (omega (arith, h))
next_tree (node t ts) zero h = refl
next_tree (node t ts) (suc i) h = next_tree ts i (omega (arith, h))

pub row_more : (ts : Nodes) (i : ℕ) → i < count ts → drop_row i ts ≡ node (node_at ts i) (drop_row (i + 1) ts)
row_more ts i h = let e : i + 1 ≡ suc i = omega arith in rw e (next_tree ts i h)

pub row_none : (ts : Nodes) (i : ℕ) → count ts ≤ i → drop_row i ts ≡ no_nodes
row_none no_nodes zero h = refl
row_none no_nodes (suc i) h = refl
row_none (node t ts) zero h = absurd (omega (arith, h))
row_none (node t ts) (suc i) h = row_none ts i (omega (arith, h))

next_body : (bs : Bodies) (i : ℕ) → i < number_of bs → drop_bodies i bs ≡ body (data_of (body_at bs i)) (row_of (body_at bs i)) (drop_bodies (suc i) bs)
next_body no_bodies i h = absurd (omega (arith, h))
next_body (body ws ts bs) zero h = refl
next_body (body ws ts bs) (suc i) h = next_body bs i (omega (arith, h))

pub body_more : (bs : Bodies) (i : ℕ) → i < number_of bs → drop_bodies i bs ≡ body (data_of (body_at bs i)) (row_of (body_at bs i)) (drop_bodies (i + 1) bs)
body_more bs i h = let e : i + 1 ≡ suc i = omega arith in rw e (next_body bs i h)

pub body_none : (bs : Bodies) (i : ℕ) → number_of bs ≤ i → drop_bodies i bs ≡ no_bodies
body_none no_bodies zero h = refl
body_none no_bodies (suc i) h = refl
body_none (body ws ts bs) zero h = absurd (omega (arith, h))
body_none (body ws ts bs) (suc i) h = body_none bs i (omega (arith, h))

-- a tree that is kept is cut itself
pub kept_at : (n : ℕ) (ts : Nodes) (i : ℕ) → i < n → node_at (take_ptrs n (cut_row ts)) i ≡ cut (node_at ts i)
kept_at zero ts i h = absurd (omega (arith, h))
kept_at (suc n) no_nodes i h = refl
kept_at (suc n) (node t ts) zero h = refl
kept_at (suc n) (node t ts) (suc i) h = kept_at n ts i (omega (arith, h))

pub take_all : (ts : Nodes) (n : ℕ) → count ts ≤ n → take_ptrs n ts ≡ ts
take_all no_nodes zero h = refl
take_all no_nodes (suc n) h = refl
take_all (node t ts) zero h = absurd (omega (arith, h))
take_all (node t ts) (suc n) h = ap (node t) (take_all ts n (omega (arith, h)))

pub shaped_at : (ts : Nodes) (i : ℕ) → EachShaped ts → Shaped (node_at ts i)
shaped_at no_nodes i h = tt
shaped_at (node t ts) zero h = h.0
shaped_at (node t ts) (suc i) h = shaped_at ts i h.1

-- the elements of a list have its sizes
pub has_words : (d n e : ℕ) (bs : Bodies) → e ≤ d → EachEven d n bs → EachHasWords e bs
has_words d n e no_bodies h even = tt
has_words d n e (body ws ts bs) h even = (omega (arith, h, even.0), has_words d n e bs h even.4)

pub has_ptrs : (d n m : ℕ) (bs : Bodies) → m ≤ n → EachEven d n bs → EachHasPtrs m bs
has_ptrs d n m no_bodies h even = tt
has_ptrs d n m (body ws ts bs) h even = (omega (arith, h, even.1), even.3, has_ptrs d n m bs h even.4)

pub words_at : (d : ℕ) (bs : Bodies) (i : ℕ) → i < number_of bs → EachHasWords d bs → d ≤ length (data_of (body_at bs i))
words_at d no_bodies i h wide = absurd (omega (arith, h))
words_at d (body ws ts bs) zero h wide = wide.0
words_at d (body ws ts bs) (suc i) h wide = words_at d bs i (omega (arith, h)) wide.1

pub ptrs_at : (n : ℕ) (bs : Bodies) (i : ℕ) → i < number_of bs → EachHasPtrs n bs → (n ≤ count (row_of (body_at bs i))) × EachShaped (row_of (body_at bs i))
ptrs_at n no_bodies i h wide = absurd (omega (arith, h))
ptrs_at n (body ws ts bs) zero h wide = (wide.0, wide.1)
ptrs_at n (body ws ts bs) (suc i) h wide = ptrs_at n bs i (omega (arith, h)) wide.2

pub even_at : (d n : ℕ) (bs : Bodies) (i : ℕ) → i < number_of bs → EachEven d n bs → (length (data_of (body_at bs i)) ≡ d) × (count (row_of (body_at bs i)) ≡ n)
even_at d n no_bodies i h even = absurd (omega (arith, h))
even_at d n (body ws ts bs) zero h even = (even.0, even.1)
even_at d n (body ws ts bs) (suc i) h even = even_at d n bs i (omega (arith, h)) even.4

pub length-blank : (d n : ℕ) (bs : Bodies) → EachHasWords d bs → length (elements_blank d n bs) ≡ number_of bs * (d + n)
length-blank d n no_bodies wide = omega arith
length-blank d n (body ws ts bs) wide =
    let rest = elements_blank d n bs in
    let words : length (take d ws) ≡ d = omega (arith, length-take d ws, wide.0) in
    let more : suc (number_of bs) * (d + n) ≡ number_of bs * (d + n) + (d + n) = suc-mul (number_of bs) (d + n) in
    omega (arith, more, words, length-append (take d ws ++ replicate n 0) rest, length-append (take d ws) (replicate n 0), length-replicate {A = ℕ} n 0, length-blank d n bs wide.1)

-- the place of one after another
pub next_place : (first i m : ℕ) → first + i * m + m ≡ first + (i + 1) * m
next_place first i m =
    let e : i + 1 ≡ suc i = omega arith in
    let more : suc i * m ≡ i * m + m = suc-mul i m in
    rw e (omega (arith, more))
