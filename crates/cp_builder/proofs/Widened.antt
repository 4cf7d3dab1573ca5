-- Structs that are as large as a schema says, or larger.
use Rattle.std.proofs.Common.{◌≡◌, ℕ, zero, suc, ◌+◌, ◌-◌, ◌*◌, ◌/◌, ◌%◌, ◌^◌, ◌<◌, ◌≤◌, List, [], ◌∷◌, ◌++◌, length, map, take, get_or, replicate, refl, ap, sym, subst, ◌∙◌, arith}
use Rattle.std.proofs.lemmas.List.{length-append, length-map, length-replicate, length-take-le}
use Rattle.cp_tree.specs.Node.{Node, null, cap, struct, list, ptrs, structs, Nodes, no_nodes, node, Bodies, count}
use Rattle.cp_tree.specs.NodeOf.{node_of, nodes_of, body_of, bodies_of}
use Rattle.cp_tree.specs.Seen.{pointee_of, node_at}
use Rattle.cp_tree.specs.Shaped.{AllFit, HasSizes, Shaped, EachShaped, EachEven}
use Rattle.cp_tree.specs.declared.tree.Tree.{Tree}
use Rattle.cp_tree.specs.declared.tree.Body.{Body}
use Rattle.cp_tree.proofs.Trees.{body_of-is, count_in}
use Rattle.cp_fields.specs.Numbers.{plain}
use Rattle.cp_builder.specs.Drafts.{widened, nodes_then, first_nodes, bodies_then, with_last}
use Rattle.cp_builder.proofs.Bodies.{even_of}
use Rattle.cp_builder.proofs.Rows.{nulls_shaped}

zeros : (k j : ℕ) → get_or {A = ℕ} (replicate k 0) j 0 ≡ 0
zeros zero j = refl
zeros (suc k) zero = refl
zeros (suc k) (suc j) = zeros k j

word_kept : (ws : List ℕ) (k j : ℕ) → get_or (ws ++ replicate k 0) j 0 ≡ get_or ws j 0
word_kept [] k j = zeros k j
word_kept (w ∷ ws) k zero = refl
word_kept (w ∷ ws) k (suc j) = word_kept ws k j

nulls : (k j : ℕ) → node_at (nodes_of (replicate k null)) j ≡ null
nulls zero j = refl
nulls (suc k) zero = refl
nulls (suc k) (suc j) = nulls k j

node_kept : (ts : Nodes) (k j : ℕ) → node_at (nodes_then ts (nodes_of (replicate k null))) j ≡ node_at ts j
node_kept no_nodes k j = nulls k j
node_kept (node t ts) k zero = refl
node_kept (node t ts) k (suc j) = node_kept ts k j

pub number_kept : (d n : ℕ) (t : Node) (w i : ℕ) → plain (widened d n t) w i ≡ plain t w i
number_kept d n null w i = refl
number_kept d n (cap k) w i = refl
number_kept d n (struct ws ts) w i = ap (λ (x : ℕ). x / 2 ^ (i * w % 64) % 2 ^ w) (word_kept ws (d - length ws) (i * w / 64))
number_kept d n (list es) w i = refl
number_kept d n (ptrs ts) w i = refl
number_kept d n (structs e k bs) w i = refl

pub pointer_kept : (d n : ℕ) (t : Node) (i : ℕ) → pointee_of (widened d n t) i ≡ pointee_of t i
pointer_kept d n null i = refl
pointer_kept d n (cap k) i = refl
pointer_kept d n (struct ws ts) i = node_kept ts (n - count ts) i
pointer_kept d n (list es) i = refl
pointer_kept d n (ptrs ts) i = refl
pointer_kept d n (structs e k bs) i = refl

-- rows of trees, one after another
pub then_nodes : (ts us : List Node) → nodes_of (ts ++ us) ≡ nodes_then (nodes_of ts) (nodes_of us)
then_nodes [] us = refl
then_nodes (t ∷ ts) us = ap (node t) (then_nodes ts us)

pub then_shaped : (ts us : Nodes) → EachShaped ts → EachShaped us → EachShaped (nodes_then ts us)
then_shaped no_nodes us each more = more
then_shaped (node t ts) us each more = (each.0, then_shaped ts us each.1 more)

-- the first of a row of trees
pub first_of : (ts : List Tree) (n : ℕ) → nodes_of (map node_of (take n ts)) ≡ first_nodes n (nodes_of (map node_of ts))
first_of ts zero = refl
first_of [] (suc n) = refl
first_of (t ∷ ts) (suc n) = ap (node (node_of t)) (first_of ts n)

pub first_shaped : (ts : Nodes) (n : ℕ) → EachShaped ts → EachShaped (first_nodes n ts)
first_shaped ts zero each = tt
first_shaped no_nodes (suc n) each = tt
first_shaped (node t ts) (suc n) each = (each.0, first_shaped ts n each.1)

-- a struct as an element of a list: its first words and pointers
pub item_added : (d n : ℕ) (ws : List ℕ) (ts : List Tree) (b : Body) → b.words.items ≡ take d ws → b.ptrs.items ≡ take n ts → (bs : Bodies)
    → with_last (structs d n bs) (struct ws (nodes_of (map node_of ts))) ≡ structs d n (bodies_then bs (body_of b).0 (body_of b).1)
item_added d n ws ts b words pointers bs =
    sym
    (ap (λ (x : List ℕ × Nodes). structs d n (bodies_then bs x.0 x.1)) (body_of-is b)
    ∙ ap (λ (l : List ℕ). structs d n (bodies_then bs l (nodes_of (map node_of b.ptrs.items)))) words
    ∙ ap (λ (l : List Tree). structs d n (bodies_then bs (take d ws) (nodes_of (map node_of l)))) pointers
    ∙ ap (λ (l : Nodes). structs d n (bodies_then bs (take d ws) l)) (first_of ts n))

pub item_even : (d n : ℕ) (ws : List ℕ) (ts : List Tree) (b : Body) → b.words.items ≡ take d ws → b.ptrs.items ≡ take n ts → d ≤ length ws → n ≤ length ts → AllFit 64 b.words.items → EachShaped (nodes_of (map node_of ts))
    → EachEven d n (bodies_of (body_of b ∷ []))
item_even d n ws ts b words pointers long many fit shaped =
    even_of d n b
    (ap (λ (l : List ℕ). length l) words ∙ length-take-le d ws long)
    (ap (λ (l : List Tree). length l) pointers ∙ length-take-le n ts many)
    fit
    (subst (λ (l : List Tree). EachShaped (nodes_of (map node_of l))) (sym pointers) (subst EachShaped (sym (first_of ts n)) (first_shaped (nodes_of (map node_of ts)) n shaped)))

-- a struct with zero words and null pointers after its own
pub widened_is : (d n : ℕ) (b : Body) (ws : List ℕ) (ts : List Tree) → ws ≡ b.words.items ++ replicate (d - length b.words.items) 0 → map node_of ts ≡ map node_of b.ptrs.items ++ replicate (n - length b.ptrs.items) null
    → struct ws (nodes_of (map node_of ts)) ≡ widened d n (struct (body_of b).0 (body_of b).1)
widened_is d n b ws ts words pointers =
    let full : List ℕ = b.words.items ++ replicate (d - length b.words.items) 0 in
    let own : Nodes = nodes_of (map node_of b.ptrs.items) in
    ap (λ (l : List ℕ). struct l (nodes_of (map node_of ts))) words
    ∙ ap (λ (l : List Node). struct full (nodes_of l)) pointers
    ∙ ap (λ (l : Nodes). struct full l) (then_nodes (map node_of b.ptrs.items) (replicate (n - length b.ptrs.items) null))
    ∙ ap (λ (k : ℕ). struct full (nodes_then own (nodes_of (replicate (n - k) null)))) (sym (count_in node_of b.ptrs.items))
    ∙ ap (λ (x : List ℕ × Nodes). widened d n (struct x.0 x.1)) (sym (body_of-is b))

filled_to : (d : ℕ) (ws vs : List ℕ) → vs ≡ ws ++ replicate (d - length ws) 0 → length vs ≡ length ws + (d - length ws)
filled_to d ws vs e = ap (λ (l : List ℕ). length l) e ∙ length-append ws (replicate (d - length ws) 0) ∙ ap (λ (k : ℕ). length ws + k) (length-replicate (d - length ws) 0)

nulls_to : (n : ℕ) (us ts : List Tree) → map node_of ts ≡ map node_of us ++ replicate (n - length us) null → length ts ≡ length us + (n - length us)
nulls_to n us ts e =
    sym (length-map ts node_of)
    ∙ ap (λ (l : List Node). length l) e
    ∙ length-append (map node_of us) (replicate (n - length us) null)
    ∙ ap (λ (k : ℕ). length (map node_of us) + k) (length-replicate (n - length us) null)
    ∙ ap (λ (k : ℕ). k + (n - length us)) (length-map us node_of)

pub widened_fits : (d n : ℕ) (b : Body) (ws : List ℕ) (ts : List Tree) → ws ≡ b.words.items ++ replicate (d - length b.words.items) 0 → map node_of ts ≡ map node_of b.ptrs.items ++ replicate (n - length b.ptrs.items) null
    → d < 2 ^ 16 → n < 2 ^ 16 → Shaped (struct (body_of b).0 (body_of b).1) → HasSizes (length ws) (length ts) × (d ≤ length ws) × (n ≤ length ts) × EachShaped (nodes_of (map node_of ts))
widened_fits d n b ws ts words pointers small few shaped =
    let own : Shaped (struct b.words.items (nodes_of (map node_of b.ptrs.items))) = subst (λ (x : List ℕ × Nodes). Shaped (struct x.0 x.1)) (body_of-is b) shaped in
    let long : length ws ≡ length b.words.items + (d - length b.words.items) = filled_to d b.words.items ws words in
    let many : length ts ≡ length b.ptrs.items + (n - length b.ptrs.items) = nulls_to n b.ptrs.items ts pointers in
    let less : length b.ptrs.items < 2 ^ 16 = subst (λ (k : ℕ). k < 2 ^ 16) (count_in node_of b.ptrs.items) own.0.1 in (
      (omega (arith, long, own.0.0, small), omega (arith, many, less, few)),
      omega (arith, long),
      omega (arith, many),
      subst (λ (l : List Node). EachShaped (nodes_of l)) (sym pointers)
          (subst EachShaped (sym (then_nodes (map node_of b.ptrs.items) (replicate (n - length b.ptrs.items) null)))
          (then_shaped (nodes_of (map node_of b.ptrs.items)) (nodes_of (replicate (n - length b.ptrs.items) null)) own.2 (nulls_shaped (n - length b.ptrs.items)))),
    )
