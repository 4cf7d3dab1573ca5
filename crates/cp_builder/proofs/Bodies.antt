-- Lists of structs, to which one is added.
use Rattle.std.proofs.Common.{◌≡◌, ℕ, zero, suc, ◌+◌, ◌<◌, List, [], ◌∷◌, ◌++◌, map, length, refl, ap, subst, sym, ◌∙◌, arith}
use Rattle.cp_tree.specs.Node.{Node, Nodes, Bodies, no_bodies, body, number_of}
use Rattle.cp_tree.specs.NodeOf.{node_of, nodes_of, body_of, bodies_of}
use Rattle.cp_tree.specs.Shaped.{AllFit, EachShaped, EachEven}
use Rattle.cp_tree.specs.declared.tree.Body.{Body}
use Rattle.cp_tree.proofs.Trees.{body_of-is, count_in}
use Rattle.cp_builder.specs.Drafts.{bodies_then}

pub with_body : (bs : List Body) (b : Body) → bodies_of (map body_of (bs ++ b ∷ [])) ≡ bodies_then (bodies_of (map body_of bs)) (body_of b).0 (body_of b).1
with_body [] b = refl
with_body (one ∷ bs) b = ap (body (body_of one).0 (body_of one).1) (with_body bs b)

pub number_then : (bs : Bodies) (ws : List ℕ) (ts : Nodes) → number_of (bodies_then bs ws ts) ≡ number_of bs + 1
number_then no_bodies ws ts = refl
number_then (body vs us bs) ws ts = omega (arith, number_then bs ws ts)

pub even_then : (d n : ℕ) (bs : Bodies) (ws : List ℕ) (ts : Nodes) → EachEven d n bs → EachEven d n (body ws ts no_bodies) → EachEven d n (bodies_then bs ws ts)
even_then d n no_bodies ws ts each one = one
even_then d n (body vs us bs) ws ts each one = (each.0, each.1, each.2, each.3, even_then d n bs ws ts each.4 one)

pub even_of : (d n : ℕ) (b : Body) → length b.words.items ≡ d → length b.ptrs.items ≡ n → AllFit 64 b.words.items → EachShaped (nodes_of (map node_of b.ptrs.items)) → EachEven d n (bodies_of (body_of b ∷ []))
even_of d n b words pointers fit shaped =
    subst (λ (x : List ℕ × Nodes). EachEven d n (bodies_of (x ∷ []))) (sym (body_of-is b)) (words, count_in node_of b.ptrs.items ∙ pointers, fit, shaped, tt)
