-- What stays of a row where something is put past its end, and of a word of which no bit is dropped; and what a row comes to by one more.
use Rattle.std.proofs.Common.{◌≡◌, ◌<◌, ◌≤◌, ◌+◌, ◌/◌, ◌*◌, ◌%◌, ◌^◌, ℕ, suc, List, [], ◌∷◌, ◌++◌, length, map, drop, get_or, refl, ap, subst, sym, ◌∙◌, append_assoc, add-one, drop-cons}
use Rattle.std.specs.Prelude.{slice_index}
use Rattle.std.proofs.Math.Nat.{mod-eq_of_lt}
use Rattle.std.proofs.lemmas.List.{set_past}
use Rattle.cp_tree.specs.NodeOf.{node_of, nodes_of}
use Rattle.cp_tree.specs.declared.tree.Tree.{Tree}
use Rattle.cp_builder.specs.Drafts.{with_node}
use Rattle.cp_builder.specs.Numbers.{put, with_number}
use Rattle.cp_encoder.specs.Values.{placed, with_all_nodes}
use Rattle.cp_encoder.specs.declared.value.TextPointer.{TextPointer}
use Rattle.cp_builder.proofs.Rows.{set_trees}

pub tree_past : (ts : List Tree) (i : ℕ) (t : Tree) → length ts ≤ i → nodes_of (map node_of ts) ≡ with_node (nodes_of (map node_of ts)) i (node_of t)
tree_past ts i t past = sym (ap (λ (us : List Tree). nodes_of (map node_of us)) (set_past ts i t past)) ∙ set_trees ts i t

pub number_past : (ws : List ℕ) (w i n : ℕ) → length ws ≤ i * w / 64 → ws ≡ with_number ws w i n
number_past ws w i n past = sym (set_past ws (i * w / 64) (put (slice_index ws (i * w / 64)) w (i * w % 64) n) past)

pub word_kept : (n : ℕ) → n < 2 ^ 64 → n % 2 ^ 64 ≡ n
word_kept n small = mod-eq_of_lt small

-- what is left of a row, one by one
left_more : {B : Type 0} (all : List B) (i : ℕ) (v d : B) → i < length all → v ≡ get_or all i d → drop i all ≡ v ∷ drop (i + 1) all
left_more all i v d inside item = drop-cons all i d inside ∙ ap (λ (n : ℕ). get_or all i d ∷ drop n all) (sym (add-one i)) ∙ ap (λ (y : _). y ∷ drop (i + 1) all) (sym item)

map_one : {A : Type 0} {C : Type 0} (f : A → C) (xs : List A) (x : A) → map f (xs ++ x ∷ []) ≡ map f xs ++ f x ∷ []
map_one f [] x = refl
map_one f (old ∷ xs) x = ap (λ (ys : _). f old ∷ ys) (map_one f xs x)

-- one more of a row that is made of another
pub row_next : {A : Type 0} {B : Type 0} {C : Type 0} (f : A → C) (g : B → C) (old new : List A) (all : List B) (i : ℕ) (x : A) (v d : B)
    → i < length all → v ≡ get_or all i d → new ≡ old ++ x ∷ [] → f x ≡ g v
    → map f old ++ map g (drop i all) ≡ map g all → map f new ++ map g (drop (i + 1) all) ≡ map g all
row_next f g old new all i x v d inside item grown same so_far =
    rw (grown, map_one f old x, same)
    (append_assoc (map f old) (g v ∷ []) (map g (drop (i + 1) all)) ∙ subst (λ (l : List _). map f old ++ map g l ≡ map g all) (left_more all i v d inside item) so_far)

-- one more pointer in its place
pub pointer_next : (old new : List Tree) (given : List TextPointer) (i : ℕ) (p d : TextPointer) {all : _}
    → i < length given → p ≡ get_or given i d → nodes_of (map node_of new) ≡ with_node (nodes_of (map node_of old)) (placed p).0 (placed p).1
    → with_all_nodes (nodes_of (map node_of old)) (map placed (drop i given)) ≡ all → with_all_nodes (nodes_of (map node_of new)) (map placed (drop (i + 1) given)) ≡ all
pointer_next old new given i p d {all = all} inside item put so_far =
    rw put (subst (λ (l : List TextPointer). with_all_nodes (nodes_of (map node_of old)) (map placed l) ≡ all) (left_more given i p d inside item) so_far)
