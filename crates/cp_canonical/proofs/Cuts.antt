-- What is cut once is not cut again.
use Rattle.std.proofs.Common.{◌≡◌, ℕ, zero, suc, ◌≤◌, List, [], ◌∷◌, take, refl, ap, ◌∙◌, arith}
use Rattle.cp_tree.specs.Node.{Node, null, cap, struct, list, ptrs, structs, Nodes, no_nodes, node, Bodies, no_bodies, body}
use Rattle.cp_canonical.specs.Cut.{is_null, used_words, used_ptrs, most_words, most_ptrs, take_ptrs, cut, cut_row, cut_bodies}
use Rattle.cp_canonical.proofs.Uses.{used-take, used-take_ptrs}

is_null-cut : (t : Node) → is_null (cut t) ≡ is_null t
is_null-cut null = refl
is_null-cut (cap i) = refl
is_null-cut (struct ws ts) = refl
is_null-cut (list es) = refl
is_null-cut (ptrs ts) = refl
is_null-cut (structs d n bs) = refl

used-cut_row : (ts : Nodes) → used_ptrs (cut_row ts) ≡ used_ptrs ts
used-cut_row no_nodes = refl
used-cut_row (node t ts) = rw (is_null-cut t, used-cut_row ts) refl

take_again : (d : ℕ) (ws : List ℕ) → take d (take d ws) ≡ take d ws
take_again zero [] = refl
take_again zero (w ∷ ws) = refl
take_again (suc d) [] = refl
take_again (suc d) (w ∷ ws) = ap (λ vs. w ∷ vs) (take_again d ws)

take_ptrs-again : (n : ℕ) (ts : Nodes) → take_ptrs n (take_ptrs n ts) ≡ take_ptrs n ts
take_ptrs-again zero ts = refl
take_ptrs-again (suc n) no_nodes = refl
take_ptrs-again (suc n) (node t ts) = ap (node t) (take_ptrs-again n ts)

cut_row-take : (n : ℕ) (ts : Nodes) → cut_row (take_ptrs n ts) ≡ take_ptrs n (cut_row ts)
cut_row-take zero ts = refl
cut_row-take (suc n) no_nodes = refl
cut_row-take (suc n) (node t ts) = ap (node (cut t)) (cut_row-take n ts)

-- the words that are left of an element, and its pointers
words_again : (d : ℕ) (ws : List ℕ) → used_words ws ≤ d → used_words (take d ws) ≡ used_words ws
words_again d ws h = used-take ws d h

ptrs_again : (n : ℕ) (ts : Nodes) → used_ptrs ts ≤ n → used_ptrs (take_ptrs n (cut_row ts)) ≡ used_ptrs ts
ptrs_again n ts h = used-take_ptrs (cut_row ts) n (rw (used-cut_row ts) h) ∙ used-cut_row ts

most_words-again : (d n : ℕ) (bs : Bodies) → most_words bs ≤ d → most_words (cut_bodies d n bs) ≡ most_words bs
most_words-again d n no_bodies h = refl
most_words-again d n (body ws ts bs) h = rw (words_again d ws (omega (arith, h)), most_words-again d n bs (omega (arith, h))) refl

most_ptrs-again : (d n : ℕ) (bs : Bodies) → most_ptrs bs ≤ n → most_ptrs (cut_bodies d n bs) ≡ most_ptrs bs
most_ptrs-again d n no_bodies h = refl
most_ptrs-again d n (body ws ts bs) h = rw (ptrs_again n ts (omega (arith, h)), most_ptrs-again d n bs (omega (arith, h))) refl

row_again : (n : ℕ) (ts : Nodes) → cut_row (cut_row ts) ≡ cut_row ts → take_ptrs n (cut_row (take_ptrs n (cut_row ts))) ≡ take_ptrs n (cut_row ts)
row_again n ts again = ap (take_ptrs n) (cut_row-take n (cut_row ts) ∙ ap (take_ptrs n) again) ∙ take_ptrs-again n (cut_row ts)

mutual
  -- a tree that was cut stays as it is
  pub cut-again : (t : Node) → cut (cut t) ≡ cut t
  cut-again null = refl
  cut-again (cap i) = refl
  cut-again (struct ws ts) =
      rw (used-take ws (used_words ws) (omega arith), take_again (used_words ws) ws, ptrs_again (used_ptrs ts) ts (omega arith), row_again (used_ptrs ts) ts (cut_row-again ts)) refl
  cut-again (list es) = refl
  cut-again (ptrs ts) = ap ptrs (cut_row-again ts)
  cut-again (structs d n bs) =
      rw (most_words-again (most_words bs) (most_ptrs bs) bs (omega arith), most_ptrs-again (most_words bs) (most_ptrs bs) bs (omega arith), bodies_again (most_words bs) (most_ptrs bs) bs) refl

  cut_row-again : (ts : Nodes) → cut_row (cut_row ts) ≡ cut_row ts
  cut_row-again no_nodes = refl
  cut_row-again (node t ts) = rw (cut-again t, cut_row-again ts) refl

  bodies_again : (d n : ℕ) (bs : Bodies) → cut_bodies d n (cut_bodies d n bs) ≡ cut_bodies d n bs
  bodies_again d n no_bodies = refl
  bodies_again d n (body ws ts bs) = rw (take_again d ws, row_again n ts (cut_row-again ts), bodies_again d n bs) refl
