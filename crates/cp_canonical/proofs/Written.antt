-- What is written of a tree that was cut is its canonical form, or it has too many words.
use Rattle.std.proofs.Common.{◌≡◌, ℕ, ◌<◌, ◌≤◌, max, List, [], ◌∷◌, length, map, sum, refl, sym, ap, ◌∙◌, arith}
use Rattle.cp_words.specs.Limits.{Bounds, standard}
use Rattle.cp_tree.specs.Node.{Node, null, cap, struct, list, ptrs, structs, depth, cost, IsStruct}
use Rattle.cp_tree.specs.Shaped.{Shaped}
use Rattle.cp_writing.specs.LaidOut.{capacity_for, laid_out}
use Rattle.cp_writing.specs.Layout.{Built}
use Rattle.cp_writing.specs.Sheets.{Written, segments_of}
use Rattle.cp_writing.proofs.Alone.{alone_lists}
use Rattle.cp_writing.proofs.ArenaWords.{laid_words}
use Rattle.cp_writing.proofs.CostWords.{not_too_many}
use Rattle.cp_writing.proofs.LaidOut.{written_is_built}
use Rattle.cp_writing.proofs.LayoutWords.{layout_words}
use Rattle.cp_canonical.specs.Arenas.{with_tree}
use Rattle.cp_canonical.proofs.OneSheet.{one_tree}

module _ (most : ℕ) (limits : Bounds) (t : Node) where
  -- the words of the one segment
  pub last_words : (laid_out (capacity_for most 1 limits) t).last ≡ with_tree 0 t (0 ∷ [])
  last_words = ap (λ (F : Written). F.last) (one_tree most limits t 0 1 (0 ∷ [])).1

  pub all_words : with_tree 0 t (0 ∷ []) ∷ [] ≡ segments_of (laid_out (capacity_for most 1 limits) t)
  all_words = ap (λ ws. ws ∷ []) (sym last_words) ∙ alone_lists (capacity_for most 1 limits) (omega arith) t 0 0 (record { full = []; last = 0 ∷ []; words = 1 }) refl

  pub counted_words : (laid_out (capacity_for most 1 limits) t).words ≡ length (with_tree 0 t (0 ∷ []))
  counted_words = laid_words (capacity_for most 1 limits) t ∙ ap (λ S. sum (map length S)) (sym all_words) ∙ omega arith

pub form-built : (limits : Bounds) (t : Node) → Shaped t → length (with_tree 0 t (0 ∷ [])) ≤ 67108864 → Built t (with_tree 0 t (0 ∷ []))
form-built limits t shaped small =
    written_is_built limits t (laid_out (capacity_for limits.frame_words 1 limits) t) (with_tree 0 t (0 ∷ [])) shaped refl (all_words limits.frame_words limits t) (omega (arith, counted_words limits.frame_words limits t, small))

-- a tree that is built in these words is written in as many
pub built-length : (t : Node) (ws : List ℕ) → Shaped t → Built t ws → length (with_tree 0 t (0 ∷ [])) ≡ length ws
built-length t ws shaped built =
    sym (counted_words (max 1 (length ws)) standard t) ∙ layout_words (length ws) 1 standard.frame_words (ws ∷ []) t shaped built ∙ omega arith

-- a struct within the limits isn't written in more words than a frame may have
pub never-long : (limits : Bounds) (t : Node) → IsStruct t → Shaped t → depth t ≤ limits.nesting → cost t ≤ limits.traversal → limits.traversal ≤ limits.frame_words → limits.frame_words ≤ 67108864
    → limits.frame_words < length (with_tree 0 t (0 ∷ [])) → ⊥
never-long limits (struct ws ts) s shaped deep dear within few long =
    not_too_many limits 1 ws ts few shaped (omega (arith, dear, within))
    ((deep, dear), λ S l. omega (arith, long, counted_words 1 standard (struct ws ts), layout_words 1 1 standard.frame_words S (struct ws ts) shaped l))
never-long limits null s shaped deep dear within few long = absurd s
never-long limits (cap i) s shaped deep dear within few long = absurd s
never-long limits (list es) s shaped deep dear within few long = absurd s
never-long limits (ptrs ts) s shaped deep dear within few long = absurd s
never-long limits (structs d n bs) s shaped deep dear within few long = absurd s
