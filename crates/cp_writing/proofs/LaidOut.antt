-- What a tree is written as is its layout.
use Rattle.std.proofs.Common.{◌≡◌, ℕ, zero, suc, ◌^◌, ◌<◌, ◌≤◌, max, List, [], ◌∷◌, length, All, refl, sym, ap, subst, ◌∙◌, arith}
use Rattle.std.proofs.lemmas.List.{length_push}
use Rattle.std.proofs.lemmas.List.Elements.{All-from_get_or}
use Rattle.cp_words.specs.Limits.{Bounds}
use Rattle.cp_writing.specs.declared.arena.Capacity.{Capacity}
use Rattle.cp_tree.specs.Node.{Node}
use Rattle.cp_words.specs.Targets.{segment}
use Rattle.cp_writing.specs.Layout.{Layout, Built}
use Rattle.cp_tree.specs.Shaped.{AllFit, Shaped}
use Rattle.cp_writing.specs.Sheets.{Written, segments_of}
use Rattle.cp_writing.specs.LaidOut.{capacity_for, laid_out}
use Rattle.cp_writing.proofs.Sheets.{end-last, one_blank}
use Rattle.cp_writing.proofs.Keeps.{at}
use Rattle.cp_writing.proofs.Later.{Later, filled}
use Rattle.cp_writing.proofs.Laid.{lays_tree}
use Rattle.cp_writing.proofs.FitWords.{Bounded}
use Rattle.cp_writing.proofs.AnyWidth.{same_tree}
use Rattle.cp_writing.proofs.BoundedTrees.{bounded_tree}

-- one blank word
abbrev first : Written
first = record { full = []; last = 0 ∷ []; words = 1 }

blank_fits : (b r : ℕ) → at first b r < 2 ^ 64
blank_fits zero zero = omega arith
blank_fits zero (suc r) = omega arith
blank_fits (suc b) r = omega arith

bounded_first : Bounded first
bounded_first = record { counts = λ b. one_blank [] (0 ∷ []) 1 b refl refl; few = omega arith; fit = λ within. blank_fits }

-- the words that a tree is written as fit 64 bits each
pub laid_bounded : (capacity : Capacity) (t : Node) → capacity.segments ≤ 512 → Shaped t → Bounded (laid_out capacity t)
laid_bounded capacity t few shaped = bounded_tree capacity few t 0 0 first shaped (omega arith) bounded_first

module _ (capacity : Capacity) (t : Node) (bounded : Bounded (laid_out capacity t)) (within : (laid_out capacity t).words ≤ 134217728) where
  all_fit : All (AllFit 64) (segments_of (laid_out capacity t))
  all_fit = All-from_get_or (AllFit 64) (segments_of (laid_out capacity t)) [] (λ b lt. All-from_get_or (λ n. n < 2 ^ 64) (segment (segments_of (laid_out capacity t)) b) 0 (λ r inside. bounded.fit within b r))

  holds_itself : Later first 0 0 1 (laid_out capacity t) (segments_of (laid_out capacity t))
  holds_itself = record { same = λ b r fresh lt. refl; ended = λ b lt. refl; ends = λ b. omega arith }

-- The layout has the capacity that the tree is written into. A segment of no words counts as one of one word.
pub bounded_is_layout : (words segments whole : ℕ) (t : Node) → Shaped t → Bounded (laid_out (record { words = max 1 words; segments = segments; whole = whole }) t)
    → (laid_out (record { words = max 1 words; segments = segments; whole = whole }) t).words ≤ 134217728
    → Layout (segments_of (laid_out (record { words = max 1 words; segments = segments; whole = whole }) t)) (record { words = words; segments = segments }) t
bounded_is_layout words segments whole t shaped h within =
    let capacity : Capacity = record { words = max 1 words; segments = segments; whole = whole } in
    let G = laid_out capacity t in
    record {
      filled = filled G;
      laid = lays_tree capacity (segments_of G) (λ b. omega (arith, h.counts b, within)) t 0 0 first shaped (omega arith) (omega arith) (holds_itself capacity t h within);
      all = length_push G.full G.last;
      ends = end-last G;
      fit = all_fit capacity t h within;
    }

laid_out_is_layout : (words segments whole : ℕ) (t : Node) → segments ≤ 512 → Shaped t → (laid_out (record { words = max 1 words; segments = segments; whole = whole }) t).words ≤ 134217728
    → Layout (segments_of (laid_out (record { words = max 1 words; segments = segments; whole = whole }) t)) (record { words = words; segments = segments }) t
laid_out_is_layout words segments whole t few shaped within = bounded_is_layout words segments whole t shaped (laid_bounded (record { words = max 1 words; segments = segments; whole = whole }) t few shaped) within

-- what is written into segments of this many words, and into one
pub written_is_layout : (max_words : ℕ) (limits : Bounds) (t : Node) (F : Written) → limits.segments ≤ 512 → Shaped t → F ≡ laid_out (capacity_for (max 1 max_words) limits.segments limits) t → F.words ≤ 67108864
    → Layout (segments_of F) (record { words = max_words; segments = limits.segments }) t
written_is_layout max_words limits t F few shaped is within =
    subst (λ G. Layout (segments_of G) (record { words = max_words; segments = limits.segments }) t) (sym is)
    (laid_out_is_layout max_words limits.segments limits.frame_words t few shaped (omega (arith, within, ap (λ (G : Written). G.words) is)))

pub written_is_sole : (words : ℕ) (limits : Bounds) (t : Node) (F : Written) (ws : List ℕ) → Shaped t → F ≡ laid_out (capacity_for limits.frame_words 1 limits) t → ws ∷ [] ≡ segments_of F → F.words ≤ 67108864
    → Layout (ws ∷ []) (record { words = words; segments = 1 }) t
written_is_sole words limits t F ws shaped is one within =
    let capacity : Capacity = record { words = max 1 words; segments = 1; whole = limits.frame_words } in
    let same : F ≡ laid_out capacity t = is ∙ same_tree (capacity_for limits.frame_words 1 limits) capacity (omega arith) (omega arith) t 0 0 first in
    subst (λ S. Layout S (record { words = words; segments = 1 }) t) (sym (one ∙ ap segments_of same))
    (laid_out_is_layout words 1 limits.frame_words t (omega arith) shaped (omega (arith, within, ap (λ (G : Written). G.words) same)))

pub written_is_built : (limits : Bounds) (t : Node) (F : Written) (ws : List ℕ) → Shaped t → F ≡ laid_out (capacity_for limits.frame_words 1 limits) t → ws ∷ [] ≡ segments_of F → F.words ≤ 67108864 → Built t ws
written_is_built limits t F ws shaped is one within = written_is_sole (length ws) limits t F ws shaped is one within
