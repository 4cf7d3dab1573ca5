-- The segments that a tree is laid into denote it.
use Rattle.std.proofs.Common.{◌≡◌, ℕ, ◌+◌, ◌*◌, ◌/◌, ◌≤◌, negsuc, List, [], ◌∷◌, length, inl, inr, refl, sym, subst, ◌∙◌, arith}
use Rattle.cp_words.specs.Word.{words_for}
use Rattle.cp_words.specs.declared.pointer.Pointer.TheVariants as pointers
use Rattle.cp_words.specs.declared.pointer.ElementSize.TheVariants as sizes
use Rattle.cp_words.specs.declared.kind.BodyKind.{BodyKind}
use Rattle.cp_words.specs.declared.kind.BodyKind.TheVariants as kinds
use Rattle.cp_words.specs.Targets.{segment, Holds, HasBody}
use Rattle.cp_reading.specs.Denotes.{Denotes, EachDenotes, EachBody}
use Rattle.cp_writing.specs.Layout.{Filled, Capacity, Follows, FollowsLandingPad, Begins, IsEnd, Places, without_words, here, after_landing_pad, in_new, last_here, last_after_landing_pad, Lays, LaysRow, LaysBodies, Layout}
use Rattle.cp_tree.specs.Node.{Node, null, cap, struct, list, ptrs, structs, Nodes, no_nodes, node, Bodies, no_bodies, body, count, number_of, element_size, element_count}
use Rattle.cp_tree.specs.Shaped.{Shaped, EachShaped, EachEven}

module _ (S : List (List ℕ)) where
  -- the last segment that is begun has the words that it is filled with
  abbrev pub Within : Filled → Type 0
  Within f = f.used ≤ length (segment S f.last)

  -- a body lies inside its segment, and what was filled before it does too
  pub record Lies (s p : ℕ) (k : BodyKind) (size : ℕ) (before : Filled) (s' start : ℕ) : Type 0 where
    pub located : HasBody S s p k size s' start
    pub earlier : Within before

  module _ (capacity : Capacity) (s p : ℕ) (k : BodyKind) (size : ℕ) (before : Filled) (s' start : ℕ) (after : Filled) where
    at_end : IsEnd S s before start → Within before → start ≤ length (segment S s)
    at_end (inl h) fits = subst (λ x. start ≤ length (segment S x)) (sym h.0) (omega (arith, h.1, fits))
    at_end (inr h) fits = omega (arith, h.1)

    followed : s ≡ before.last → Follows S s p k size before s' start after → Within after → Lies s p k size before s' start
    followed same f fits =
        let room_for : before.used + size ≤ length (segment S before.last) = subst Within f.fills fits in
        record {
          located = record { has_target = inl (f.has_target, f.same); inside = subst (λ x. start + size ≤ length (segment S x)) (sym (f.same ∙ same)) (omega (arith, room_for, f.starts_after)) };
          earlier = omega (arith, room_for);
        }

    followed_pad : FollowsLandingPad S s p k size before s' start after → Within after → Lies s p k size before s' start
    followed_pad f fits =
        let room_for : before.used + 1 + size ≤ length (segment S before.last) = subst Within f.fills fits in
        record {
          located = record { has_target = inr (inl f.has_target); inside = subst (λ x. start + size ≤ length (segment S x)) (sym f.last) (omega (arith, room_for, f.starts_after)) };
          earlier = omega (arith, room_for);
        }

    began : Begins S s p k size before s' start after → Within after → Lies s p k size before s' start
    began b fits =
        let room_for : 1 + size ≤ length (segment S (before.last + 1)) = subst Within b.fills fits in
        record {
          located = record { has_target = inr (inl b.has_target); inside = subst (λ x. start + size ≤ length (segment S x)) (sym b.next) (omega (arith, room_for, b.starts_after)) };
          earlier = omega (arith, b.ends);
        }

    pub lies : Places S capacity s p k size before s' start after → Within after → Lies s p k size before s' start
    lies (without_words none has_target same end fills) fits =
        let earlier : Within before = subst Within fills fits in
        record {
          located = record { has_target = inl (has_target, same); inside = subst (λ x. start + size ≤ length (segment S x)) (sym same) (omega (arith, none, at_end end earlier)) };
          earlier = earlier;
        }
    lies (here some here_fits follows) fits = followed here_fits.0 follows fits
    lies (after_landing_pad some not_here pad_fits follows) fits = followed_pad follows fits
    lies (in_new some not_here not_after more begins) fits = began begins fits
    lies (last_here some not_here not_after no_more same follows) fits = followed same follows fits
    lies (last_after_landing_pad some not_here not_after no_more other follows) fits = followed_pad follows fits

  -- a struct of size zero has its body where its pointer stands
  empty_struct : (s p : ℕ) → Holds S s p (pointers.Struct (negsuc 0) 0 0) → HasBody S s p (kinds.Struct 0 0) 0 s p
  empty_struct s p h =
      record { has_target = inl (record { pointer = pointers.Struct (negsuc 0) 0 0; offset = negsuc 0; stands = h; says = (refl, refl); begins = grind arith }, refl); inside = omega (arith, h.0) }

  module _ (capacity : Capacity) where
    mutual
      laid : (t : Node) (s p : ℕ) (before after : Filled) → Shaped t → Lays S capacity s p t before after → Within after → Within before × Denotes S s p t
      laid null s p before after shaped h fits = (subst Within h.1 fits, h.0)
      laid (cap i) s p before after shaped h fits = (subst Within h.1 fits, h.0)
      laid (struct [] no_nodes) s p before after shaped h fits = (subst Within h.1 fits, (s, p, empty_struct s p h.0, (refl, tt)))
      laid (struct [] (node t ts)) s p before after shaped h fits =
          let row = laid_row (node t ts) h.0 (h.1 + 0) h.2 after shaped.2 h.5 fits in
          let here = lies capacity s p (kinds.Struct 0 (count (node t ts))) (0 + count (node t ts)) before h.0 h.1 h.2 h.3 row.0 in
          (here.earlier, (h.0, h.1, here.located, (h.4, row.1)))
      laid (struct (w ∷ ws) ts) s p before after shaped h fits =
          let row = laid_row ts h.0 (h.1 + length (w ∷ ws)) h.2 after shaped.2 h.5 fits in
          let here = lies capacity s p (kinds.Struct (length (w ∷ ws)) (count ts)) (length (w ∷ ws) + count ts) before h.0 h.1 h.2 h.3 row.0 in
          (here.earlier, (h.0, h.1, here.located, (h.4, row.1)))
      laid (list es) s p before after shaped h fits =
          let here = lies capacity s p (kinds.List (element_size es) (element_count es)) (words_for (element_size es) (element_count es)) before h.0 h.1 after h.2 fits in
          (here.earlier, (h.0, h.1, here.located, h.3.elements))
      laid (ptrs ts) s p before after shaped h fits =
          let row = laid_row ts h.0 h.1 h.2 after shaped.1 h.4 fits in
          let here = lies capacity s p (kinds.List sizes.Pointer (count ts)) (count ts) before h.0 h.1 h.2 h.3 row.0 in
          let size : (count ts * 64 + 63) / 64 ≡ count ts = omega arith in
          (here.earlier, (h.0, h.1, record { has_target = here.located.has_target; inside = rw size here.located.inside }, row.1))
      laid (structs d n bs) s p before after shaped h fits =
          let rows = laid_bodies bs d n h.0 (h.1 + 1) h.2 after shaped.3 h.5 fits in
          let here = lies capacity s p (kinds.List sizes.Composite (number_of bs * (d + n))) (number_of bs * (d + n) + 1) before h.0 h.1 h.2 h.3 rows.0 in
          (here.earlier, (h.0, h.1 + 1, (number_of bs * (d + n), h.1, here.located, h.4, omega arith, refl), rows.1))

      laid_row : (ts : Nodes) (s p : ℕ) (before after : Filled) → EachShaped ts → LaysRow S capacity s p ts before after → Within after → Within before × EachDenotes S s p ts
      laid_row no_nodes s p before after shaped h fits = (subst Within h fits, tt)
      laid_row (node t ts) s p before after shaped h fits =
          let others = laid_row ts s (p + 1) h.0 after shaped.1 h.2 fits in
          let one = laid t s p before h.0 shaped.0 h.1 others.0 in
          (one.0, (one.1, others.1))

      laid_bodies : (bs : Bodies) (d n s q : ℕ) (before after : Filled) → EachEven d n bs → LaysBodies S capacity s q d n bs before after → Within after → Within before × EachBody S s q d n bs
      laid_bodies no_bodies d n s q before after even h fits = (subst Within h fits, tt)
      laid_bodies (body ws ts bs) d n s q before after even h fits =
          let others = laid_bodies bs d n s (q + d + n) h.0 after even.4 h.3 fits in
          let row = laid_row ts s (q + d) before h.0 even.3 h.2 others.0 in
          (row.0, (even.0, even.1, h.1, row.1, others.1))

-- what a layout denotes
pub layout_denotes : (S : List (List ℕ)) (capacity : Capacity) (t : Node) → Shaped t → Layout S capacity t → Denotes S 0 0 t
layout_denotes S capacity t shaped l = (laid S _ t 0 0 _ l.filled shaped l.laid (omega (arith, l.ends))).1
