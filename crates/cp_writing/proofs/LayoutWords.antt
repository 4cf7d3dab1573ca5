-- A layout has as many words as are counted while the tree is written.
use Rattle.std.proofs.Common.{◌≡◌, ◌≢◌, ℕ, suc, ◌+◌, ◌*◌, ◌<◌, ◌≤◌, ◌⊎◌, inl, inr, ⊎_elim, false, max, List, [], ◌∷◌, length, map, replicate, refl, sym, ap, subst, ◌∙◌, arith}
use Rattle.std.specs.Prelude.{sum, negsuc}
use Rattle.std.proofs.Math.Nat.{suc-mul}
use Rattle.std.proofs.lemmas.Bool.{cases_lt, cases_eq, ne_eqb, eq-eqb}
use Rattle.std.proofs.lemmas.List.{ext_get_or, get_or-map, length-map, length-replicate, length_push}
use Rattle.cp_words.specs.Word.{words_for, word_of}
use Rattle.cp_words.specs.declared.pointer.ElementSize.TheVariants as sizes
use Rattle.cp_words.specs.declared.pointer.Pointer.TheVariants as pointers
use Rattle.cp_words.specs.declared.kind.BodyKind.{BodyKind}
use Rattle.cp_words.specs.declared.kind.BodyKind.TheVariants as kinds
use Rattle.cp_words.specs.Targets.{segment}
use Rattle.cp_tree.specs.Node.{Node, null, cap, struct, list, ptrs, structs, Nodes, no_nodes, node, Bodies, no_bodies, body, count, number_of, element_size, element_count}
use Rattle.cp_tree.specs.Shaped.{Shaped, EachShaped, EachEven}
use Rattle.cp_writing.specs.declared.arena.Capacity.{Capacity}
use Rattle.cp_writing.specs.Layout.{Filled, IsEnd, Places, without_words, here as placed_here, after_landing_pad as placed_after, in_new, last_here, last_after_landing_pad, Lays, LaysRow, LaysBodies, Layout}
use Rattle.cp_writing.specs.Packed.{packed}
use Rattle.cp_writing.specs.Sheets.{Written, Placed, segments_of, put, append, begin, end_of, here, after_landing_pad, with_segment_for, place_in, place_by, body_word, landing_pad_for}
use Rattle.cp_words.specs.Limits.{Bounds}
use Rattle.cp_tree.specs.declared.fault.WriteFault.{WriteFault}
use Rattle.cp_tree.specs.declared.fault.WriteFault.TheVariants as faults
use Rattle.cp_writing.specs.LaidOut.{capacity_for, laid_out, MeetsLimit}
use Rattle.cp_writing.specs.Writes.{IsWriteFaultOf}
use Rattle.cp_writing.specs.Writing.{body_blank, bodies_blank, tag_word, struct_placed, ptrs_placed, structs_placed, tree_by, row_by, bodies_by}
use Rattle.cp_writing.proofs.Sheets.{seg-append_other, end-put, end-last, end-begin, full-put, full-begin, place-here, place-there}
use Rattle.cp_writing.proofs.Keeps.{spot, lies, length-blank, length-bodies, keeps_tree, keeps_row}
use Rattle.cp_writing.proofs.Later.{filled, filled-put}
use Rattle.cp_writing.proofs.PackedHolds.{packed_length}
use Rattle.cp_writing.proofs.Placing.{capacity_of, filled-here, filled-starts_after, segment_for_nothing, segment_for_fits, segment_for_all, segment_for_begun}
use Rattle.cp_writing.proofs.ArenaWords.{laid_words}
use Rattle.cp_writing.proofs.AnyWidth.{same_tree}
use Rattle.cp_writing.proofs.FitWords.{Bounded}
use Rattle.cp_writing.proofs.Laid.{not_none}
use Rattle.cp_writing.proofs.LaidOut.{laid_bounded, bounded_is_layout}
use Rattle.cp_writing.proofs.OneLayout.{one_layout}
use Rattle.cp_writing.proofs.OneSegment.{one_segment, one_segment_alone}

module _ (capacity : Capacity) (S : List (List ℕ)) where
  -- the segments before the last are as long as those that are full
  abbrev Fits : Written → Type 0
  Fits F = (b : ℕ) → b < length F.full → length (segment S b) ≡ end_of F b

  fits-put : (F : Written) (s p w : ℕ) → s ≤ length F.full → Fits F → Fits (put s p w F)
  fits-put F s p w le fits b lt = fits b (omega (arith, lt, full-put F s p w)) ∙ sym (end-put F s p w b le)

  fits-append : (F : Written) (ws : List ℕ) → Fits F → Fits (append ws F)
  fits-append F ws fits b lt = fits b lt ∙ sym (ap length (seg-append_other F ws b (λ e. omega (arith, lt, e))))

  fits-begin : (F : Written) → Fits F → length (segment S (length F.full)) ≡ length F.last → Fits (begin F)
  fits-begin F fits ends b lt = ⊎_elim
      (λ less. fits b less ∙ sym (end-begin F b))
      (λ ge. let e : b ≡ length F.full = omega (arith, ge, lt, full-begin F) in subst (λ (b : ℕ). length (segment S b) ≡ end_of (begin F) b) (sym e) (ends ∙ sym (end-begin F (length F.full) ∙ end-last F)))
      (cases_lt b (length F.full))

  fits-starts_after : (F : Written) (s p : ℕ) (k : BodyKind) → s ≤ length F.full → Fits F → Fits (after_landing_pad s p k F).arena
  fits-starts_after F s p k le fits =
      let w = word_of (pointers.Far false (length F.last) (length F.full)) in
      fits-append (put s p w F) (body_word k 0 ∷ []) (fits-put F s p w le fits)

  -- a body of these words is placed where the layout has it
  record PlacedAs (xs : List ℕ) (s' start : ℕ) (g : Filled) (x : Placed) : Type 0 where
    at : x.at.segment ≡ s'
    word : x.at.word ≡ start
    fills : filled (append xs x.arena) ≡ g
    fits : Fits (append xs x.arena)

  module _ (F : Written) (s p : ℕ) (k : BodyKind) (size : ℕ) (xs : List ℕ) (s' start : ℕ) (g : Filled) (long : length xs ≡ size) (le : s ≤ length F.full) (fits : Fits F) where
    as_direct : s' ≡ s → start ≡ end_of F s → g ≡ record { last = length F.full; used = length F.last + size } → PlacedAs xs s' start g (here s p k F)
    as_direct at word fills = record {
      at = sym at;
      word = sym word;
      fills = filled-here F s p k size xs long ∙ sym fills;
      fits = fits-append (here s p k F).arena xs (fits-put F s p _ le fits);
    }

    as_padded : s' ≡ length F.full → start ≡ length F.last + 1 → g ≡ record { last = length F.full; used = length F.last + 1 + size } → PlacedAs xs s' start g (after_landing_pad s p k F)
    as_padded at word fills = record {
      at = sym at;
      word = sym word;
      fills = filled-starts_after F s p k size xs long ∙ sym fills;
      fits = fits-append (after_landing_pad s p k F).arena xs (fits-starts_after F s p k le fits);
    }

    as_begun : length (segment S (length F.full)) ≡ length F.last → s' ≡ length F.full + 1 → start ≡ 1 → g ≡ record { last = length F.full + 1; used = 1 + size } → PlacedAs xs s' start g (after_landing_pad s p k (begin F))
    as_begun ends at word fills = record {
      at = full-begin F ∙ sym at;
      word = sym word;
      fills = filled-starts_after (begin F) s p k size xs long ∙ ap (λ (n : ℕ). let f : Filled = record { last = n; used = 1 + size } in f) (full-begin F) ∙ sym fills;
      fits = fits-append (after_landing_pad s p k (begin F)).arena xs (fits-starts_after (begin F) s p k (omega (arith, le, full-begin F)) (fits-begin F fits ends));
    }

    at_end : IsEnd S s (filled F) start → start ≡ end_of F s
    at_end (inl h) = h.1 ∙ sym (ap (end_of F) h.0 ∙ end-last F)
    at_end (inr h) = h.1 ∙ fits s (omega (arith, le, h.0))

    direct_end : s ≡ length F.full → start ≡ length F.last → start ≡ end_of F s
    direct_end e h = h ∙ sym (ap (end_of F) e ∙ end-last F)

    -- where there is capacity, and where not
    pad_here : s ≡ length F.full → landing_pad_for s F ≡ 0
    pad_here e = rw (eq-eqb s (length F.full) e) refl

    pad_there : s ≢ length F.full → landing_pad_for s F ≡ 1
    pad_there e = rw (ne_eqb s (length F.full) e) refl

    abbrev As : Placed → Type 0
    As = PlacedAs xs s' start g

    stays_here : with_segment_for capacity s size F ≡ F → (size ≡ 0) ⊎ (s ≡ length F.full) → As (here s p k F) → As (place_by capacity s p k size F)
    stays_here e direct h = subst As (sym (ap (place_in s p k size) e ∙ place-here s p k size F direct)) h

    stays_padded : with_segment_for capacity s size F ≡ F → 0 < size → s ≢ length F.full → As (after_landing_pad s p k F) → As (place_by capacity s p k size F)
    stays_padded e some other h = subst As (sym (ap (place_in s p k size) e ∙ place-there s p k size F some other)) h

    past_here : ¬ ((s ≡ length F.full) × (length F.last + size ≤ capacity.words)) → s ≡ length F.full → capacity.words < length F.last + landing_pad_for s F + size
    past_here never e = ⊎_elim (λ lt. omega (arith, lt, pad_here e)) (λ fit. absurd (never (e, fit))) (cases_lt capacity.words (length F.last + size))

    past_pad : ¬ ((s ≢ length F.full) × (length F.last + 1 + size ≤ capacity.words)) → s ≢ length F.full → capacity.words < length F.last + landing_pad_for s F + size
    past_pad never e = ⊎_elim (λ lt. omega (arith, lt, pad_there e)) (λ fit. absurd (never (e, fit))) (cases_lt capacity.words (length F.last + 1 + size))

    placed_as : Places S (capacity_of capacity) s p k size (filled F) s' start g → As (place_by capacity s p k size F)
    placed_as (without_words none has_target same end fills) =
        let whole : record { last = length F.full; used = length F.last } ≡ record { last = length F.full; used = length F.last + size } = ap (λ (n : ℕ). let f : Filled = record { last = length F.full; used = n } in f) (omega (arith, none)) in
        stays_here (segment_for_nothing capacity s size F none) (inl none) (as_direct same (at_end end) (fills ∙ whole))
    placed_as (placed_here some fit follows) =
        stays_here (segment_for_fits capacity s size F some (omega (arith, fit.1, pad_here fit.0))) (inr fit.0) (as_direct follows.same (direct_end fit.0 follows.starts_after) follows.fills)
    placed_as (placed_after some not_here fit follows) =
        stays_padded (segment_for_fits capacity s size F some (omega (arith, fit.1, pad_there fit.0))) some fit.0 (as_padded follows.last follows.starts_after follows.fills)
    placed_as (in_new some not_here not_after more begins) =
        let past : capacity.words < length F.last + landing_pad_for s F + size = ⊎_elim (λ e. past_here not_here e) (λ e. past_pad not_after e) (cases_eq s (length F.full)) in
        let other : s ≢ length (begin F).full = λ e. omega (arith, e, le, full-begin F) in
        subst As (sym (ap (place_in s p k size) (segment_for_begun capacity s size F some past more) ∙ place-there s p k size (begin F) some other)) (as_begun begins.ends begins.next begins.starts_after begins.fills)
    placed_as (last_here some not_here not_after no_more same follows) =
        stays_here (segment_for_all capacity s size F some (past_here not_here same) no_more) (inr same) (as_direct follows.same (direct_end same follows.starts_after) follows.fills)
    placed_as (last_after_landing_pad some not_here not_after no_more other follows) =
        stays_padded (segment_for_all capacity s size F some (past_pad not_after other) no_more) some other (as_padded follows.last follows.starts_after follows.fills)

  -- the row of a body that is placed so
  row_of : (xs : List ℕ) (s' start lo : ℕ) (mid g : Filled) (x : Placed) (ts : Nodes) → PlacedAs xs s' start mid x → LaysRow S (capacity_of capacity) s' (start + lo) ts mid g → LaysRow S (capacity_of capacity) x.at.segment (x.at.word + lo) ts (filled (append xs x.arena)) g
  row_of xs s' start lo mid g x ts h l =
      subst (λ (f : Filled). LaysRow S (capacity_of capacity) x.at.segment (x.at.word + lo) ts f g) (sym h.fills)
      (subst (λ (q : ℕ). LaysRow S (capacity_of capacity) x.at.segment (q + lo) ts mid g) (sym h.word) (subst (λ (t : ℕ). LaysRow S (capacity_of capacity) t (start + lo) ts mid g) (sym h.at) l))

  bodies_of : (xs : List ℕ) (s' start d n : ℕ) (mid g : Filled) (x : Placed) (bs : Bodies) → PlacedAs xs s' start mid x → LaysBodies S (capacity_of capacity) s' (start + 1) d n bs mid g
      → LaysBodies S (capacity_of capacity) x.at.segment (x.at.word + 1) d n bs (filled (append xs x.arena)) g
  bodies_of xs s' start d n mid g x bs h l =
      subst (λ (f : Filled). LaysBodies S (capacity_of capacity) x.at.segment (x.at.word + 1) d n bs f g) (sym h.fills)
      (subst (λ (q : ℕ). LaysBodies S (capacity_of capacity) x.at.segment (q + 1) d n bs mid g) (sym h.word) (subst (λ (t : ℕ). LaysBodies S (capacity_of capacity) t (start + 1) d n bs mid g) (sym h.at) l))

  -- how far the segments are filled then
  abbrev Ends : Written → Filled → Type 0
  Ends G g = (filled G ≡ g) × Fits G

  ends-put : (F : Written) (s p w : ℕ) (g : Filled) → s ≤ length F.full → Fits F → g ≡ filled F → Ends (put s p w F) g
  ends-put F s p w g le fits e = (filled-put F s p w ∙ sym e, fits-put F s p w le fits)

  abbrev RowEnds : Nodes → Type 0
  RowEnds ts = (s p : ℕ) (F : Written) (g : Filled) → s ≤ length F.full → p + count ts ≤ end_of F s → Fits F → LaysRow S (capacity_of capacity) s p ts (filled F) g → Ends (row_by capacity s p ts F) g

  struct_ends : (ws : List ℕ) (ts : Nodes) → RowEnds ts → (s p : ℕ) (F : Written) (g : Filled) → s ≤ length F.full → Fits F → 0 < length ws + count ts
      → (s' : ℕ) × (start : ℕ) × (mid : Filled) × Places S (capacity_of capacity) s p (kinds.Struct (length ws) (count ts)) (length ws + count ts) (filled F) s' start mid × LaysRow S (capacity_of capacity) s' (start + length ws) ts mid g
      → Ends (tree_by capacity s p (struct ws ts) F) g
  struct_ends ws ts rows s p F g le fits some a =
      let x = struct_placed capacity s p ws (count ts) F in
      let xs = body_blank ws (count ts) in
      let size = length ws + count ts in
      let k = kinds.Struct (length ws) (count ts) in
      let h = placed_as F s p k size xs a.0 a.1 a.2 (length-blank ws (count ts)) le fits a.3 in
      let l = lies F s p size xs x (spot capacity s p k size F le) (length-blank ws (count ts)) in
      let row = rows x.at.segment (x.at.word + length ws) (append xs x.arena) g l.there (omega (arith, l.inside, length-blank ws (count ts))) h.fits (row_of xs a.0 a.1 (length ws) a.2 g x ts h a.4) in
      let is : tree_by capacity s p (struct ws ts) F ≡ row_by capacity x.at.segment (x.at.word + length ws) ts (append xs x.arena) =
      not_none size (put s p (word_of (pointers.Struct (negsuc 0) 0 0)) F) (row_by capacity x.at.segment (x.at.word + length ws) ts (append xs x.arena)) some in
      subst (λ (G : Written). Ends G g) (sym is) row

  mutual
    tree_ends : (t : Node) (s p : ℕ) (F : Written) (g : Filled) → Shaped t → s ≤ length F.full → Fits F → Lays S (capacity_of capacity) s p t (filled F) g → Ends (tree_by capacity s p t F) g
    tree_ends null s p F g shaped le fits a = ends-put F s p 0 g le fits a.1
    tree_ends (cap i) s p F g shaped le fits a = ends-put F s p (word_of (pointers.Cap i)) g le fits a.1
    tree_ends (struct [] no_nodes) s p F g shaped le fits a = ends-put F s p (word_of (pointers.Struct (negsuc 0) 0 0)) g le fits a.1
    tree_ends (struct [] (node t ts)) s p F g shaped le fits a = struct_ends [] (node t ts) (λ s p F g le inside fits l. row_ends (node t ts) s p F g shaped.2 le inside fits l) s p F g le fits (omega arith) (a.0, a.1, a.2, a.3, a.5)
    tree_ends (struct (w ∷ ws) ts) s p F g shaped le fits a = struct_ends (w ∷ ws) ts (λ s p F g le inside fits l. row_ends ts s p F g shaped.2 le inside fits l) s p F g le fits (omega arith) (a.0, a.1, a.2, a.3, a.5)
    tree_ends (list es) s p F g shaped le fits a =
        let n = words_for (element_size es) (element_count es) in
        let h = placed_as F s p (kinds.List (element_size es) (element_count es)) n (packed es) a.0 a.1 g (packed_length es) le fits a.2 in
        (h.fills, h.fits)
    tree_ends (ptrs ts) s p F g shaped le fits a =
        let x = ptrs_placed capacity s p (count ts) F in
        let xs = replicate {A = ℕ} (count ts) 0 in
        let k = kinds.List sizes.Pointer (count ts) in
        let h = placed_as F s p k (count ts) xs a.0 a.1 a.2 (length-replicate {A = ℕ} (count ts) 0) le fits a.3 in
        let l = lies F s p (count ts) xs x (spot capacity s p k (count ts) F le) (length-replicate {A = ℕ} (count ts) 0) in
        let q : a.1 ≡ a.1 + 0 = omega arith in
        row_ends ts x.at.segment (x.at.word + 0) (append xs x.arena) g shaped.1 l.there (omega (arith, l.inside, length-replicate {A = ℕ} (count ts) 0)) h.fits
        (row_of xs a.0 a.1 0 a.2 g x ts h (subst (λ (q : ℕ). LaysRow S (capacity_of capacity) a.0 q ts a.2 g) q a.4))
    tree_ends (structs d n bs) s p F g shaped le fits a =
        let size = number_of bs * (d + n) in
        let x = structs_placed capacity s p d n (number_of bs) F in
        let xs = tag_word (number_of bs) d n ∷ bodies_blank bs in
        let long : length xs ≡ size + 1 = omega (arith, length-bodies d n bs shaped.3) in
        let k = kinds.List sizes.Composite size in
        let h = placed_as F s p k (size + 1) xs a.0 a.1 a.2 long le fits a.3 in
        let l = lies F s p (size + 1) xs x (spot capacity s p k (size + 1) F le) long in
        bodies_end bs d n x.at.segment (x.at.word + 1) (append xs x.arena) g shaped.3 l.there (omega (arith, l.inside, long)) h.fits (bodies_of xs a.0 a.1 d n a.2 g x bs h a.5)

    row_ends : (ts : Nodes) (s p : ℕ) (F : Written) (g : Filled) → EachShaped ts → s ≤ length F.full → p + count ts ≤ end_of F s → Fits F → LaysRow S (capacity_of capacity) s p ts (filled F) g → Ends (row_by capacity s p ts F) g
    row_ends no_nodes s p F g shaped le inside fits a = (sym a, fits)
    row_ends (node t ts) s p F g shaped le inside fits a =
        let first = tree_ends t s p F a.0 shaped.0 le fits a.1 in
        let kept = keeps_tree capacity t s p F shaped.0 le in
        row_ends ts s (p + 1) (tree_by capacity s p t F) g shaped.1 (omega (arith, le, kept.goes)) (omega (arith, inside, kept.ends s)) first.1 (subst (λ (f : Filled). LaysRow S (capacity_of capacity) s (p + 1) ts f g) (sym first.0) a.2)

    bodies_end : (bs : Bodies) (d n s q : ℕ) (F : Written) (g : Filled) → EachEven d n bs → s ≤ length F.full → q + number_of bs * (d + n) ≤ end_of F s → Fits F → LaysBodies S (capacity_of capacity) s q d n bs (filled F) g → Ends (bodies_by capacity s q d n bs F) g
    bodies_end no_bodies d n s q F g even le inside fits a = (sym a, fits)
    bodies_end (body ws ts bs) d n s q F g even le inside fits a =
        let product : suc (number_of bs) * (d + n) ≡ number_of bs * (d + n) + (d + n) = suc-mul (number_of bs) (d + n) in
        let within : q + d + count ts ≤ end_of F s = omega (arith, even.1, inside, product) in
        let first = row_ends ts s (q + d) F a.0 even.3 le within fits a.2 in
        let kept = keeps_row capacity ts s (q + d) F even.3 le within in
        bodies_end bs d n s (q + d + n) (row_by capacity s (q + d) ts F) g even.4 (omega (arith, le, kept.goes)) (omega (arith, inside, product, kept.ends s)) first.1
        (subst (λ (f : Filled). LaysBodies S (capacity_of capacity) s (q + d + n) d n bs f g) (sym first.0) a.3)

-- the words of a layout are those that writing the tree counts
pub layout_words : (words segments whole : ℕ) (S : List (List ℕ)) (t : Node) → Shaped t → Layout S (record { words = words; segments = segments }) t
    → (laid_out (record { words = max 1 words; segments = segments; whole = whole }) t).words ≡ sum (map length S)
layout_words words segments whole S t shaped l =
    let capacity : Capacity = record { words = max 1 words; segments = segments; whole = whole } in
    let G = laid_out capacity t in
    let ends = tree_ends capacity S t 0 0 (record { full = []; last = 0 ∷ []; words = 1 }) l.filled shaped (omega arith) (λ b lt. absurd (omega (arith, lt))) l.laid in
    let last : length G.full ≡ l.filled.last = ap (λ (f : Filled). f.last) ends.0 in
    let used : length G.last ≡ l.filled.used = ap (λ (f : Filled). f.used) ends.0 in
    let long : length (segments_of G) ≡ length S = omega (arith, length_push G.full G.last, last, l.all) in
    let each = λ (b : ℕ) (lt : b < length (segments_of G)). ⊎_elim
    (λ less. sym (ends.1 b less))
    (λ ge. let e : b ≡ length G.full = omega (arith, ge, lt, length_push G.full G.last) in
    ap (end_of G) e ∙ end-last G ∙ used ∙ sym l.ends ∙ ap (λ (s : ℕ). length (segment S s)) (sym last ∙ sym e))
    (cases_lt b (length G.full)) in
    let same : map length (segments_of G) ≡ map length S = ext_get_or 0 (map length (segments_of G)) (map length S) (length-map (segments_of G) length ∙ long ∙ sym (length-map S length))
    (λ b lt. let inside : b < length (segments_of G) = omega (arith, lt, length-map (segments_of G) length) in
    get_or-map length (segments_of G) b [] 0 inside ∙ each b inside ∙ sym (get_or-map length S b [] 0 (omega (arith, inside, long)))) in
    laid_words capacity t ∙ ap sum same

-- what passes the limits as words are counted passes them in each layout
pub meets_fault : (limits : Bounds) (words segments : ℕ) (t : Node) (fault : WriteFault) → Shaped t → MeetsLimit limits (capacity_for (max 1 words) segments limits) t fault → IsWriteFaultOf limits (record { words = words; segments = segments }) t fault
meets_fault limits words segments t faults.TooDeep shaped h = h
meets_fault limits words segments t faults.TooCostly shaped h = h
meets_fault limits words segments t faults.OutOfMemory shaped h = h
meets_fault limits words segments t faults.TooManyWords shaped h = (h.0, λ S l. omega (arith, h.1, layout_words words segments limits.frame_words S t shaped l))

-- in one segment it doesn't matter how many words a segment may have
pub meets_alone : (limits : Bounds) (words : ℕ) (t : Node) (fault : WriteFault) → Shaped t → MeetsLimit limits (capacity_for words 1 limits) t fault → IsWriteFaultOf limits (record { words = words; segments = 1 }) t fault
meets_alone limits words t faults.TooDeep shaped h = h
meets_alone limits words t faults.TooCostly shaped h = h
meets_alone limits words t faults.OutOfMemory shaped h = h
meets_alone limits words t faults.TooManyWords shaped h =
    let same = same_tree (capacity_for words 1 limits) (capacity_for (max 1 words) 1 limits) (omega arith) (omega arith) t 0 0 (record { full = []; last = 0 ∷ []; words = 1 }) in
    meets_fault limits words 1 t faults.TooManyWords shaped (h.0, omega (arith, h.1, ap (λ (F : Written). F.words) same))

-- within the words of a frame a layout in segments as large as a frame is that in one segment
module _ (limits : Bounds) (S : List (List ℕ)) (t : Node) (small : limits.frame_words ≤ 67108864) (shaped : Shaped t) (within : sum (map length S) ≤ limits.frame_words) where
  -- what a tree is written as where several segments may be begun, and where one alone
  abbrev Laid : ℕ → Written
  Laid segments = laid_out (capacity_for (max 1 limits.frame_words) segments limits) t

  alike : (one other : ℕ) → Laid one ≡ Laid other → Bounded (Laid one) → (Laid one).words ≤ limits.frame_words → Layout S (record { words = limits.frame_words; segments = one }) t → Layout S (record { words = limits.frame_words; segments = other }) t
  alike one other same bounded fits l =
      let w = limits.frame_words in
      let long = ap (λ (F : Written). F.words) same in
      let first = bounded_is_layout w one w t shaped bounded (omega (arith, fits, small)) in
      let second = bounded_is_layout w other w t shaped (subst Bounded same bounded) (omega (arith, fits, small, long)) in
      let is = one_layout S (segments_of (Laid one)) (record { words = w; segments = one }) t shaped l first in
      subst (λ T. Layout T (record { words = w; segments = other }) t) (ap segments_of (sym same) ∙ sym is) second

  -- in one segment words fit 64 bits
  bounded_one : Bounded (Laid 1)
  bounded_one = laid_bounded (capacity_for (max 1 limits.frame_words) 1 limits) t (omega arith) shaped

  pub layout_alone : Layout S (record { words = limits.frame_words; segments = limits.segments }) t → Layout S (record { words = limits.frame_words; segments = 1 }) t
  layout_alone l =
      let counted = layout_words limits.frame_words limits.segments limits.frame_words S t shaped l in
      let same = one_segment limits t shaped (omega (arith, counted, within)) in
      alike limits.segments 1 (sym same) (subst Bounded same bounded_one) (omega (arith, counted, within)) l

  pub layout_several : Layout S (record { words = limits.frame_words; segments = 1 }) t → Layout S (record { words = limits.frame_words; segments = limits.segments }) t
  layout_several l =
      let counted = layout_words limits.frame_words 1 limits.frame_words S t shaped l in
      let same = one_segment_alone limits t shaped (omega (arith, counted, within)) in
      alike 1 limits.segments (sym same) bounded_one (omega (arith, counted, within)) l
