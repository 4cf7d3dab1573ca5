-- A tree has one layout.
use Rattle.std.proofs.Common.{◌≡◌, ◌≢◌, ℕ, zero, suc, ◌+◌, ◌-◌, ◌*◌, ◌^◌, ◌<◌, ◌≤◌, ◌==◌, ◌⊎◌, inl, inr, ⊎_elim, ℤ, negsuc, max, nat_le, if◌then◌else◌, List, [], ◌∷◌, length, drop, All, Some, false, refl, sym, ap, subst, ◌∙◌, arith}
use Rattle.std.specs.Prelude.{slice_index}
use Rattle.std.proofs.lemmas.Bool.{cases_eq, cases_lt, eq-eqb, ne_eqb, le-leb, lt-leb}
use Rattle.std.proofs.lemmas.Int.{ints}
use Rattle.std.proofs.lemmas.List.{get_or-take, get_or-drop, get_or_past, ext_get_or}
use Rattle.std.proofs.Math.Nat.{suc-mul}
use Rattle.cp_words.specs.Word.{words_for, tag_of}
use Rattle.cp_words.specs.declared.pointer.ElementSize.TheVariants as sizes
use Rattle.cp_words.specs.declared.pointer.Pointer.{Pointer}
use Rattle.cp_words.specs.declared.pointer.Pointer.TheVariants as pointers
use Rattle.cp_words.specs.declared.kind.BodyKind.{BodyKind}
use Rattle.cp_words.specs.declared.kind.BodyKind.TheVariants as kinds
use Rattle.cp_words.specs.Targets.{segment, words_at, Holds, IsBodyPointer, HasTargetHere, HasTargetByLandingPad}
use Rattle.cp_tree.specs.Node.{Node, null, cap, struct, list, ptrs, structs, Nodes, no_nodes, node, Bodies, no_bodies, body, count, number_of, element_size, element_count}
use Rattle.cp_tree.specs.Shaped.{AllFit, Shaped, EachShaped, EachEven}
use Rattle.cp_writing.specs.Layout.{Filled, Capacity, FitsHere, FitsAfterLandingPad, Follows, FollowsLandingPad, Begins, IsEnd, Places, without_words, here, after_landing_pad, in_new, last_here, last_after_landing_pad, HoldElements, Lays, LaysRow, LaysBodies, Layout}
use Rattle.cp_writing.proofs.OneWord.{one_word, one_tag, one_held}

-- ---- where a body is placed

data Way : Type 0 where
  empty : Way
  direct : Way
  padded : Way
  fresh : Way

abbrev way_by : Capacity → ℕ → ℕ → Filled → Way
way_by capacity s size f =
    if size == 0 then empty
    else (if s == f.last then (if nat_le (f.used + size) capacity.words then direct else (if nat_le capacity.segments (f.last + 1) then direct else fresh))
    else (if nat_le (f.used + 1 + size) capacity.words then padded else (if nat_le capacity.segments (f.last + 1) then padded else fresh)))

-- the body is placed so
abbrev Goes : Way → List (List ℕ) → ℕ → ℕ → BodyKind → ℕ → Filled → ℕ → ℕ → Filled → Type 0
Goes empty S s p k size f s' start g = (size ≡ 0) × (s' ≡ s) × HasTargetHere S s p k start × IsEnd S s f start × (g ≡ f)
Goes direct S s p k size f s' start g = (s ≡ f.last) × Follows S s p k size f s' start g
Goes padded S s p k size f s' start g = FollowsLandingPad S s p k size f s' start g
Goes fresh S s p k size f s' start g = Begins S s p k size f s' start g

module _ (S : List (List ℕ)) (capacity : Capacity) (s p : ℕ) (k : BodyKind) (size : ℕ) (f : Filled) (s' start : ℕ) (g : Filled) where
  abbrev At : Way → Type 0
  At w = Goes w S s p k size f s' start g

  no_here : ¬ (FitsHere capacity s size f) → s ≡ f.last → capacity.words < f.used + size
  no_here never e = ⊎_elim (λ lt. lt) (λ le. absurd (never (e, le))) (cases_lt capacity.words (f.used + size))

  no_pad : ¬ (FitsAfterLandingPad capacity s size f) → s ≢ f.last → capacity.words < f.used + 1 + size
  no_pad never e = ⊎_elim (λ lt. lt) (λ le. absurd (never (e, le))) (cases_lt capacity.words (f.used + 1 + size))

  goes : Places S capacity s p k size f s' start g → At (way_by capacity s size f)
  goes (without_words none has_target same end fills) =
      let way : way_by capacity s size f ≡ empty = rw (eq-eqb size 0 none) refl in
      subst At (sym way) (none, same, has_target, end, fills)
  goes (here some fits follows) =
      let way : way_by capacity s size f ≡ direct = rw (ne_eqb size 0 (λ z. omega (arith, z, some)), eq-eqb s f.last fits.0, le-leb (f.used + size) capacity.words fits.1) refl in
      subst At (sym way) (fits.0, follows)
  goes (after_landing_pad some not_here fits follows) =
      let way : way_by capacity s size f ≡ padded = rw (ne_eqb size 0 (λ z. omega (arith, z, some)), ne_eqb s f.last fits.0, le-leb (f.used + 1 + size) capacity.words fits.1) refl in
      subst At (sym way) follows
  goes (in_new some not_here not_after more begins) =
      let way : way_by capacity s size f ≡ fresh = ⊎_elim
      (λ e. rw (ne_eqb size 0 (λ z. omega (arith, z, some)), eq-eqb s f.last e, lt-leb (f.used + size) capacity.words (no_here not_here e), lt-leb capacity.segments (f.last + 1) more) refl)
      (λ e. rw (ne_eqb size 0 (λ z. omega (arith, z, some)), ne_eqb s f.last e, lt-leb (f.used + 1 + size) capacity.words (no_pad not_after e), lt-leb capacity.segments (f.last + 1) more) refl)
      (cases_eq s f.last) in
      subst At (sym way) begins
  goes (last_here some not_here not_after no_more same follows) =
      let way : way_by capacity s size f ≡ direct = rw (ne_eqb size 0 (λ z. omega (arith, z, some)), eq-eqb s f.last same, lt-leb (f.used + size) capacity.words (no_here not_here same), le-leb capacity.segments (f.last + 1) no_more) refl in
      subst At (sym way) (same, follows)
  goes (last_after_landing_pad some not_here not_after no_more other follows) =
      let way : way_by capacity s size f ≡ padded = rw (ne_eqb size 0 (λ z. omega (arith, z, some)), ne_eqb s f.last other, lt-leb (f.used + 1 + size) capacity.words (no_pad not_after other), le-leb capacity.segments (f.last + 1) no_more) refl in
      subst At (sym way) follows

-- ---- words

-- the pointer to a body
abbrev pointer_for : ℤ → BodyKind → Pointer
pointer_for o (kinds.Struct d n) = pointers.Struct o d n
pointer_for o (kinds.List size n) = pointers.List o size n

pointer_is : (r : Pointer) (o : ℤ) (k : BodyKind) → IsBodyPointer r o k → r ≡ pointer_for o k
pointer_is pointers.Null o k h = absurd h
pointer_is (pointers.Cap i) o k h = absurd h
pointer_is (pointers.Far double place other) o k h = absurd h
pointer_is (pointers.Struct offset d n) o k h = subst (λ (k : BodyKind). pointers.Struct offset d n ≡ pointer_for o k) h.1 (ap (λ (x : ℤ). pointers.Struct x d n) h.0)
pointer_is (pointers.List offset size n) o k h = subst (λ (k : BodyKind). pointers.List offset size n ≡ pointer_for o k) h.1 (ap (λ (x : ℤ). pointers.List x size n) h.0)

word_fits : (S : List (List ℕ)) → All (AllFit 64) S → (s p : ℕ) → slice_index (segment S s) p < 2 ^ 64
word_fits S fit s p = ⊎_elim
    (λ lt. ⊎_elim (λ inside. fit s [] lt p 0 inside) (λ past. rw (get_or_past (segment S s) p 0 past) (omega arith)) (cases_lt p (length (segment S s))))
    (λ ge. rw (get_or_past S s [] ge) (omega arith))
    (cases_lt s (length S))

word_at : (S : List (List ℕ)) (s q n i : ℕ) → i < n → slice_index (words_at S s q n) i ≡ slice_index (segment S s) (q + i)
word_at S s q n i lt = get_or-take n (drop q (segment S s)) i 0 lt ∙ get_or-drop q (segment S s) i 0

-- ---- two layouts of one tree

module _ (S T : List (List ℕ)) (fit : All (AllFit 64) S) (fits : All (AllFit 64) T) where
  -- they have the same word there
  abbrev Same : ℕ → ℕ → Type 0
  Same s p = slice_index (segment S s) p ≡ slice_index (segment T s) p

  pointer_same : (s p : ℕ) (r : Pointer) → Holds S s p r → Holds T s p r → Same s p
  pointer_same s p r h k = one_word (slice_index (segment S s) p) (slice_index (segment T s) p) r (word_fits S fit s p) (word_fits T fits s p) h.1 k.1

  here_same : (s p : ℕ) (k : BodyKind) (start : ℕ) → HasTargetHere S s p k start → HasTargetHere T s p k start → Same s p
  here_same s p k start h g =
      let offset : h.offset ≡ g.offset = omega (arith, ints, h.begins, g.begins) in
      let pointer : h.pointer ≡ g.pointer = pointer_is h.pointer h.offset k h.says ∙ ap (λ (o : ℤ). pointer_for o k) offset ∙ sym (pointer_is g.pointer g.offset k g.says) in
      pointer_same s p g.pointer (subst (Holds S s p) pointer h.stands) g.stands

  pad_same : (s p : ℕ) (k : BodyKind) (a b a' b' : ℕ) (h : HasTargetByLandingPad S s p k a b) (g : HasTargetByLandingPad T s p k a' b') → a ≡ a' → b ≡ b' → h.place ≡ g.place → Same s p × Same a h.place
  pad_same s p k a b a' b' h g there start place =
      let pointer = subst (λ (t : ℕ). Holds T s p (pointers.Far false h.place t)) (sym there) (subst (λ (i : ℕ). Holds T s p (pointers.Far false i a')) (sym place) g.stands) in
      let begun = subst (λ (i : ℕ). HasTargetHere T a' h.place k i) (sym start) (subst (λ (i : ℕ). HasTargetHere T a' i k b') (sym place) g.landing_pad) in
      (pointer_same s p (pointers.Far false h.place a) h.stands pointer, here_same a h.place k b h.landing_pad (subst (λ (t : ℕ). HasTargetHere T t h.place k b) (sym there) begun))

  data_same : (s q n : ℕ) → words_at S s q n ≡ words_at T s q n → (i : ℕ) → i < n → Same s (q + i)
  data_same s q n e i lt = sym (word_at S s q n i lt) ∙ ap (λ (ws : List ℕ). slice_index ws i) e ∙ word_at T s q n i lt

  -- a place stands at or after, or before, how far segments are filled
  abbrev After : Filled → ℕ → ℕ → Type 0
  After f s j = (f.last < s) ⊎ ((s ≡ f.last) × (f.used ≤ j))

  abbrev Before : Filled → ℕ → ℕ → Type 0
  Before f s j = (s < f.last) ⊎ ((s ≡ f.last) × (j < f.used))

  after_or_before : (f : Filled) (s j : ℕ) → After f s j ⊎ Before f s j
  after_or_before f s j = ⊎_elim
      (λ lt. inr (inl lt))
      (λ ge. ⊎_elim (λ lt. inl (inl lt)) (λ le. let e : s ≡ f.last = omega (arith, ge, le) in ⊎_elim (λ lt. inr (inr (e, lt))) (λ more. inl (inr (e, more))) (cases_lt j f.used)) (cases_lt f.last s))
      (cases_lt s f.last)

  -- from one filling to another all words are the same
  record Alike (f g : Filled) : Type 0 where
    order : f.last ≤ g.last
    words : (s j : ℕ) → After f s j → Before g s j → Same s j
    ends : (s : ℕ) → f.last ≤ s → s < g.last → length (segment S s) ≡ length (segment T s)

  nothing_alike : (f : Filled) → Alike f f
  nothing_alike f = record { order = omega arith; words = none; ends = λ s lo hi. absurd (omega (arith, lo, hi)) }
    where
      none : (s j : ℕ) → After f s j → Before f s j → Same s j
      none s j (inl a) (inl b) = absurd (omega (arith, a, b))
      none s j (inl a) (inr b) = absurd (omega (arith, a, b.0))
      none s j (inr a) (inl b) = absurd (omega (arith, a.0, b))
      none s j (inr a) (inr b) = absurd (omega (arith, a.1, b.1))

  both_alike : (f g h : Filled) → Alike f g → Alike g h → Alike f h
  both_alike f g h a b = record {
    order = omega (arith, a.order, b.order);
    words = λ s j after before. ⊎_elim (λ later. b.words s j later before) (λ first. a.words s j after first) (after_or_before g s j);
    ends = λ s lo hi. ⊎_elim (λ lt. a.ends s lo lt) (λ ge. b.ends s ge hi) (cases_lt s g.last);
  }

  -- the segments before the last are as long
  abbrev Known : Filled → Type 0
  Known f = (s : ℕ) → s < f.last → length (segment S s) ≡ length (segment T s)

  known_after : (f g : Filled) → Known f → Alike f g → Known g
  known_after f g known a s lt = ⊎_elim (λ less. known s less) (λ ge. a.ends s ge lt) (cases_lt s f.last)

  -- words at the end of the last segment
  more_alike : (f : Filled) (size : ℕ) → ((i : ℕ) → i < size → Same f.last (f.used + i)) → Alike f (record { last = f.last; used = f.used + size })
  more_alike f size all = record { order = omega arith; words = at; ends = λ s lo hi. absurd (omega (arith, lo, hi)) }
    where
      at : (s j : ℕ) → After f s j → Before (record { last = f.last; used = f.used + size }) s j → Same s j
      at s j (inl a) (inl b) = absurd (omega (arith, a, b))
      at s j (inl a) (inr b) = absurd (omega (arith, a, b.0))
      at s j (inr a) (inl b) = absurd (omega (arith, a.0, b))
      at s j (inr a) (inr b) =
          let i : f.used + (j - f.used) ≡ j = omega (arith, a.1) in
          subst (λ (t : ℕ). Same t j) (sym a.0) (subst (λ (i : ℕ). Same f.last i) i (all (j - f.used) (omega (arith, a.1, b.1))))

  -- words of a new segment
  begun_alike : (f : Filled) (size : ℕ) → length (segment S f.last) ≡ f.used → length (segment T f.last) ≡ f.used → ((i : ℕ) → i < size → Same (f.last + 1) i) → Alike f (record { last = f.last + 1; used = size })
  begun_alike f size a b all = record { order = omega arith; words = at; ends = λ s lo hi. let e : s ≡ f.last = omega (arith, lo, hi) in subst (λ (t : ℕ). length (segment S t) ≡ length (segment T t)) (sym e) (a ∙ sym b) }
    where
      at : (s j : ℕ) → After f s j → Before (record { last = f.last + 1; used = size }) s j → Same s j
      at s j (inl x) (inl y) = absurd (omega (arith, x, y))
      at s j (inl x) (inr y) = subst (λ (t : ℕ). Same t j) (sym y.0) (all j y.1)
      at s j (inr x) (inl y) = subst (λ (t : ℕ). Same t j) (sym x.0) (get_or_past (segment S f.last) j 0 (omega (arith, a, x.1)) ∙ sym (get_or_past (segment T f.last) j 0 (omega (arith, b, x.1))))
      at s j (inr x) (inr y) = absurd (omega (arith, x.0, y.0))

  -- Both place a body at the same place, and where its words are the same, so are all words up to its end.
  record PlacedSame (s p size : ℕ) (f : Filled) (a b : ℕ) (g : Filled) (a' b' : ℕ) (g' : Filled) : Type 0 where
    there : a ≡ a'
    start : b ≡ b'
    filled : g ≡ g'
    pointer : Same s p
    inside : a ≤ g.last
    known : Known g
    alike : ((i : ℕ) → i < size → Same a (b + i)) → Alike f g

  module _ (s p : ℕ) (k : BodyKind) (size : ℕ) (f : Filled) (a b : ℕ) (g : Filled) (a' b' : ℕ) (g' : Filled) (le : s ≤ f.last) (known : Known f) where
    goes_same : (w : Way) → Goes w S s p k size f a b g → Goes w T s p k size f a' b' g' → PlacedSame s p size f a b g a' b' g'
    goes_same empty h m =
        let end : b ≡ b' = ends h.3 m.3 in
        let same : g ≡ g' = h.4 ∙ sym m.4 in
        record {
          there = h.1 ∙ sym m.1;
          start = end;
          filled = same;
          pointer = here_same s p k b h.2 (subst (λ (i : ℕ). HasTargetHere T s p k i) (sym end) m.2);
          inside = omega (arith, le, h.1, ap (λ (x : Filled). x.last) h.4);
          known = subst Known (sym h.4) known;
          alike = λ its. subst (Alike f) (sym h.4) (nothing_alike f);
        }
      where
        ends : IsEnd S s f b → IsEnd T s f b' → b ≡ b'
        ends (inl x) (inl y) = x.1 ∙ sym y.1
        ends (inl x) (inr y) = absurd (y.0 x.0)
        ends (inr x) (inl y) = absurd (x.0 y.0)
        ends (inr x) (inr y) = x.1 ∙ known s (omega (arith, le, x.0)) ∙ sym y.1
    goes_same direct (at, h) (there, m) =
        let start : b ≡ b' = h.starts_after ∙ sym m.starts_after in
        let place : a ≡ f.last = h.same ∙ at in
        record {
          there = h.same ∙ sym m.same;
          start = start;
          filled = h.fills ∙ sym m.fills;
          pointer = here_same s p k b h.has_target (subst (λ (i : ℕ). HasTargetHere T s p k i) (sym start) m.has_target);
          inside = omega (arith, place, ap (λ (x : Filled). x.last) h.fills);
          known = subst Known (sym h.fills) known;
          alike = λ its. subst (Alike f) (sym h.fills) (more_alike f size (λ i lt. subst (λ (t : ℕ). Same t (f.used + i)) place (subst (λ (q : ℕ). Same a (q + i)) h.starts_after (its i lt))));
        }
    goes_same padded h m =
        let start : b ≡ b' = h.starts_after ∙ sym m.starts_after in
        let there : a ≡ a' = h.last ∙ sym m.last in
        let pads = pad_same s p k a b a' b' h.has_target m.has_target there start (h.landing_pad ∙ sym m.landing_pad) in
        let body_at = λ (its : (i : ℕ) → i < size → Same a (b + i)). more_alike f (1 + size) (with_pad its pads.1) in
        let whole : f.used + (1 + size) ≡ f.used + 1 + size = omega arith in
        let fills : record { last = f.last; used = f.used + (1 + size) } ≡ g = ap (λ (n : ℕ). let x : Filled = record { last = f.last; used = n } in x) whole ∙ sym h.fills in
        record {
          there = there;
          start = start;
          filled = h.fills ∙ sym m.fills;
          pointer = pads.0;
          inside = omega (arith, h.last, ap (λ (x : Filled). x.last) h.fills);
          known = subst Known (sym h.fills) known;
          alike = λ its. subst (Alike f) fills (body_at its);
        }
      where
        with_pad : ((i : ℕ) → i < size → Same a (b + i)) → Same a h.has_target.place → (i : ℕ) → i < 1 + size → Same f.last (f.used + i)
        with_pad its landing_pad zero lt =
            let at : h.has_target.place ≡ f.used + 0 = omega (arith, h.landing_pad) in
            subst (λ (q : ℕ). Same f.last q) at (subst (λ (t : ℕ). Same t h.has_target.place) h.last landing_pad)
        with_pad its landing_pad (suc i) lt =
            let at : b + i ≡ f.used + suc i = omega (arith, h.starts_after) in
            subst (λ (q : ℕ). Same f.last q) at (subst (λ (t : ℕ). Same t (b + i)) h.last (its i (omega (arith, lt))))
    goes_same fresh h m =
        let start : b ≡ b' = h.starts_after ∙ sym m.starts_after in
        let there : a ≡ a' = h.next ∙ sym m.next in
        let pads = pad_same s p k a b a' b' h.has_target m.has_target there start (h.landing_pad ∙ sym m.landing_pad) in
        let whole = λ (its : (i : ℕ) → i < size → Same a (b + i)). begun_alike f (1 + size) h.ends m.ends (with_pad its pads.1) in
        record {
          there = there;
          start = start;
          filled = h.fills ∙ sym m.fills;
          pointer = pads.0;
          inside = omega (arith, h.next, ap (λ (x : Filled). x.last) h.fills);
          known = known_begun;
          alike = λ its. subst (Alike f) (sym h.fills) (whole its);
        }
      where
        with_pad : ((i : ℕ) → i < size → Same a (b + i)) → Same a h.has_target.place → (i : ℕ) → i < 1 + size → Same (f.last + 1) i
        with_pad its landing_pad zero lt = subst (λ (q : ℕ). Same (f.last + 1) q) h.landing_pad (subst (λ (t : ℕ). Same t h.has_target.place) h.next landing_pad)
        with_pad its landing_pad (suc i) lt =
            let at : b + i ≡ suc i = omega (arith, h.starts_after) in
            subst (λ (q : ℕ). Same (f.last + 1) q) at (subst (λ (t : ℕ). Same t (b + i)) h.next (its i (omega (arith, lt))))

        known_begun : Known g
        known_begun t lt = ⊎_elim
            (λ less. known t less)
            (λ ge. let e : t ≡ f.last = omega (arith, ge, lt, ap (λ (x : Filled). x.last) h.fills) in subst (λ (t : ℕ). length (segment S t) ≡ length (segment T t)) (sym e) (h.ends ∙ sym m.ends))
            (cases_lt t f.last)

  module _ (capacity : Capacity) where
    placed_same : (s p : ℕ) (k : BodyKind) (size : ℕ) (f : Filled) (a b : ℕ) (g : Filled) (a' b' : ℕ) (g' : Filled) → s ≤ f.last → Known f
        → Places S capacity s p k size f a b g → Places T capacity s p k size f a' b' g' → PlacedSame s p size f a b g a' b' g'
    placed_same s p k size f a b g a' b' g' le known h m =
        goes_same s p k size f a b g a' b' g' le known (way_by capacity s size f) (goes S capacity s p k size f a b g h) (goes T capacity s p k size f a' b' g' m)

    -- what a struct's layout is
    abbrev LaysStruct : List (List ℕ) → ℕ → ℕ → List ℕ → Nodes → Filled → Filled → Type 0
    LaysStruct U s p ws ts f g =
        (s' : ℕ) × (start : ℕ) × (mid : Filled) × Places U capacity s p (kinds.Struct (length ws) (count ts)) (length ws + count ts) f s' start mid
        × (ws ≡ words_at U s' start (length ws)) × LaysRow U capacity s' (start + length ws) ts mid g

    after_tag : (s q size : ℕ) → Same s q → ((i : ℕ) → i < size → Same s (q + 1 + i)) → (i : ℕ) → i < size + 1 → Same s (q + i)
    after_tag s q size tag all zero lt = let e : q ≡ q + 0 = omega arith in subst (λ (i : ℕ). Same s i) e tag
    after_tag s q size tag all (suc i) lt = let e : q + 1 + i ≡ q + suc i = omega arith in subst (λ (j : ℕ). Same s j) e (all i (omega (arith, lt)))

    -- a struct's words, and then its pointers
    both_parts : (s q d n : ℕ) → ((i : ℕ) → i < d → Same s (q + i)) → ((i : ℕ) → i < n → Same s (q + d + i)) → (i : ℕ) → i < d + n → Same s (q + i)
    both_parts s q d n first second i lt = ⊎_elim
        (λ less. first i less)
        (λ more. let e : q + d + (i - d) ≡ q + i = omega (arith, more) in subst (λ (j : ℕ). Same s j) e (second (i - d) (omega (arith, more, lt))))
        (cases_lt i d)

    -- a row is the same in both
    abbrev RowSame : Nodes → Type 0
    RowSame ts = (s p : ℕ) (f g h : Filled) → s ≤ f.last → Known f → LaysRow S capacity s p ts f g → LaysRow T capacity s p ts f h → (g ≡ h) × ((i : ℕ) → i < count ts → Same s (p + i)) × Alike f g

    struct_same : (ws : List ℕ) (ts : Nodes) → RowSame ts → (s p : ℕ) (f g h : Filled) → s ≤ f.last → Known f → LaysStruct S s p ws ts f g → LaysStruct T s p ws ts f h → (g ≡ h) × Same s p × Alike f g
    struct_same ws ts rows s p f g h le known a b =
        let d = length ws in
        let there = placed_same s p (kinds.Struct d (count ts)) (d + count ts) f a.0 a.1 a.2 b.0 b.1 b.2 le known a.3 b.3 in
        let words = subst (λ (t : ℕ). ws ≡ words_at T t a.1 d) (sym there.there) (subst (λ (q : ℕ). ws ≡ words_at T b.0 q d) (sym there.start) b.4) in
        let second = subst (λ (m : Filled). LaysRow T capacity a.0 (a.1 + d) ts m h) (sym there.filled)
        (subst (λ (q : ℕ). LaysRow T capacity a.0 (q + d) ts b.2 h) (sym there.start) (subst (λ (t : ℕ). LaysRow T capacity t (b.1 + d) ts b.2 h) (sym there.there) b.5)) in
        let row = rows a.0 (a.1 + d) a.2 g h there.inside there.known a.5 second in
        (row.0, there.pointer, both_alike f a.2 g (there.alike (both_parts a.0 a.1 d (count ts) (data_same a.0 a.1 d (sym a.4 ∙ words)) row.1)) row.2)

    mutual
      tree_same : (t : Node) (s p : ℕ) (f g h : Filled) → Shaped t → s ≤ f.last → Known f → Lays S capacity s p t f g → Lays T capacity s p t f h → (g ≡ h) × Same s p × Alike f g
      tree_same null s p f g h shaped le known a b = (a.1 ∙ sym b.1, pointer_same s p pointers.Null a.0 b.0, subst (Alike f) (sym a.1) (nothing_alike f))
      tree_same (cap i) s p f g h shaped le known a b = (a.1 ∙ sym b.1, pointer_same s p (pointers.Cap i) a.0 b.0, subst (Alike f) (sym a.1) (nothing_alike f))
      tree_same (struct [] no_nodes) s p f g h shaped le known a b = (a.1 ∙ sym b.1, pointer_same s p (pointers.Struct (negsuc 0) 0 0) a.0 b.0, subst (Alike f) (sym a.1) (nothing_alike f))
      tree_same (struct [] (node t ts)) s p f g h shaped le known a b = struct_same [] (node t ts) (λ s p f g h le known a b. row_same (node t ts) s p f g h shaped.2 le known a b) s p f g h le known a b
      tree_same (struct (w ∷ ws) ts) s p f g h shaped le known a b = struct_same (w ∷ ws) ts (λ s p f g h le known a b. row_same ts s p f g h shaped.2 le known a b) s p f g h le known a b
      tree_same (list es) s p f g h shaped le known a b =
          let n = words_for (element_size es) (element_count es) in
          let there = placed_same s p (kinds.List (element_size es) (element_count es)) n f a.0 a.1 g b.0 b.1 h le known a.2 b.2 in
          let second = subst (λ (t : ℕ). HoldElements (words_at T t a.1 n) es) (sym there.there) (subst (λ (q : ℕ). HoldElements (words_at T b.0 q n) es) (sym there.start) b.3) in
          let each = λ (i : ℕ) (lt : i < n).
          (let left = word_at S a.0 a.1 n i lt in
          let right = word_at T a.0 a.1 n i lt in
          sym left ∙ one_held (words_at S a.0 a.1 n) (words_at T a.0 a.1 n) es i a.3 second (omega (arith, left, word_fits S fit a.0 (a.1 + i))) (omega (arith, right, word_fits T fits a.0 (a.1 + i))) ∙ right) in
          (there.filled, there.pointer, there.alike each)
      tree_same (ptrs ts) s p f g h shaped le known a b =
          let there = placed_same s p (kinds.List sizes.Pointer (count ts)) (count ts) f a.0 a.1 a.2 b.0 b.1 b.2 le known a.3 b.3 in
          let second = subst (λ (m : Filled). LaysRow T capacity a.0 a.1 ts m h) (sym there.filled) (subst (λ (q : ℕ). LaysRow T capacity a.0 q ts b.2 h) (sym there.start) (subst (λ (t : ℕ). LaysRow T capacity t b.1 ts b.2 h) (sym there.there) b.4)) in
          let row = row_same ts a.0 a.1 a.2 g h shaped.1 there.inside there.known a.4 second in
          (row.0, there.pointer, both_alike f a.2 g (there.alike row.1) row.2)
      tree_same (structs d n bs) s p f g h shaped le known a b =
          let size = number_of bs * (d + n) in
          let there = placed_same s p (kinds.List sizes.Composite size) (size + 1) f a.0 a.1 a.2 b.0 b.1 b.2 le known a.3 b.3 in
          let tagged = subst (λ (t : ℕ). tag_of (slice_index (segment T t) a.1) ≡ Some (record { count = number_of bs; words = d; ptrs = n })) (sym there.there)
          (subst (λ (q : ℕ). tag_of (slice_index (segment T b.0) q) ≡ Some (record { count = number_of bs; words = d; ptrs = n })) (sym there.start) b.4) in
          let second = subst (λ (m : Filled). LaysBodies T capacity a.0 (a.1 + 1) d n bs m h) (sym there.filled)
          (subst (λ (q : ℕ). LaysBodies T capacity a.0 (q + 1) d n bs b.2 h) (sym there.start) (subst (λ (t : ℕ). LaysBodies T capacity t (b.1 + 1) d n bs b.2 h) (sym there.there) b.5)) in
          let tag : Same a.0 a.1 = one_tag (slice_index (segment S a.0) a.1) (slice_index (segment T a.0) a.1) (record { count = number_of bs; words = d; ptrs = n }) (word_fits S fit a.0 a.1) (word_fits T fits a.0 a.1) a.4 tagged in
          let row = bodies_same bs d n a.0 (a.1 + 1) a.2 g h shaped.3 there.inside there.known a.5 second in
          (row.0, there.pointer, both_alike f a.2 g (there.alike (after_tag a.0 a.1 size tag row.1)) row.2)

      row_same : (ts : Nodes) (s p : ℕ) (f g h : Filled) → EachShaped ts → s ≤ f.last → Known f → LaysRow S capacity s p ts f g → LaysRow T capacity s p ts f h → (g ≡ h) × ((i : ℕ) → i < count ts → Same s (p + i)) × Alike f g
      row_same no_nodes s p f g h shaped le known a b = (a ∙ sym b, λ i lt. absurd (omega (arith, lt)), subst (Alike f) (sym a) (nothing_alike f))
      row_same (node t ts) s p f g h shaped le known a b =
          let first = tree_same t s p f a.0 b.0 shaped.0 le known a.1 b.1 in
          let second = subst (λ (m : Filled). LaysRow T capacity s (p + 1) ts m h) (sym first.0) b.2 in
          let later = row_same ts s (p + 1) a.0 g h shaped.1 (omega (arith, le, first.2.order)) (known_after f a.0 known first.2) a.2 second in
          (later.0, λ i lt. after_tag s p (count ts) first.1 later.1 i (omega (arith, lt)), both_alike f a.0 g first.2 later.2)

      bodies_same : (bs : Bodies) (d n s q : ℕ) (f g h : Filled) → EachEven d n bs → s ≤ f.last → Known f → LaysBodies S capacity s q d n bs f g → LaysBodies T capacity s q d n bs f h
          → (g ≡ h) × ((i : ℕ) → i < number_of bs * (d + n) → Same s (q + i)) × Alike f g
      bodies_same no_bodies d n s q f g h even le known a b = (a ∙ sym b, λ i lt. absurd (omega (arith, lt)), subst (Alike f) (sym a) (nothing_alike f))
      bodies_same (body ws ts bs) d n s q f g h even le known a b =
          let first = row_same ts s (q + d) f a.0 b.0 even.3 le known a.2 b.2 in
          let second = subst (λ (m : Filled). LaysBodies T capacity s (q + d + n) d n bs m h) (sym first.0) b.3 in
          let later = bodies_same bs d n s (q + d + n) a.0 g h even.4 (omega (arith, le, first.2.order)) (known_after f a.0 known first.2) a.3 second in
          let here = both_parts s q d n (data_same s q d (sym a.1 ∙ b.1)) (λ i lt. first.1 i (omega (arith, lt, even.1))) in
          let split : suc (number_of bs) * (d + n) ≡ number_of bs * (d + n) + (d + n) = suc-mul (number_of bs) (d + n) in
          let all = both_parts s q (d + n) (number_of bs * (d + n)) here (λ i lt. let e : q + d + n + i ≡ q + (d + n) + i = omega arith in subst (λ (j : ℕ). Same s j) e (later.1 i lt)) in
          (later.0, λ i lt. all i (omega (arith, lt, split)), both_alike f a.0 g first.2 later.2)

pub one_layout : (S T : List (List ℕ)) (capacity : Capacity) (t : Node) → Shaped t → Layout S capacity t → Layout T capacity t → S ≡ T
one_layout S T capacity t shaped l k =
    let limit : Capacity = record { words = max 1 capacity.words; segments = capacity.segments } in
    let first : Filled = record { last = 0; used = 1 } in
    let known : Known S T l.fit k.fit first = λ s lt. absurd (omega (arith, lt)) in
    let same = tree_same S T l.fit k.fit limit t 0 0 first l.filled k.filled shaped (omega arith) known l.laid k.laid in
    let last : l.filled.last ≡ k.filled.last = ap (λ (x : Filled). x.last) same.0 in
    let used : l.filled.used ≡ k.filled.used = ap (λ (x : Filled). x.used) same.0 in
    let before = known_after S T l.fit k.fit first l.filled known same.2 in
    let ended : length (segment T l.filled.last) ≡ l.filled.used = subst (λ (s : ℕ). length (segment T s) ≡ l.filled.used) (sym last) (k.ends ∙ sym used) in
    let long : length S ≡ length T = omega (arith, l.all, k.all, last) in
    let sized = λ (s : ℕ) (lt : s < length S).
    (⊎_elim (λ less. before s less) (λ ge. let e : s ≡ l.filled.last = omega (arith, ge, lt, l.all) in subst (λ (s : ℕ). length (segment S s) ≡ length (segment T s)) (sym e) (l.ends ∙ sym ended)) (cases_lt s l.filled.last)) in
    ext_get_or [] S T long (λ s lt. ext_get_or 0 (segment S s) (segment T s) (sized s lt) (λ j inside. word s j lt inside same.1 same.2.words))
  where
    before : (s j : ℕ) → s < length S → j < length (segment S s) → Before S T l.fit k.fit l.filled s j
    before s j lt inside = ⊎_elim (λ less. inl less) (λ ge. let e : s ≡ l.filled.last = omega (arith, ge, lt, l.all) in inr (e, omega (arith, inside, ap (λ (s : ℕ). length (segment S s)) e, l.ends))) (cases_lt s l.filled.last)

    word : (s j : ℕ) → s < length S → j < length (segment S s) → Same S T l.fit k.fit 0 0
        → ((s j : ℕ) → After S T l.fit k.fit (record { last = 0; used = 1 }) s j → Before S T l.fit k.fit l.filled s j → Same S T l.fit k.fit s j) → Same S T l.fit k.fit s j
    word zero zero lt inside root all = root
    word zero (suc j) lt inside root all = all zero (suc j) (inr (refl, omega arith)) (before zero (suc j) lt inside)
    word (suc s) j lt inside root all = all (suc s) j (inl (omega arith)) (before (suc s) j lt inside)
