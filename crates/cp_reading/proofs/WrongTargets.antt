-- What a fault of a far pointer, or of a body's place, says.
use Rattle.std.proofs.Common.{◌≡◌, ℕ, ◌+◌, ◌-◌, ◌*◌, ◌<◌, ◌≤◌, ℤ, pos, negsuc, ◌+ℤ◌, ◌<ℤ◌, List, length, Option, Some, None, Result, Ok, Err, Bool, true, false, nat_lt, nat_le, cond, slice_index, refl, sym, ap, subst, inl, inr, ◌⊎◌, ◌∙◌, arith}
use Rattle.std.proofs.lemmas.Bool.Decides.{nat_tests}
use Rattle.std.proofs.lemmas.Int.{ints}
use Rattle.cp_words.specs.Word.{pointer_of, tag_of, words_for}
use Rattle.cp_words.specs.declared.pointer.Pointer.{Pointer}
use Rattle.cp_words.specs.declared.pointer.Pointer.TheVariants as pointers
use Rattle.cp_words.specs.declared.pointer.Tag.{Tag}
use Rattle.cp_words.specs.declared.pointer.ElementSize.TheVariants as sizes
use Rattle.cp_words.specs.Targets.{segment, Holds, IsBodyPointer, IsLandingPadTag, HasTarget}
use Rattle.cp_reading.specs.Faults.{kind_words, StartsBefore, IsOutOfBounds}
use Rattle.cp_reading.specs.FirstFault.{HasWordFault}
use Rattle.cp_reading.specs.Reading.{◌>>=◌, start_of, in_segment, placed, tagged, target_here, tag_kind_of, target_second, target_by_two, or_bad_pad, target_by_one, target_by_far, target_by, area_by_kind, area_by}
use Rattle.cp_reading.specs.declared.target.PointerTarget.{PointerTarget}
use Rattle.cp_words.specs.declared.kind.BodyKind.{BodyKind}
use Rattle.cp_words.specs.declared.kind.BodyKind.TheVariants as kinds
use Rattle.cp_reading.specs.declared.area.Area.{Area}
use Rattle.cp_reading.specs.declared.area.Form.TheVariants as forms
use Rattle.cp_words.specs.declared.place.Place.{Place}
use Rattle.cp_reading.specs.declared.fault.TreeFault.{TreeFault}
use Rattle.cp_reading.specs.declared.fault.TreeFault.TheVariants as faults
use Rattle.cp_reading.proofs.Sound.{ok_is, passed, inside_is, placed_is, tag_sound, target_sound}

-- a step that failed, or the one after it did
pub bind_err : {A B : Type 0} (r : Result A TreeFault) (f : A → Result B TreeFault) (e : TreeFault) → (r >>= f) ≡ Err e → (r ≡ Err e) ⊎ ((x : A) × (r ≡ Ok x) × (f x ≡ Err e))
bind_err (Ok x) f e h = inr (x, refl, h)
bind_err (Err d) f e h = let is : d ≡ e = cc in inl (rw is refl)

pub err_is : {A : Type 0} {d e : TreeFault} → ◌≡◌ {A = Result A TreeFault} (Err d) (Err e) → d ≡ e
err_is h = cc

-- a test that decides between a fault and what comes next
tested : {A : Type 0} (b : Bool) (x : Result A TreeFault) (d e : TreeFault) → cond b x (Err d) ≡ Err e → ((b ≡ true) × (x ≡ Err e)) ⊎ ((b ≡ false) × (d ≡ e))
tested true x d e h = inl (refl, h)
tested false x d e h = inr (refl, err_is h)

start_none : (p : ℕ) (offset : ℤ) → start_of p offset ≡ None → (pos (p + 1) +ℤ offset) <ℤ pos 0
start_none p (pos n) e = cc
start_none p (negsuc n) e = go (nat_le n p) refl e
  where
    go : (b : Bool) → nat_le n p ≡ b → cond b (Some (p - n)) None ≡ None → (pos (p + 1) +ℤ negsuc n) <ℤ pos 0
    go true t e = cc
    go false t e = let past : p < n = grind (arith, nat_tests) in omega (arith, ints)

module _ (S : List (List ℕ)) (s p : ℕ) where
  abbrev at : Place
  at = record { segment = s; word = p }

  abbrev Faulty : TreeFault → Type 0
  Faulty = HasWordFault S s p

  -- the pad of one word
  one_fails : (place s' : ℕ) (e : TreeFault) → Holds S s p (pointers.Far false place s') → place < length (segment S s') → (o : Option Pointer) → pointer_of (slice_index (segment S s') place) ≡ o → target_by_one at s' place o ≡ Err e → Faulty e
  one_fails place s' e h within o is f = subst Faulty (pad_is o f) (refl, inl (place, s', h, (within, no_body o is f)))
    where
      pad_is : (o : Option Pointer) → target_by_one at s' place o ≡ Err e → faults.BadPad at ≡ e
      pad_is None f = err_is f
      pad_is (Some pointers.Null) f = err_is f
      pad_is (Some (pointers.Cap i)) f = err_is f
      pad_is (Some (pointers.Far x y z)) f = err_is f
      pad_is (Some (pointers.Struct o d n)) f = cc
      pad_is (Some (pointers.List o size n)) f = cc

      no_body : (o : Option Pointer) → pointer_of (slice_index (segment S s') place) ≡ o → target_by_one at s' place o ≡ Err e → (r : Pointer) (i : ℤ) (k : BodyKind) → pointer_of (slice_index (segment S s') place) ≡ Some r → IsBodyPointer r i k → ⊥
      no_body None is f r i k says b = let wrong : ◌≡◌ {A = Option Pointer} None (Some r) = sym is ∙ says in cc
      no_body (Some pointers.Null) is f r i k says b = let same : ◌≡◌ {A = Option Pointer} (Some pointers.Null) (Some r) = sym is ∙ says in let q : pointers.Null ≡ r = cc in subst (λ x. IsBodyPointer x i k) (sym q) b
      no_body (Some (pointers.Cap j)) is f r i k says b = let same : ◌≡◌ {A = Option Pointer} (Some (pointers.Cap j)) (Some r) = sym is ∙ says in let q : pointers.Cap j ≡ r = cc in subst (λ x. IsBodyPointer x i k) (sym q) b
      no_body (Some (pointers.Far x y z)) is f r i k says b = let same : ◌≡◌ {A = Option Pointer} (Some (pointers.Far x y z)) (Some r) = sym is ∙ says in let q : pointers.Far x y z ≡ r = cc in subst (λ w. IsBodyPointer w i k) (sym q) b
      no_body (Some (pointers.Struct o d n)) is f r i k says b = cc
      no_body (Some (pointers.List o size n)) is f r i k says b = cc

  -- what is no pad tag has no kind
  no_tag : (o : Option Pointer) (r : Pointer) (k : BodyKind) → tag_kind_of o ≡ None → o ≡ Some r → IsLandingPadTag r k → ⊥
  no_tag o pointers.Null k e is t = let wrong : ◌≡◌ {A = Option BodyKind} (Some (kinds.Struct 0 0)) None = rw is at e in cc
  no_tag o (pointers.Struct offset d n) k e is t = let wrong : ◌≡◌ {A = Option BodyKind} (Some (kinds.Struct d n)) None = rw (is, t.0) at e in cc
  no_tag o (pointers.List offset size n) k e is t = let wrong : ◌≡◌ {A = Option BodyKind} (Some (kinds.List size n)) None = rw (is, t.0) at e in cc
  no_tag o (pointers.Cap i) k e is t = t
  no_tag o (pointers.Far x y z) k e is t = t

  module _ (place other : ℕ) (h : Holds S s p (pointers.Far true place other)) (room : place + 1 < length (segment S other)) where
    abbrev word_at : ℕ → Option Pointer
    word_at q = pointer_of (slice_index (segment S other) q)

    abbrev NoPad : Type 0
    NoPad = (start s' : ℕ) (r : Pointer) (k : BodyKind) → word_at place ≡ Some (pointers.Far false start s') → word_at (place + 1) ≡ Some r → IsLandingPadTag r k → ⊥

    bad : (e : TreeFault) → faults.BadPad at ≡ e → NoPad → Faulty e
    bad e is none = subst Faulty is (refl, inr (place, other, h, room, none))

    second_fails : (start s' : ℕ) (e : TreeFault) → word_at place ≡ Some (pointers.Far false start s') → (o : Option BodyKind) → tag_kind_of (word_at (place + 1)) ≡ o → target_second at S start s' o ≡ Err e → Faulty e
    second_fails start s' e f None t g = bad e (err_is g) (λ begin s'' r k first second tag. no_tag (word_at (place + 1)) r k t second tag)
    second_fails start s' e f (Some k) t g = go (tested (nat_lt s' (length S)) _ _ e g)
      where
        go : ((nat_lt s' (length S) ≡ true) × (◌≡◌ {A = Result PointerTarget TreeFault} (Ok (record { kind = k; segment = s'; start = Some start })) (Err e))) ⊎ ((nat_lt s' (length S) ≡ false) × (faults.NoSegment at ≡ e)) → Faulty e
        go (inl x) = let wrong = x.1 in cc
        go (inr x) =
            let tag = tag_sound (word_at (place + 1)) k t in
            subst Faulty x.1 (refl, inr (place, other, start, s', tag.0, k, h, (omega (arith, room), f), (room, tag.1), tag.2, grind (arith, nat_tests, x.0)))

    two_fails : (one : Option Pointer) (e : TreeFault) → word_at place ≡ one → target_by_two at S one (word_at (place + 1)) ≡ Err e → Faulty e
    two_fails None e f g = bad e (err_is g) (λ start s' r k first second tag. let wrong : ◌≡◌ {A = Option Pointer} None (Some (pointers.Far false start s')) = sym f ∙ first in cc)
    two_fails (Some pointers.Null) e f g = bad e (err_is g) (λ start s' r k first second tag. let wrong : ◌≡◌ {A = Option Pointer} (Some pointers.Null) (Some (pointers.Far false start s')) = sym f ∙ first in cc)
    two_fails (Some (pointers.Cap i)) e f g = bad e (err_is g) (λ start s' r k first second tag. let wrong : ◌≡◌ {A = Option Pointer} (Some (pointers.Cap i)) (Some (pointers.Far false start s')) = sym f ∙ first in cc)
    two_fails (Some (pointers.Struct o d n)) e f g = bad e (err_is g) (λ start s' r k first second tag. let wrong : ◌≡◌ {A = Option Pointer} (Some (pointers.Struct o d n)) (Some (pointers.Far false start s')) = sym f ∙ first in cc)
    two_fails (Some (pointers.List o size n)) e f g = bad e (err_is g) (λ start s' r k first second tag. let wrong : ◌≡◌ {A = Option Pointer} (Some (pointers.List o size n)) (Some (pointers.Far false start s')) = sym f ∙ first in cc)
    two_fails (Some (pointers.Far true x y)) e f g = bad e (err_is g) (λ start s' r k first second tag. let wrong : ◌≡◌ {A = Option Pointer} (Some (pointers.Far true x y)) (Some (pointers.Far false start s')) = sym f ∙ first in cc)
    two_fails (Some (pointers.Far false start s')) e f g = second_fails start s' e f (tag_kind_of (word_at (place + 1))) refl g

  -- a far pointer
  far_fails : (double : Bool) (place other : ℕ) (e : TreeFault) → Holds S s p (pointers.Far double place other) → target_by_far at S double place other ≡ Err e → Faulty e
  far_fails false place other e h f = go (tested (nat_lt other (length S)) _ _ e f)
    where
      inside : other < length S → ((nat_lt place (length (segment S other)) ≡ true) × (target_by_one at other place (pointer_of (slice_index (segment S other) place)) ≡ Err e)) ⊎ ((nat_lt place (length (segment S other)) ≡ false) × (faults.OutOfBounds at ≡ e)) → Faulty e
      inside exists (inl x) = one_fails place other e h (grind (arith, nat_tests, x.0)) _ refl x.1
      inside exists (inr x) = subst Faulty x.1 (refl, inl (place, other, h, exists, grind (arith, nat_tests, x.0)))

      go : ((nat_lt other (length S) ≡ true) × (cond (nat_lt place (length (segment S other))) (target_by_one at other place (pointer_of (slice_index (segment S other) place))) (Err (faults.OutOfBounds at)) ≡ Err e)) ⊎ ((nat_lt other (length S) ≡ false) × (faults.NoSegment at ≡ e)) → Faulty e
      go (inl x) = inside (grind (arith, nat_tests, x.0)) (tested (nat_lt place (length (segment S other))) _ _ e x.1)
      go (inr x) = subst Faulty x.1 (refl, inl (false, place, other, h, grind (arith, nat_tests, x.0)))
  far_fails true place other e h f = go (tested (nat_lt other (length S)) _ _ e f)
    where
      inside : other < length S → ((nat_lt (place + 1) (length (segment S other)) ≡ true) × (target_by_two at S (pointer_of (slice_index (segment S other) place)) (pointer_of (slice_index (segment S other) (place + 1))) ≡ Err e)) ⊎ ((nat_lt (place + 1) (length (segment S other)) ≡ false) × (faults.OutOfBounds at ≡ e)) → Faulty e
      inside exists (inl x) = two_fails place other h (grind (arith, nat_tests, x.0)) _ e refl x.1
      inside exists (inr x) = subst Faulty x.1 (refl, inr (inl (place, other, h, exists, grind (arith, nat_tests, x.0))))

      go : ((nat_lt other (length S) ≡ true) × (cond (nat_lt (place + 1) (length (segment S other))) (target_by_two at S (pointer_of (slice_index (segment S other) place)) (pointer_of (slice_index (segment S other) (place + 1)))) (Err (faults.OutOfBounds at)) ≡ Err e)) ⊎ ((nat_lt other (length S) ≡ false) × (faults.NoSegment at ≡ e)) → Faulty e
      go (inl x) = inside (grind (arith, nat_tests, x.0)) (tested (nat_lt (place + 1) (length (segment S other))) _ _ e x.1)
      go (inr x) = subst Faulty x.1 (refl, inl (true, place, other, h, grind (arith, nat_tests, x.0)))

  -- what the way to a body says
  pub target_fails : (r : Pointer) (e : TreeFault) → Holds S s p r → target_by at S r ≡ Err e → (((x : ℕ) → r ≡ pointers.Cap x → ⊥) × (r ≡ pointers.Null → ⊥)) → Faulty e
  target_fails (pointers.Far double place other) e h f other_kind = far_fails double place other e h f
  target_fails pointers.Null e h f other_kind = absurd (other_kind.1 refl)
  target_fails (pointers.Cap i) e h f other_kind = absurd (other_kind.0 i refl)
  target_fails (pointers.Struct offset d n) e h f other_kind = cc
  target_fails (pointers.List offset size n) e h f other_kind = cc

  -- a pointer that leads nowhere begins before its segment
  abbrev Before : Type 0
  Before = StartsBefore S s p ⊎ ((place : ℕ) × (other : ℕ) × Holds S s p (pointers.Far false place other) × StartsBefore S other place)

  here_before : (t q : ℕ) (r : Pointer) (target : PointerTarget) → Holds S t q r → target_here t q r ≡ Some target → target.start ≡ None → StartsBefore S t q
  here_before t q pointers.Null target h e none = cc
  here_before t q (pointers.Cap i) target h e none = cc
  here_before t q (pointers.Far double place other) target h e none = cc
  here_before t q (pointers.Struct offset d n) target h e none =
      let is : record { kind = kinds.Struct d n; segment = t; start = start_of q offset } ≡ target = cc in
      let first : start_of q offset ≡ None = ap (λ (a : PointerTarget). a.start) is ∙ none in
      (pointers.Struct offset d n, offset, kinds.Struct d n, h, (refl, refl), start_none q offset first)
  here_before t q (pointers.List offset size n) target h e none =
      let is : record { kind = kinds.List size n; segment = t; start = start_of q offset } ≡ target = cc in
      let first : start_of q offset ≡ None = ap (λ (a : PointerTarget). a.start) is ∙ none in
      (pointers.List offset size n, offset, kinds.List size n, h, (refl, refl), start_none q offset first)

  pub target_before : (r : Pointer) (target : PointerTarget) → Holds S s p r → target_by at S r ≡ Ok target → target.start ≡ None → Before
  target_before pointers.Null target h e none = cc
  target_before (pointers.Cap i) target h e none = cc
  target_before (pointers.Struct offset d n) target h e none = inl (here_before s p (pointers.Struct offset d n) target h (ap (λ x. Some x) (ok_is e)) none)
  target_before (pointers.List offset size n) target h e none = inl (here_before s p (pointers.List offset size n) target h (ap (λ x. Some x) (ok_is e)) none)
  target_before (pointers.Far false place other) target h e none =
      let k = passed (nat_lt other (length S)) _ _ target e in
      let j = passed (nat_lt place (length (segment S other))) _ _ target k.1 in
      go (grind (arith, nat_tests, j.0)) (pointer_of (slice_index (segment S other) place)) refl j.1
    where
      padded : (o : Option PointerTarget) (r : Pointer) → place < length (segment S other) → pointer_of (slice_index (segment S other) place) ≡ Some r → target_here other place r ≡ o → or_bad_pad at o ≡ Ok target → Before
      padded None r within says g f = cc
      padded (Some a) r within says g f =
          let is : a ≡ target = ok_is f in
          inr (place, other, h, here_before other place r a (within, says) g (ap (λ (a : PointerTarget). a.start) is ∙ none))

      go : place < length (segment S other) → (o : Option Pointer) → pointer_of (slice_index (segment S other) place) ≡ o → target_by_one at other place o ≡ Ok target → Before
      go within None says f = cc
      go within (Some r) says f = padded (target_here other place r) r within says refl f
  target_before (pointers.Far true place other) target h e none =
      let k = passed (nat_lt other (length S)) _ _ target e in
      let j = passed (nat_lt (place + 1) (length (segment S other))) _ _ target k.1 in
      two (pointer_of (slice_index (segment S other) place)) (tag_kind_of (pointer_of (slice_index (segment S other) (place + 1)))) refl j.1
    where
      second : (start s' : ℕ) (o : Option BodyKind) → target_second at S start s' o ≡ Ok target → Before
      second start s' None f = cc
      second start s' (Some k) f =
          let j = passed (nat_lt s' (length S)) _ _ target f in
          let begun : Some start ≡ target.start = ap (λ (a : PointerTarget). a.start) (ok_is j.1) in
          let wrong : ◌≡◌ {A = Option ℕ} (Some start) None = begun ∙ none in
          cc

      two : (one : Option Pointer) (o : Option BodyKind) → tag_kind_of (pointer_of (slice_index (segment S other) (place + 1))) ≡ o → target_by_two at S one (pointer_of (slice_index (segment S other) (place + 1))) ≡ Ok target → Before
      two None o t f = cc
      two (Some pointers.Null) o t f = cc
      two (Some (pointers.Cap i)) o t f = cc
      two (Some (pointers.Struct a d n)) o t f = cc
      two (Some (pointers.List a size n)) o t f = cc
      two (Some (pointers.Far true x y)) o t f = cc
      two (Some (pointers.Far false start s')) o t f = second start s' (tag_kind_of (pointer_of (slice_index (segment S other) (place + 1)))) f

  -- what a body that isn't inside says
  no_room : (e : TreeFault) → faults.OutOfBounds at ≡ e → IsOutOfBounds S s p → Faulty e
  no_room e is room = subst Faulty is (refl, room)

  -- where a body begins, or the fault
  placed_fails : (k : BodyKind) (s' size : ℕ) (o : Option ℕ) (e : TreeFault) → size ≡ kind_words k → (o ≡ None → Before) → ((start : ℕ) → o ≡ Some start → HasTarget S s p k s' start) → placed at (in_segment (segment S s') size o) ≡ Err e → Faulty e
  placed_fails k s' size None e same before has_target f = no_room e (err_is f) (inr (inr (inl (before refl))))
  placed_fails k s' size (Some start) e same before has_target f = go (nat_le (start + size) (length (segment S s'))) refl f
    where
      go : (b : Bool) → nat_le (start + size) (length (segment S s')) ≡ b → placed at (cond b (Some start) None) ≡ Err e → Faulty e
      go true t f = cc
      go false t f =
          let past : length (segment S s') < start + size = grind (arith, nat_tests) in
          no_room e (err_is f) (inr (inr (inr (inl (k, s', start, has_target start refl, omega (arith, past, same))))))

  tagged_fails : (s' size tag : ℕ) (e : TreeFault) → HasTarget S s p (kinds.List sizes.Composite size) s' tag → tag + (size + 1) ≤ length (segment S s') → (o : Option Tag) → tag_of (slice_index (segment S s') tag) ≡ o → tagged at s' size tag o ≡ Err e → Faulty e
  tagged_fails s' size tag e has_target inside None is f = subst Faulty (err_is f) (refl, (size, s', tag, record { has_target = has_target; inside = inside }, is))
  tagged_fails s' size tag e has_target inside (Some g) is f = go (nat_lt size (g.count * (g.words + g.ptrs))) refl f
    where
      go : (b : Bool) → nat_lt size (g.count * (g.words + g.ptrs)) ≡ b
          → ◌≡◌ {A = Result Area TreeFault} (cond b (Err (faults.OutOfBounds at)) (Ok (record { form = forms.Structs g.words g.ptrs g.count; segment = s'; start = tag + 1 }))) (Err e) → Faulty e
      go true t f = no_room e (err_is f) (inr (inr (inr (inr (size, s', tag, g, has_target, is, grind (arith, nat_tests))))))
      go false t f = cc

  kind_fails : (s' : ℕ) (o : Option ℕ) (k : BodyKind) (e : TreeFault) → (o ≡ None → Before) → ((start : ℕ) → o ≡ Some start → HasTarget S s p k s' start) → area_by_kind at (segment S s') s' o k ≡ Err e → Faulty e
  kind_fails s' o (kinds.Struct d n) e before has_target f = go (bind_err (placed at (in_segment (segment S s') (d + n) o)) _ e f)
    where
      go : (placed at (in_segment (segment S s') (d + n) o) ≡ Err e) ⊎ ((q : ℕ) × (placed at (in_segment (segment S s') (d + n) o) ≡ Ok q) × (◌≡◌ {A = Result Area TreeFault} (Ok (record { form = forms.Struct d n; segment = s'; start = q })) (Err e))) → Faulty e
      go (inl g) = placed_fails (kinds.Struct d n) s' (d + n) o e refl before has_target g
      go (inr g) = let wrong = g.2 in cc
  kind_fails s' o (kinds.List sizes.Composite n) e before has_target f = go (bind_err (placed at (in_segment (segment S s') (n + 1) o)) _ e f)
    where
      go : (placed at (in_segment (segment S s') (n + 1) o) ≡ Err e) ⊎ ((q : ℕ) × (placed at (in_segment (segment S s') (n + 1) o) ≡ Ok q) × (tagged at s' n q (tag_of (slice_index (segment S s') q)) ≡ Err e)) → Faulty e
      go (inl g) = placed_fails (kinds.List sizes.Composite n) s' (n + 1) o e refl before has_target g
      go (inr g) = let i = inside_is (segment S s') (n + 1) o g.0 (placed_is at _ g.0 g.1) in tagged_fails s' n g.0 e (has_target g.0 i.0) i.1 _ refl g.2
  kind_fails s' o (kinds.List size n) e before has_target f = go (bind_err (placed at (in_segment (segment S s') (words_for size n) o)) _ e f)
    where
      go : (placed at (in_segment (segment S s') (words_for size n) o) ≡ Err e) ⊎ ((q : ℕ) × (placed at (in_segment (segment S s') (words_for size n) o) ≡ Ok q) × (◌≡◌ {A = Result Area TreeFault} (Ok (record { form = forms.List size n; segment = s'; start = q })) (Err e))) → Faulty e
      go (inl g) = placed_fails (kinds.List size n) s' (words_for size n) o e refl before has_target g
      go (inr g) = let wrong = g.2 in cc

  pub area_fails : (r : Pointer) (target : PointerTarget) (e : TreeFault) → Holds S s p r → target_by at S r ≡ Ok target → area_by at S target ≡ Err e → Faulty e
  area_fails r target e h has_target f = kind_fails target.segment target.start target.kind e (target_before r target h has_target) (target_sound S s p r target h has_target) f
