-- The first fault in reading order is the one that reading meets.
use Rattle.std.proofs.Common.{◌≡◌, ℕ, zero, suc, ◌+◌, ◌-◌, ◌*◌, ◌<◌, ◌≤◌, ℤ, pos, negsuc, ◌+ℤ◌, ◌<ℤ◌, List, length, Option, Some, None, Ok, Err, Bool, true, false, nat_lt, nat_le, ◌==◌, slice_index, refl, ap, subst, inl, inr, ◌⊎◌, ◌∙◌, arith}
use Rattle.std.proofs.lemmas.Bool.Decides.{nat_tests}
use Rattle.std.proofs.lemmas.Int.{ints}
use Rattle.cp_words.specs.Word.{pointer_of, tag_of, words_for}
use Rattle.cp_words.specs.declared.pointer.Pointer.{Pointer}
use Rattle.cp_words.specs.declared.pointer.Pointer.TheVariants as pointers
use Rattle.cp_words.specs.declared.pointer.Tag.{Tag}
use Rattle.cp_words.specs.declared.pointer.ElementSize.TheVariants as sizes
use Rattle.cp_words.specs.declared.kind.BodyKind.{BodyKind}
use Rattle.cp_words.specs.declared.kind.BodyKind.TheVariants as kinds
use Rattle.cp_words.specs.declared.place.Place.{Place}
use Rattle.cp_words.specs.Targets.{segment, Holds, IsBodyPointer}
use Rattle.cp_tree.specs.Node.{Nodes, no_nodes, node, Bodies, no_bodies, body, count, number_of, greatest_depth, deepest_body, total_cost, body_cost, cost}
use Rattle.cp_reading.specs.Denotes.{EachDenotes, EachBody}
use Rattle.cp_reading.specs.Faults.{kind_words, NamesNoSegment, HasBadPad, StartsBefore, IsOutOfBounds, HasBadTag}
use Rattle.cp_reading.specs.FirstFault.{HasForm, HasWordFault, HasFault, parts_of, pointers_at, ComesBefore, FirstAt, own, below}
use Rattle.cp_reading.specs.Reading.{◌>>=◌, Kids, row_by, bodies_by, start_of, in_segment, target_here, tag_kind_of, target_second, target_by_two, or_bad_pad, target_by_one, target_by_far, target_by, area_by_kind, area_by, budget_after, filled, price, body_by, pointer_by, word_by, kids_at, tree_at, rows_at}
use Rattle.cp_reading.specs.declared.target.PointerTarget.{PointerTarget}
use Rattle.cp_reading.specs.declared.area.Form.{Form}
use Rattle.cp_reading.specs.declared.area.Form.TheVariants as forms
use Rattle.cp_reading.specs.declared.fault.TreeFault.{TreeFault}
use Rattle.cp_reading.specs.declared.fault.TreeFault.TheVariants as faults
use Rattle.cp_reading.proofs.Checks.{target_found}
use Rattle.cp_reading.proofs.Charges.{charged_err, charged_ok}
use Rattle.cp_reading.proofs.Complete.{fits, Found, exists_if, says_tag, target_is_found, led, charge_taken, complete, complete_row}
use Rattle.cp_reading.proofs.Sound.{tag_sound}

-- a body that would begin before its segment
starts_before : (p : ℕ) (o : ℤ) → (pos (p + 1) +ℤ o) <ℤ pos 0 → start_of p o ≡ None
starts_before p (pos n) h = absurd (omega (arith, ints, h))
starts_before p (negsuc n) h =
    let past : p < n = omega (arith, ints, h) in
    let t : nat_le n p ≡ false = grind (arith, nat_tests) in
    rw t

module _ (at : Place) (ws : List ℕ) (s : ℕ) where
  -- it has no place
  none_placed : (k : BodyKind) → area_by_kind at ws s None k ≡ Err (faults.OutOfBounds at)
  none_placed (kinds.Struct d n) = refl
  none_placed (kinds.List sizes.Composite n) = refl
  none_placed (kinds.List size n) = refl

  not_in : (size start : ℕ) → length ws < start + size → in_segment ws size (Some start) ≡ None
  not_in size start past = let t : nat_le (start + size) (length ws) ≡ false = grind (arith, nat_tests) in rw t

  -- nor has one that ends after its segment
  past_placed : (k : BodyKind) (start : ℕ) → length ws < start + kind_words k → area_by_kind at ws s (Some start) k ≡ Err (faults.OutOfBounds at)
  past_placed (kinds.Struct d n) start past = rw (not_in (d + n) start past)
  past_placed (kinds.List sizes.Composite n) start past = rw (not_in (n + 1) start past)
  past_placed (kinds.List size n) start past = rw (not_in (words_for size n) start past)

  -- elements that overrun their list
  overrun_placed : (size tag : ℕ) (g : Tag) → tag_of (slice_index ws tag) ≡ Some g → size < g.count * (g.words + g.ptrs) → area_by_kind at ws s (Some tag) (kinds.List sizes.Composite size) ≡ Err (faults.OutOfBounds at)
  overrun_placed size tag g is past = go (nat_le (tag + (size + 1)) (length ws)) refl
    where
      over : nat_lt size (g.count * (g.words + g.ptrs)) ≡ true
      over = grind (arith, nat_tests)

      go : (b : Bool) → nat_le (tag + (size + 1)) (length ws) ≡ b → area_by_kind at ws s (Some tag) (kinds.List sizes.Composite size) ≡ Err (faults.OutOfBounds at)
      go true t = rw (t, is, over)
      go false t = rw t

module _ (S : List (List ℕ)) (s p : ℕ) (kids : Option Kids) (budget : ℕ) where
  abbrev here : Place
  here = record { segment = s; word = p }

  abbrev Stops : TreeFault → Type 0
  Stops e = word_by kids S s p budget ≡ Err e

  -- a word whose target has no whole body
  area_stops : (r : Pointer) (target : PointerTarget) (e : TreeFault) → pointer_of (slice_index (segment S s) p) ≡ Some r → target_by here S r ≡ Ok target → area_by here S target ≡ Err e → Stops e
  area_stops r target e says found area =
      ap (pointer_by here kids S budget) says ∙ target_found here kids S budget r target found ∙ ap (λ q. q >>= body_by here kids S budget) area

  -- a far pointer without a target
  far_stops : (double : Bool) (place other : ℕ) (e : TreeFault) → Holds S s p (pointers.Far double place other) → target_by_far here S double place other ≡ Err e → Stops e
  far_stops double place other e h f = ap (pointer_by here kids S budget) h.1 ∙ ap (λ q. q >>= area_by here S >>= body_by here kids S budget) f

  -- what a landing pad of one word says
  one_pad : (place other : ℕ) (o : Option Pointer) → place < length (segment S other) → pointer_of (slice_index (segment S other) place) ≡ o → target_by_far here S false place other ≡ target_by_one here other place o
  one_pad place other o within says =
      let w : nat_lt place (length (segment S other)) ≡ true = grind (arith, nat_tests) in
      let x : nat_lt other (length S) ≡ true = grind (arith, nat_tests, exists_if S other place within) in
      rw (x, w, says)

  two_pad : (place other : ℕ) → place + 1 < length (segment S other) → target_by_far here S true place other ≡ target_by_two here S (pointer_of (slice_index (segment S other) place)) (pointer_of (slice_index (segment S other) (place + 1)))
  two_pad place other within =
      let w : nat_lt (place + 1) (length (segment S other)) ≡ true = grind (arith, nat_tests) in
      let x : nat_lt other (length S) ≡ true = grind (arith, nat_tests, exists_if S other (place + 1) within) in
      rw (x, w)

  no_segment : NamesNoSegment S s p → Stops (faults.NoSegment here)
  no_segment (inl h) = go h.0 h.3
    where
      x : nat_lt h.2 (length S) ≡ false
      x = grind (arith, nat_tests, h.4)

      go : (double : Bool) → Holds S s p (pointers.Far double h.1 h.2) → Stops (faults.NoSegment here)
      go false held = far_stops false h.1 h.2 _ held (rw x)
      go true held = far_stops true h.1 h.2 _ held (rw x)
  no_segment (inr h) =
      let x : nat_lt h.3 (length S) ≡ false = grind (arith, nat_tests, h.10) in
      far_stops true h.0 h.1 _ h.6 (two_pad h.0 h.1 h.8.0 ∙ rw (h.7.1, h.8.1, says_tag h.4 h.5 h.9, x))

  bad_pad : HasBadPad S s p → Stops (faults.BadPad here)
  bad_pad (inl h) = far_stops false h.0 h.1 _ h.2 (go (pointer_of (slice_index (segment S h.1) h.0)) refl)
    where
      pad : (o : Option Pointer) → pointer_of (slice_index (segment S h.1) h.0) ≡ o → target_by_one here h.1 h.0 o ≡ Err (faults.BadPad here) → target_by_far here S false h.0 h.1 ≡ Err (faults.BadPad here)
      pad o says f = one_pad h.0 h.1 o h.3.0 says ∙ f

      go : (o : Option Pointer) → pointer_of (slice_index (segment S h.1) h.0) ≡ o → target_by_far here S false h.0 h.1 ≡ Err (faults.BadPad here)
      go None says = pad None says refl
      go (Some pointers.Null) says = pad (Some pointers.Null) says refl
      go (Some (pointers.Cap i)) says = pad (Some (pointers.Cap i)) says refl
      go (Some (pointers.Far x y z)) says = pad (Some (pointers.Far x y z)) says refl
      go (Some (pointers.Struct o d n)) says = absurd (h.3.1 (pointers.Struct o d n) o (kinds.Struct d n) says (refl, refl))
      go (Some (pointers.List o size n)) says = absurd (h.3.1 (pointers.List o size n) o (kinds.List size n) says (refl, refl))
  bad_pad (inr h) = far_stops true h.0 h.1 _ h.2 (two_pad h.0 h.1 h.3 ∙ one (pointer_of (slice_index (segment S h.1) h.0)) refl)
    where
      second : (start s' : ℕ) → pointer_of (slice_index (segment S h.1) h.0) ≡ Some (pointers.Far false start s') → (o : Option BodyKind) → tag_kind_of (pointer_of (slice_index (segment S h.1) (h.0 + 1))) ≡ o → target_second here S start s' o ≡ Err (faults.BadPad here)
      second start s' says None t = refl
      second start s' says (Some k) t = let tag = tag_sound (pointer_of (slice_index (segment S h.1) (h.0 + 1))) k t in absurd (h.4 start s' tag.0 k says tag.1 tag.2)

      one : (o : Option Pointer) → pointer_of (slice_index (segment S h.1) h.0) ≡ o → target_by_two here S o (pointer_of (slice_index (segment S h.1) (h.0 + 1))) ≡ Err (faults.BadPad here)
      one None says = refl
      one (Some pointers.Null) says = refl
      one (Some (pointers.Cap i)) says = refl
      one (Some (pointers.Struct o d n)) says = refl
      one (Some (pointers.List o size n)) says = refl
      one (Some (pointers.Far true x y)) says = refl
      one (Some (pointers.Far false start s')) says = second start s' says (tag_kind_of (pointer_of (slice_index (segment S h.1) (h.0 + 1)))) refl

  bad_tag : HasBadTag S s p → Stops (faults.BadTag here)
  unfolding Found
  bad_tag h =
      let t = target_is_found S s p (kinds.List sizes.Composite h.0) h.1 h.2 h.3.has_target in
      area_stops t.0 _ _ t.1 t.2 (rw (fits (segment S h.1) (h.0 + 1) h.2 h.3.inside, h.4))

  -- a pointer whose body would begin before its segment
  before_here : (t q : ℕ) (r : Pointer) (o : ℤ) (k : BodyKind) → IsBodyPointer r o k → (pos (q + 1) +ℤ o) <ℤ pos 0 → target_here t q r ≡ Some (record { kind = k; segment = t; start = None })
  before_here t q pointers.Null o k says none = absurd says
  before_here t q (pointers.Cap i) o k says none = absurd says
  before_here t q (pointers.Far x y z) o k says none = absurd says
  before_here t q (pointers.Struct a d n) o k says none = rw (says.0, says.1, starts_before q o none)
  before_here t q (pointers.List a size n) o k says none = rw (says.0, says.1, starts_before q o none)

  target_before : (r : Pointer) (o : ℤ) (k : BodyKind) → IsBodyPointer r o k → (pos (p + 1) +ℤ o) <ℤ pos 0 → target_by here S r ≡ Ok (record { kind = k; segment = s; start = None })
  target_before pointers.Null o k says none = absurd says
  target_before (pointers.Cap i) o k says none = absurd says
  target_before (pointers.Far x y z) o k says none = absurd says
  target_before (pointers.Struct a d n) o k says none = ap (or_bad_pad here) (before_here s p (pointers.Struct a d n) o k says none)
  target_before (pointers.List a size n) o k says none = ap (or_bad_pad here) (before_here s p (pointers.List a size n) o k says none)

  begins_before : (StartsBefore S s p ⊎ ((place : ℕ) × (other : ℕ) × Holds S s p (pointers.Far false place other) × StartsBefore S other place)) → Stops (faults.OutOfBounds here)
  begins_before (inl h) = area_stops h.0 _ _ h.3.1 (target_before h.0 h.1 h.2 h.4 h.5) (none_placed here (segment S s) s h.2)
  begins_before (inr h) =
      let b = h.3 in
      let found = one_pad h.0 h.1 (Some b.0) b.3.0 b.3.1 ∙ ap (or_bad_pad here) (before_here h.1 h.0 b.0 b.1 b.2 b.4 b.5) in
      area_stops (pointers.Far false h.0 h.1) _ _ h.2.1 found (none_placed here (segment S h.1) h.1 b.2)

  out_of_bounds : IsOutOfBounds S s p → Stops (faults.OutOfBounds here)
  unfolding Found
  out_of_bounds (inl h) =
      let x : nat_lt h.1 (length S) ≡ true = grind (arith, nat_tests, h.3) in
      let w : nat_lt h.0 (length (segment S h.1)) ≡ false = grind (arith, nat_tests, h.4) in
      far_stops false h.0 h.1 _ h.2 (rw (x, w))
  out_of_bounds (inr (inl h)) =
      let x : nat_lt h.1 (length S) ≡ true = grind (arith, nat_tests, h.3) in
      let w : nat_lt (h.0 + 1) (length (segment S h.1)) ≡ false = grind (arith, nat_tests, h.4) in
      far_stops true h.0 h.1 _ h.2 (rw (x, w))
  out_of_bounds (inr (inr (inl h))) = begins_before h
  out_of_bounds (inr (inr (inr (inl h)))) =
      let t = target_is_found S s p h.0 h.1 h.2 h.3 in
      area_stops t.0 _ _ t.1 t.2 (past_placed here (segment S h.1) h.1 h.0 h.2 h.4)
  out_of_bounds (inr (inr (inr (inr h)))) =
      let t = target_is_found S s p (kinds.List sizes.Composite h.0) h.1 h.2 h.4 in
      area_stops t.0 _ _ t.1 t.2 (overrun_placed here (segment S h.1) h.1 h.0 h.2 h.3 h.5 h.6)

  -- a word's own fault, whatever is left of the limits
  word_stops : (e : TreeFault) → HasWordFault S s p e → Stops e
  word_stops (faults.NoRoot at) h = absurd h
  word_stops (faults.RootKind at) h = absurd h
  word_stops (faults.OutOfBounds at) h = out_of_bounds h.1 ∙ ap (λ a. Err (faults.OutOfBounds a)) h.0
  word_stops (faults.NoSegment at) h = no_segment h.1 ∙ ap (λ a. Err (faults.NoSegment a)) h.0
  word_stops (faults.BadPad at) h = bad_pad h.1 ∙ ap (λ a. Err (faults.BadPad a)) h.0
  word_stops (faults.BadTag at) h = bad_tag h.1 ∙ ap (λ a. Err (faults.BadTag a)) h.0
  word_stops (faults.BadCapability at) h = ap (pointer_by here kids S budget) h.1 ∙ ap (λ a. Err (faults.BadCapability a)) h.0
  word_stops (faults.NestingLimit at) h = absurd h
  word_stops (faults.TraversalLimit at) h = absurd h
  word_stops faults.OutOfMemory h = absurd h

module _ (S : List (List ℕ)) (s p n budget : ℕ) where
  -- a body that isn't entered
  charge_stops : (e : TreeFault) (form : Form) (s' start : ℕ) → HasForm S s p form s' start → budget_after (record { segment = s; word = p }) n (price form) budget ≡ Err e → tree_at n S s p budget ≡ Err e
  charge_stops e form s' start has refused =
      let h = led S s p form s' start has.0 has.1 in
      let at : Place = record { segment = s; word = p } in
      ap (pointer_by at (kids_at n S) S budget) h.says
      ∙ target_found at (kids_at n S) S budget h.pointer h.target h.has_target
      ∙ ap (λ r. r >>= body_by at (kids_at n S) S budget) h.area
      ∙ rw (charged_err at S (price form) budget n e refused)

  own_stops : (e : TreeFault) → HasFault S s p n budget e → tree_at n S s p budget ≡ Err e
  own_stops (faults.NestingLimit at) h =
      let none : (n == 0) ≡ true = grind (arith, nat_tests, h.1) in
      charge_stops _ h.2 h.3 h.4 h.5 (rw none (ap (λ a. Err (faults.NestingLimit a)) h.0))
  own_stops (faults.TraversalLimit at) h =
      let some : (n == 0) ≡ false = grind (arith, nat_tests, h.1) in
      let dear : nat_lt budget (price h.2) ≡ true = grind (arith, nat_tests, h.6) in
      charge_stops _ h.2 h.3 h.4 h.5 (rw (some, dear) (ap (λ a. Err (faults.TraversalLimit a)) h.0))
  own_stops (faults.NoRoot at) h = absurd h
  own_stops (faults.RootKind at) h = absurd h
  own_stops faults.OutOfMemory h = absurd h
  own_stops e h = word_stops S s p (kids_at n S) budget e h

module _ (S : List (List ℕ)) (e : TreeFault) (m : ℕ) where
  -- a row of words, of which those before one denote trees
  row_stops : (ts : Nodes) (s k p budget : ℕ) → EachDenotes S s p ts → greatest_depth ts ≤ m → total_cost ts ≤ budget → count ts < k → tree_at m S s (p + count ts) (budget - total_cost ts) ≡ Err e → rows_at m S s k p budget ≡ Err e
  unfolding row_by
  row_stops ts s zero p budget denoted deep dear more h = absurd (omega (arith, more))
  row_stops no_nodes s (suc k) p budget denoted deep dear more h =
      let place : p + 0 ≡ p = omega arith in
      let all : budget - 0 ≡ budget = omega arith in
      let here : tree_at m S s p budget ≡ Err e = rw (place, all) at h in
      rw here
  row_stops (node t ts) s (suc k) p budget denoted deep dear more h =
      let one = complete t m S s p budget denoted.0 (omega (arith, deep)) (omega (arith, dear)) in
      let place : p + suc (count ts) ≡ p + 1 + count ts = omega arith in
      let left : budget - (cost t + total_cost ts) ≡ budget - cost t - total_cost ts = omega arith in
      let later = row_stops ts s k (p + 1) (budget - cost t) denoted.1 (omega (arith, deep)) (omega (arith, dear)) (omega (arith, more)) (rw (place, left) at h) in
      rw (one, later)

  bodies_stop : (bs : Bodies) (ts : Nodes) (s d c k q budget : ℕ) → EachBody S s q d c bs → EachDenotes S s (q + number_of bs * (d + c) + d) ts → deepest_body bs ≤ m → greatest_depth ts ≤ m
      → body_cost bs + total_cost ts ≤ budget → number_of bs < k → count ts < c → tree_at m S s (q + number_of bs * (d + c) + d + count ts) (budget - (body_cost bs + total_cost ts)) ≡ Err e → bodies_by (rows_at m S s) S s d c k q budget ≡ Err e
  unfolding bodies_by
  bodies_stop bs ts s d c zero q budget each left deep nests dear more more_ptrs h = absurd (omega (arith, more))
  bodies_stop no_bodies ts s d c (suc k) q budget each left deep nests dear more more_ptrs h =
      let place : q + 0 * (d + c) + d ≡ q + d = omega arith in
      let all : budget - (0 + total_cost ts) ≡ budget - total_cost ts = omega arith in
      let row = row_stops ts s c (q + d) budget (subst (λ z. EachDenotes S s z ts) place left) nests (omega (arith, dear)) more_ptrs (rw (place, all) at h) in
      rw row
  bodies_stop (body ws us bs) ts s d c (suc k) q budget each left deep nests dear more more_ptrs h =
      let row = complete_row us m S s (q + d) budget each.3 (omega (arith, deep)) (omega (arith, dear)) in
      let row' : rows_at m S s c (q + d) budget ≡ Ok (us, budget - total_cost us) = rw each.1 at row in
      let place : q + suc (number_of bs) * (d + c) + d ≡ q + d + c + number_of bs * (d + c) + d = omega arith in
      let spent : budget - (total_cost us + body_cost bs + total_cost ts) ≡ budget - total_cost us - (body_cost bs + total_cost ts) = omega arith in
      let later = bodies_stop bs ts s d c k (q + d + c) (budget - total_cost us) each.4 (subst (λ z. EachDenotes S s z ts) place left) (omega (arith, deep)) nests (omega (arith, dear)) (omega (arith, more)) more_ptrs (rw (place, spent) at h) in
      rw (row', later)

  -- a body, of which what comes before one of its pointers denotes trees
  filled_stops : (form : Form) (s start budget : ℕ) (elements : Bodies) (ptrs : Nodes) → ComesBefore S s start (parts_of form) m elements ptrs → body_cost elements + total_cost ptrs ≤ budget
      → tree_at m S s (pointers_at (parts_of form) start (number_of elements) + count ptrs) (budget - (body_cost elements + total_cost ptrs)) ≡ Err e → filled (rows_at m S) S form s start budget ≡ Err e
  filled_stops (forms.Structs d n k) s start budget elements ptrs b dear h =
      rw (bodies_stop elements ptrs s d n k start budget b.elements_denoted b.ptrs_denoted b.elements_not_deeper b.ptrs_not_deeper dear b.more_elements b.more_ptrs h)
  filled_stops (forms.Struct d n) s start budget no_bodies ptrs b dear h =
      let place : start + 0 * (d + n) + d ≡ start + d = omega arith in
      let all : budget - (0 + total_cost ptrs) ≡ budget - total_cost ptrs = omega arith in
      rw (row_stops ptrs s n (start + d) budget (subst (λ z. EachDenotes S s z ptrs) place b.ptrs_denoted) b.ptrs_not_deeper (omega (arith, dear)) b.more_ptrs (rw (place, all) at h))
  filled_stops (forms.Struct d n) s start budget (body ws us bs) ptrs b dear h = absurd (omega (arith, b.more_elements))
  filled_stops (forms.List sizes.Pointer n) s start budget no_bodies ptrs b dear h =
      let place : start + 0 * (0 + n) + 0 ≡ start = omega arith in
      let all : budget - (0 + total_cost ptrs) ≡ budget - total_cost ptrs = omega arith in
      rw (row_stops ptrs s n start budget (subst (λ z. EachDenotes S s z ptrs) place b.ptrs_denoted) b.ptrs_not_deeper (omega (arith, dear)) b.more_ptrs (rw (place, all) at h))
  filled_stops (forms.List sizes.Pointer n) s start budget (body ws us bs) ptrs b dear h = absurd (omega (arith, b.more_elements))
  filled_stops (forms.List size n) s start budget elements ptrs b dear h = absurd (omega (arith, b.more_elements))

-- the first fault at a word is the one that reading it meets
pub first_read : (S : List (List ℕ)) (e : TreeFault) (s p n budget : ℕ) → FirstAt S e s p n budget → tree_at n S s p budget ≡ Err e
first_read S e s p n budget (own has) = own_stops S s p n budget e has
first_read S e s p n budget (below form s' start elements ptrs has deep before paid later) =
    let h = led S s p form s' start has.0 has.1 in
    let at : Place = record { segment = s; word = p } in
    let into = charge_taken at n (price form) budget deep (omega (arith, paid)) in
    let spent : budget - (price form + (body_cost elements + total_cost ptrs)) ≡ budget - price form - (body_cost elements + total_cost ptrs) = omega arith in
    let reborrow = first_read S e s' (pointers_at (parts_of form) start (number_of elements) + count ptrs) (n - 1) (budget - (price form + (body_cost elements + total_cost ptrs))) later in
    let stops = filled_stops S e (n - 1) form s' start (budget - price form) elements ptrs before (omega (arith, paid)) (rw spent at reborrow) in
    ap (pointer_by at (kids_at n S) S budget) h.says
    ∙ target_found at (kids_at n S) S budget h.pointer h.target h.has_target
    ∙ ap (λ r. r >>= body_by at (kids_at n S) S budget) h.area
    ∙ rw (charged_ok at S (price form) budget n _ into) stops
