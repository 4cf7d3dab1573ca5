-- What reading gives is denoted, within the limits.
use Rattle.std.proofs.Common.{◌≡◌, ℕ, zero, suc, ◌+◌, ◌-◌, ◌*◌, ◌/◌, ◌<◌, ◌≤◌, ℤ, pos, negsuc, ◌+ℤ◌, List, length, Option, Some, None, Result, Ok, Err, Bool, true, false, nat_lt, nat_le, cond, slice_index, length-take, length-drop, refl, sym, ap, subst, inl, inr, arith}
use Rattle.std.proofs.lemmas.Bool.Decides.{nat_tests}
use Rattle.std.proofs.lemmas.Int.{ints}
use Rattle.std.proofs.lemmas.List.FromFn.{length-map-range_with_len}
use Rattle.cp_words.specs.Word.{pointer_of, tag_of, words_for}
use Rattle.cp_words.specs.declared.pointer.Pointer.{Pointer}
use Rattle.cp_words.specs.declared.pointer.Pointer.TheVariants as pointers
use Rattle.cp_words.specs.declared.pointer.Tag.{Tag}
use Rattle.cp_words.specs.declared.pointer.ElementSize.{ElementSize}
use Rattle.cp_words.specs.declared.pointer.ElementSize.TheVariants as sizes
use Rattle.cp_tree.specs.Node.{Node, Nodes, Bodies, element_count, count, number_of, depth, greatest_depth, deepest_body, cost, total_cost, body_cost}
use Rattle.cp_words.specs.Targets.{segment, Holds, IsLandingPadTag, HasTargetHere, HasTarget, words_at}
use Rattle.cp_reading.specs.Locates.{Locates}
use Rattle.cp_tree.specs.Elements.{elements_of}
use Rattle.cp_reading.specs.Denotes.{Denotes, EachDenotes, EachBody}
use Rattle.cp_reading.specs.Reading.{◌>>=◌, Read, Kids, row_by, bodies_by, start_of, in_segment, placed, tagged, target_here, tag_kind_of, target_second, target_by_two, or_bad_pad, target_by_one, target_by, area_by_kind, area_by, charged, filled, price, body_words, IsWhole, body_by, pointer_by, word_by, kids_at, tree_at, rows_at}
use Rattle.cp_reading.specs.declared.target.PointerTarget.{PointerTarget}
use Rattle.cp_words.specs.declared.kind.BodyKind.{BodyKind}
use Rattle.cp_words.specs.declared.kind.BodyKind.TheVariants as kinds
use Rattle.cp_reading.specs.declared.area.Area.{Area}
use Rattle.cp_reading.specs.declared.area.Form.{Form}
use Rattle.cp_reading.specs.declared.area.Form.TheVariants as forms
use Rattle.cp_words.specs.declared.place.Place.{Place}
use Rattle.cp_reading.specs.declared.fault.TreeFault.{TreeFault}
use Rattle.cp_reading.specs.Fills.{IsBody, form_of, Fills}
use Rattle.cp_reading.proofs.Fills.{inner_depth, inner_cost, depth-body, cost-body, denotes_body}

-- Tools for steps that may fail.
pub ok_is : {A : Type 0} {x y : A} → ◌≡◌ {A = Result A TreeFault} (Ok x) (Ok y) → x ≡ y
ok_is e = cc

pub bind_ok : {A B : Type 0} (r : Result A TreeFault) (f : A → Result B TreeFault) (y : B) → (r >>= f) ≡ Ok y → (x : A) × (r ≡ Ok x) × (f x ≡ Ok y)
bind_ok (Ok x) f y e = (x, refl, e)
bind_ok (Err d) f y e = cc

-- a test, and what comes where it holds
pub passed : {A : Type 0} (b : Bool) (x : Result A TreeFault) (d : TreeFault) (y : A) → cond b x (Err d) ≡ Ok y → (b ≡ true) × (x ≡ Ok y)
passed true x d y e = (refl, e)
passed false x d y e = cc

-- a test, and what comes where it doesn't hold
pub not_stopped : {A : Type 0} (b : Bool) (x : Result A TreeFault) (d : TreeFault) (y : A) → cond b (Err d) x ≡ Ok y → (b ≡ false) × (x ≡ Ok y)
not_stopped true x d y e = cc
not_stopped false x d y e = (refl, e)

start_begins : (p : ℕ) (offset : ℤ) (start : ℕ) → start_of p offset ≡ Some start → pos start ≡ pos (p + 1) +ℤ offset
start_begins p (pos n) start e = let is : p + 1 + n ≡ start = cc in omega (arith, ints)
start_begins p (negsuc n) start e = go (nat_le n p) refl e
  where
    go : (b : Bool) → nat_le n p ≡ b → cond b (Some (p - n)) None ≡ Some start → pos start ≡ pos (p + 1) +ℤ negsuc n
    go true t e = let is : p - n ≡ start = cc in let le : n ≤ p = grind (arith, nat_tests) in omega (arith, ints)
    go false t e = cc

pub inside_is : (ws : List ℕ) (size : ℕ) (o : Option ℕ) (start : ℕ) → in_segment ws size o ≡ Some start → (o ≡ Some start) × (start + size ≤ length ws)
inside_is ws size None start e = cc
inside_is ws size (Some p) start e = go (nat_le (p + size) (length ws)) refl e
  where
    go : (b : Bool) → nat_le (p + size) (length ws) ≡ b → cond b (Some p) None ≡ Some start → (Some p ≡ Some start) × (start + size ≤ length ws)
    go true t e = let is : p ≡ start = cc in (e, grind (arith, nat_tests))
    go false t e = cc

pub placed_is : (at : Place) (o : Option ℕ) (q : ℕ) → placed at o ≡ Ok q → o ≡ Some q
placed_is at None q e = cc
placed_is at (Some p) q e = let is : p ≡ q = cc in rw is refl

-- what the second word of a pad says
pub tag_sound : (r : Option Pointer) (k : BodyKind) → tag_kind_of r ≡ Some k → (q : Pointer) × (r ≡ Some q) × IsLandingPadTag q k
tag_sound None k e = cc
tag_sound (Some pointers.Null) k e = (pointers.Null, refl, cc)
tag_sound (Some (pointers.Cap i)) k e = cc
tag_sound (Some (pointers.Far double x y)) k e = cc
tag_sound (Some (pointers.Struct (pos zero) d n)) k e = (pointers.Struct (pos 0) d n, refl, (refl, cc))
tag_sound (Some (pointers.Struct (pos (suc m)) d n)) k e = cc
tag_sound (Some (pointers.Struct (negsuc m) d n)) k e = cc
tag_sound (Some (pointers.List (pos zero) size n)) k e = (pointers.List (pos 0) size n, refl, (refl, cc))
tag_sound (Some (pointers.List (pos (suc m)) size n)) k e = cc
tag_sound (Some (pointers.List (negsuc m) size n)) k e = cc

module _ (S : List (List ℕ)) where
  here_sound : (s p : ℕ) (r : Pointer) (target : PointerTarget) → Holds S s p r → target_here s p r ≡ Some target → (start : ℕ) → target.start ≡ Some start → HasTargetHere S s p target.kind start × (target.segment ≡ s)
  here_sound s p pointers.Null target h e = cc
  here_sound s p (pointers.Cap i) target h e = cc
  here_sound s p (pointers.Far double place other) target h e = cc
  here_sound s p (pointers.Struct offset d n) target h e =
      let P : PointerTarget → Type 0 = λ a. (start : ℕ) → a.start ≡ Some start → HasTargetHere S s p a.kind start × (a.segment ≡ s) in
      let is : record { kind = kinds.Struct d n; segment = s; start = start_of p offset } ≡ target = cc in
      subst P is (λ start b. (record { pointer = pointers.Struct offset d n; offset = offset; stands = h; says = (refl, refl); begins = start_begins p offset start b }, refl))
  here_sound s p (pointers.List offset size n) target h e =
      let P : PointerTarget → Type 0 = λ a. (start : ℕ) → a.start ≡ Some start → HasTargetHere S s p a.kind start × (a.segment ≡ s) in
      let is : record { kind = kinds.List size n; segment = s; start = start_of p offset } ≡ target = cc in
      subst P is (λ start b. (record { pointer = pointers.List offset size n; offset = offset; stands = h; says = (refl, refl); begins = start_begins p offset start b }, refl))

  module _ (s p : ℕ) where
    abbrev at : Place
    at = record { segment = s; word = p }

    abbrev Right : PointerTarget → Type 0
    Right a = (start : ℕ) → a.start ≡ Some start → HasTarget S s p a.kind a.segment start

    module _ (place other : ℕ) (stands : Holds S s p (pointers.Far true place other)) (room : place + 1 < length (segment S other)) where
      abbrev word_at : ℕ → Option Pointer
      word_at q = pointer_of (slice_index (segment S other) q)

      by_two : (start s' : ℕ) (r : Pointer) (k : BodyKind) → word_at place ≡ Some (pointers.Far false start s') → word_at (place + 1) ≡ Some r → IsLandingPadTag r k
          → nat_lt s' (length S) ≡ true → Right (record { kind = k; segment = s'; start = Some start })
      by_two start s' r k first second says exists begin b =
          let is : start ≡ begin = cc in
          let within : place < length (segment S other) = omega (arith, room) in
          subst (λ x. HasTarget S s p k s' x) is (inr (inr (record {
            place = place;
            other = other;
            pointer = r;
            stands = stands;
            first = (within, first);
            exists = grind (arith, nat_tests);
            second = (room, second);
            says = says;
          })))

      second_sound : (start s' : ℕ) (two : Option Pointer) (target : PointerTarget) → word_at place ≡ Some (pointers.Far false start s') → word_at (place + 1) ≡ two
          → (o : Option BodyKind) → tag_kind_of two ≡ o → target_second at S start s' o ≡ Ok target → Right target
      second_sound start s' two target f g None t e = cc
      second_sound start s' two target f g (Some k) t e =
          let j = passed (nat_lt s' (length S)) _ _ target e in
          let q = tag_sound two k t in
          subst Right (ok_is j.1) (by_two start s' q.0 k f (rw g q.1) q.2 j.0)

      two_sound : (one two : Option Pointer) (target : PointerTarget) → word_at place ≡ one → word_at (place + 1) ≡ two → target_by_two at S one two ≡ Ok target → Right target
      two_sound None two target f g e = cc
      two_sound (Some pointers.Null) two target f g e = cc
      two_sound (Some (pointers.Cap i)) two target f g e = cc
      two_sound (Some (pointers.Struct offset d n)) two target f g e = cc
      two_sound (Some (pointers.List offset size n)) two target f g e = cc
      two_sound (Some (pointers.Far true start s')) two target f g e = cc
      two_sound (Some (pointers.Far false start s')) two target f g e = second_sound start s' two target f g (tag_kind_of two) refl e

    one_sound : (place s' : ℕ) (target : PointerTarget) → Holds S s p (pointers.Far false place s') → place < length (segment S s')
        → (o : Option Pointer) → pointer_of (slice_index (segment S s') place) ≡ o → target_by_one at s' place o ≡ Ok target → Right target
    one_sound place s' target stands within None f e = cc
    one_sound place s' target stands within (Some r) f e = go (target_here s' place r) refl e
      where
        go : (m : Option PointerTarget) → target_here s' place r ≡ m → or_bad_pad at m ≡ Ok target → Right target
        go None g e = cc
        go (Some a) g e =
            subst Right (ok_is e) (λ start b.
            let h = here_sound s' place r a (within, f) g start b in
            subst (λ x. HasTarget S s p a.kind x start) (sym h.1) (inr (inl (record { place = place; stands = stands; landing_pad = h.0 }))))

    pub target_sound : (r : Pointer) (target : PointerTarget) → Holds S s p r → target_by at S r ≡ Ok target → Right target
    target_sound (pointers.Far false place s') target h e =
        let k = passed (nat_lt s' (length S)) _ _ target e in
        let j = passed (nat_lt place (length (segment S s'))) _ _ target k.1 in
        one_sound place s' target h (grind (arith, nat_tests, j.0)) _ refl j.1
    target_sound (pointers.Far true place other) target h e =
        let k = passed (nat_lt other (length S)) _ _ target e in
        let j = passed (nat_lt (place + 1) (length (segment S other))) _ _ target k.1 in
        two_sound place other h (grind (arith, nat_tests, j.0)) _ _ target refl refl j.1
    target_sound pointers.Null target h e = cc
    target_sound (pointers.Cap i) target h e = cc
    target_sound (pointers.Struct offset d n) target h e = λ start b. let k = here_sound s p (pointers.Struct offset d n) target h (ap (λ x. Some x) (ok_is e)) start b in inl (k.0, k.1)
    target_sound (pointers.List offset size n) target h e = λ start b. let k = here_sound s p (pointers.List offset size n) target h (ap (λ x. Some x) (ok_is e)) start b in inl (k.0, k.1)

    -- the body that was found is located there
    pub record Found (a : Area) : Type 0 where
      pub located : Locates S s p a.form a.segment a.start
      pub inside : a.start + body_words a.form ≤ length (segment S a.segment)
      pub whole : IsWhole a.form

    AimsAt : ℕ → Option ℕ → BodyKind → Type 0
    AimsAt s' o k = (start : ℕ) → o ≡ Some start → HasTarget S s p k s' start

    -- a place in the segment
    placed_in : (place : Place) (s' size : ℕ) (o : Option ℕ) (q : ℕ) → placed place (in_segment (segment S s') size o) ≡ Ok q → (o ≡ Some q) × (q + size ≤ length (segment S s'))
    placed_in place s' size o q e = inside_is (segment S s') size o q (placed_is place _ q e)

    tagged_sound : (place : Place) (s' size q : ℕ) (o : Option ℕ) (a : Area) → AimsAt s' o (kinds.List sizes.Composite size) → (o ≡ Some q) × (q + (size + 1) ≤ length (segment S s'))
        → (t : Option Tag) → tag_of (slice_index (segment S s') q) ≡ t → tagged place s' size q t ≡ Ok a → Found a
    unfolding AimsAt
    tagged_sound place s' size q o a has_target b None is e = cc
    tagged_sound place s' size q o a has_target b (Some tag) is e =
        let fits = not_stopped (nat_lt size (tag.count * (tag.words + tag.ptrs))) _ _ a e in
        let room : tag.count * (tag.words + tag.ptrs) ≤ size = grind (arith, nat_tests, fits.0) in
        subst Found (ok_is fits.1) (record {
          located = (size, q, record { has_target = has_target q b.0; inside = b.1 }, is, room, refl);
          inside = omega (arith, b.1);
          whole = tt;
        })

    kind_sound : (place : Place) (s' : ℕ) (o : Option ℕ) (k : BodyKind) (a : Area) → AimsAt s' o k → area_by_kind place (segment S s') s' o k ≡ Ok a → Found a
    unfolding AimsAt
    kind_sound place s' o (kinds.Struct d n) a has_target e =
        let k = bind_ok (placed place (in_segment (segment S s') (d + n) o)) _ a e in
        let b = placed_in place s' (d + n) o k.0 k.1 in
        subst Found (ok_is k.2) (record { located = record { has_target = has_target k.0 b.0; inside = b.1 }; inside = b.1; whole = tt })
    kind_sound place s' o (kinds.List sizes.Composite n) a has_target e =
        let k = bind_ok (placed place (in_segment (segment S s') (n + 1) o)) _ a e in
        tagged_sound place s' n k.0 o a has_target (placed_in place s' (n + 1) o k.0 k.1) _ refl k.2
    kind_sound place s' o (kinds.List size n) a has_target e =
        let k = bind_ok (placed place (in_segment (segment S s') (words_for size n) o)) _ a e in
        let b = placed_in place s' (words_for size n) o k.0 k.1 in
        subst Found (ok_is k.2) (record { located = record { has_target = has_target k.0 b.0; inside = b.1 }; inside = b.1; whole = tt })

    pub area_sound : (target : PointerTarget) (a : Area) → Right target → area_by at S target ≡ Ok a → Found a
    unfolding AimsAt
    area_sound target a right e = kind_sound at target.segment target.start target.kind a right e

-- what reading a word gives
pub record Reads (S : List (List ℕ)) (s n p budget : ℕ) (x : Node × ℕ) : Type 0 where
  pub denoted : Denotes S s p x.0
  pub nests : depth x.0 ≤ n
  pub costs : budget ≡ x.1 + cost x.0

-- what reading a row gives
pub record ReadsRow (S : List (List ℕ)) (s n k p budget : ℕ) (x : Nodes × ℕ) : Type 0 where
  pub denoted : EachDenotes S s p x.0
  pub counts : count x.0 ≡ k
  pub nests : greatest_depth x.0 ≤ n
  pub costs : budget ≡ x.1 + total_cost x.0

-- what reading the bodies of a composite list gives
pub record ReadsBodies (S : List (List ℕ)) (s m k q d n budget : ℕ) (x : Bodies × ℕ) : Type 0 where
  pub denoted : EachBody S s q d n x.0
  pub counts : number_of x.0 ≡ k
  pub nests : deepest_body x.0 ≤ m
  pub costs : budget ≡ x.1 + body_cost x.0

-- what reading a body gives
pub record ReadsBody (S : List (List ℕ)) (s m q budget : ℕ) (f : Form) (x : Node × ℕ) : Type 0 where
  pub fills : Fills S s q x.0
  pub is_body : IsBody x.0
  pub form : form_of x.0 ≡ f
  pub nests : inner_depth x.0 ≤ m
  pub costs : budget ≡ x.1 + inner_cost x.0

-- rows are read, of a segment
unfoldable pub RowsRead : List (List ℕ) → ℕ → ℕ → (ℕ → ℕ → ℕ → Read Nodes) → Type 0
RowsRead S s m k = (size p budget : ℕ) (y : Nodes × ℕ) → p + size ≤ length (segment S s) → k size p budget ≡ Ok y → ReadsRow S s m size p budget y

-- kids read the rows of trees that nest no deeper than n - 1
KidsRead : List (List ℕ) → ℕ → Option Kids → Type 0
KidsRead S n None = n ≡ 0
KidsRead S n (Some k) = (m : ℕ) × (n ≡ suc m) × ((s : ℕ) → RowsRead S s m (k s))

pub width : (S : List (List ℕ)) (s d q : ℕ) → q + d ≤ length (segment S s) → length (words_at S s q d) ≡ d
width S s d q room = simp (length-take, length-drop) (omega arith)

module _ (S : List (List ℕ)) (s n : ℕ) where
  module _ (read : ℕ → ℕ → Read Node) (reads : (p budget : ℕ) (x : Node × ℕ) → p < length (segment S s) → read p budget ≡ Ok x → Reads S s n p budget x) where
    row_sound : (k p budget : ℕ) (y : Nodes × ℕ) → p + k ≤ length (segment S s) → row_by read k p budget ≡ Ok y → ReadsRow S s n k p budget y
    unfolding row_by
    row_sound zero p budget y room e = subst (ReadsRow S s n 0 p budget) (ok_is e) (record { denoted = tt; counts = refl; nests = omega arith; costs = omega arith })
    row_sound (suc k) p budget y room e =
        let first = bind_ok (read p budget) _ y e in
        let more = bind_ok (row_by read k (p + 1) first.0.1) _ y first.2 in
        let one = reads p budget first.0 (omega arith) first.1 in
        let others = row_sound k (p + 1) first.0.1 more.0 (omega arith) more.1 in
        subst (ReadsRow S s n (suc k) p budget) (ok_is more.2) (record {
          denoted = (one.denoted, others.denoted);
          counts = ap suc others.counts;
          nests = omega (arith, one.nests, others.nests);
          costs = omega (arith, one.costs, others.costs);
        })

  module _ (kids : ℕ → ℕ → ℕ → Read Nodes) (rows : RowsRead S s n kids) (d c : ℕ) where
    bodies_sound : (k q budget : ℕ) (y : Bodies × ℕ) → q + k * (d + c) ≤ length (segment S s) → bodies_by kids S s d c k q budget ≡ Ok y → ReadsBodies S s n k q d c budget y
    unfolding bodies_by RowsRead
    bodies_sound zero q budget y room e = subst (ReadsBodies S s n 0 q d c budget) (ok_is e) (record { denoted = tt; counts = refl; nests = omega arith; costs = omega arith })
    bodies_sound (suc k) q budget y room e =
        let here : q + d + c + k * (d + c) ≤ length (segment S s) = omega arith in
        let first = bind_ok (kids c (q + d) budget) _ y e in
        let more = bind_ok (bodies_by kids S s d c k (q + d + c) first.0.1) _ y first.2 in
        let row = rows c (q + d) budget first.0 (omega arith) first.1 in
        let others = bodies_sound k (q + d + c) first.0.1 more.0 here more.1 in
        subst (ReadsBodies S s n (suc k) q d c budget) (ok_is more.2) (record {
          denoted = (width S s d q (omega arith), row.counts, refl, row.denoted, others.denoted);
          counts = ap suc others.counts;
          nests = omega (arith, row.nests, others.nests);
          costs = omega (arith, row.costs, others.costs);
        })

-- a list has as many elements as it was read for
pub elements-made : (ws : List ℕ) (size : ElementSize) (n : ℕ) → element_count (elements_of ws size n) ≡ n
elements-made ws sizes.Void n = refl
elements-made ws size n = length-map-range_with_len _ 0 n

module _ (S : List (List ℕ)) (s q m budget : ℕ) (kids : Kids) (rows : RowsRead S s m (kids s)) where
  filled_sound : (f : Form) (x : Node × ℕ) → q + body_words f ≤ length (segment S s) → IsWhole f → filled kids S f s q budget ≡ Ok x → ReadsBody S s m q budget f x
  unfolding RowsRead
  filled_sound (forms.Struct d c) x room w e =
      let k = bind_ok (kids s c (q + d) budget) _ x e in
      let row = rows c (q + d) budget k.0 (omega arith) k.1 in
      let wide = width S s d q (omega arith) in
      subst (ReadsBody S s m q budget (forms.Struct d c)) (ok_is k.2) (record {
        fills = (rw wide refl, rw wide row.denoted);
        is_body = tt;
        form = rw (wide, row.counts) refl;
        nests = row.nests;
        costs = row.costs;
      })
  filled_sound (forms.Structs d c n) x room w e =
      let k = bind_ok (bodies_by (kids s) S s d c n q budget) _ x e in
      let bodies = bodies_sound S s m (kids s) rows d c n q budget k.0 room k.1 in
      subst (ReadsBody S s m q budget (forms.Structs d c n)) (ok_is k.2) (record {
        fills = bodies.denoted;
        is_body = tt;
        form = rw bodies.counts refl;
        nests = bodies.nests;
        costs = bodies.costs;
      })
  filled_sound (forms.List sizes.Pointer c) x room w e =
      let size : (c * 64 + 63) / 64 ≡ c = omega arith in
      let k = bind_ok (kids s c q budget) _ x e in
      let row = rows c q budget k.0 (omega arith) k.1 in
      subst (ReadsBody S s m q budget (forms.List sizes.Pointer c)) (ok_is k.2) (record {
        fills = row.denoted;
        is_body = tt;
        form = rw row.counts refl;
        nests = row.nests;
        costs = row.costs;
      })
  filled_sound (forms.List sizes.Composite c) x room w e = absurd w
  filled_sound (forms.List sizes.Void c) x room w e = subst (ReadsBody S s m q budget (forms.List sizes.Void c)) (ok_is e) (record { fills = refl; is_body = tt; form = refl; nests = omega arith; costs = omega arith })
  filled_sound (forms.List size c) x room w e =
      let made = elements-made (words_at S s q (words_for size c)) size c in
      subst (ReadsBody S s m q budget (forms.List size c)) (ok_is e) (record {
        fills = rw made refl;
        is_body = tt;
        form = rw made refl;
        nests = omega arith;
        costs = omega arith;
      })

-- the way in was free
pub charged_is : (at : Place) (kids : Option Kids) (price budget : ℕ) (x : Kids × ℕ) → charged at kids price budget ≡ Ok x → (kids ≡ Some x.0) × (budget ≡ x.1 + price)
charged_is at None price budget x e = cc
charged_is at (Some k) price budget x e =
    let j = not_stopped (nat_lt budget price) (Ok (k, budget - price)) _ x e in
    let room : price ≤ budget = grind (arith, nat_tests, j.0) in
    let P : Kids × ℕ → Type 0 = λ y. (Some k ≡ Some y.0) × (budget ≡ y.1 + price) in
    subst P (ok_is j.1) (refl, omega arith)

module _ (S : List (List ℕ)) (s p n budget : ℕ) (kids : Option Kids) (reads : KidsRead S n kids) (within : p < length (segment S s)) where
  abbrev here : Place
  here = record { segment = s; word = p }

  -- what the way in leads to
  way_in : (price : ℕ) (x : Kids × ℕ) → charged here kids price budget ≡ Ok x → (m : ℕ) × (n ≡ suc m) × ((s' : ℕ) → RowsRead S s' m (x.0 s')) × (budget ≡ x.1 + price)
  unfolding KidsRead
  way_in price x e =
      let j = charged_is here kids price budget x e in
      let r : KidsRead S n (Some x.0) = subst (KidsRead S n) j.0 reads in
      go r j.1
    where
      go : KidsRead S n (Some x.0) → budget ≡ x.1 + price → (m : ℕ) × (n ≡ suc m) × ((s' : ℕ) → RowsRead S s' m (x.0 s')) × (budget ≡ x.1 + price)
      go r c = (r.0, r.1, r.2, c)

  body_sound : (a : Area) (x : Node × ℕ) → Found S s p a → body_by here kids S budget a ≡ Ok x → Reads S s n p budget x
  body_sound a x f e =
      let into = bind_ok (charged here kids (price a.form) budget) _ x e in
      let w = way_in (price a.form) into.0 into.1 in
      let b = filled_sound S a.segment a.start w.0 into.0.1 into.0.0 (w.2 a.segment) a.form x f.inside f.whole into.2 in
      let deep = depth-body x.0 b.is_body in
      let dear = cost-body x.0 b.is_body in
      let same : price (form_of x.0) ≡ price a.form = ap price b.form in
      record {
        denoted = denotes_body S s p x.0 a.segment a.start (subst (λ g. Locates S s p g a.segment a.start) (sym b.form) f.located) b.fills;
        nests = omega (arith, deep, b.nests, w.1);
        costs = omega (arith, dear, same, b.costs, w.3);
      }

  word_sound : (x : Node × ℕ) → word_by kids S s p budget ≡ Ok x → Reads S s n p budget x
  word_sound x e = go (pointer_of (slice_index (segment S s) p)) refl e
    where
      target_at : (r : Pointer) → pointer_of (slice_index (segment S s) p) ≡ Some r → (target_by here S r >>= area_by here S >>= body_by here kids S budget) ≡ Ok x → Reads S s n p budget x
      target_at r says e =
          let j = bind_ok (target_by here S r >>= area_by here S) (body_by here kids S budget) x e in
          let k = bind_ok (target_by here S r) (area_by here S) j.0 j.1 in
          body_sound j.0 x (area_sound S s p k.0 j.0 (target_sound S s p r k.0 (within, says) k.1) k.2) j.2

      go : (o : Option Pointer) → pointer_of (slice_index (segment S s) p) ≡ o → pointer_by here kids S budget o ≡ Ok x → Reads S s n p budget x
      go None says e = cc
      go (Some pointers.Null) says e = subst (Reads S s n p budget) (ok_is e) (record { denoted = (within, says); nests = omega arith; costs = omega arith })
      go (Some (pointers.Cap i)) says e = subst (Reads S s n p budget) (ok_is e) (record { denoted = (within, says); nests = omega arith; costs = omega arith })
      go (Some (pointers.Struct offset d k)) says e = target_at (pointers.Struct offset d k) says e
      go (Some (pointers.List offset size k)) says e = target_at (pointers.List offset size k) says e
      go (Some (pointers.Far double place other)) says e = target_at (pointers.Far double place other) says e

-- what reading gives is denoted, nests no deeper than n, and was paid for
pub sound : (n : ℕ) (S : List (List ℕ)) (s p budget : ℕ) (x : Node × ℕ) → p < length (segment S s) → tree_at n S s p budget ≡ Ok x → Reads S s n p budget x
unfolding kids_at KidsRead RowsRead
sound zero S s p budget x within e = word_sound S s p 0 budget None refl within x e
sound (suc n) S s p budget x within e =
    word_sound S s p (suc n) budget (Some (rows_at n S)) (n, refl, λ s' size q rest y room f. row_sound S s' n (tree_at n S s') (λ r more z h g. sound n S s' r more z h g) size q rest y room f) within x e

-- so is a row, and a body
pub rows_sound : (n : ℕ) (S : List (List ℕ)) (s : ℕ) → RowsRead S s n (rows_at n S s)
unfolding RowsRead
rows_sound n S s size q rest y room f = row_sound S s n (tree_at n S s) (λ r more z h g. sound n S s r more z h g) size q rest y room f

pub within_sound : (n : ℕ) (S : List (List ℕ)) (s q budget : ℕ) (f : Form) (x : Node × ℕ) → q + body_words f ≤ length (segment S s) → IsWhole f → filled (rows_at n S) S f s q budget ≡ Ok x → ReadsBody S s n q budget f x
within_sound n S s q budget f x room w e = filled_sound S s q n budget (rows_at n S) (rows_sound n S s) f x room w e
