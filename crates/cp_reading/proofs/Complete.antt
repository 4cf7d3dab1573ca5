-- What is denoted within the limits is read.
use Rattle.std.proofs.Common.{◌≡◌, ◌==◌, ℕ, ◌+◌, ◌-◌, ◌*◌, ◌/◌, ◌<◌, ◌≤◌, ℤ, pos, negsuc, ◌+ℤ◌, List, [], length, Some, Ok, Bool, true, false, nat_lt, nat_le, slice_index, refl, sym, ap, ◌∙◌, subst, inl, inr, arith}
use Rattle.std.proofs.lemmas.Bool.Decides.{nat_tests}
use Rattle.std.proofs.lemmas.Int.{ints}
use Rattle.std.proofs.lemmas.List.{get_or_past}
use Rattle.cp_words.specs.Word.{pointer_of, words_for}
use Rattle.cp_words.specs.declared.pointer.Pointer.{Pointer}
use Rattle.cp_words.specs.declared.pointer.Pointer.TheVariants as pointers
use Rattle.cp_words.specs.declared.pointer.ElementSize.TheVariants as sizes
use Rattle.cp_tree.specs.Node.{Elements, voids, Node, null, cap, struct, list, ptrs, structs, Nodes, no_nodes, node, Bodies, no_bodies, body, count, number_of, depth, greatest_depth, deepest_body, cost, total_cost, body_cost}
use Rattle.cp_words.specs.Targets.{segment, IsBodyPointer, IsLandingPadTag, HasTargetHere, HasTargetByLandingPad, HasTargetByTwoWords, HasTarget}
use Rattle.cp_reading.specs.Locates.{Locates}
use Rattle.cp_reading.specs.Denotes.{Denotes, EachDenotes, EachBody}
use Rattle.cp_reading.specs.Reading.{◌>>=◌, Kids, row_by, bodies_by, start_of, in_segment, area_by, target_here, tag_kind_of, target_by, or_bad_pad, filled, price, IsWhole, body_by, budget_after, pointer_by, kids_at, tree_at, rows_at}
use Rattle.cp_reading.specs.declared.target.PointerTarget.{PointerTarget}
use Rattle.cp_words.specs.declared.kind.BodyKind.{BodyKind}
use Rattle.cp_words.specs.declared.kind.BodyKind.TheVariants as kinds
use Rattle.cp_reading.specs.declared.area.Form.{Form}
use Rattle.cp_reading.specs.declared.area.Form.TheVariants as forms
use Rattle.cp_words.specs.declared.place.Place.{Place}
use Rattle.cp_reading.proofs.Checks.{target_found}
use Rattle.cp_reading.proofs.Charges.{charged_ok}
use Rattle.cp_reading.specs.Fills.{IsBody, form_of, Fills}
use Rattle.cp_reading.proofs.Fills.{form_of-whole, inner_depth, inner_cost, depth-body, cost-body}

begins_start : (p : ℕ) (offset : ℤ) (start : ℕ) → pos start ≡ pos (p + 1) +ℤ offset → start_of p offset ≡ Some start
begins_start p (pos n) start b = let is : p + 1 + n ≡ start = omega (arith, ints, b) in rw is
begins_start p (negsuc n) start b =
    let is : p - n ≡ start = omega (arith, ints, b) in
    let low : n ≤ p = omega (arith, ints, b) in
    let below : nat_le n p ≡ true = grind (arith, nat_tests) in
    rw (below, is)

pub fits : (ws : List ℕ) (size start : ℕ) → start + size ≤ length ws → in_segment ws size (Some start) ≡ Some start
fits ws size start room = let t : nat_le (start + size) (length ws) ≡ true = grind (arith, nat_tests) in rw t

-- a segment with a word exists
pub exists_if : (S : List (List ℕ)) (s place : ℕ) → place < length (segment S s) → s < length S
exists_if S s place h = go (nat_lt s (length S)) refl
  where
    go : (b : Bool) → nat_lt s (length S) ≡ b → s < length S
    go true t = grind (arith, nat_tests)
    go false t =
        let past : length S ≤ s = grind (arith, nat_tests) in
        let none : segment S s ≡ [] = get_or_past S s [] past in
        let h' : place < length {A = ℕ} [] = rw none at h in
        absurd (omega arith)

-- what a pointer that aims at a body says
says_kind : (s p : ℕ) (r : Pointer) (offset : ℤ) (k : BodyKind) (start : ℕ) → IsBodyPointer r offset k → start_of p offset ≡ Some start → target_here s p r ≡ Some (record { kind = k; segment = s; start = Some start })
says_kind s p (pointers.Struct o d n) offset k start h b = rw (h.0, h.1, b)
says_kind s p (pointers.List o size n) offset k start h b = rw (h.0, h.1, b)
says_kind s p pointers.Null offset k start h b = absurd h
says_kind s p (pointers.Cap i) offset k start h b = absurd h
says_kind s p (pointers.Far double place other) offset k start h b = absurd h

pub says_tag : (r : Pointer) (k : BodyKind) → IsLandingPadTag r k → tag_kind_of (Some r) ≡ Some k
says_tag pointers.Null k h = rw h
says_tag (pointers.Struct o d n) k h = rw (h.0, h.1)
says_tag (pointers.List o size n) k h = rw (h.0, h.1)
says_tag (pointers.Cap i) k h = absurd h
says_tag (pointers.Far double x z) k h = absurd h

module _ (S : List (List ℕ)) (s p : ℕ) where
  abbrev at : Place
  at = record { segment = s; word = p }

  -- the word holds a pointer that aims there
  unfoldable pub Found : BodyKind → ℕ → ℕ → Type 0
  Found k s' start = (r : Pointer) × (pointer_of (slice_index (segment S s) p) ≡ Some r) × (target_by at S r ≡ Ok (record { kind = k; segment = s'; start = Some start }))

  found_here : (k : BodyKind) (start : ℕ) → HasTargetHere S s p k start → Found k s start
  unfolding Found
  found_here k start a = go a.pointer a.stands.1 (says_kind s p a.pointer a.offset k start a.says (begins_start p a.offset start a.begins)) a.says
    where
      go : (r : Pointer) → pointer_of (slice_index (segment S s) p) ≡ Some r → target_here s p r ≡ Some (record { kind = k; segment = s; start = Some start }) → IsBodyPointer r a.offset k
          → (r : Pointer) × (pointer_of (slice_index (segment S s) p) ≡ Some r) × (target_by at S r ≡ Ok (record { kind = k; segment = s; start = Some start }))
      go (pointers.Struct o d n) is e says = (pointers.Struct o d n, is, ap (or_bad_pad at) e)
      go (pointers.List o size n) is e says = (pointers.List o size n, is, ap (or_bad_pad at) e)
      go pointers.Null is e says = absurd says
      go (pointers.Cap i) is e says = absurd says
      go (pointers.Far double place other) is e says = absurd says

  found_by_pad : (k : BodyKind) (s' start : ℕ) → HasTargetByLandingPad S s p k s' start → Found k s' start
  unfolding Found
  found_by_pad k s' start a =
      let place = a.place in
      let landing_pad = a.landing_pad in
      let within : place < length (segment S s') = landing_pad.stands.0 in
      let w : nat_lt place (length (segment S s')) ≡ true = grind (arith, nat_tests) in
      let x : nat_lt s' (length S) ≡ true = grind (arith, nat_tests, exists_if S s' place within) in
      let e = says_kind s' place landing_pad.pointer landing_pad.offset k start landing_pad.says (begins_start place landing_pad.offset start landing_pad.begins) in
      (pointers.Far false place s', a.stands.1, rw (x, w, landing_pad.stands.1, e))

  found_by_two : (k : BodyKind) (s' start : ℕ) → HasTargetByTwoWords S s p k s' start → Found k s' start
  unfolding Found
  found_by_two k s' start a =
      let place = a.place in
      let w : nat_lt (place + 1) (length (segment S a.other)) ≡ true = grind (arith, nat_tests, a.second.0) in
      let x : nat_lt a.other (length S) ≡ true = grind (arith, nat_tests, exists_if S a.other (place + 1) a.second.0) in
      let y : nat_lt s' (length S) ≡ true = grind (arith, nat_tests, a.exists) in
      (pointers.Far true place a.other, a.stands.1, rw (x, w, a.first.1, a.second.1, says_tag a.pointer k a.says, y))

  pub target_is_found : (k : BodyKind) (s' start : ℕ) → HasTarget S s p k s' start → Found k s' start
  target_is_found k s' start (inl a) = subst (λ x. Found k x start) (sym a.1) (found_here k start a.0)
  target_is_found k s' start (inr (inl a)) = found_by_pad k s' start a
  target_is_found k s' start (inr (inr a)) = found_by_two k s' start a

  -- the word holds a pointer that leads to this body
  pub record Led (f : Form) (s' start : ℕ) : Type 0 where
    pub pointer : Pointer
    pub target : PointerTarget
    pub says : pointer_of (slice_index (segment S s) p) ≡ Some pointer
    pub has_target : target_by at S pointer ≡ Ok target
    pub area : area_by at S target ≡ Ok (record { form = f; segment = s'; start = start })

  pub led : (f : Form) (s' start : ℕ) → IsWhole f → Locates S s p f s' start → Led f s' start
  unfolding Found
  led (forms.Struct d n) s' start w l =
      let a = target_is_found (kinds.Struct d n) s' start l.has_target in
      record { pointer = a.0; target = record { kind = kinds.Struct d n; segment = s'; start = Some start }; says = a.1; has_target = a.2; area = rw (fits (segment S s') (d + n) start l.inside) refl }
  led (forms.Structs d n k) s' start w l =
      let a = target_is_found (kinds.List sizes.Composite l.0) s' l.1 l.2.has_target in
      let room : nat_lt l.0 (k * (d + n)) ≡ false = grind (arith, nat_tests, l.4) in
      record {
        pointer = a.0;
        target = record { kind = kinds.List sizes.Composite l.0; segment = s'; start = Some l.1 };
        says = a.1;
        has_target = a.2;
        area = rw (fits (segment S s') (l.0 + 1) l.1 l.2.inside, l.3, room, l.5) refl;
      }
  led (forms.List sizes.Composite n) s' start w l = absurd w
  led (forms.List size n) s' start w l =
      let a = target_is_found (kinds.List size n) s' start l.has_target in
      record { pointer = a.0; target = record { kind = kinds.List size n; segment = s'; start = Some start }; says = a.1; has_target = a.2; area = rw (fits (segment S s') (words_for size n) start l.inside) refl }

pub charge_taken : (at : Place) (n price budget : ℕ) → 0 < n → price ≤ budget → budget_after at n price budget ≡ Ok (budget - price)
charge_taken at n price budget deep room =
    let a : (n == 0) ≡ false = grind (arith, nat_tests) in
    let b : nat_lt budget price ≡ false = grind (arith, nat_tests) in
    rw (a, b)

-- A word leads to a body, and the body is read where one level less and its price less are left.
body_read : (S : List (List ℕ)) (s p n budget : ℕ) (t : Node) (s' q : ℕ) → IsBody t → Locates S s p (form_of t) s' q → depth t ≤ n → cost t ≤ budget
    → filled (rows_at (n - 1) S) S (form_of t) s' q (budget - price (form_of t)) ≡ Ok (t, budget - price (form_of t) - inner_cost t)
    → tree_at n S s p budget ≡ Ok (t, budget - cost t)
body_read S s p n budget t s' q b l deep dear e =
    let h = led S s p (form_of t) s' q (form_of-whole t) l in
    let d = depth-body t b in
    let c = cost-body t b in
    let paid = charge_taken (at S s p) n (price (form_of t)) budget (omega arith) (omega arith) in
    let rest : budget - price (form_of t) - inner_cost t ≡ budget - cost t = omega arith in
    ap (pointer_by (at S s p) (kids_at n S) S budget) h.says
    ∙ target_found (at S s p) (kids_at n S) S budget h.pointer h.target h.has_target
    ∙ ap (λ r. r >>= body_by (at S s p) (kids_at n S) S budget) h.area
    ∙ rw (charged_ok (at S s p) S (price (form_of t)) budget n _ paid) (e ∙ ap (λ m. Ok (t, m)) rest)

-- a list without pointers
list_filled : (es : Elements) (kids : Kids) (S : List (List ℕ)) (s q budget : ℕ) → Fills S s q (list es) → filled kids S (form_of (list es)) s q budget ≡ Ok (list es, budget - 0)
list_filled (voids n) kids S s q budget h = let none : budget - 0 ≡ budget = omega arith in rw none refl
list_filled es kids S s q budget h = let none : budget - 0 ≡ budget = omega arith in rw none (ap (λ e. Ok (list e, budget)) (sym h))

mutual
  unfolding row_by bodies_by

  -- a tree that is denoted within the limits is read, and its cost is taken
  pub complete : (t : Node) (n : ℕ) (S : List (List ℕ)) (s p budget : ℕ) → Denotes S s p t → depth t ≤ n → cost t ≤ budget → tree_at n S s p budget ≡ Ok (t, budget - cost t)
  complete null n S s p budget h deep dear = let e : budget - 0 ≡ budget = omega arith in rw (h.1, e)
  complete (cap i) n S s p budget h deep dear = let e : budget - 0 ≡ budget = omega arith in rw (h.1, e)
  complete (struct ws ts) n S s p budget h deep dear =
      let rest = budget - (1 + length ws + count ts) in
      let row = complete_row ts (n - 1) S h.0 (h.1 + length ws) rest h.3.1 (omega (arith, deep)) (omega (arith, dear)) in
      body_read S s p n budget (struct ws ts) h.0 h.1 tt h.2 deep dear (rw row (ap (λ w. Ok (struct w ts, rest - total_cost ts)) (sym h.3.0)))
  complete (list es) n S s p budget h deep dear = body_read S s p n budget (list es) h.0 h.1 tt h.2 deep dear (list_filled es (rows_at (n - 1) S) S h.0 h.1 (budget - price (form_of (list es))) h.3)
  complete (ptrs ts) n S s p budget h deep dear =
      let size : (count ts * 64 + 63) / 64 ≡ count ts = omega arith in
      let rest = budget - (1 + (count ts * 64 + 63) / 64) in
      let row = complete_row ts (n - 1) S h.0 h.1 rest h.3 (omega (arith, deep)) (omega (arith, dear)) in
      body_read S s p n budget (ptrs ts) h.0 h.1 tt h.2 deep dear (rw row)
  complete (structs d c bs) n S s p budget h deep dear =
      let rest = budget - (2 + number_of bs * (1 + d + c)) in
      let rows = complete_bodies bs d c (n - 1) S h.0 h.1 rest h.3 (omega (arith, deep)) (omega (arith, dear)) in
      body_read S s p n budget (structs d c bs) h.0 h.1 tt h.2 deep dear (rw rows)

  pub complete_row : (ts : Nodes) (n : ℕ) (S : List (List ℕ)) (s p budget : ℕ) → EachDenotes S s p ts → greatest_depth ts ≤ n → total_cost ts ≤ budget → rows_at n S s (count ts) p budget ≡ Ok (ts, budget - total_cost ts)
  complete_row no_nodes n S s p budget h deep dear = let e : budget - 0 ≡ budget = omega arith in rw e
  complete_row (node t ts) n S s p budget h deep dear =
      let one = complete t n S s p budget h.0 (omega (arith, deep)) (omega (arith, dear)) in
      let others = complete_row ts n S s (p + 1) (budget - cost t) h.1 (omega (arith, deep)) (omega (arith, dear)) in
      let e : budget - cost t - total_cost ts ≡ budget - (cost t + total_cost ts) = omega arith in
      rw (one, others, e)

  pub complete_bodies : (bs : Bodies) (d c n : ℕ) (S : List (List ℕ)) (s q budget : ℕ) → EachBody S s q d c bs → deepest_body bs ≤ n → body_cost bs ≤ budget
      → bodies_by (rows_at n S s) S s d c (number_of bs) q budget ≡ Ok (bs, budget - body_cost bs)
  complete_bodies no_bodies d c n S s q budget h deep dear = let e : budget - 0 ≡ budget = omega arith in rw e
  complete_bodies (body ws ts bs) d c n S s q budget h deep dear =
      let row = complete_row ts n S s (q + d) budget h.3 (omega (arith, deep)) (omega (arith, dear)) in
      let row' : rows_at n S s c (q + d) budget ≡ Ok (ts, budget - total_cost ts) = rw h.1 at row in
      let others = complete_bodies bs d c n S s (q + d + c) (budget - total_cost ts) h.4 (omega (arith, deep)) (omega (arith, dear)) in
      let e : budget - total_cost ts - body_cost bs ≡ budget - (total_cost ts + body_cost bs) = omega arith in
      rw (row', others, e) (ap (λ w. Ok (body w ts bs, budget - (total_cost ts + body_cost bs))) (sym h.2))

-- a body that stands there is read
pub fills_read : (t : Node) (n : ℕ) (S : List (List ℕ)) (s q budget : ℕ) → Fills S s q t → inner_depth t ≤ n → inner_cost t ≤ budget → filled (rows_at n S) S (form_of t) s q budget ≡ Ok (t, budget - inner_cost t)
fills_read null n S s q budget h deep dear = absurd h
fills_read (cap i) n S s q budget h deep dear = absurd h
fills_read (struct ws ts) n S s q budget h deep dear =
    let row = complete_row ts n S s (q + length ws) budget h.1 deep dear in
    rw row (ap (λ w. Ok (struct w ts, budget - total_cost ts)) (sym h.0))
fills_read (list es) n S s q budget h deep dear = list_filled es (rows_at n S) S s q budget h
fills_read (ptrs ts) n S s q budget h deep dear = let row = complete_row ts n S s q budget h deep dear in rw row refl
fills_read (structs d c bs) n S s q budget h deep dear = let rows = complete_bodies bs d c n S s q budget h deep dear in rw rows refl
