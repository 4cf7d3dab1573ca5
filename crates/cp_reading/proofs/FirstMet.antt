-- A fault that reading meets is the first in reading order.
use Rattle.std.proofs.Common.{◌≡◌, ℕ, zero, suc, ◌+◌, ◌-◌, ◌*◌, ◌/◌, ◌<◌, ◌≤◌, List, length, Option, Some, None, Result, Ok, Err, Bool, true, false, nat_lt, cond, slice_index, refl, ap, subst, inl, inr, ◌⊎◌, arith}
use Rattle.std.proofs.lemmas.Bool.Decides.{nat_tests}
use Rattle.cp_words.specs.Word.{pointer_of}
use Rattle.cp_words.specs.declared.pointer.Pointer.{Pointer}
use Rattle.cp_words.specs.declared.pointer.Pointer.TheVariants as pointers
use Rattle.cp_words.specs.declared.pointer.ElementSize.TheVariants as sizes
use Rattle.cp_words.specs.declared.place.Place.{Place}
use Rattle.cp_tree.specs.Node.{Node, struct, ptrs, structs, Nodes, no_nodes, node, Bodies, no_bodies, body, count, number_of, greatest_depth, deepest_body, total_cost, body_cost}
use Rattle.cp_words.specs.Targets.{segment, Holds, words_at}
use Rattle.cp_reading.specs.Denotes.{EachDenotes, EachBody}
use Rattle.cp_reading.specs.FirstFault.{HasWordFault, HasFault, parts_of, pointers_at, FirstAt, own, below}
use Rattle.cp_reading.specs.Reading.{◌>>=◌, Read, Kids, row_by, bodies_by, target_by, area_by, charged, filled, price, body_words, IsWhole, body_by, pointer_by, word_by, kids_at, tree_at, rows_at}
use Rattle.cp_reading.specs.declared.target.PointerTarget.{PointerTarget}
use Rattle.cp_reading.specs.declared.area.Area.{Area}
use Rattle.cp_reading.specs.declared.area.Form.{Form}
use Rattle.cp_reading.specs.declared.area.Form.TheVariants as forms
use Rattle.cp_reading.specs.declared.fault.TreeFault.{TreeFault}
use Rattle.cp_reading.specs.declared.fault.TreeFault.TheVariants as faults
use Rattle.cp_reading.proofs.WrongTargets.{bind_err, err_is, target_fails, area_fails}
use Rattle.cp_reading.proofs.Sound.{Found, Reads, ReadsRow, RowsRead, sound, rows_sound, target_sound, area_sound, bind_ok, width, charged_is}

-- a word's own fault, whatever is left of the limits
pub by_itself : (S : List (List ℕ)) (s p levels budget : ℕ) (e : TreeFault) → HasWordFault S s p e → HasFault S s p levels budget e
by_itself S s p levels budget (faults.NoRoot at) h = h
by_itself S s p levels budget (faults.RootKind at) h = h
by_itself S s p levels budget (faults.OutOfBounds at) h = h
by_itself S s p levels budget (faults.NoSegment at) h = h
by_itself S s p levels budget (faults.BadPad at) h = h
by_itself S s p levels budget (faults.BadTag at) h = h
by_itself S s p levels budget (faults.BadCapability at) h = h
by_itself S s p levels budget (faults.NestingLimit at) h = absurd h
by_itself S s p levels budget (faults.TraversalLimit at) h = absurd h
by_itself S s p levels budget faults.OutOfMemory h = h

-- the same, of a place and a budget that are equal
moved : (S : List (List ℕ)) (e : TreeFault) (s n p q b c : ℕ) → p ≡ q → b ≡ c → FirstAt S e s p n b → FirstAt S e s q n c
moved S e s n p q b c place budget f = subst (λ x. FirstAt S e s q n x) budget (subst (λ x. FirstAt S e s x n b) place f)

-- the first fault of a row of words
pub record RowFirst (S : List (List ℕ)) (e : TreeFault) (s n k p budget : ℕ) : Type 0 where
  pub before : Nodes
  pub denoted : EachDenotes S s p before
  pub more : count before < k
  pub nests : greatest_depth before ≤ n
  pub costs : total_cost before ≤ budget
  pub first : FirstAt S e s (p + count before) n (budget - total_cost before)

-- that of the bodies of a composite list, of this many words and pointers each
pub record BodiesFirst (S : List (List ℕ)) (e : TreeFault) (s n d c k q budget : ℕ) : Type 0 where
  pub elements : Bodies
  pub ptrs : Nodes
  pub denoted : EachBody S s q d c elements
  pub left : EachDenotes S s (q + number_of elements * (d + c) + d) ptrs
  pub more : number_of elements < k
  pub more_ptrs : count ptrs < c
  pub nests : deepest_body elements ≤ n
  pub ptrs_nest : greatest_depth ptrs ≤ n
  pub costs : body_cost elements + total_cost ptrs ≤ budget
  pub first : FirstAt S e s (q + number_of elements * (d + c) + d + count ptrs) n (budget - (body_cost elements + total_cost ptrs))

-- what a row's fault says
pub RowMet : List (List ℕ) → ℕ → ℕ → (ℕ → ℕ → ℕ → Read Nodes) → Type 0
RowMet S s n k = (size p budget : ℕ) (e : TreeFault) → p + size ≤ length (segment S s) → k size p budget ≡ Err e → RowFirst S e s n size p budget

module _ (S : List (List ℕ)) (s n : ℕ) (read : ℕ → ℕ → Read Node)
    (reads : (p budget : ℕ) (x : Node × ℕ) → p < length (segment S s) → read p budget ≡ Ok x → Reads S s n p budget x)
    (fails : (p budget : ℕ) (e : TreeFault) → p < length (segment S s) → read p budget ≡ Err e → FirstAt S e s p n budget) where
  row_met : (k p budget : ℕ) (e : TreeFault) → p + k ≤ length (segment S s) → row_by read k p budget ≡ Err e → RowFirst S e s n k p budget
  unfolding row_by
  row_met zero p budget e room h = cc
  row_met (suc k) p budget e room h = first (λ (x : Node × ℕ) g. row_met k (p + 1) x.1 e (omega arith) g) (bind_err (read p budget) _ e h)
    where
      later : (x : Node × ℕ) → Reads S s n p budget x → RowFirst S e s n k (p + 1) x.1 → RowFirst S e s n (suc k) p budget
      later x r f = record {
        before = node x.0 f.before;
        denoted = (r.denoted, f.denoted);
        more = omega (arith, f.more);
        nests = omega (arith, r.nests, f.nests);
        costs = omega (arith, r.costs, f.costs);
        first = moved S e s n _ _ _ _ (omega arith) (omega (arith, r.costs, f.costs)) f.first;
      }

      rest : ((x : Node × ℕ) → row_by read k (p + 1) x.1 ≡ Err e → RowFirst S e s n k (p + 1) x.1) → (x : Node × ℕ) → Reads S s n p budget x
          → (row_by read k (p + 1) x.1 ≡ Err e) ⊎ ((y : Nodes × ℕ) × (row_by read k (p + 1) x.1 ≡ Ok y) × (◌≡◌ {A = Read Nodes} (Ok (node x.0 y.0, y.1)) (Err e))) → RowFirst S e s n (suc k) p budget
      rest reborrow x r (inr g) = cc
      rest reborrow x r (inl g) = later x r (reborrow x g)

      first : ((x : Node × ℕ) → row_by read k (p + 1) x.1 ≡ Err e → RowFirst S e s n k (p + 1) x.1)
          → (read p budget ≡ Err e) ⊎ ((x : Node × ℕ) × (read p budget ≡ Ok x) × (◌>>=◌ {B = Nodes × ℕ} (row_by read k (p + 1) x.1) (λ ts. Ok (node x.0 ts.0, ts.1)) ≡ Err e)) → RowFirst S e s n (suc k) p budget
      first reborrow (inl f) = record {
        before = no_nodes;
        denoted = tt;
        more = omega arith;
        nests = omega arith;
        costs = omega arith;
        first = moved S e s n _ _ _ _ (omega arith) (omega arith) (fails p budget e (omega arith) f);
      }
      first reborrow (inr f) = rest reborrow f.0 (reads p budget f.0 (omega arith) f.1) (bind_err (row_by read k (p + 1) f.0.1) _ e f.2)

module _ (S : List (List ℕ)) (s n : ℕ) (kids : ℕ → ℕ → ℕ → Read Nodes) (rows : RowsRead S s n kids) (fails : RowMet S s n kids) (d c : ℕ) where
  bodies_met : (k q budget : ℕ) (e : TreeFault) → q + k * (d + c) ≤ length (segment S s) → bodies_by kids S s d c k q budget ≡ Err e → BodiesFirst S e s n d c k q budget
  unfolding bodies_by RowsRead RowMet
  bodies_met zero q budget e room h = cc
  bodies_met (suc k) q budget e room h =
      let inside : q + d + c + k * (d + c) ≤ length (segment S s) = omega arith in
      first inside (λ (x : Nodes × ℕ) g. bodies_met k (q + d + c) x.1 e inside g) (bind_err (kids c (q + d) budget) _ e h)
    where
      later : q + d ≤ length (segment S s) → (x : Nodes × ℕ) → ReadsRow S s n c (q + d) budget x → BodiesFirst S e s n d c k (q + d + c) x.1 → BodiesFirst S e s n d c (suc k) q budget
      later room x r f =
          let m = number_of f.elements in
          let place : q + d + c + m * (d + c) + d ≡ q + suc m * (d + c) + d = omega arith in
          record {
            elements = body (words_at S s q d) x.0 f.elements;
            ptrs = f.ptrs;
            denoted = (width S s d q room, r.counts, refl, r.denoted, f.denoted);
            left = subst (λ z. EachDenotes S s z f.ptrs) place f.left;
            more = omega (arith, f.more);
            more_ptrs = f.more_ptrs;
            nests = omega (arith, r.nests, f.nests);
            ptrs_nest = f.ptrs_nest;
            costs = omega (arith, r.costs, f.costs);
            first = moved S e s n _ _ _ _ (ap (λ z. z + count f.ptrs) place) (omega (arith, r.costs, f.costs)) f.first;
          }

      rest : q + d ≤ length (segment S s) → ((x : Nodes × ℕ) → bodies_by kids S s d c k (q + d + c) x.1 ≡ Err e → BodiesFirst S e s n d c k (q + d + c) x.1) → (x : Nodes × ℕ) → ReadsRow S s n c (q + d) budget x
          → (bodies_by kids S s d c k (q + d + c) x.1 ≡ Err e) ⊎ ((y : Bodies × ℕ) × (bodies_by kids S s d c k (q + d + c) x.1 ≡ Ok y) × (◌≡◌ {A = Read Bodies} (Ok (body (words_at S s q d) x.0 y.0, y.1)) (Err e)))
          → BodiesFirst S e s n d c (suc k) q budget
      rest room reborrow x r (inr g) = cc
      rest room reborrow x r (inl g) = later room x r (reborrow x g)

      first : q + d + c + k * (d + c) ≤ length (segment S s) → ((x : Nodes × ℕ) → bodies_by kids S s d c k (q + d + c) x.1 ≡ Err e → BodiesFirst S e s n d c k (q + d + c) x.1)
          → (kids c (q + d) budget ≡ Err e) ⊎ ((x : Nodes × ℕ) × (kids c (q + d) budget ≡ Ok x) × (◌>>=◌ {B = Bodies × ℕ} (bodies_by kids S s d c k (q + d + c) x.1) (λ bs. Ok (body (words_at S s q d) x.0 bs.0, bs.1)) ≡ Err e)) → BodiesFirst S e s n d c (suc k) q budget
      first inside reborrow (inl f) =
          let row = fails c (q + d) budget e (omega arith) f in
          let place : q + d ≡ q + 0 * (d + c) + d = omega arith in
          record {
            elements = no_bodies;
            ptrs = row.before;
            denoted = tt;
            left = subst (λ z. EachDenotes S s z row.before) place row.denoted;
            more = omega arith;
            more_ptrs = row.more;
            nests = omega arith;
            ptrs_nest = row.nests;
            costs = omega (arith, row.costs);
            first = moved S e s n _ _ _ _ (ap (λ z. z + count row.before) place) (omega arith) row.first;
          }
      first inside reborrow (inr f) = rest (omega arith) reborrow f.0 (rows c (q + d) budget f.0 (omega arith) f.1) (bind_err (bodies_by kids S s d c k (q + d + c) f.0.1) _ e f.2)

module _ (S : List (List ℕ)) (s q m budget : ℕ) (kids : Kids) (rows : RowsRead S s m (kids s)) (fails : RowMet S s m (kids s)) where
  -- a row as the pointers of the one element of a body
  one_element : (e : TreeFault) (d c : ℕ) → RowFirst S e s m c (q + d) budget → BodiesFirst S e s m d c 1 q budget
  one_element e d c row =
      let place : q + d ≡ q + 0 * (d + c) + d = omega arith in
      record {
        elements = no_bodies;
        ptrs = row.before;
        denoted = tt;
        left = subst (λ z. EachDenotes S s z row.before) place row.denoted;
        more = omega arith;
        more_ptrs = row.more;
        nests = omega arith;
        ptrs_nest = row.nests;
        costs = omega (arith, row.costs);
        first = moved S e s m _ _ _ _ (ap (λ z. z + count row.before) place) (omega arith) row.first;
      }

  filled_met : (f : Form) (e : TreeFault) → q + body_words f ≤ length (segment S s) → IsWhole f → filled kids S f s q budget ≡ Err e → BodiesFirst S e s m (parts_of f).words (parts_of f).ptrs (parts_of f).elements q budget
  unfolding RowMet
  filled_met (forms.Struct d c) e room w h = go (bind_err (kids s c (q + d) budget) _ e h)
    where
      go : (kids s c (q + d) budget ≡ Err e) ⊎ ((x : Nodes × ℕ) × (kids s c (q + d) budget ≡ Ok x) × (◌≡◌ {A = Read Node} (Ok (struct (words_at S s q d) x.0, x.1)) (Err e))) → BodiesFirst S e s m d c 1 q budget
      go (inr g) = cc
      go (inl g) = one_element e d c (fails c (q + d) budget e (omega arith) g)
  filled_met (forms.Structs d c n) e room w h = go (bind_err (bodies_by (kids s) S s d c n q budget) _ e h)
    where
      go : (bodies_by (kids s) S s d c n q budget ≡ Err e) ⊎ ((x : Bodies × ℕ) × (bodies_by (kids s) S s d c n q budget ≡ Ok x) × (◌≡◌ {A = Read Node} (Ok (structs d c x.0, x.1)) (Err e))) → BodiesFirst S e s m d c n q budget
      go (inr g) = cc
      go (inl g) = bodies_met S s m (kids s) rows fails d c n q budget e room g
  filled_met (forms.List sizes.Pointer c) e room w h = go (bind_err (kids s c q budget) _ e h)
    where
      go : (kids s c q budget ≡ Err e) ⊎ ((x : Nodes × ℕ) × (kids s c q budget ≡ Ok x) × (◌≡◌ {A = Read Node} (Ok (ptrs x.0, x.1)) (Err e))) → BodiesFirst S e s m 0 c 1 q budget
      go (inr g) = cc
      go (inl g) =
          let size : (c * 64 + 63) / 64 ≡ c = omega arith in
          let same : q ≡ q + 0 = omega arith in
          one_element e 0 c (subst (λ z. RowFirst S e s m c z budget) same (fails c q budget e (omega arith) g))
  filled_met (forms.List size c) e room w h = cc

-- kids fail as the rows of trees that nest no deeper than n - 1 do
KidsMet : List (List ℕ) → ℕ → Option Kids → Type 0
KidsMet S n None = n ≡ 0
KidsMet S n (Some k) = (m : ℕ) × (n ≡ suc m) × ((s : ℕ) → RowsRead S s m (k s)) × ((s : ℕ) → RowMet S s m (k s))

-- why a body isn't entered
not_entered : (at : Place) (kids : Option Kids) (price budget : ℕ) (e : TreeFault) → charged at kids price budget ≡ Err e
    → ((kids ≡ None) × (faults.NestingLimit at ≡ e)) ⊎ ((k : Kids) × (kids ≡ Some k) × (budget < price) × (faults.TraversalLimit at ≡ e))
not_entered at None price budget e h = inl (refl, err_is h)
not_entered at (Some k) price budget e h = go (nat_lt budget price) refl h
  where
    go : (b : Bool) → nat_lt budget price ≡ b → ◌≡◌ {A = Result (Kids × ℕ) TreeFault} (cond b (Err (faults.TraversalLimit at)) (Ok (k, budget - price))) (Err e)
        → ((◌≡◌ {A = Option Kids} (Some k) None) × (faults.NestingLimit at ≡ e)) ⊎ ((j : Kids) × (◌≡◌ {A = Option Kids} (Some k) (Some j)) × (budget < price) × (faults.TraversalLimit at ≡ e))
    go true t h = inr (k, refl, grind (arith, nat_tests), err_is h)
    go false t h = cc

module _ (S : List (List ℕ)) (s p n budget : ℕ) (kids : Option Kids) (met : KidsMet S n kids) (within : p < length (segment S s)) where
  abbrev here : Place
  here = record { segment = s; word = p }

  abbrev First : TreeFault → Type 0
  First e = FirstAt S e s p n budget

  -- where there are no kids, no level is left
  no_level : (k : Option Kids) → KidsMet S n k → k ≡ None → n ≡ 0
  unfolding KidsMet
  no_level None f e = f
  no_level (Some k) f e = cc

  some_level : (k : Option Kids) → KidsMet S n k → (j : Kids) → k ≡ Some j → (m : ℕ) × (n ≡ suc m) × ((s : ℕ) → RowsRead S s m (j s)) × ((s : ℕ) → RowMet S s m (j s))
  unfolding KidsMet
  some_level None f j e = cc
  some_level (Some k) f j e =
      let is : k ≡ j = cc in
      subst (λ (i : Kids). (m : ℕ) × (n ≡ suc m) × ((s : ℕ) → RowsRead S s m (i s)) × ((s : ℕ) → RowMet S s m (i s))) is f

  own_met : (e : TreeFault) → HasWordFault S s p e → First e
  own_met e h = own (by_itself S s p n budget e h)

  module _ (a : Area) (found : Found S s p a) where
    charge_met : (e : TreeFault) → ((kids ≡ None) × (faults.NestingLimit here ≡ e)) ⊎ ((k : Kids) × (kids ≡ Some k) × (budget < price a.form) × (faults.TraversalLimit here ≡ e)) → First e
    charge_met e (inl x) = subst First x.1 (own (refl, no_level kids met x.0, a.form, a.segment, a.start, (found.whole, found.located)))
    charge_met e (inr x) =
        let level = some_level kids met x.0 x.1 in
        subst First x.3 (own (refl, omega (arith, level.1), a.form, a.segment, a.start, (found.whole, found.located), x.2))

    entered_met : (e : TreeFault) (x : Kids × ℕ) → charged here kids (price a.form) budget ≡ Ok x → filled x.0 S a.form a.segment a.start x.1 ≡ Err e → First e
    entered_met e x into h =
        let paid = charged_is here kids (price a.form) budget x into in
        let w = some_level kids met x.0 paid.0 in
        let f = filled_met S a.segment a.start w.0 x.1 x.0 (w.2 a.segment) (w.3 a.segment) a.form e found.inside found.whole h in
        let level : w.0 ≡ n - 1 = omega (arith, w.1) in
        let spent = body_cost f.elements + total_cost f.ptrs in
        let left : x.1 - spent ≡ budget - (price a.form + spent) = omega (arith, paid.1) in
        let place = pointers_at (parts_of a.form) a.start (number_of f.elements) + count f.ptrs in
        below a.form a.segment a.start f.elements f.ptrs (found.whole, found.located) (omega (arith, w.1))
        (record { more_elements = f.more; more_ptrs = f.more_ptrs; elements_denoted = f.denoted; ptrs_denoted = f.left; elements_not_deeper = omega (arith, f.nests, level); ptrs_not_deeper = omega (arith, f.ptrs_nest, level) })
        (omega (arith, paid.1, f.costs))
        (subst (λ m. FirstAt S e a.segment place m (budget - (price a.form + spent))) level (moved S e a.segment w.0 place place (x.1 - spent) (budget - (price a.form + spent)) refl left f.first))

    body_met : (e : TreeFault) → body_by here kids S budget a ≡ Err e → First e
    body_met e h = go (bind_err (charged here kids (price a.form) budget) _ e h)
      where
        go : (charged here kids (price a.form) budget ≡ Err e) ⊎ ((x : Kids × ℕ) × (charged here kids (price a.form) budget ≡ Ok x) × (filled x.0 S a.form a.segment a.start x.1 ≡ Err e)) → First e
        go (inl g) = charge_met e (not_entered here kids (price a.form) budget e g)
        go (inr g) = entered_met e g.0 g.1 g.2

  pointer_met : (r : Pointer) (e : TreeFault) → Holds S s p r → (((x : ℕ) → r ≡ pointers.Cap x → ⊥) × (r ≡ pointers.Null → ⊥)) → (target_by here S r >>= area_by here S >>= body_by here kids S budget) ≡ Err e → First e
  pointer_met r e h kind f = go (bind_err (target_by here S r >>= area_by here S) _ e f)
    where
      led : (target_by here S r ≡ Err e) ⊎ ((x : PointerTarget) × (target_by here S r ≡ Ok x) × (area_by here S x ≡ Err e)) → First e
      led (inl g) = own_met e (target_fails S s p r e h g kind)
      led (inr g) = own_met e (area_fails S s p r g.0 e h g.1 g.2)

      go : ((target_by here S r >>= area_by here S) ≡ Err e) ⊎ ((x : Area) × ((target_by here S r >>= area_by here S) ≡ Ok x) × (body_by here kids S budget x ≡ Err e)) → First e
      go (inl g) = led (bind_err (target_by here S r) _ e g)
      go (inr g) =
          let k = bind_ok (target_by here S r) (area_by here S) g.0 g.1 in
          body_met g.0 (area_sound S s p k.0 g.0 (target_sound S s p r k.0 h k.1) k.2) e g.2

  word_met : (e : TreeFault) → word_by kids S s p budget ≡ Err e → First e
  word_met e h = go (pointer_of (slice_index (segment S s) p)) refl h
    where
      go : (o : Option Pointer) → pointer_of (slice_index (segment S s) p) ≡ o → pointer_by here kids S budget o ≡ Err e → First e
      go None says f = subst First (err_is f) (own (refl, says))
      go (Some pointers.Null) says f = cc
      go (Some (pointers.Cap i)) says f = cc
      go (Some (pointers.Struct offset d k)) says f = pointer_met (pointers.Struct offset d k) e (within, says) (λ x h. cc, λ h. cc) f
      go (Some (pointers.List offset size k)) says f = pointer_met (pointers.List offset size k) e (within, says) (λ x h. cc, λ h. cc) f
      go (Some (pointers.Far double place other)) says f = pointer_met (pointers.Far double place other) e (within, says) (λ x h. cc, λ h. cc) f

-- the fault that reading a word meets is the first at that word
pub first_met : (n : ℕ) (S : List (List ℕ)) (s p budget : ℕ) (e : TreeFault) → p < length (segment S s) → tree_at n S s p budget ≡ Err e → FirstAt S e s p n budget
unfolding kids_at KidsMet RowsRead RowMet
first_met zero S s p budget e within h = word_met S s p 0 budget None refl within e h
first_met (suc n) S s p budget e within h =
    word_met S s p (suc n) budget (Some (rows_at n S)) (n, refl, (λ s'. rows_sound n S s'), λ s' size q rest d room f. row_met S s' n (tree_at n S s') (λ r more x inside g. sound n S s' r more x inside g) (λ r more c inside g. first_met n S s' r more c inside g) size q rest d room f) within e h
