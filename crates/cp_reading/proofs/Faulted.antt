-- What a fault of reading says.
use Rattle.std.proofs.Common.{◌≡◌, ℕ, zero, suc, ◌+◌, ◌-◌, ◌*◌, ◌/◌, ◌<◌, ◌≤◌, List, length, Option, Some, None, Result, Ok, Err, Bool, true, false, nat_lt, cond, slice_index, refl, sym, ap, subst, inl, inr, ◌⊎◌, arith}
use Rattle.std.proofs.lemmas.Bool.Decides.{nat_tests}
use Rattle.cp_words.specs.Word.{pointer_of}
use Rattle.cp_words.specs.declared.pointer.Pointer.{Pointer}
use Rattle.cp_words.specs.declared.pointer.Pointer.TheVariants as pointers
use Rattle.cp_words.specs.declared.pointer.ElementSize.TheVariants as sizes
use Rattle.cp_tree.specs.Node.{Node, struct, ptrs, structs, Nodes, node, Bodies, body, count, number_of, depth, greatest_depth, deepest_body, cost, total_cost, body_cost}
use Rattle.cp_words.specs.Targets.{segment, Holds, words_at}
use Rattle.cp_reading.specs.Locates.{Locates}
use Rattle.cp_reading.specs.Faults.{FaultBy, IsOutOfBounds, NamesNoSegment, HasBadPad, HasBadTag, HasBadCapability}
use Rattle.cp_reading.specs.FirstFault.{HasWordFault}
use Rattle.cp_reading.specs.Pruned.{Prunes, EachPrunes, EachPrunesBody, IsPointerOf, IsReachable, below}
use Rattle.cp_reading.specs.Reading.{◌>>=◌, Read, Kids, row_by, bodies_by, target_by, area_by, charged, filled, price, body_words, IsWhole, body_by, pointer_by, word_by, kids_at, tree_at, rows_at}
use Rattle.cp_reading.specs.declared.target.PointerTarget.{PointerTarget}
use Rattle.cp_reading.specs.declared.area.Area.{Area}
use Rattle.cp_reading.specs.declared.area.Form.{Form}
use Rattle.cp_reading.specs.declared.area.Form.TheVariants as forms
use Rattle.cp_words.specs.declared.place.Place.{Place}
use Rattle.cp_reading.specs.declared.fault.TreeFault.{TreeFault}
use Rattle.cp_reading.specs.declared.fault.TreeFault.TheVariants as faults
use Rattle.cp_reading.proofs.Blank.{denotes_prunes, each_prunes, PrunesBody, prunes_body, nulls, count-nulls, nulls_prune, blank_bodies, number_of-blank, blank_bodies_prune, blank, blank_stands}
use Rattle.cp_reading.specs.Fills.{IsBody, form_of}
use Rattle.cp_reading.proofs.Fills.{inner_depth, inner_cost, depth-body, cost-body}
use Rattle.cp_reading.proofs.WrongTargets.{bind_err, err_is, target_fails, area_fails}
use Rattle.cp_reading.proofs.Sound.{Found, Reads, ReadsRow, RowsRead, sound, rows_sound, target_sound, area_sound, bind_ok, width, charged_is}

-- what is said of a limit may be said of more
pub FaultBy-map : (S : List (List ℕ)) {D D' C C' : Type 0} (e : TreeFault) → (D → D') → (C → C') → FaultBy S D C e → FaultBy S D' C' e
FaultBy-map S (faults.NoRoot at) f g h = h
FaultBy-map S (faults.RootKind at) f g h = h
FaultBy-map S (faults.OutOfBounds at) f g h = h
FaultBy-map S (faults.NoSegment at) f g h = h
FaultBy-map S (faults.BadPad at) f g h = h
FaultBy-map S (faults.BadTag at) f g h = h
FaultBy-map S (faults.BadCapability at) f g h = h
FaultBy-map S (faults.NestingLimit at) f g h = (h.0, f h.1)
FaultBy-map S (faults.TraversalLimit at) f g h = (h.0, g h.1)
FaultBy-map S faults.OutOfMemory f g h = h

-- a word's own fault, as one of a reachable word
pub by_word : (S : List (List ℕ)) (s p : ℕ) (D C : Type 0) → IsReachable S s p → (e : TreeFault) → HasWordFault S s p e → FaultBy S D C e
by_word S s p D C reach (faults.NoRoot at) h = absurd h
by_word S s p D C reach (faults.RootKind at) h = absurd h
by_word S s p D C reach (faults.OutOfBounds at) h = subst (λ (a : Place). IsReachable S a.segment a.word × IsOutOfBounds S a.segment a.word) h.0 (reach, h.1)
by_word S s p D C reach (faults.NoSegment at) h = subst (λ (a : Place). IsReachable S a.segment a.word × NamesNoSegment S a.segment a.word) h.0 (reach, h.1)
by_word S s p D C reach (faults.BadPad at) h = subst (λ (a : Place). IsReachable S a.segment a.word × HasBadPad S a.segment a.word) h.0 (reach, h.1)
by_word S s p D C reach (faults.BadTag at) h = subst (λ (a : Place). IsReachable S a.segment a.word × HasBadTag S a.segment a.word) h.0 (reach, h.1)
by_word S s p D C reach (faults.BadCapability at) h = subst (λ (a : Place). IsReachable S a.segment a.word × HasBadCapability S a.segment a.word) h.0 (reach, h.1)
by_word S s p D C reach (faults.NestingLimit at) h = absurd h
by_word S s p D C reach (faults.TraversalLimit at) h = absurd h
by_word S s p D C reach faults.OutOfMemory h = absurd h

-- A pruned tree of a word is too deep, or too dear; so is a row of words, and a row of bodies.
unfoldable pub Deep : List (List ℕ) → ℕ → ℕ → ℕ → Type 0
Deep S s p n = (t : Node) × Prunes S s p t × (n < depth t)

unfoldable pub Dear : List (List ℕ) → ℕ → ℕ → ℕ → Type 0
Dear S s p budget = (t : Node) × Prunes S s p t × (budget < cost t)

pub DeepRow : List (List ℕ) → ℕ → ℕ → ℕ → ℕ → Type 0
DeepRow S s k p n = (ts : Nodes) × (count ts ≡ k) × EachPrunes S s p ts × (n < greatest_depth ts)

pub DearRow : List (List ℕ) → ℕ → ℕ → ℕ → ℕ → Type 0
DearRow S s k p budget = (ts : Nodes) × (count ts ≡ k) × EachPrunes S s p ts × (budget < total_cost ts)

pub DeepBodies : List (List ℕ) → ℕ → ℕ → ℕ → ℕ → ℕ → ℕ → Type 0
DeepBodies S s k q d c n = (bs : Bodies) × (number_of bs ≡ k) × EachPrunesBody S s q d c bs × (n < deepest_body bs)

pub DearBodies : List (List ℕ) → ℕ → ℕ → ℕ → ℕ → ℕ → ℕ → Type 0
DearBodies S s k q d c budget = (bs : Bodies) × (number_of bs ≡ k) × EachPrunesBody S s q d c bs × (budget < body_cost bs)

-- the words of a row are reachable
abbrev RowReached : List (List ℕ) → ℕ → ℕ → ℕ → Type 0
RowReached S s k p = (i : ℕ) → i < k → IsReachable S s (p + i)

-- what a row's fault says
pub RowFaulted : List (List ℕ) → ℕ → ℕ → (ℕ → ℕ → ℕ → Read Nodes) → Type 0
RowFaulted S s n k = (size p budget : ℕ) (e : TreeFault) → RowReached S s size p → p + size ≤ length (segment S s) → k size p budget ≡ Err e → FaultBy S (DeepRow S s size p n) (DearRow S s size p budget) e

module _ (S : List (List ℕ)) (s n : ℕ) (read : ℕ → ℕ → Read Node)
    (reads : (p budget : ℕ) (x : Node × ℕ) → p < length (segment S s) → read p budget ≡ Ok x → Reads S s n p budget x)
    (fails : (p budget : ℕ) (e : TreeFault) → IsReachable S s p → p < length (segment S s) → read p budget ≡ Err e → FaultBy S (Deep S s p n) (Dear S s p budget) e) where
  row_faulted : (k p budget : ℕ) (e : TreeFault) → RowReached S s k p → p + k ≤ length (segment S s) → row_by read k p budget ≡ Err e → FaultBy S (DeepRow S s k p n) (DearRow S s k p budget) e
  unfolding row_by Deep Dear DeepRow DearRow
  row_faulted zero p budget e reach room h = cc
  row_faulted (suc k) p budget e reach room h =
      let reach' : RowReached S s k (p + 1) = λ i within. subst (IsReachable S s) (let z : p + suc i ≡ p + 1 + i = omega arith in z) (reach (suc i) (omega arith)) in
      first (λ (x : Node × ℕ) g. row_faulted k (p + 1) x.1 e reach' (omega arith) g) (bind_err (read p budget) _ e h)
    where
      later : ((x : Node × ℕ) → row_by read k (p + 1) x.1 ≡ Err e → FaultBy S (DeepRow S s k (p + 1) n) (DearRow S s k (p + 1) x.1) e) → (x : Node × ℕ) → Reads S s n p budget x → (row_by read k (p + 1) x.1 ≡ Err e) ⊎ ((y : Nodes × ℕ) × (row_by read k (p + 1) x.1 ≡ Ok y) × (◌≡◌ {A = Read Nodes} (Ok (node x.0 y.0, y.1)) (Err e))) → FaultBy S (DeepRow S s (suc k) p n) (DearRow S s (suc k) p budget) e
      later reborrow x r (inr g) = cc
      later reborrow x r (inl g) =
          let one = denotes_prunes x.0 S s p r.denoted in
          FaultBy-map S e (λ (t : DeepRow S s k (p + 1) n). (node x.0 t.0, ap suc t.1, (one, t.2), omega (arith, t.3))) (λ (t : DearRow S s k (p + 1) x.1). (node x.0 t.0, ap suc t.1, (one, t.2), omega (arith, t.3, r.costs)))
          (reborrow x g)

      first : ((x : Node × ℕ) → row_by read k (p + 1) x.1 ≡ Err e → FaultBy S (DeepRow S s k (p + 1) n) (DearRow S s k (p + 1) x.1) e) → (read p budget ≡ Err e) ⊎ ((x : Node × ℕ) × (read p budget ≡ Ok x) × (◌>>=◌ {B = Nodes × ℕ} (row_by read k (p + 1) x.1) (λ ts. Ok (node x.0 ts.0, ts.1)) ≡ Err e)) → FaultBy S (DeepRow S s (suc k) p n) (DearRow S s (suc k) p budget) e
      first reborrow (inl f) =
          let here = subst (IsReachable S s) (let z : p + 0 ≡ p = omega arith in z) (reach 0 (omega arith)) in
          let rest = nulls_prune S s k (p + 1) (omega arith) in
          FaultBy-map S e (λ (t : Deep S s p n). (node t.0 (nulls k), ap suc (count-nulls k), (t.1, rest), omega (arith, t.2))) (λ (t : Dear S s p budget). (node t.0 (nulls k), ap suc (count-nulls k), (t.1, rest), omega (arith, t.2)))
          (fails p budget e here (omega arith) f)
      first reborrow (inr f) = later reborrow f.0 (reads p budget f.0 (omega arith) f.1) (bind_err (row_by read k (p + 1) f.0.1) _ e f.2)

module _ (S : List (List ℕ)) (s n : ℕ) (kids : ℕ → ℕ → ℕ → Read Nodes) (rows : RowsRead S s n kids) (fails : RowFaulted S s n kids) (d c : ℕ) where
  bodies_faulted : (k q budget : ℕ) (e : TreeFault) → ((j i : ℕ) → j < k → i < c → IsReachable S s (q + j * (d + c) + d + i)) → q + k * (d + c) ≤ length (segment S s) → bodies_by kids S s d c k q budget ≡ Err e
      → FaultBy S (DeepBodies S s k q d c n) (DearBodies S s k q d c budget) e
  unfolding bodies_by RowsRead RowFaulted DeepRow DearRow DeepBodies DearBodies
  bodies_faulted zero q budget e reach room h = cc
  bodies_faulted (suc k) q budget e reach room h =
      let inside : q + d + c + k * (d + c) ≤ length (segment S s) = omega arith in
      let reach' : (j i : ℕ) → j < k → i < c → IsReachable S s (q + d + c + j * (d + c) + d + i) = λ j i less within. subst (IsReachable S s) (let z : q + suc j * (d + c) + d + i ≡ q + d + c + j * (d + c) + d + i = omega arith in z) (reach (suc j) i (omega arith) within) in
      first inside (λ (x : Nodes × ℕ) g. bodies_faulted k (q + d + c) x.1 e reach' inside g) (bind_err (kids c (q + d) budget) _ e h)
    where
      later : ((x : Nodes × ℕ) → bodies_by kids S s d c k (q + d + c) x.1 ≡ Err e → FaultBy S (DeepBodies S s k (q + d + c) d c n) (DearBodies S s k (q + d + c) d c x.1) e)
          → (x : Nodes × ℕ) → ReadsRow S s n c (q + d) budget x → (bodies_by kids S s d c k (q + d + c) x.1 ≡ Err e) ⊎ ((y : Bodies × ℕ) × (bodies_by kids S s d c k (q + d + c) x.1 ≡ Ok y) × (◌≡◌ {A = Read Bodies} (Ok (body (words_at S s q d) x.0 y.0, y.1)) (Err e)))
          → FaultBy S (DeepBodies S s (suc k) q d c n) (DearBodies S s (suc k) q d c budget) e
      later reborrow x r (inr g) = cc
      later reborrow x r (inl g) =
          let wide = width S s d q (omega arith) in
          let own = each_prunes x.0 S s (q + d) r.denoted in
          FaultBy-map S e (λ (t : DeepBodies S s k (q + d + c) d c n). (body (words_at S s q d) x.0 t.0, ap suc t.1, (wide, r.counts, refl, own, t.2), omega (arith, t.3)))
          (λ (t : DearBodies S s k (q + d + c) d c x.1). (body (words_at S s q d) x.0 t.0, ap suc t.1, (wide, r.counts, refl, own, t.2), omega (arith, t.3, r.costs)))
          (reborrow x g)

      first : q + d + c + k * (d + c) ≤ length (segment S s) → ((x : Nodes × ℕ) → bodies_by kids S s d c k (q + d + c) x.1 ≡ Err e → FaultBy S (DeepBodies S s k (q + d + c) d c n) (DearBodies S s k (q + d + c) d c x.1) e)
          → (kids c (q + d) budget ≡ Err e) ⊎ ((x : Nodes × ℕ) × (kids c (q + d) budget ≡ Ok x) × (◌>>=◌ {B = Bodies × ℕ} (bodies_by kids S s d c k (q + d + c) x.1) (λ bs. Ok (body (words_at S s q d) x.0 bs.0, bs.1)) ≡ Err e))
          → FaultBy S (DeepBodies S s (suc k) q d c n) (DearBodies S s (suc k) q d c budget) e
      first inside reborrow (inl f) =
          let wide = width S s d q (omega arith) in
          let row : RowReached S s c (q + d) = λ i within. subst (IsReachable S s) (let z : q + 0 * (d + c) + d + i ≡ q + d + i = omega arith in z) (reach 0 i (omega arith) within) in
          let rest = blank_bodies_prune S s d c k (q + d + c) inside in
          FaultBy-map S e (λ (t : DeepRow S s c (q + d) n). (body (words_at S s q d) t.0 (blank_bodies S s d c k (q + d + c)), ap suc (number_of-blank S s d c k (q + d + c)), (wide, t.1, refl, t.2, rest), omega (arith, t.3)))
          (λ (t : DearRow S s c (q + d) budget). (body (words_at S s q d) t.0 (blank_bodies S s d c k (q + d + c)), ap suc (number_of-blank S s d c k (q + d + c)), (wide, t.1, refl, t.2, rest), omega (arith, t.3)))
          (fails c (q + d) budget e row (omega arith) f)
      first inside reborrow (inr f) = later reborrow f.0 (rows c (q + d) budget f.0 (omega arith) f.1) (bind_err (bodies_by kids S s d c k (q + d + c) f.0.1) _ e f.2)

-- a pruned body that is too deep below, or too dear
DeepBody : List (List ℕ) → ℕ → ℕ → Form → ℕ → Type 0
DeepBody S s q f n = (t : Node) × PrunesBody S s q t × IsBody t × (form_of t ≡ f) × (n < inner_depth t)

DearBody : List (List ℕ) → ℕ → ℕ → Form → ℕ → Type 0
DearBody S s q f budget = (t : Node) × PrunesBody S s q t × IsBody t × (form_of t ≡ f) × (budget < inner_cost t)

module _ (S : List (List ℕ)) (s q m budget : ℕ) (kids : Kids) (rows : RowsRead S s m (kids s)) (fails : RowFaulted S s m (kids s)) where
  filled_faulted : (f : Form) (e : TreeFault) → ((p : ℕ) → IsPointerOf f q p → IsReachable S s p) → q + body_words f ≤ length (segment S s) → IsWhole f → filled kids S f s q budget ≡ Err e → FaultBy S (DeepBody S s q f m) (DearBody S s q f budget) e
  unfolding RowFaulted DeepRow DearRow DeepBodies DearBodies DeepBody DearBody
  filled_faulted (forms.Struct d c) e reach room w h = go (bind_err (kids s c (q + d) budget) _ e h)
    where
      go : (kids s c (q + d) budget ≡ Err e) ⊎ ((x : Nodes × ℕ) × (kids s c (q + d) budget ≡ Ok x) × (◌≡◌ {A = Read Node} (Ok (struct (words_at S s q d) x.0, x.1)) (Err e))) → FaultBy S (DeepBody S s q (forms.Struct d c) m) (DearBody S s q (forms.Struct d c) budget) e
      go (inr g) = cc
      go (inl g) =
          let wide = width S s d q (omega arith) in
          FaultBy-map S e (λ (t : DeepRow S s c (q + d) m). (struct (words_at S s q d) t.0, (rw wide refl, rw wide t.2), tt, rw (wide, t.1) refl, t.3))
          (λ (t : DearRow S s c (q + d) budget). (struct (words_at S s q d) t.0, (rw wide refl, rw wide t.2), tt, rw (wide, t.1) refl, t.3))
          (fails c (q + d) budget e (λ i within. reach (q + d + i) (i, within, refl)) (omega arith) g)
  filled_faulted (forms.Structs d c n) e reach room w h = go (bind_err (bodies_by (kids s) S s d c n q budget) _ e h)
    where
      go : (bodies_by (kids s) S s d c n q budget ≡ Err e) ⊎ ((x : Bodies × ℕ) × (bodies_by (kids s) S s d c n q budget ≡ Ok x) × (◌≡◌ {A = Read Node} (Ok (structs d c x.0, x.1)) (Err e))) → FaultBy S (DeepBody S s q (forms.Structs d c n) m) (DearBody S s q (forms.Structs d c n) budget) e
      go (inr g) = cc
      go (inl g) =
          FaultBy-map S e (λ (t : DeepBodies S s n q d c m). (structs d c t.0, t.2, tt, rw t.1 refl, t.3)) (λ (t : DearBodies S s n q d c budget). (structs d c t.0, t.2, tt, rw t.1 refl, t.3))
          (bodies_faulted S s m (kids s) rows fails d c n q budget e (λ j i less within. reach (q + j * (d + c) + d + i) (j, less, i, within, refl)) room g)
  filled_faulted (forms.List sizes.Pointer c) e reach room w h = go (bind_err (kids s c q budget) _ e h)
    where
      go : (kids s c q budget ≡ Err e) ⊎ ((x : Nodes × ℕ) × (kids s c q budget ≡ Ok x) × (◌≡◌ {A = Read Node} (Ok (ptrs x.0, x.1)) (Err e))) → FaultBy S (DeepBody S s q (forms.List sizes.Pointer c) m) (DearBody S s q (forms.List sizes.Pointer c) budget) e
      go (inr g) = cc
      go (inl g) =
          let size : (c * 64 + 63) / 64 ≡ c = omega arith in
          FaultBy-map S e (λ (t : DeepRow S s c q m). (ptrs t.0, t.2, tt, rw t.1 refl, t.3)) (λ (t : DearRow S s c q budget). (ptrs t.0, t.2, tt, rw t.1 refl, t.3))
          (fails c q budget e (λ i within. reach (q + i) (i, within, refl)) (omega arith) g)
  filled_faulted (forms.List size c) e reach room w h = cc

-- kids fail as the rows of trees that nest no deeper than n - 1 do
KidsFaulted : List (List ℕ) → ℕ → Option Kids → Type 0
KidsFaulted S n None = n ≡ 0
KidsFaulted S n (Some k) = (m : ℕ) × (n ≡ suc m) × ((s : ℕ) → RowsRead S s m (k s)) × ((s : ℕ) → RowFaulted S s m (k s))

-- why a body isn't entered
entered_fails : (at : Place) (kids : Option Kids) (price budget : ℕ) (e : TreeFault) → charged at kids price budget ≡ Err e → ((kids ≡ None) × (faults.NestingLimit at ≡ e)) ⊎ ((budget < price) × (faults.TraversalLimit at ≡ e))
entered_fails at None price budget e h = inl (refl, err_is h)
entered_fails at (Some k) price budget e h = go (nat_lt budget price) refl h
  where
    go : (b : Bool) → nat_lt budget price ≡ b → ◌≡◌ {A = Result (Kids × ℕ) TreeFault} (cond b (Err (faults.TraversalLimit at)) (Ok (k, budget - price))) (Err e) → ((◌≡◌ {A = Option Kids} (Some k) None) × (faults.NestingLimit at ≡ e)) ⊎ ((budget < price) × (faults.TraversalLimit at ≡ e))
    go true t h = inr (grind (arith, nat_tests), err_is h)
    go false t h = cc

module _ (S : List (List ℕ)) (s p n budget : ℕ) (kids : Option Kids) (fails : KidsFaulted S n kids) (within : p < length (segment S s)) (reach : IsReachable S s p) where
  abbrev here : Place
  here = record { segment = s; word = p }

  -- where there are no kids, no level is left
  no_level : (k : Option Kids) → KidsFaulted S n k → k ≡ None → n ≡ 0
  unfolding KidsFaulted
  no_level None f e = f
  no_level (Some k) f e = cc

  some_level : (k : Option Kids) → KidsFaulted S n k → (j : Kids) → k ≡ Some j → (m : ℕ) × (n ≡ suc m) × ((s : ℕ) → RowsRead S s m (j s)) × ((s : ℕ) → RowFaulted S s m (j s))
  unfolding KidsFaulted
  some_level None f j e = cc
  some_level (Some k) f j e =
      let is : k ≡ j = cc in
      subst (λ (i : Kids). (m : ℕ) × (n ≡ suc m) × ((s : ℕ) → RowsRead S s m (i s)) × ((s : ℕ) → RowFaulted S s m (i s))) is f

  -- the pruned tree of a body, for its word
  module _ (a : Area) (found : Found S s p a) where
    word_of : (t : Node) → form_of t ≡ a.form → PrunesBody S a.segment a.start t → Prunes S s p t
    word_of t form prunes = prunes_body S s p t a.segment a.start (subst (λ f. Locates S s p f a.segment a.start) (sym form) found.located) prunes

    not_entered : (e : TreeFault) → ((kids ≡ None) × (faults.NestingLimit here ≡ e)) ⊎ ((budget < price a.form) × (faults.TraversalLimit here ≡ e)) → FaultBy S (Deep S s p n) (Dear S s p budget) e
    unfolding Deep Dear
    not_entered e (inl x) =
        let b = blank_stands S a.form a.segment a.start found.inside found.whole in
        let t = blank S a.form a.segment a.start in
        let level = no_level kids fails x.0 in
        let deep = depth-body t b.is_body in
        subst (FaultBy S (Deep S s p n) (Dear S s p budget)) x.1 (reach, (t, word_of t b.form b.prunes, omega (arith, level, deep)))
    not_entered e (inr x) =
        let b = blank_stands S a.form a.segment a.start found.inside found.whole in
        let t = blank S a.form a.segment a.start in
        let dear = cost-body t b.is_body in
        let same : price (form_of t) ≡ price a.form = ap price b.form in
        subst (FaultBy S (Deep S s p n) (Dear S s p budget)) x.1 (reach, (t, word_of t b.form b.prunes, omega (arith, x.0, dear, same)))

    entered_body : (e : TreeFault) (x : Kids × ℕ) → charged here kids (price a.form) budget ≡ Ok x → filled x.0 S a.form a.segment a.start x.1 ≡ Err e → FaultBy S (Deep S s p n) (Dear S s p budget) e
    unfolding Deep Dear DeepBody DearBody
    entered_body e x into h =
        let paid = charged_is here kids (price a.form) budget x into in
        let w = some_level kids fails x.0 paid.0 in
        let reached : (q : ℕ) → IsPointerOf a.form a.start q → IsReachable S a.segment q = λ q pointer. below a.form a.segment a.start q reach found.located pointer in
        FaultBy-map S e
        (λ (t : DeepBody S a.segment a.start a.form w.0). let deep = depth-body t.0 t.2 in (t.0, word_of t.0 t.3 t.1, omega (arith, t.4, deep, w.1)))
        (λ (t : DearBody S a.segment a.start a.form x.1). let dear = cost-body t.0 t.2 in let same : price (form_of t.0) ≡ price a.form = ap price t.3 in (t.0, word_of t.0 t.3 t.1, omega (arith, t.4, dear, same, paid.1)))
        (filled_faulted S a.segment a.start w.0 x.1 x.0 (w.2 a.segment) (w.3 a.segment) a.form e reached found.inside found.whole h)

    body_faulted : (e : TreeFault) → body_by here kids S budget a ≡ Err e → FaultBy S (Deep S s p n) (Dear S s p budget) e
    body_faulted e h = go (bind_err (charged here kids (price a.form) budget) _ e h)
      where
        go : (charged here kids (price a.form) budget ≡ Err e) ⊎ ((x : Kids × ℕ) × (charged here kids (price a.form) budget ≡ Ok x) × (filled x.0 S a.form a.segment a.start x.1 ≡ Err e)) → FaultBy S (Deep S s p n) (Dear S s p budget) e
        go (inl g) = not_entered e (entered_fails here kids (price a.form) budget e g)
        go (inr g) = entered_body e g.0 g.1 g.2

  pointer_faulted : (r : Pointer) (e : TreeFault) → Holds S s p r → (((x : ℕ) → r ≡ pointers.Cap x → ⊥) × (r ≡ pointers.Null → ⊥)) → (target_by here S r >>= area_by here S >>= body_by here kids S budget) ≡ Err e → FaultBy S (Deep S s p n) (Dear S s p budget) e
  pointer_faulted r e h kind f = go (bind_err (target_by here S r >>= area_by here S) _ e f)
    where
      led : (target_by here S r ≡ Err e) ⊎ ((x : PointerTarget) × (target_by here S r ≡ Ok x) × (area_by here S x ≡ Err e)) → FaultBy S (Deep S s p n) (Dear S s p budget) e
      led (inl g) = by_word S s p _ _ reach e (target_fails S s p r e h g kind)
      led (inr g) = by_word S s p _ _ reach e (area_fails S s p r g.0 e h g.1 g.2)

      go : ((target_by here S r >>= area_by here S) ≡ Err e) ⊎ ((x : Area) × ((target_by here S r >>= area_by here S) ≡ Ok x) × (body_by here kids S budget x ≡ Err e)) → FaultBy S (Deep S s p n) (Dear S s p budget) e
      go (inl g) = led (bind_err (target_by here S r) _ e g)
      go (inr g) =
          let k = bind_ok (target_by here S r) (area_by here S) g.0 g.1 in
          body_faulted g.0 (area_sound S s p k.0 g.0 (target_sound S s p r k.0 h k.1) k.2) e g.2

  word_faulted : (e : TreeFault) → word_by kids S s p budget ≡ Err e → FaultBy S (Deep S s p n) (Dear S s p budget) e
  word_faulted e h = go (pointer_of (slice_index (segment S s) p)) refl h
    where
      go : (o : Option Pointer) → pointer_of (slice_index (segment S s) p) ≡ o → pointer_by here kids S budget o ≡ Err e → FaultBy S (Deep S s p n) (Dear S s p budget) e
      go None says f = subst (FaultBy S (Deep S s p n) (Dear S s p budget)) (err_is f) (reach, says)
      go (Some pointers.Null) says f = cc
      go (Some (pointers.Cap i)) says f = cc
      go (Some (pointers.Struct offset d k)) says f = pointer_faulted (pointers.Struct offset d k) e (within, says) (λ x h. cc, λ h. cc) f
      go (Some (pointers.List offset size k)) says f = pointer_faulted (pointers.List offset size k) e (within, says) (λ x h. cc, λ h. cc) f
      go (Some (pointers.Far double place other)) says f = pointer_faulted (pointers.Far double place other) e (within, says) (λ x h. cc, λ h. cc) f

-- a fault of a word names a reachable word that has it, or says that a pruned tree is too deep or too dear
pub faulted : (n : ℕ) (S : List (List ℕ)) (s p budget : ℕ) (e : TreeFault) → IsReachable S s p → p < length (segment S s) → tree_at n S s p budget ≡ Err e → FaultBy S (Deep S s p n) (Dear S s p budget) e
unfolding kids_at KidsFaulted RowsRead RowFaulted
faulted zero S s p budget e reach within h = word_faulted S s p 0 budget None refl within reach e h
faulted (suc n) S s p budget e reach within h =
    word_faulted S s p (suc n) budget (Some (rows_at n S)) (n, refl, (λ s'. rows_sound n S s'), λ s' size q rest d row room f. row_faulted S s' n (tree_at n S s') (λ r more x inside g. sound n S s' r more x inside g) (λ r more c reach' inside g. faulted n S s' r more c reach' inside g) size q rest d row room f) within reach e h
