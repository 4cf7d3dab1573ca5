-- What is taken back where a table is full.
use Rattle.std.proofs.Common.{◌≡◌, ◌+◌, ◌-◌, ◌<◌, ◌≤◌, length, take, get_or, arith, ℕ, zero, suc, List, [], ◌∷◌, ◌++◌, Option, Some, None, refl, sym, ap, ◌∙◌, append_assoc, append-nil}
use Rattle.std.proofs.lemmas.List.{take_more}
use Rattle.std.specs.Prelude.{option_to_list}
use Rattle.std.specs.Option.{option_map_or}
use Rattle.std.specs.FinMap.{get, insert}
use Rattle.cp_tables.specs.Table.{Table, with_change}
use Rattle.cp_tables.specs.declared.counted.Counted.{Counted}
use Rattle.cp_tables.proofs.TableLemmas.{get-insert_same, insert-same}
use Rattle.cp_messages.specs.declared.descriptor.Descriptor.{Descriptor}
use Rattle.cp_refs.specs.Route.{Way, ends, leads, missing, way, promise_way, question_way}
use Rattle.cp_refs.specs.Values.{ValueMaps}
use Rattle.cp_refs.specs.declared.cap.Cap.{Cap}
use Rattle.cp_refs.specs.declared.cap.Cap.TheVariants as caps
use Rattle.cp_vat_machine.specs.State.{Over}
use Rattle.cp_vat_machine.specs.Writing.{end_by, end_within, ResolvesTo, mentioned_by, mentions_of}
use Rattle.cp_vat_machine.specs.Receiving.{lowered_by}
use Rattle.cp_vat_rules.specs.Settling.{lowered_back, over_settled, raised_by, reopened}
use Rattle.cp_vat_rules.specs.declared.settle.SettledPromise.{SettledPromise}
use Rattle.cp_vat_rules.proofs.Giving.{insert_twice}

abbrev Exports : Type 0
Exports = Table (Counted Cap)

-- of two lists the second is taken back first
pub back_more : (exports : Exports) (xs ys : List ℕ) → lowered_back exports (xs ++ ys) ≡ lowered_back (lowered_back exports ys) xs
back_more exports [] ys = refl
back_more exports (x ∷ xs) ys = ap (λ t. lowered_by t x 1) (back_more exports xs ys)

-- one more is taken back, the last of these
pub back_one : (start now next : Exports) (ids : List ℕ) (i : ℕ) → 0 < i → i ≤ length ids → lowered_back start ids ≡ lowered_back now (take i ids) → next ≡ lowered_by now (get_or ids (i - 1) 0) 1 → lowered_back start ids ≡ lowered_back next (take (i - 1) ids)
back_one start now next ids i some most same is =
    let less : i - 1 + 1 ≡ i = omega (arith, some) in
    let inside : i - 1 < length ids = omega (arith, some, most) in
    let last : take i ids ≡ take (i - 1) ids ++ get_or ids (i - 1) 0 ∷ [] = sym (ap (λ n. take n ids) less) ∙ take_more ids (i - 1) 0 inside in
    same ∙ ap (lowered_back now) last ∙ back_more now (take (i - 1) ids) (get_or ids (i - 1) 0 ∷ []) ∙ ap (λ t. lowered_back t (take (i - 1) ids)) (sym is)

mentions_more : (done : List Descriptor) (d : Descriptor) → mentions_of (done ++ d ∷ []) ≡ mentions_of done ++ mentioned_by d
mentions_more [] d = append-nil (mentioned_by d)
mentions_more (x ∷ xs) d = ap (λ l. mentioned_by x ++ l) (mentions_more xs d) ∙ sym (append_assoc (mentioned_by x) (mentions_of xs) (mentioned_by d))

-- one more was sent
pub said_back : (start now next : Exports) (done more : List Descriptor) (d : Descriptor) → lowered_back now (mentions_of done) ≡ start → lowered_back next (mentioned_by d) ≡ now → more ≡ done ++ d ∷ [] → lowered_back next (mentions_of more) ≡ start
said_back start now next done more d so_far one is =
    ap (λ l. lowered_back next (mentions_of l)) is ∙ ap (lowered_back next) (mentions_more done d) ∙ back_more next (mentions_of done) (mentioned_by d)
    ∙ ap (λ t. lowered_back t (mentions_of done)) one ∙ so_far

-- the promise that was settled last is opened again first
pub reopened_more : (promises : Table (Option Cap)) (xs : List SettledPromise) (y : SettledPromise) → reopened promises (xs ++ y ∷ []) ≡ reopened (with_change promises y.promise (λ _. None)) xs
reopened_more promises [] y = refl
reopened_more promises (x ∷ xs) y = ap (λ t. with_change t x.promise (λ _. None)) (reopened_more promises xs y)

-- what was open and was settled is open again
pub reopened_one : (promises : Table (Option Cap)) (p : ℕ) (value : Cap) → get promises p ≡ Some None → with_change (insert promises p (Some value)) p (λ _. None) ≡ promises
reopened_one promises p value was =
    ap (λ o. option_map_or (λ _. insert (insert promises p (Some value)) p None) o (insert promises p (Some value))) (get-insert_same promises p (Some value))
    ∙ insert_twice promises p (Some value) None
    ∙ insert-same promises p None was

pub raised_more : (xs : List SettledPromise) (y : SettledPromise) → raised_by (xs ++ y ∷ []) ≡ raised_by xs ++ option_to_list y.raised
raised_more [] y = append-nil (option_to_list y.raised)
raised_more (x ∷ xs) y = ap (λ l. option_to_list x.raised ++ l) (raised_more xs y) ∙ sym (append_assoc (option_to_list x.raised) (raised_by xs) (option_to_list y.raised))

pub over_more : (over : Over) (xs ys : List SettledPromise) → over_settled over (xs ++ ys) ≡ over_settled (over_settled over xs) ys
over_more over [] ys = refl
over_more over (x ∷ xs) ys = over_more (record over { promises = insert over.promises x.promise x.value }) xs ys

-- one more is taken back, the last of these
module _ (xs : List SettledPromise) (i : ℕ) (one : SettledPromise) (some : 0 < i) (most : i ≤ length xs) (is : one ≡ get_or xs (i - 1) one) where
  last_is : take i xs ≡ take (i - 1) xs ++ one ∷ []
  last_is =
      let less : i - 1 + 1 ≡ i = omega (arith, some) in
      let inside : i - 1 < length xs = omega (arith, some, most) in
      sym (ap (λ n. take n xs) less) ∙ take_more xs (i - 1) one inside ∙ ap (λ x. take (i - 1) xs ++ x ∷ []) (sym is)

  pub reopened_back : (now next : ValueMaps) → next ≡ record now { promises = with_change now.promises one.promise (λ _. None) }
      → ◌≡◌ {A = ValueMaps} (record now { promises = reopened now.promises (take i xs) }) (record next { promises = reopened next.promises (take (i - 1) xs) })
  reopened_back now next changed =
      let with_promises : Table (Option Cap) → ValueMaps = λ t. record now { promises = t } in
      let back : ValueMaps → ValueMaps = λ v. record v { promises = reopened v.promises (take (i - 1) xs) } in
      ap with_promises (ap (reopened now.promises) last_is ∙ reopened_more now.promises (take (i - 1) xs) one) ∙ sym (ap back changed)

  pub raised_back : (now next : Exports) → next ≡ lowered_back now (option_to_list one.raised) → lowered_back now (raised_by (take i xs)) ≡ lowered_back next (raised_by (take (i - 1) xs))
  raised_back now next changed =
      ap (λ l. lowered_back now (raised_by l)) last_is ∙ ap (lowered_back now) (raised_more (take (i - 1) xs) one)
      ∙ back_more now (raised_by (take (i - 1) xs)) (option_to_list one.raised)
      ∙ sym (ap (λ t. lowered_back t (raised_by (take (i - 1) xs))) changed)

-- one more promise was settled: with it all are open again as at the start, and what they raised is taken back
pub settled_reopens : (start now next : ValueMaps) (done more : List SettledPromise) (one : SettledPromise) (p : ℕ) → now ≡ record start { promises = now.promises } → reopened now.promises done ≡ start.promises → get now.promises p ≡ Some None → one.promise ≡ p
    → next ≡ record now { promises = insert now.promises p (Some one.value) } → more ≡ done ++ one ∷ [] → (next ≡ record start { promises = next.promises }) × (reopened next.promises more ≡ start.promises)
settled_reopens start now next done more one p from so_far was named put is =
    let with_one : ValueMaps → ValueMaps = λ v. record v { promises = insert now.promises p (Some one.value) } in
    let of_next : ValueMaps → ValueMaps = λ v. record start { promises = v.promises } in (
      put ∙ ap with_one from ∙ sym (ap of_next put),
      ap (reopened next.promises) is ∙ reopened_more next.promises done one
          ∙ ap (λ t. reopened t done) (ap (λ v. with_change v.promises one.promise (λ _. None)) put ∙ ap (λ q. with_change (insert now.promises p (Some one.value)) q (λ _. None)) named ∙ reopened_one now.promises p one.value was)
          ∙ so_far,
    )

pub settled_lowers : (start now next : Exports) (done more : List SettledPromise) (one : SettledPromise) → lowered_back now (raised_by done) ≡ start → lowered_back next (option_to_list one.raised) ≡ now → more ≡ done ++ one ∷ [] → lowered_back next (raised_by more) ≡ start
settled_lowers start now next done more one so_far back is =
    ap (λ l. lowered_back next (raised_by l)) is ∙ ap (lowered_back next) (raised_more done one) ∙ back_more next (raised_by done) (option_to_list one.raised)
    ∙ ap (λ t. lowered_back t (raised_by done)) back ∙ so_far

-- what a capability comes to rests on promises and questions alone
module _ (v w : ValueMaps) (promises : v.promises ≡ w.promises) (questions : v.questions ≡ w.questions) where
  same_way : (c : Cap) → way v c ≡ way w c
  same_way caps.None = refl
  same_way (caps.Object k) = refl
  same_way (caps.Promise p) = ap (λ t. promise_way p (get t p)) promises
  same_way (caps.Import i) = refl
  same_way (caps.Pipelined q path) = ap (λ t. question_way q path (get t q)) questions
  same_way (caps.Broken x) = refl

  same_by : (n : ℕ) (c : Cap) (way : Way) → ((d : Cap) → end_within n v d ≡ end_within n w d) → end_by (λ d. end_within n v d) c way ≡ end_by (λ d. end_within n w d) c way
  same_by n c (ends route) on = refl
  same_by n c (leads d) on = on d
  same_by n c missing on = refl

  same_within : (n : ℕ) (c : Cap) → end_within n v c ≡ end_within n w c
  same_within zero c = refl
  same_within (suc n) c = same_by n c (way v c) (same_within n) ∙ ap (end_by (λ d. end_within n w d) c) (same_way c)

  pub comes_same : (c last : Cap) → ResolvesTo v c last → ResolvesTo w c last
  comes_same c last to = (to.0, sym (same_within to.0 c) ∙ to.1)
