-- How capabilities are followed, sent and taken in, found by computing.
use Rattle.std.specs.Prelude.{◌≡◌, ◌≢◌, refl, ℕ, zero, suc, ◌+◌, ◌-◌, ◌^◌, ◌==◌, ltb, Bool, true, false, cond, List, [], ◌∷◌, is_some, Option, Some, None, Result, Ok, Err, IfSome}
use Rattle.std.proofs.Common.{sym, ap, subst, ◌∙◌, true≢false, ltb-true, eqb-true, eq-eqb}
use Rattle.std.specs.Ordering.{nat_cmp, eq_by_cmp}
use Rattle.std.specs.FinMap.{get}
use Rattle.cp_tables.specs.Counted.{new_counted}
use Rattle.cp_tables.specs.declared.counted.Counted.{Counted}
use Rattle.cp_refs.specs.Route.{Way, ends, leads, missing, way, promise_way, question_way, route_by, route_within, Routes}
use Rattle.cp_refs.specs.declared.cap.Cap.{Cap}
use Rattle.cp_refs.specs.declared.cap.Cap.TheVariants as caps
use Rattle.cp_refs.specs.declared.route.Route.{Route}
use Rattle.cp_messages.specs.declared.descriptor.Descriptor.TheVariants as descriptors
use Rattle.cp_vat_machine.specs.Capacity.{Fresh, free, full, has_capacity}
use Rattle.cp_vat_machine.specs.Writing.{end_by, end_within, ResolvesTo, HasNoExport, Raise, counted, opened, has_no_capacity, WritesEnd, WritesDescriptor, WritesDescriptors}
use Rattle.cp_vat_machine.specs.Writing.{promised as promised_answer}
use Rattle.cp_vat_machine.specs.declared.fault.PeerFault.TheVariants as faults
use Rattle.test_vat.proofs.Known.{Listed, tabled, Known, state, at, get_is, size, len_is}
use Rattle.test_vat.proofs.Found.{Finds, lacks, found, beside, plain, follow, find_each}

-- the way of a capability
abbrev pub way_of : Known → Cap → Way
way_of k (caps.Promise p) = promise_way p (at k.promises p)
way_of k (caps.Pipelined q path) = question_way q path (at k.questions q)
way_of k caps.None = way (state k).values caps.None
way_of k (caps.Object n) = way (state k).values (caps.Object n)
way_of k (caps.Import i) = way (state k).values (caps.Import i)
way_of k (caps.Broken x) = way (state k).values (caps.Broken x)

pub way_is : (k : Known) (c : Cap) → way (state k).values c ≡ way_of k c
way_is k (caps.Promise p) = ap (promise_way p) (get_is k.promises p)
way_is k (caps.Pipelined q path) = ap (question_way q path) (get_is k.questions q)
way_is k caps.None = refl
way_is k (caps.Object n) = refl
way_is k (caps.Import i) = refl
way_is k (caps.Broken x) = refl

module _ (k : Known) where
  abbrev pub end_of : ℕ → Cap → Option Cap
  end_of zero c = None
  end_of (suc n) c = end_by (end_of n) c (way_of k c)

  pub end_step : (n : ℕ) → ((c : Cap) → end_within n (state k).values c ≡ end_of n c) → (c : Cap) (w : Way) → end_by (λ next. end_within n (state k).values next) c w ≡ end_by (end_of n) c w
  end_step n same c (ends route) = refl
  end_step n same c (leads next) = same next
  end_step n same c missing = refl

  pub end_is : (n : ℕ) (c : Cap) → end_within n (state k).values c ≡ end_of n c
  end_is zero c = refl
  end_is (suc n) c = ap (end_by (λ next. end_within n (state k).values next) c) (way_is k c) ∙ end_step n (end_is n) c (way_of k c)

  abbrev pub route_of : ℕ → Cap → Option Route
  route_of zero c = None
  route_of (suc n) c = route_by (route_of n) (way_of k c)

  pub route_step : (n : ℕ) → ((c : Cap) → route_within n (state k).values c ≡ route_of n c) → (w : Way) → route_by (λ next. route_within n (state k).values next) w ≡ route_by (route_of n) w
  route_step n same (ends route) = refl
  route_step n same (leads next) = same next
  route_step n same missing = refl

  pub route_is : (n : ℕ) (c : Cap) → route_within n (state k).values c ≡ route_of n c
  route_is zero c = refl
  route_is (suc n) c = ap (route_by (λ next. route_within n (state k).values next)) (way_is k c) ∙ route_step n (route_is n) (way_of k c)

  -- what follows the end of a capability's way, and its route
  module _ {A B F : Type 0} {view : A → B} (c : Cap) where
    abbrev pub ending : (Rule : Cap → Result B F → Type 0) → ((last : Cap) → Finds view (Rule last)) → Finds view (λ out. (last : Cap) × ResolvesTo (state k).values c last × Rule last out)
    ending Rule find = by (end_of 9 c) refl
      where
        on : (last : Cap) → ResolvesTo (state k).values c last → Finds view (Rule last) → Finds view (λ out. (last : Cap) × ResolvesTo (state k).values c last × Rule last out)
        on last to lacks = lacks
        on last to (found out holds) = found out (last, to, holds)

        by : (o : Option Cap) → end_of 9 c ≡ o → Finds view (λ out. (last : Cap) × ResolvesTo (state k).values c last × Rule last out)
        by None e = lacks
        by (Some last) e = on last (9, end_is 9 c ∙ e) (find last)

    abbrev pub routing : (Rule : Route → Result B F → Type 0) → ((route : Route) → Finds view (Rule route)) → Finds view (λ out. (route : Route) × Routes (state k).values c route × Rule route out)
    routing Rule find = by (route_of 9 c) refl
      where
        on : (route : Route) → Routes (state k).values c route → Finds view (Rule route) → Finds view (λ out. (route : Route) × Routes (state k).values c route × Rule route out)
        on route to lacks = lacks
        on route to (found out holds) = found out (route, to, holds)

        by : (o : Option Route) → route_of 9 c ≡ o → Finds view (λ out. (route : Route) × Routes (state k).values c route × Rule route out)
        by None e = lacks
        by (Some route) e = on route (9, route_is 9 c ∙ e) (find route)

-- the lowest free number of a table
module _ {X : Type 0} (es : Listed X) where
  abbrev pub lowest : ℕ → ℕ → ℕ
  lowest zero n = n
  lowest (suc more) n = cond (is_some (at es n)) (lowest more (n + 1)) n

  pub room_is : has_capacity (tabled es) ≡ ltb (size es) 65536
  room_is = ap (λ n. ltb n 65536) (len_is es)

  abbrev pub find_fresh : Finds plain (Fresh (tabled es))
  find_fresh = by (at es (lowest 9 0)) refl (ltb (lowest 9 0) (2 ^ 32)) refl (ltb (size es) 65536) refl
    where
      by : (o : Option X) → at es (lowest 9 0) ≡ o → (a : Bool) → ltb (lowest 9 0) (2 ^ 32) ≡ a → (b : Bool) → ltb (size es) 65536 ≡ b → Finds plain (Fresh (tabled es))
      by None e true l true r = found (Ok (lowest 9 0)) (free (lowest 9 0) (get_is es (lowest 9 0) ∙ e) (ltb-true _ _ l) (room_is ∙ r))
      by None e false l true r = lacks
      by (Some x) e a l true r = lacks
      by o e a l false r = found (Err faults.TableFull) (full (room_is ∙ r))

-- whether a table exports this capability
module _ (cap : Cap) (is_it : Cap → Bool) (yes : (c : Cap) → is_it c ≡ true → c ≡ cap) (no : (c : Cap) → c ≡ cap → is_it c ≡ true) where
  abbrev pub number_of : Listed (Counted Cap) → Option ℕ
  number_of [] = None
  number_of (e ∷ es) = cond (is_it e.1.kept) (Some e.0) (number_of es)

  pub none_at : (es : Listed (Counted Cap)) → number_of es ≡ None → (e : ℕ) → IfSome (at es e) (λ entry. entry.kept ≢ cap)
  none_at [] none e = tt
  none_at (x ∷ es) none e = by (is_it x.1.kept) refl (eq_by_cmp nat_cmp e x.0) none (λ none. none_at es none e)
    where
      by : (b : Bool) → is_it x.1.kept ≡ b → (c : Bool) → cond b (Some x.0) (number_of es) ≡ None → (number_of es ≡ None → IfSome (at es e) (λ entry. entry.kept ≢ cap)) → IfSome (cond c (Some x.1) (at es e)) (λ entry. entry.kept ≢ cap)
      by true is c none rest = absurd (true≢false (ap is_some none))
      by false is true none rest = λ same. true≢false (sym (no x.1.kept same) ∙ is)
      by false is false none rest = rest none

  -- whether a capability is exported, and under what number and count
  pub data Exported (k : Known) : Type 0 where
    under : (e count : ℕ) → get (state k).counts.exports e ≡ Some (record { count = count; kept = cap }) → Exported k
    nowhere : HasNoExport (state k) cap → Exported k
    unknown : Exported k

  abbrev pub exported : (k : Known) → Exported k
  exported k = by (number_of k.exports) refl
    where
      same : (e : ℕ) (entry : Counted Cap) → at k.exports e ≡ Some entry → (b : Bool) → is_it entry.kept ≡ b → Exported k
      same e entry is true it = under e entry.count (get_is k.exports e ∙ is ∙ ap (λ c. Some (record { count = entry.count; kept = c })) (yes entry.kept it))
      same e entry is false it = unknown

      holds : (e : ℕ) (o : Option (Counted Cap)) → at k.exports e ≡ o → Exported k
      holds e None is = unknown
      holds e (Some entry) is = same e entry is (is_it entry.kept) refl

      by : (o : Option ℕ) → number_of k.exports ≡ o → Exported k
      by None none = nowhere (λ e. subst (λ o. IfSome o (λ entry. entry.kept ≢ cap)) (sym (get_is k.exports e)) (none_at k.exports none e))
      by (Some e) is = holds e (at k.exports e) refl

module _ (cap : Cap) (is_it : Cap → Bool) (yes : (c : Cap) → is_it c ≡ true → c ≡ cap) (no : (c : Cap) → c ≡ cap → is_it c ≡ true) where
  abbrev pub raise_by : (k : Known) → Exported cap is_it yes no k → Finds beside (Raise (state k) cap)
  raise_by k (nowhere none) = by (find_fresh k.exports)
    where
      by : Finds plain (Fresh (state k).counts.exports) → Finds beside (Raise (state k) cap)
      by lacks = lacks
      by (found (Ok e) fresh) = found (Ok (e, record k { exports = (e, new_counted cap) ∷ k.exports })) (opened e none fresh)
      by (found (Err fault) none_free) = found (Err fault) (has_no_capacity none none_free)
  raise_by k (under e count is) = by (ltb count (2 ^ 32 - 1)) refl
    where
      by : (b : Bool) → ltb count (2 ^ 32 - 1) ≡ b → Finds beside (Raise (state k) cap)
      by true less = found (Ok (e, record k { exports = (e, record { count = count + 1; kept = cap }) ∷ k.exports })) (counted e count is (ltb-true _ _ less))
      by false less = lacks
  raise_by k unknown = lacks

-- the object, and the promise
abbrev pub is_object : ℕ → Cap → Bool
is_object n (caps.Object m) = m == n
is_object n other = false

abbrev pub is_promise : ℕ → Cap → Bool
is_promise p (caps.Promise q) = q == p
is_promise p other = false

pub same_object : (n : ℕ) (c : Cap) → is_object n c ≡ true → c ≡ caps.Object n
same_object n (caps.Object m) e = ap caps.Object (eqb-true m n e)
same_object n caps.None e = absurd (true≢false (sym e))
same_object n (caps.Promise p) e = absurd (true≢false (sym e))
same_object n (caps.Import i) e = absurd (true≢false (sym e))
same_object n (caps.Pipelined q path) e = absurd (true≢false (sym e))
same_object n (caps.Broken x) e = absurd (true≢false (sym e))

pub same_promise : (n : ℕ) (c : Cap) → is_promise n c ≡ true → c ≡ caps.Promise n
same_promise n (caps.Promise m) e = ap caps.Promise (eqb-true m n e)
same_promise n caps.None e = absurd (true≢false (sym e))
same_promise n (caps.Object p) e = absurd (true≢false (sym e))
same_promise n (caps.Import i) e = absurd (true≢false (sym e))
same_promise n (caps.Pipelined q path) e = absurd (true≢false (sym e))
same_promise n (caps.Broken x) e = absurd (true≢false (sym e))

pub is_itself : (n : ℕ) → (n == n) ≡ true
is_itself n = eq-eqb n n refl

pub no_object : (n : ℕ) (c : Cap) → c ≡ caps.Object n → is_object n c ≡ true
no_object n c e = ap (is_object n) e ∙ is_itself n

pub no_promise : (n : ℕ) (c : Cap) → c ≡ caps.Promise n → is_promise n c ≡ true
no_promise n c e = ap (is_promise n) e ∙ is_itself n

abbrev pub find_object : (k : Known) (n : ℕ) → Finds beside (Raise (state k) (caps.Object n))
find_object k n = raise_by (caps.Object n) (is_object n) (same_object n) (no_object n) k (exported (caps.Object n) (is_object n) (same_object n) (no_object n) k)

-- where a promise is exported
abbrev pub Promised : Known → ℕ → Type 0
Promised k p = Exported (caps.Promise p) (is_promise p) (same_promise p) (no_promise p) k

abbrev pub promised : (k : Known) (p : ℕ) → Promised k p
promised k p = exported (caps.Promise p) (is_promise p) (same_promise p) (no_promise p) k

abbrev pub find_promise : (k : Known) (p : ℕ) → Finds beside (Raise (state k) (caps.Promise p))
find_promise k p = raise_by (caps.Promise p) (is_promise p) (same_promise p) (no_promise p) k (promised k p)

abbrev pub find_said_end : (k : Known) (c : Cap) → Finds beside (WritesEnd (state k) c)
find_said_end k caps.None = found (Ok (descriptors.None, k)) refl
find_said_end k (caps.Object n) = follow _ (find_object k n) (λ raised. found (Ok (descriptors.SenderHosted raised.0, raised.1)) refl)
find_said_end k (caps.Promise p) = follow _ (find_promise k p) (λ raised. found (Ok (descriptors.SenderPromise raised.0, raised.1)) refl)
find_said_end k (caps.Import i) = found (Ok (descriptors.ReceiverHosted i, k)) refl
find_said_end k (caps.Pipelined q path) = found (Ok (descriptors.ReceiverAnswer (promised_answer q path), k)) refl
find_said_end k (caps.Broken x) = found (Ok (descriptors.None, k)) refl

abbrev pub find_said : (k : Known) (c : Cap) → Finds beside (WritesDescriptor (state k) c)
find_said k c = ending k c (WritesEnd (state k)) (find_said_end k)

abbrev pub find_all_said : (k : Known) (table : List Cap) → Finds beside (WritesDescriptors (state k) table)
find_all_said k table = find_each WritesDescriptor find_said k table
