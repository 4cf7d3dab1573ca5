-- What is there and what is in use, computed.
use Rattle.std.specs.Prelude.{◌≡◌, refl, ℕ, not, ◌&&◌, ◌||◌, Bool, true, false, cond, List, [], ◌∷◌, ◌++◌, map, filter, flat_map, is_some, option_to_list}
use Rattle.std.proofs.Common.{arith, sym, ap, ◌∙◌, true≢false}
use Rattle.std.proofs.lemmas.Bool.Decides.{nat_tests}
use Rattle.std.specs.List.{list_any}
use Rattle.std.specs.Ordering.{nat_cmp, eq_by_cmp}
use Rattle.std.specs.Cmp.{nat_cmp_total}
use Rattle.std.specs.FinMap.{values, nat_cmp-IsAntisymmetric}
use Rattle.std.specs.FinSet as set
use Rattle.cp_refs.specs.declared.cap.Cap.{Cap}
use Rattle.cp_refs.specs.declared.cap.Cap.TheVariants as caps
use Rattle.cp_vat_machine.specs.InUse.{is_promise, is_import, is_pipelined_of, caps_given, kept_caps, value_unless, is_import_used, is_at_promise, is_at_question, is_unsettled, is_promise_used, is_question_used, idle_imports, idle_promises, is_own, has_question, has_promise, has_import, is_question_here, is_local_path}
use Rattle.test_vat.proofs.Known.{Listed, tabled, Known, state, at, get_is, rising, entries_is}

-- the capability's question is the application's, its promise is there, its import is held, its path is of this end
abbrev pub known_question : Known → Cap → Bool
known_question k (caps.Pipelined q path) = is_own (at k.asked q)
known_question k caps.None = true
known_question k (caps.Object n) = true
known_question k (caps.Promise p) = true
known_question k (caps.Import i) = true
known_question k (caps.Broken x) = true

pub question_there : (k : Known) (c : Cap) → has_question (state k) c ≡ known_question k c
question_there k (caps.Pipelined q path) = ap is_own (get_is k.asked q)
question_there k caps.None = refl
question_there k (caps.Object n) = refl
question_there k (caps.Promise p) = refl
question_there k (caps.Import i) = refl
question_there k (caps.Broken x) = refl

abbrev pub known_promise : Known → Cap → Bool
known_promise k (caps.Promise p) = is_some (at k.promises p)
known_promise k caps.None = true
known_promise k (caps.Object n) = true
known_promise k (caps.Pipelined q path) = true
known_promise k (caps.Import i) = true
known_promise k (caps.Broken x) = true

pub promise_there : (k : Known) (c : Cap) → has_promise (state k) c ≡ known_promise k c
promise_there k (caps.Promise p) = ap is_some (get_is k.promises p)
promise_there k caps.None = refl
promise_there k (caps.Object n) = refl
promise_there k (caps.Pipelined q path) = refl
promise_there k (caps.Import i) = refl
promise_there k (caps.Broken x) = refl

abbrev pub known_import : Known → Cap → Bool
known_import k (caps.Import i) = is_some (at k.imports i)
known_import k caps.None = true
known_import k (caps.Object n) = true
known_import k (caps.Pipelined q path) = true
known_import k (caps.Promise p) = true
known_import k (caps.Broken x) = true

pub import_there : (k : Known) (c : Cap) → has_import (state k) c ≡ known_import k c
import_there k (caps.Import i) = ap is_some (get_is k.imports i)
import_there k caps.None = refl
import_there k (caps.Object n) = refl
import_there k (caps.Pipelined q path) = refl
import_there k (caps.Promise p) = refl
import_there k (caps.Broken x) = refl

abbrev pub known_local : Known → Cap → Bool
known_local k (caps.Pipelined q path) = is_question_here (at k.questions q)
known_local k caps.None = false
known_local k (caps.Object n) = false
known_local k (caps.Promise p) = false
known_local k (caps.Import i) = false
known_local k (caps.Broken x) = false

pub local_there : (k : Known) (c : Cap) → is_local_path (state k) c ≡ known_local k c
local_there k (caps.Pipelined q path) = ap is_question_here (get_is k.questions q)
local_there k caps.None = refl
local_there k (caps.Object n) = refl
local_there k (caps.Promise p) = refl
local_there k (caps.Import i) = refl
local_there k (caps.Broken x) = refl

-- what a table holds, its numbers rising
abbrev pub held_in : {X : Type 0} → Listed X → List X
held_in es = map (λ e. e.1) (rising es)

abbrev pub numbers_in : {X : Type 0} → Listed X → List ℕ
numbers_in es = map (λ e. e.0) (rising es)

pub values_are : {X : Type 0} (es : Listed X) → values (tabled es) ≡ held_in es
values_are es = ap (map (λ e. e.1)) (entries_is es)

module _ (k : Known) where
  abbrev pub known_caps : List Cap
  known_caps =
      flat_map option_to_list (held_in k.promises)
      ++ flat_map caps_given (held_in k.answers)
      ++ flat_map (λ question. caps_given question.outcome) (held_in k.questions)
      ++ flat_map (λ call. call.request.caps) (held_in k.calls)

  pub caps_are : kept_caps (state k) ≡ known_caps
  caps_are = λ i.
      flat_map option_to_list (values_are k.promises i)
      ++ flat_map caps_given (values_are k.answers i)
      ++ flat_map (λ question. caps_given question.outcome) (values_are k.questions i)
      ++ flat_map (λ call. call.request.caps) (values_are k.calls i)

  abbrev pub import_used : ℕ → Bool
  import_used n = list_any (is_import n) known_caps || list_any (is_import n) (flat_map (λ entry. value_unless n entry) (rising k.import_values))

  pub import_used_is : (n : ℕ) → is_import_used (state k) n ≡ import_used n
  import_used_is n = λ i. list_any (is_import n) (caps_are i) || list_any (is_import n) (flat_map (λ entry. value_unless n entry) (entries_is k.import_values i))

  abbrev pub promise_used : ℕ → Bool
  promise_used p =
      list_any (is_promise p) known_caps
      || list_any (is_promise p) (flat_map option_to_list (held_in k.import_values))
      || is_unsettled (at k.promises p)
      || list_any (λ entry. is_promise p entry.kept) (held_in k.exports)
      || list_any (λ call. is_at_promise p call.gate) (held_in k.calls)
      || list_any (is_promise p) (held_in k.embargoes)

  pub promise_used_is : (p : ℕ) → is_promise_used (state k) p ≡ promise_used p
  promise_used_is p = λ i.
      list_any (is_promise p) (caps_are i)
      || list_any (is_promise p) (flat_map option_to_list (values_are k.import_values i))
      || is_unsettled (get_is k.promises p i)
      || list_any (λ entry. is_promise p entry.kept) (values_are k.exports i)
      || list_any (λ call. is_at_promise p call.gate) (values_are k.calls i)
      || list_any (is_promise p) (values_are k.embargoes i)

  abbrev pub question_used : ℕ → Bool
  question_used q =
      list_any (λ call. is_at_question q call.gate) (held_in k.calls)
      || list_any (λ call. list_any (is_pipelined_of q) call.request.caps) (held_in k.calls)

  pub question_used_is : (q : ℕ) → is_question_used (state k) q ≡ question_used q
  question_used_is q = λ i.
      list_any (λ call. is_at_question q call.gate) (values_are k.calls i)
      || list_any (λ call. list_any (is_pipelined_of q) call.request.caps) (values_are k.calls i)

  abbrev pub known_idle_imports : List ℕ
  known_idle_imports = filter (λ i. not (import_used i)) (numbers_in k.imports)

  pub idle_imports_are : idle_imports (state k) ≡ known_idle_imports
  idle_imports_are = λ i. filter (λ n. not (import_used_is n i)) (map (λ e. e.0) (entries_is k.imports i))

  abbrev pub known_idle_promises : List ℕ
  known_idle_promises = filter (λ p. not (promise_used p)) (numbers_in k.promises)

  pub idle_promises_are : idle_promises (state k) ≡ known_idle_promises
  idle_promises_are = λ i. filter (λ p. not (promise_used_is p i)) (map (λ e. e.0) (entries_is k.promises i))

-- a set without a number
abbrev pub others : List ℕ → ℕ → List ℕ
others own p = filter (λ x. not (eq_by_cmp nat_cmp x p)) own

pub any_of : (f : ℕ → Bool) (b : Bool) (x : ℕ) (rest : List ℕ) → list_any f (cond b (x ∷ rest) rest) ≡ cond b (f x || list_any f rest) (list_any f rest)
any_of f true x rest = refl
any_of f false x rest = refl

pub step : (a b c r s : Bool) → (a ≡ true → b ≡ c) → r ≡ (not c && s) → cond (not b) (a || r) r ≡ (not c && (a || s))
step true true true r s same e = e
step true true false r s same e = absurd (true≢false (same refl))
step true false true r s same e = absurd (true≢false (sym (same refl)))
step true false false r s same e = refl
step false true c r s same e = e
step false false c r s same e = e

pub none_either : (b : Bool) → false ≡ (b && false)
none_either true = refl
none_either false = refl

pub same_number : (q x : ℕ) → eq_by_cmp nat_cmp q x ≡ true → x ≡ q
same_number q x e = grind (arith, nat_tests)

pub any_other : (own : List ℕ) (p q : ℕ) → list_any (eq_by_cmp nat_cmp q) (others own p) ≡ (not (eq_by_cmp nat_cmp q p) && list_any (eq_by_cmp nat_cmp q) own)
any_other [] p q = none_either (not (eq_by_cmp nat_cmp q p))
any_other (x ∷ own) p q =
    any_of (eq_by_cmp nat_cmp q) (not (eq_by_cmp nat_cmp x p)) x (others own p)
    ∙ step (eq_by_cmp nat_cmp q x) (eq_by_cmp nat_cmp x p) (eq_by_cmp nat_cmp q p) _ _ (λ e. ap (λ y. eq_by_cmp nat_cmp y p) (same_number q x e)) (any_other own p q)

pub others_are : (own : List ℕ) (p : ℕ) → set.remove (set.from_list {R = nat_cmp} own) p ≡ set.from_list (others own p)
others_are own p =
    set.same_set nat_cmp_total nat_cmp-IsAntisymmetric _ _ (λ q.
    set.contains-remove nat_cmp_total (set.from_list own) p q
    ∙ ap (λ b. not (eq_by_cmp nat_cmp q p) && b) (set.contains-from_list nat_cmp_total own q)
    ∙ sym (set.contains-from_list nat_cmp_total (others own p) q ∙ any_other own p q))

pub made_is : (k : Known) (p : ℕ) → set.contains (set.from_list {R = nat_cmp} k.own) p ≡ list_any (eq_by_cmp nat_cmp p) k.own
made_is k p = set.contains-from_list nat_cmp_total k.own p
