-- Values that go, embargoes that end, and imports that come to something.
use Rattle.std.specs.Prelude.{◌≡◌, refl, ℕ, ◌==◌, not, cond, Bool, true, false, ◌∷◌, Option, Some, None, is_some}
use Rattle.std.specs.FinMap.{get, insert, remove, get-retain_keys, slice_cmp-IsAntisymmetric, nat_cmp-IsAntisymmetric}
use Rattle.std.proofs.Common.{arith, inl, inr, ap, subst, sym, ◌∙◌, true≢false}
use Rattle.cp_tables.specs.Table.{Table}
use Rattle.cp_refs.specs.declared.cap.Cap.{Cap}
use Rattle.cp_refs.specs.declared.cap.Cap.TheVariants as caps
use Rattle.cp_refs.specs.declared.route.Gate.{Gate}
use Rattle.cp_refs.specs.declared.route.Gate.TheVariants as gates
use Rattle.cp_refs.specs.declared.values.QuestionState.{QuestionState}
use Rattle.cp_vat_machine.specs.State.{State}
use Rattle.cp_vat_machine.specs.Answering.{without_answer}
use Rattle.cp_vat_machine.specs.Calling.{mark_of}
use Rattle.cp_vat_machine.specs.Doing.{without_import, without_promise}
use Rattle.cp_vat_machine.specs.Give.{without_question}
use Rattle.cp_vat_machine.specs.Ports.{capability, is_there}
use Rattle.cp_vat_machine.specs.Resolving.{resolved, is_under, embargo_ended}
use Rattle.cp_vat_laws.specs.OrderKept.{IsFree, FitsMark}
use Rattle.cp_vat_machine.proofs.Basics.{some_out, none_out, is_equal, is_itself, other_number, put_at, gone_at}
use Rattle.cp_vat_laws.proofs.order.Passes.{Slot, Passes, StaysOrEnds, outcome_of}
use Rattle.cp_vat_laws.proofs.order.Same.{same_slot, marks_same, fits_same}
use Rattle.cp_vat_laws.proofs.order.Closes.{Closes}
use Rattle.cp_vat_laws.proofs.order.Give.{mark_stays}

-- one that is gone
gone_slot : {X : Type 0} (o p : Option (Option X)) (x : Option X) → p ≡ None → Slot o p x x
gone_slot o p x is =
    record {
      over = λ v e. e;
      set = λ v e some. absurd (true≢false (sym some ∙ ap is_some is));
      open_ = λ e none some. absurd (true≢false (sym some ∙ ap is_some is));
    }

removed_slot : {X : Type 0} (table : Table (Option X)) (over : Table X) (k q : ℕ) (b : Bool) → (k == q) ≡ b → Slot (get table q) (get (remove table k) q) (get over q) (get over q)
removed_slot table over k q true e = gone_slot _ _ _ (gone_at table k q true e)
removed_slot table over k q false e = same_slot _ _ _ _ (gone_at table k q false e) refl

left_there : {X : Type 0} (table : Table X) (k q : ℕ) (b : Bool) → (k == q) ≡ b → is_some (get (remove table k) q) ≡ true → is_some (get table q) ≡ true
left_there table k q true e some = absurd (true≢false (sym some ∙ ap is_some (gone_at table k q true e)))
left_there table k q false e some = sym (ap is_some (gone_at table k q false e)) ∙ some

left_other : {X : Type 0} (table : Table X) (k q : ℕ) (b : Bool) → (k == q) ≡ b → is_some (get (remove table k) q) ≡ true → (k == q) ≡ false
left_other table k q true e some = absurd (true≢false (sym some ∙ ap is_some (gone_at table k q true e)))
left_other table k q false e some = e

left_same : {X : Type 0} (table : Table X) (k q : ℕ) (b : Bool) (x : X) → (k == q) ≡ b → get table q ≡ Some x → is_some (get (remove table k) q) ≡ true → get (remove table k) q ≡ Some x
left_same table k q true x e is some = absurd (true≢false (sym some ∙ ap is_some (gone_at table k q true e)))
left_same table k q false x e is some = gone_at table k q false e ∙ is

-- an answer that goes
pub answer_goes : (s : State) (a : ℕ) → Closes s (without_answer s a)
answer_goes s a =
    record {
      passes =
          record {
            promises = λ p. same_slot _ _ _ _ refl refl;
            answers = λ b. removed_slot s.values.answers s.waiting.over.answers a b (a == b) refl;
            questions = λ q. same_slot _ _ _ _ refl refl;
            kinds = λ q one other is there. ap (λ x. x.kind) (some_out (sym there ∙ is));
            imports = λ i x is some. is;
            embargoes = λ n x is none. inl (is, none);
            ended = λ n x is. is;
            marks = λ c g there found off fits. marks_same s (without_answer s a) c g refl refl fits;
            next = omega arith;
          };
      adds =
          record {
            promises = λ p some. some;
            answers = λ b some. left_there s.values.answers a b (a == b) refl some;
            questions = λ q some. some;
            imports = λ i some. some;
          };
      calls = refl;
      embargoes = refl;
      next = refl;
    }

-- a promise
pub promise_goes : (s : State) (p : ℕ) → Closes s (without_promise s p)
promise_goes s p =
    record {
      passes =
          record {
            promises = λ r. removed_slot s.values.promises s.waiting.over.promises p r (p == r) refl;
            answers = λ b. same_slot _ _ _ _ refl refl;
            questions = λ q. same_slot _ _ _ _ refl refl;
            kinds = λ q one other is there. ap (λ x. x.kind) (some_out (sym there ∙ is));
            imports = λ i x is some. is;
            embargoes = λ n x is none. inl (is, none);
            ended = λ n x is. is;
            marks = λ c g there found off fits. marks_same s (without_promise s p) c g refl refl fits;
            next = omega arith;
          };
      adds =
          record {
            promises = λ r some. left_there s.values.promises p r (p == r) refl some;
            answers = λ b some. some;
            questions = λ q some. some;
            imports = λ i some. some;
          };
      calls = refl;
      embargoes = refl;
      next = refl;
    }

-- an import, with its mark
import_mark : (s : State) (i : ℕ) (c : Cap) → is_there (without_import s i).values (capability c) ≡ true → mark_of (without_import s i) c ≡ mark_of s c
import_mark s i caps.None there = refl
import_mark s i (caps.Object k) there = refl
import_mark s i (caps.Promise p) there = refl
import_mark s i (caps.Import j) there = gone_at s.marks.imports i j false (left_other s.values.imports i j (i == j) refl there)
import_mark s i (caps.Pipelined q path) there = refl
import_mark s i (caps.Broken x) there = refl

pub import_goes : (s : State) (i : ℕ) → Closes s (without_import s i)
import_goes s i =
    record {
      passes =
          record {
            promises = λ p. same_slot _ _ _ _ refl refl;
            answers = λ b. same_slot _ _ _ _ refl refl;
            questions = λ q. same_slot _ _ _ _ refl refl;
            kinds = λ q one other is there. ap (λ x. x.kind) (some_out (sym there ∙ is));
            imports = λ j x is some. left_same s.values.imports i j (i == j) (Some x) refl is some;
            embargoes = λ n x is none. inl (is, none);
            ended = λ n x is. is;
            marks = λ c g there found off fits. rw (import_mark s i c found) (fits_same s (without_import s i) (mark_of s c) g refl fits);
            next = omega arith;
          };
      adds =
          record {
            promises = λ p some. some;
            answers = λ b some. some;
            questions = λ q some. some;
            imports = λ j some. left_there s.values.imports i j (i == j) refl some;
          };
      calls = refl;
      embargoes = refl;
      next = refl;
    }

-- a question, with the marks of its paths
question_slot : (table : Table QuestionState) (over : Table Rattle.cp_refs.specs.declared.outcome.Outcome.Outcome) (k q : ℕ) (b : Bool) → (k == q) ≡ b
    → Slot (outcome_of (get table q)) (outcome_of (get (remove table k) q)) (get over q) (get over q)
question_slot table over k q true e = gone_slot _ _ _ (ap outcome_of (gone_at table k q true e))
question_slot table over k q false e = same_slot _ _ _ _ (ap outcome_of (gone_at table k q false e)) refl

left_kind : (table : Table QuestionState) (k q : ℕ) (b : Bool) → (k == q) ≡ b → (one other : QuestionState) → get table q ≡ Some one → get (remove table k) q ≡ Some other → other.kind ≡ one.kind
left_kind table k q true e one other is there = none_out (sym (gone_at table k q true e) ∙ there)
left_kind table k q false e one other is there = ap (λ x. x.kind) (some_out (sym there ∙ gone_at table k q false e ∙ is))

pub question_goes : (s : State) (q : ℕ) → Closes s (without_question s q)
question_goes s q =
    record {
      passes =
          record {
            promises = λ p. same_slot _ _ _ _ refl refl;
            answers = λ b. same_slot _ _ _ _ refl refl;
            questions = λ r. question_slot s.values.questions s.waiting.over.questions q r (q == r) refl;
            kinds = λ r one other is there. left_kind s.values.questions q r (q == r) refl one other is there;
            imports = λ i x is some. is;
            embargoes = λ n x is none. inl (is, none);
            ended = λ n x is. is;
            marks =
                λ c g there found off fits.
                rw
                (mark_stays s (without_question s q) q c refl (λ r some. other_number q r (left_other s.values.questions q r (q == r) refl some)) found)
                (fits_same s (without_question s q) (mark_of s c) g refl fits);
            next = omega arith;
          };
      adds =
          record {
            promises = λ p some. some;
            answers = λ b some. some;
            questions = λ r some. left_there s.values.questions q r (q == r) refl some;
            imports = λ i some. some;
          };
      calls = refl;
      embargoes = refl;
      next = refl;
    }

-- An import that was open on the wire comes to something.
resolved_import : (s : State) (i : ℕ) (v : Cap) → get s.values.imports i ≡ Some None → (j : ℕ) (b : Bool) → (i == j) ≡ b → (x : Cap) → get s.values.imports j ≡ Some (Some x)
    → get (insert s.values.imports i (Some v)) j ≡ Some (Some x)
resolved_import s i v open_ j true e x is =
    none_out (some_out (sym (ap (λ n. get s.values.imports n) (sym (is_equal i j e)) ∙ open_) ∙ is))
resolved_import s i v open_ j false e x is = put_at s.values.imports i j (Some v) false e ∙ is

resolved_there : (s : State) (i : ℕ) (v : Cap) → get s.values.imports i ≡ Some None → (j : ℕ) (b : Bool) → (i == j) ≡ b
    → is_some (get (insert s.values.imports i (Some v)) j) ≡ true → is_some (get s.values.imports j) ≡ true
resolved_there s i v open_ j true e some = ap (λ n. is_some (get s.values.imports n)) (sym (is_equal i j e)) ∙ ap is_some open_
resolved_there s i v open_ j false e some = sym (ap is_some (put_at s.values.imports i j (Some v) false e)) ∙ some

pub import_resolves : (s : State) (i : ℕ) (v : Cap) → get s.values.imports i ≡ Some None → Closes s (resolved s i v)
import_resolves s i v open_ =
    record {
      passes =
          record {
            promises = λ p. same_slot _ _ _ _ refl refl;
            answers = λ b. same_slot _ _ _ _ refl refl;
            questions = λ q. same_slot _ _ _ _ refl refl;
            kinds = λ q one other is there. ap (λ x. x.kind) (some_out (sym there ∙ is));
            imports = λ j x is some. resolved_import s i v open_ j (i == j) refl x is;
            embargoes = λ n x is none. inl (is, none);
            ended = λ n x is. is;
            marks = λ c g there found off fits. marks_same s (resolved s i v) c g refl refl fits;
            next = omega arith;
          };
      adds =
          record {
            promises = λ p some. some;
            answers = λ b some. some;
            questions = λ q some. some;
            imports = λ j some. resolved_there s i v open_ j (i == j) refl some;
          };
      calls = refl;
      embargoes = refl;
      next = refl;
    }

-- An embargo ends: its mark goes, and its gate is over.
module _ (s : State) (n : ℕ) (cap : Cap) (is : get s.marks.embargoes n ≡ Some cap) (none : get s.waiting.over.embargoes n ≡ None) where
  abbrev ended : State
  ended = embargo_ended s n cap

  stays_or_ends : (m : ℕ) (b : Bool) (v : Cap) → (n == m) ≡ b → get s.marks.embargoes m ≡ Some v → get s.waiting.over.embargoes m ≡ None → StaysOrEnds ended m v
  stays_or_ends m true v e at open_ =
      inr (put_at s.waiting.over.embargoes n m cap true e ∙ sym is ∙ ap (λ k. get s.marks.embargoes k) (is_equal n m e) ∙ at)
  stays_or_ends m false v e at open_ = inl (gone_at s.marks.embargoes n m false e ∙ at, put_at s.waiting.over.embargoes n m cap false e ∙ open_)

  still_ended : (m : ℕ) (b : Bool) (v : Cap) → (n == m) ≡ b → get s.waiting.over.embargoes m ≡ Some v → get ended.waiting.over.embargoes m ≡ Some v
  still_ended m true v e at = none_out (sym (ap (λ k. get s.waiting.over.embargoes k) (sym (is_equal n m e)) ∙ none) ∙ at)
  still_ended m false v e at = put_at s.waiting.over.embargoes n m cap false e ∙ at

  free_by : (m : ℕ) (b : Bool) → (n == m) ≡ b → is_some (get s.waiting.over.embargoes m) ≡ true → is_some (get ended.waiting.over.embargoes m) ≡ true
  free_by m true e free = ap is_some (put_at s.waiting.over.embargoes n m cap true e)
  free_by m false e free = ap is_some (put_at s.waiting.over.embargoes n m cap false e) ∙ free

  free_on : (g : Gate) → IsFree s g → IsFree ended g
  free_on (gates.Answer a path) free = tt
  free_on (gates.Promise p) free = tt
  free_on (gates.Question q path) free = tt
  free_on (gates.Embargo m) free = free_by m (n == m) refl free

  -- what is left of a mark
  abbrev left_of : Option (Option ℕ) → Option (Option ℕ)
  left_of mark = cond (not (is_under n mark)) mark None

  fits_left : (m : ℕ) (b : Bool) → (m == n) ≡ b → (g : Gate) → g ≡ gates.Embargo m → get s.waiting.over.embargoes m ≡ None → FitsMark ended (cond (not b) (Some (Some m)) None) g
  fits_left m true e g at open_ =
      let same : n ≡ m = sym (is_equal m n e) in
      subst (IsFree ended) (sym (at ∙ ap (λ k. gates.Embargo k) (sym same))) (ap is_some (put_at s.waiting.over.embargoes n n cap true (is_itself n)))
  fits_left m false e g at open_ = (at, put_at s.waiting.over.embargoes n m cap false (other_number m n e) ∙ open_)

  fits_by : (mark : Option (Option ℕ)) (g : Gate) → FitsMark s mark g → FitsMark ended (left_of mark) g
  fits_by None g fits = free_on g fits
  fits_by (Some None) g fits = absurd fits
  fits_by (Some (Some m)) g fits = fits_left m (m == n) refl g fits.0 fits.1

  mark_left : (c : Cap) → mark_of ended c ≡ left_of (mark_of s c)
  mark_left caps.None = refl
  mark_left (caps.Object k) = refl
  mark_left (caps.Promise p) = refl
  mark_left (caps.Import i) =
      get-retain_keys s.marks.imports (λ i. not (is_under n (get s.marks.imports i))) i
      (λ x tie. ap (λ k. not (is_under n (get s.marks.imports k))) (sym (nat_cmp-IsAntisymmetric i x tie)))
  mark_left (caps.Pipelined q path) =
      get-retain_keys s.marks.paths (λ key. not (is_under n (get s.marks.paths key))) (q ∷ path)
      (λ x tie. ap (λ k. not (is_under n (get s.marks.paths k))) (sym (slice_cmp-IsAntisymmetric nat_cmp-IsAntisymmetric (q ∷ path) x tie)))
  mark_left (caps.Broken x) = refl

  pub embargo_passes : Passes s ended
  embargo_passes =
      record {
        promises = λ p. same_slot _ _ _ _ refl refl;
        answers = λ b. same_slot _ _ _ _ refl refl;
        questions = λ q. same_slot _ _ _ _ refl refl;
        kinds = λ q one other is there. ap (λ x. x.kind) (some_out (sym there ∙ is));
        imports = λ i x is some. is;
        embargoes = λ m v at open_. stays_or_ends m (n == m) v refl at open_;
        ended = λ m v at. still_ended m (n == m) v refl at;
        marks = λ c g there found off fits. rw (mark_left c) (fits_by (mark_of s c) g fits);
        next = omega arith;
      }
