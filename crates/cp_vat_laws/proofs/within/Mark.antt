-- A reference is marked, and its embargo is opened.
use Rattle.std.specs.Prelude.{◌≡◌, refl, ℕ, ◌==◌, ◌⊎◌, if◌then◌else◌, Bool, true, false, List, [], ◌∷◌, Option, Some, None, is_some, IfSome}
use Rattle.std.specs.FinMap.{get, insert, FinMap, get-insert, slice_cmp-IsAntisymmetric, nat_cmp-IsAntisymmetric}
use Rattle.std.specs.Ordering.{nat_cmp, eq_by_cmp}
use Rattle.std.specs.Cmp.Lexicographic.{slice_cmp, nat_list_cmp_total}
use Rattle.std.specs.Cmp.{Equal-is}
use Rattle.std.proofs.Common.{inl, inr, ap, sym, ◌∙◌, true≢false}
use Rattle.cp_refs.specs.declared.cap.Cap.{Cap}
use Rattle.cp_refs.specs.declared.cap.Cap.TheVariants as caps
use Rattle.cp_refs.specs.declared.call.Origin.{Origin}
use Rattle.cp_vat_machine.specs.State.{State}
use Rattle.cp_vat_machine.specs.Local.{IsThere, is_wire, HasWaiting, IsExportable, IsEmbargoOf, import_value, path_value, IsPathMark, IsImportMark}
use Rattle.cp_vat_machine.specs.Calling.{mark_of}
use Rattle.cp_vat_machine.proofs.Basics.{some_out, none_out, is_equal, put_at}
use Rattle.cp_vat_laws.specs.Within.{Within, AllKept}
use Rattle.cp_vat_laws.proofs.Tables.{here_of, there_of, each_put}
use Rattle.cp_vat_laws.proofs.within.Follows.{all_end, exportable_there}
use Rattle.cp_vat_laws.proofs.within.Take.{get_put}

-- marked paths with one more
same_key : (key k : List ℕ) → eq_by_cmp (slice_cmp nat_cmp) key k ≡ true → key ≡ k
same_key key k is = slice_cmp-IsAntisymmetric nat_cmp-IsAntisymmetric key k ((Equal-is (slice_cmp nat_cmp key k)).0 is)

put_key : (m : FinMap (slice_cmp nat_cmp) (Option ℕ)) (k key : List ℕ) (v : Option ℕ) (b : Bool) → eq_by_cmp (slice_cmp nat_cmp) key k ≡ b
    → get (insert m k v) key ≡ (if b then Some v else get m key)
put_key m k key v true t = get-insert nat_list_cmp_total m k v key ∙ rw (t) refl
put_key m k key v false t = get-insert nat_list_cmp_total m k v key ∙ rw (t) refl

no_some : {Y : Type 0} {n : ℕ} → ◌≡◌ {A = Option (Option ℕ)} (Some None) (Some (Some n)) → Y
no_some is = none_out (some_out is)

-- The mark of an import, without an embargo.
module _ {s : State} {hand : Option Origin} (h : Within s hand []) (i : ℕ) (counted : is_some (get s.counts.imports i) ≡ true) where
  abbrev import_marked : State
  import_marked = record s { marks = record s.marks { imports = insert s.marks.imports i None } }

  import_before : (c : Cap) (n : ℕ) → mark_of import_marked c ≡ Some (Some n) → mark_of s c ≡ Some (Some n)
  import_before (caps.Import j) n is = by (i == j) refl
    where
      by : (b : Bool) → (i == j) ≡ b → get s.marks.imports j ≡ Some (Some n)
      by true t = no_some (sym (put_at s.marks.imports i j None true t) ∙ is)
      by false t = sym (put_at s.marks.imports i j None false t) ∙ is
  import_before (caps.Pipelined q path) n is = is
  import_before caps.None n is = none_out is
  import_before (caps.Object k) n is = none_out is
  import_before (caps.Promise p) n is = none_out is
  import_before (caps.Broken x) n is = none_out is

  pub marks_import : Within import_marked hand []
  marks_import =
      let new : State = import_marked in
      record {
        over_answers = h.over_answers;
        over_promises = h.over_promises;
        over_questions = h.over_questions;
        over_embargoes = h.over_embargoes;
        gifts = h.gifts;
        answers = h.answers;
        questions = h.questions;
        waiting = h.waiting;
        forwards = h.forwards;
        wire = h.wire;
        forwarding = h.forwarding;
        gates_kept = h.gates_kept;
        sendable = h.sendable;
        tied = h.tied;
        untied = h.untied;
        owned = h.owned;
        counts = h.counts;
        imported = h.imported;
        exports = h.exports;
        one_export = h.one_export;
        there = h.there;
        ends = h.ends;
        embargoed = h.embargoed;
        plain = h.plain;
        finished = h.finished;
        answers_valued = h.answers_valued;
        questions_valued = h.questions_valued;
        imports_valued = h.imports_valued;
        import_marks = each_put (IsImportMark s) (IsImportMark new) s.marks.imports i None h.import_marks (counted, tt) (λ j embargo other is x. x);
        path_marks = h.path_marks;
        one_mark = λ c d n is also. h.one_mark c d n (import_before c n is) (import_before d n also);
        waited_for = h.waited_for;
      }

-- That of a path of a question on the wire.
module _ {s : State} {hand : Option Origin} (h : Within s hand []) (q : ℕ) (path : List ℕ) (wire : is_wire (get s.values.questions q) ≡ true) where
  abbrev path_marked : State
  path_marked = record s { marks = record s.marks { paths = insert s.marks.paths (q ∷ path) None } }

  path_at : (key : List ℕ) (b : Bool) → eq_by_cmp (slice_cmp nat_cmp) key (q ∷ path) ≡ b → IfSome (get path_marked.marks.paths key) (IsPathMark path_marked key)
  path_at key true t = rw (put_key s.marks.paths (q ∷ path) key None true t, same_key key (q ∷ path) t) (wire, tt)
  path_at key false t = rw (put_key s.marks.paths (q ∷ path) key None false t) (h.path_marks key)

  path_before : (c : Cap) (n : ℕ) → mark_of path_marked c ≡ Some (Some n) → mark_of s c ≡ Some (Some n)
  path_before (caps.Import j) n is = is
  path_before (caps.Pipelined r other) n is = by (eq_by_cmp (slice_cmp nat_cmp) (r ∷ other) (q ∷ path)) refl
    where
      by : (b : Bool) → eq_by_cmp (slice_cmp nat_cmp) (r ∷ other) (q ∷ path) ≡ b → get s.marks.paths (r ∷ other) ≡ Some (Some n)
      by true t = no_some (sym (put_key s.marks.paths (q ∷ path) (r ∷ other) None true t) ∙ is)
      by false t = sym (put_key s.marks.paths (q ∷ path) (r ∷ other) None false t) ∙ is
  path_before caps.None n is = none_out is
  path_before (caps.Object k) n is = none_out is
  path_before (caps.Promise p) n is = none_out is
  path_before (caps.Broken x) n is = none_out is

  pub marks_path : Within path_marked hand []
  marks_path =
      let new : State = path_marked in
      record {
        over_answers = h.over_answers;
        over_promises = h.over_promises;
        over_questions = h.over_questions;
        over_embargoes = h.over_embargoes;
        gifts = h.gifts;
        answers = h.answers;
        questions = h.questions;
        waiting = h.waiting;
        forwards = h.forwards;
        wire = h.wire;
        forwarding = h.forwarding;
        gates_kept = h.gates_kept;
        sendable = h.sendable;
        tied = h.tied;
        untied = h.untied;
        owned = h.owned;
        counts = h.counts;
        imported = h.imported;
        exports = h.exports;
        one_export = h.one_export;
        there = h.there;
        ends = h.ends;
        embargoed = h.embargoed;
        plain = h.plain;
        finished = h.finished;
        answers_valued = h.answers_valued;
        questions_valued = h.questions_valued;
        imports_valued = h.imports_valued;
        import_marks = h.import_marks;
        path_marks = λ key. path_at key (eq_by_cmp (slice_cmp nat_cmp) key (q ∷ path)) refl;
        one_mark = λ c d n is also. h.one_mark c d n (path_before c n is) (path_before d n also);
        waited_for = h.waited_for;
      }

-- An embargo opens, at which a call waits.
module _ {s : State} {hand : Option Origin} (h : Within s hand []) (n : ℕ) (value : Cap) where
  abbrev embargo_opened : State
  embargo_opened = record s { marks = record s.marks { embargoes = insert s.marks.embargoes n value } }

  over_put : get s.waiting.over.embargoes n ≡ None → (m : ℕ) (v : Cap) (b : Bool) → (n == m) ≡ b → get s.waiting.over.embargoes m ≡ Some v
      → get (insert s.marks.embargoes n value) m ≡ None
  over_put not_over m v true t is = let over : get s.waiting.over.embargoes n ≡ Some v = rw (is_equal n m t) is in none_out (sym not_over ∙ over)
  over_put not_over m v false t is = put_at s.marks.embargoes n m value false t ∙ h.over_embargoes m v is

  embargo_there : IsExportable s value → AllKept (IsThere s) embargo_opened
  embargo_there exportable = record {
    values_ = h.there.values_;
    calls_ = h.there.calls_;
    embargoes_ = each_put (λ m. IsThere s) (λ m. IsThere s) s.marks.embargoes n value h.there.embargoes_ (exportable_there s value exportable)
        (λ m c other is x. x);
    exports_ = h.there.exports_;
  }

  embargo_on : get s.marks.embargoes n ≡ None → (v : Option Cap) (embargo : Option ℕ) → IsEmbargoOf s v embargo → IsEmbargoOf embargo_opened v embargo
  embargo_on fresh v None is = tt
  embargo_on fresh v (Some m) is = by (n == m) refl
    where
      by : (b : Bool) → (n == m) ≡ b → IsEmbargoOf embargo_opened v (Some m)
      by true t =
          let none : get s.marks.embargoes m ≡ None = rw (← is_equal n m t) fresh in
          absurd (true≢false (sym is.1 ∙ ap is_some (is.0 ∙ none)))
      by false t = (is.0 ∙ sym (put_at s.marks.embargoes n m value false t), is.1)

  path_on : get s.marks.embargoes n ≡ None → (key : List ℕ) (embargo : Option ℕ) → IsPathMark s key embargo → IsPathMark embargo_opened key embargo
  path_on fresh [] embargo mark = absurd mark
  path_on fresh (q ∷ path) embargo mark = (mark.0, embargo_on fresh (path_value (get s.values.questions q) path) embargo mark.1)

  its_embargo : IsEmbargoOf embargo_opened (Some value) (Some n)
  its_embargo = (sym (get_put s.marks.embargoes n value), refl)

  -- no mark is under one that isn't open
  under_none : get s.marks.embargoes n ≡ None → (v : Option Cap) → IsEmbargoOf s v (Some n) → ⊥
  under_none fresh v is = true≢false (sym is.1 ∙ ap is_some (is.0 ∙ fresh))

  no_mark : get s.marks.embargoes n ≡ None → (c : Cap) → mark_of s c ≡ Some (Some n) → ⊥
  no_mark fresh (caps.Import j) is = under_none fresh (import_value (get s.values.imports j))
      (there_of (IsImportMark s j) (get s.marks.imports j) (Some n) is (h.import_marks j)).1
  no_mark fresh (caps.Pipelined q path) is = under_none fresh (path_value (get s.values.questions q) path)
      (there_of (IsPathMark s (q ∷ path)) (get s.marks.paths (q ∷ path)) (Some n) is (h.path_marks (q ∷ path))).1
  no_mark fresh caps.None is = none_out is
  no_mark fresh (caps.Object k) is = none_out is
  no_mark fresh (caps.Promise p) is = none_out is
  no_mark fresh (caps.Broken x) is = none_out is

  -- marks that were there, and the new one
  abbrev IsNewOr : Cap → Cap → ℕ → Type 0
  IsNewOr it c m = ((c ≡ it) × (m ≡ n)) ⊎ (mark_of s c ≡ Some (Some m))

  one_by : get s.marks.embargoes n ≡ None → (it c d : Cap) (m : ℕ) → IsNewOr it c m → IsNewOr it d m → c ≡ d
  one_by fresh it c d m (inl a) (inl b) = a.0 ∙ sym b.0
  one_by fresh it c d m (inl a) (inr b) = absurd (no_mark fresh d (b ∙ ap (λ k. Some (Some k)) a.1))
  one_by fresh it c d m (inr a) (inl b) = absurd (no_mark fresh c (a ∙ ap (λ k. Some (Some k)) b.1))
  one_by fresh it c d m (inr a) (inr b) = h.one_mark c d m a b

module _ {s : State} {hand : Option Origin} (h : Within s hand []) (n : ℕ) (value : Cap) (fresh : get s.marks.embargoes n ≡ None)
    (not_over : get s.waiting.over.embargoes n ≡ None)
    (exportable : IsExportable s value) (waits : HasWaiting s n) (i : ℕ) (counted : is_some (get s.counts.imports i) ≡ true)
    (came : get s.values.imports i ≡ Some (Some value)) where
  abbrev import_embargoed : State
  import_embargoed = record s { marks = record s.marks { imports = insert s.marks.imports i (Some n); embargoes = insert s.marks.embargoes n value } }

  one_of : (c d : Cap) (m : ℕ) → IsNewOr h n value (caps.Import i) c m → IsNewOr h n value (caps.Import i) d m → c ≡ d
  one_of = one_by h n value fresh (caps.Import i)

  import_cases : (c : Cap) (m : ℕ) → mark_of import_embargoed c ≡ Some (Some m) → IsNewOr h n value (caps.Import i) c m
  import_cases (caps.Import j) m is = by (i == j) refl
    where
      by : (b : Bool) → (i == j) ≡ b → IsNewOr h n value (caps.Import i) (caps.Import j) m
      by true t = inl (ap caps.Import (sym (is_equal i j t)), sym (some_out (some_out (sym (put_at s.marks.imports i j (Some n) true t) ∙ is))))
      by false t = inr (sym (put_at s.marks.imports i j (Some n) false t) ∙ is)
  import_cases (caps.Pipelined q path) m is = inr is
  import_cases caps.None m is = none_out is
  import_cases (caps.Object k) m is = none_out is
  import_cases (caps.Promise p) m is = none_out is
  import_cases (caps.Broken x) m is = none_out is

  here : IsImportMark import_embargoed i (Some n)
  here = (counted, rw (came) (its_embargo h n value))

  pub embargoes_import : Within import_embargoed hand []
  embargoes_import =
      let new : State = import_embargoed in
      record {
        over_answers = h.over_answers;
        over_promises = h.over_promises;
        over_questions = h.over_questions;
        over_embargoes = λ m v is. over_put h n value not_over m v (n == m) refl is;
        gifts = h.gifts;
        answers = h.answers;
        questions = h.questions;
        waiting = h.waiting;
        forwards = h.forwards;
        wire = h.wire;
        forwarding = h.forwarding;
        gates_kept = h.gates_kept;
        sendable = h.sendable;
        tied = h.tied;
        untied = h.untied;
        owned = h.owned;
        counts = h.counts;
        imported = h.imported;
        exports = h.exports;
        one_export = h.one_export;
        there = embargo_there h n value exportable;
        ends = all_end new h.ends.values_ (embargo_there h n value exportable);
        embargoed = each_put (λ m. IsExportable s) (λ m. IsExportable new) s.marks.embargoes n value h.embargoed exportable (λ m c other is x. x);
        plain = h.plain;
        finished = h.finished;
        answers_valued = h.answers_valued;
        questions_valued = h.questions_valued;
        imports_valued = h.imports_valued;
        import_marks = each_put (IsImportMark s) (IsImportMark new) s.marks.imports i (Some n) h.import_marks here
            (λ j embargo other is x. (x.0, embargo_on h n value fresh (import_value (get s.values.imports j)) embargo x.1));
        path_marks = λ key. here_of _ (get s.marks.paths key) (λ embargo is.
            path_on h n value fresh key embargo (there_of (IsPathMark s key) (get s.marks.paths key) embargo is (h.path_marks key)));
        one_mark = λ c d m is also. one_of c d m (import_cases c m is) (import_cases d m also);
        waited_for = each_put (λ m v. HasWaiting s m) (λ m v. HasWaiting new m) s.marks.embargoes n value h.waited_for waits (λ m v other is x. x);
      }

module _ {s : State} {hand : Option Origin} (h : Within s hand []) (n : ℕ) (value : Cap) (fresh : get s.marks.embargoes n ≡ None)
    (not_over : get s.waiting.over.embargoes n ≡ None)
    (exportable : IsExportable s value) (waits : HasWaiting s n) (q : ℕ) (path : List ℕ) (wire : is_wire (get s.values.questions q) ≡ true)
    (came : path_value (get s.values.questions q) path ≡ Some value) where
  abbrev path_embargoed : State
  path_embargoed = record s { marks = record s.marks { paths = insert s.marks.paths (q ∷ path) (Some n); embargoes = insert s.marks.embargoes n value } }

  one_of_paths : (c d : Cap) (m : ℕ) → IsNewOr h n value (caps.Pipelined q path) c m → IsNewOr h n value (caps.Pipelined q path) d m → c ≡ d
  one_of_paths = one_by h n value fresh (caps.Pipelined q path)

  same_path : (r : ℕ) (other : List ℕ) → r ∷ other ≡ q ∷ path → caps.Pipelined r other ≡ caps.Pipelined q path
  same_path r other is = cc

  path_cases : (c : Cap) (m : ℕ) → mark_of path_embargoed c ≡ Some (Some m) → IsNewOr h n value (caps.Pipelined q path) c m
  path_cases (caps.Import j) m is = inr is
  path_cases (caps.Pipelined r other) m is = by (eq_by_cmp (slice_cmp nat_cmp) (r ∷ other) (q ∷ path)) refl
    where
      by : (b : Bool) → eq_by_cmp (slice_cmp nat_cmp) (r ∷ other) (q ∷ path) ≡ b → IsNewOr h n value (caps.Pipelined q path) (caps.Pipelined r other) m
      by true t = inl (
        same_path r other (same_key (r ∷ other) (q ∷ path) t),
        sym
            (some_out (some_out (sym (put_key s.marks.paths (q ∷ path) (r ∷ other) (Some n) true t) ∙ is))),
      )
      by false t = inr (sym (put_key s.marks.paths (q ∷ path) (r ∷ other) (Some n) false t) ∙ is)
  path_cases caps.None m is = none_out is
  path_cases (caps.Object k) m is = none_out is
  path_cases (caps.Promise p) m is = none_out is
  path_cases (caps.Broken x) m is = none_out is

  import_on : (j : ℕ) (embargo : Option ℕ) → IsImportMark s j embargo → IsImportMark path_embargoed j embargo
  import_on j embargo mark = (mark.0, embargo_on h n value fresh (import_value (get s.values.imports j)) embargo mark.1)

  path_after : (key : List ℕ) (b : Bool) → eq_by_cmp (slice_cmp nat_cmp) key (q ∷ path) ≡ b
      → IfSome (get path_embargoed.marks.paths key) (IsPathMark path_embargoed key)
  path_after key true t = rw (put_key s.marks.paths (q ∷ path) key (Some n) true t, same_key key (q ∷ path) t) (wire, here_embargo)
    where
      here_embargo : IsEmbargoOf path_embargoed (path_value (get s.values.questions q) path) (Some n)
      here_embargo = rw (came) (its_embargo h n value)
  path_after key false t = rw (put_key s.marks.paths (q ∷ path) key (Some n) false t) (old (get s.marks.paths key) refl)
    where
      old : (o : Option (Option ℕ)) → get s.marks.paths key ≡ o → IfSome o (IsPathMark path_embargoed key)
      old None at = tt
      old (Some embargo) at = path_on h n value fresh key embargo (there_of (IsPathMark s key) (get s.marks.paths key) embargo at (h.path_marks key))

  pub embargoes_path : Within path_embargoed hand []
  embargoes_path =
      let new : State = path_embargoed in
      record {
        over_answers = h.over_answers;
        over_promises = h.over_promises;
        over_questions = h.over_questions;
        over_embargoes = λ m v is. over_put h n value not_over m v (n == m) refl is;
        gifts = h.gifts;
        answers = h.answers;
        questions = h.questions;
        waiting = h.waiting;
        forwards = h.forwards;
        wire = h.wire;
        forwarding = h.forwarding;
        gates_kept = h.gates_kept;
        sendable = h.sendable;
        tied = h.tied;
        untied = h.untied;
        owned = h.owned;
        counts = h.counts;
        imported = h.imported;
        exports = h.exports;
        one_export = h.one_export;
        there = embargo_there h n value exportable;
        ends = all_end new h.ends.values_ (embargo_there h n value exportable);
        embargoed = each_put (λ m. IsExportable s) (λ m. IsExportable new) s.marks.embargoes n value h.embargoed exportable (λ m c other is x. x);
        plain = h.plain;
        finished = h.finished;
        answers_valued = h.answers_valued;
        questions_valued = h.questions_valued;
        imports_valued = h.imports_valued;
        import_marks = λ j. here_of _ (get s.marks.imports j) (λ embargo is.
            import_on j embargo (there_of (IsImportMark s j) (get s.marks.imports j) embargo is (h.import_marks j)));
        path_marks = λ key. path_after key (eq_by_cmp (slice_cmp nat_cmp) key (q ∷ path)) refl;
        one_mark = λ c d m is also. one_of_paths c d m (path_cases c m is) (path_cases d m also);
        waited_for = each_put (λ m v. HasWaiting s m) (λ m v. HasWaiting new m) s.marks.embargoes n value h.waited_for waits (λ m v other is x. x);
      }
