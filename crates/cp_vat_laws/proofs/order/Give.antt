-- An outcome that is given.
use Rattle.std.specs.Prelude.{◌≡◌, refl, ℕ, ◌==◌, not, cond, Bool, true, false, List, [], ◌∷◌, Option, Some, None, is_some, flat_map, IfSome, Ok}
use Rattle.std.specs.FinMap.{get, insert, remove, retain_keys, get-retain_keys, slice_cmp-IsAntisymmetric, nat_cmp-IsAntisymmetric}
use Rattle.std.proofs.Common.{arith, inl, inr, ap, subst, sym, ◌∙◌, true≢false}
use Rattle.cp_tables.specs.Table.{Table, with_change}
use Rattle.cp_tables.specs.declared.exchange.Stage.{Stage}
use Rattle.cp_tables.specs.declared.exchange.Stage.TheVariants as stages
use Rattle.cp_messages.specs.declared.returned.Returned.{Returned}
use Rattle.cp_messages.specs.declared.descriptor.Descriptor.{Descriptor}
use Rattle.cp_refs.specs.declared.cap.Cap.{Cap}
use Rattle.cp_refs.specs.declared.cap.Cap.TheVariants as caps
use Rattle.cp_refs.specs.declared.call.Origin.{Origin}
use Rattle.cp_refs.specs.declared.call.Origin.TheVariants as origins
use Rattle.cp_refs.specs.declared.outcome.Outcome.{Outcome}
use Rattle.cp_refs.specs.declared.outcome.Outcome.TheVariants as outcomes
use Rattle.cp_refs.specs.declared.values.QuestionState.{QuestionState}
use Rattle.cp_vat_machine.specs.State.{State, Exchanges}
use Rattle.cp_vat_machine.specs.Then.{Done}
use Rattle.cp_vat_machine.specs.Writing.{WritesDescriptors}
use Rattle.cp_vat_machine.specs.Give.{SettleTied, Returns, given, gone, GiveBy, answer_over, question_over, question_settled, is_path_of, without_question, GiveOwnBy, Give}
use Rattle.cp_vat_machine.specs.Calling.{mark_of}
use Rattle.cp_vat_machine.specs.Ports.{capability, is_there}
use Rattle.cp_vat_machine.specs.Exits.{exit_by, given_to}
use Rattle.cp_vat_machine.specs.declared.entry.AnswerEntry.{AnswerEntry}
use Rattle.cp_vat_machine.specs.declared.entry.Tied.{Tied}
use Rattle.cp_vat_machine.proofs.Basics.{some_out, none_out, is_equal, other_number, is_itself, ok_in, then_out, put_at, gone_at}
use Rattle.cp_vat_laws.proofs.order.Basics.{there_is}
use Rattle.cp_vat_laws.proofs.order.Passes.{Slot, outcome_of}
use Rattle.cp_vat_laws.proofs.order.Same.{same_slot, marks_same, fits_same}
use Rattle.cp_vat_laws.proofs.order.Closes.{Closes, closes_both}
use Rattle.cp_vat_laws.proofs.order.Settle.{IsOnly, all_only, only_closes, AreOpen, tied_closes}

-- an answer is over, and given or gone
module _ (s : State) (a : ℕ) (outcome : Outcome) (answers : Table (Option Outcome)) (entries : Exchanges) (open_ : get s.values.answers a ≡ Some None)
    (ungiven : get s.waiting.over.answers a ≡ None) (here : is_some (get answers a) ≡ true → get answers a ≡ Some (Some outcome))
    (others : (b : ℕ) → (a == b) ≡ false → get answers b ≡ get s.values.answers b) where
  abbrev ended : State
  ended = record (answer_over s a outcome) { values = record s.values { answers = answers }; entries = entries }

  answer_slot : (b : ℕ) (t : Bool) → (a == b) ≡ t
      → Slot (get s.values.answers b) (get answers b) (get s.waiting.over.answers b) (get (insert s.waiting.over.answers a outcome) b)
  answer_slot b true t =
      let old_is : get s.values.answers b ≡ Some None = rw (← is_equal a b t) open_ in
      let none : get s.waiting.over.answers b ≡ None = rw (← is_equal a b t) ungiven in
      record {
        over = λ x e. none_out (sym none ∙ e);
        set = λ x e some. none_out (some_out (sym old_is ∙ e));
        open_ = λ e given found. inr (outcome, λ some. subst (λ c. is_some (get answers c) ≡ true → get answers c ≡ Some (Some outcome)) (is_equal a b t) here some, put_at s.waiting.over.answers a b outcome true t);
      }
  answer_slot b false t = same_slot _ _ _ _ (others b t) (put_at s.waiting.over.answers a b outcome false t)

  answer_adds : (b : ℕ) (t : Bool) → (a == b) ≡ t → is_some (get answers b) ≡ true → is_some (get s.values.answers b) ≡ true
  answer_adds b true t some = rw (← is_equal a b t, open_) refl
  answer_adds b false t some = rw (← others b t) some

  answer_closes : Closes s ended
  answer_closes =
      record {
        passes =
            record {
              promises = λ q. same_slot _ _ _ _ refl refl;
              answers = λ b. answer_slot b (a == b) refl;
              questions = λ q. same_slot _ _ _ _ refl refl;
              kinds = λ q one other is there. ap (λ x. x.kind) (some_out (sym there ∙ is));
              imports = λ i x is some. is;
              embargoes = λ n x is none. inl (is, none);
              ended = λ n x is. is;
              marks = λ c g there found off fits. marks_same s ended c g refl refl fits;
              next = omega arith;
            };
        adds =
            record {
              promises = λ q some. some;
              answers = λ b some. answer_adds b (a == b) refl some;
              questions = λ q some. some;
              imports = λ i some. some;
            };
        calls = refl;
        embargoes = refl;
        next = refl;
      }

given_closes : (s : State) (a : ℕ) (kept : AnswerEntry) (outcome : Outcome) (returned : Returned) → get s.values.answers a ≡ Some None → get s.waiting.over.answers a ≡ None
    → Closes s (given s a kept outcome returned)
given_closes s a kept outcome returned open_ ungiven =
    answer_closes s a outcome (insert s.values.answers a (Some outcome)) (given s a kept outcome returned).entries open_ ungiven
    (λ some. put_at s.values.answers a a (Some outcome) true (is_itself a))
    (λ b t. put_at s.values.answers a b (Some outcome) false t)

gone_closes : (s : State) (a : ℕ) (outcome : Outcome) → get s.values.answers a ≡ Some None → get s.waiting.over.answers a ≡ None → Closes s (gone s a outcome)
gone_closes s a outcome open_ ungiven =
    answer_closes s a outcome (remove s.values.answers a) (gone s a outcome).entries open_ ungiven
    (λ some. absurd (true≢false (sym some ∙ ap is_some (gone_at s.values.answers a a true (is_itself a)))))
    (λ b t. gone_at s.values.answers a b false t)

pub returned_only : (s : State) (outcome : Outcome) (said : Returned × State) → Returns s outcome (Ok said) → IsOnly s said.1
returned_only s (outcomes.Results content table) said is =
    let parts = then_out {A = List Descriptor × State} {B = Returned × State} (WritesDescriptors s table) _ said is in
    rw (ok_in _ _ parts.2) (all_only table s parts.0 parts.1)
returned_only s (outcomes.Failed x) said is = rw (ok_in _ _ is) refl
returned_only s outcomes.Canceled said is = rw (ok_in _ _ is) refl

pub are_open_same : (s mid : State) (tied : List Tied) → mid.values.promises ≡ s.values.promises → mid.waiting.over.promises ≡ s.waiting.over.promises → AreOpen s tied → AreOpen mid tied
are_open_same s mid [] values over are = tt
are_open_same s mid (tied ∷ more) values over are =
    (ap (λ t. get t tied.promise) values ∙ are.0, ap (λ t. get t tied.promise) over ∙ are.1, are.2, are_open_same s mid more values over are.3)

-- What an outcome that is given does: its gate is over, and no call leaves.
pub record IsDone (s : State) (origin : Origin) (outcome : Outcome) (done : Done) : Type 0 where
  pub closes : Closes s done.1
  pub over : given_to done.1.waiting.over origin ≡ Some outcome
  pub quiet : (t : State) → flat_map (exit_by t) done.0 ≡ []

answer_by : (s : State) (a : ℕ) (outcome : Outcome) (kept : AnswerEntry) (stage : Stage) (done : Done) → GiveBy s a outcome kept stage (Ok done)
    → get s.values.answers a ≡ Some None → get s.waiting.over.answers a ≡ None → AreOpen s kept.tied → IsDone s (origins.Answer a) outcome done
answer_by s a outcome kept stages.Open done gives open_ ungiven are =
    let said = then_out {A = Returned × State} {B = Done} (Returns s outcome) _ done gives in
    let mid : State = given said.0.1 a kept outcome said.0.0 in
    let rest = then_out {A = Done} {B = Done} (SettleTied mid outcome kept.tied) _ done said.2 in
    let only = returned_only s outcome said.0 said.1 in
    let there = tied_closes kept.tied mid outcome rest.0 rest.1 (are_open_same s mid kept.tied (ap (λ x. x.values.promises) only) (ap (λ x. x.waiting.over.promises) only) are) in
    let here = given_closes said.0.1 a kept outcome said.0.0 (ap (λ x. get x.values.answers a) only ∙ open_) (ap (λ x. get x.waiting.over.answers a) only ∙ ungiven) in
    rw
    (ok_in _ _ rest.2)
    (record {
      closes = closes_both s mid rest.0.1 (closes_both s said.0.1 mid (only_closes s said.0.1 only) here) there.0;
      over = (there.0.passes.answers a).over outcome (put_at said.0.1.waiting.over.answers a a outcome true (is_itself a));
      quiet = λ t. there.1.exits t;
    })
answer_by s a outcome kept stages.Finished done gives open_ ungiven are =
    let mid : State = gone s a outcome in
    let rest = then_out {A = Done} {B = Done} (SettleTied mid outcome kept.tied) _ done gives in
    let there = tied_closes kept.tied mid outcome rest.0 rest.1 (are_open_same s mid kept.tied refl refl are) in
    rw
    (ok_in _ _ rest.2)
    (record {
      closes = closes_both s mid rest.0.1 (gone_closes s a outcome open_ ungiven) there.0;
      over = (there.0.passes.answers a).over outcome (put_at s.waiting.over.answers a a outcome true (is_itself a));
      quiet = λ t. there.1.exits t;
    })
answer_by s a outcome kept stages.Returned done gives open_ ungiven are = absurd gives

-- an own question is over, and settled or gone
abbrev with_outcome : QuestionState → Outcome → QuestionState
with_outcome question outcome = record question { outcome = Some outcome }

module _ (s : State) (q : ℕ) (outcome : Outcome) (question : QuestionState) (is : get s.values.questions q ≡ Some question) (none : question.outcome ≡ None)
    (ungiven : get s.waiting.over.questions q ≡ None) where
  open_is : outcome_of (get s.values.questions q) ≡ Some None
  open_is = rw (is) (ap (λ o. Some o) none)

  question_slot : (questions : Table QuestionState) → (is_some (outcome_of (get questions q)) ≡ true → outcome_of (get questions q) ≡ Some (Some outcome))
      → ((r : ℕ) → (q == r) ≡ false → get questions r ≡ get s.values.questions r) → (r : ℕ) (t : Bool) → (q == r) ≡ t
      → Slot (outcome_of (get s.values.questions r)) (outcome_of (get questions r)) (get s.waiting.over.questions r) (get (insert s.waiting.over.questions q outcome) r)
  question_slot questions here others r true t =
      let old_is : outcome_of (get s.values.questions r) ≡ Some None = rw (← is_equal q r t) open_is in
      let none_there : get s.waiting.over.questions r ≡ None = rw (← is_equal q r t) ungiven in
      record {
        over = λ x e. none_out (sym none_there ∙ e);
        set = λ x e some. none_out (some_out (sym old_is ∙ e));
        open_ = λ e given found. inr (outcome, λ some. subst (λ c. is_some (outcome_of (get questions c)) ≡ true → outcome_of (get questions c) ≡ Some (Some outcome)) (is_equal q r t) here some, put_at s.waiting.over.questions q r outcome true t);
      }
  question_slot questions here others r false t =
      same_slot _ _ _ _ (ap outcome_of (others r t)) (put_at s.waiting.over.questions q r outcome false t)

  -- it stands with its outcome
  abbrev kept_questions : Table QuestionState
  kept_questions = insert s.values.questions q (with_outcome question outcome)

  abbrev settled_by : Exchanges → State
  settled_by entries = record (question_over s q outcome) { values = record s.values { questions = kept_questions }; entries = entries }

  kept_kind : (r : ℕ) (t : Bool) → (q == r) ≡ t → (one other : QuestionState) → get s.values.questions r ≡ Some one → get kept_questions r ≡ Some other → other.kind ≡ one.kind
  kept_kind r true t one other at there =
      let old_is : get s.values.questions r ≡ Some question = rw (← is_equal q r t) is in
      let mine : question ≡ one = some_out (sym old_is ∙ at) in
      let its : with_outcome question outcome ≡ other = some_out (sym (put_at s.values.questions q r (with_outcome question outcome) true t) ∙ there) in
      sym (ap (λ x. x.kind) its) ∙ ap (λ x. x.kind) mine
  kept_kind r false t one other at there =
      ap (λ x. x.kind) (some_out (sym there ∙ put_at s.values.questions q r (with_outcome question outcome) false t ∙ at))

  kept_adds : (r : ℕ) (t : Bool) → (q == r) ≡ t → is_some (get kept_questions r) ≡ true → is_some (get s.values.questions r) ≡ true
  kept_adds r true t some = rw (← is_equal q r t, is) refl
  kept_adds r false t some = rw (← put_at s.values.questions q r (with_outcome question outcome) false t) some

  settled_closes : (entries : Exchanges) → Closes s (settled_by entries)
  settled_closes entries =
      record {
        passes =
            record {
              promises = λ p. same_slot _ _ _ _ refl refl;
              answers = λ a. same_slot _ _ _ _ refl refl;
              questions =
                  λ r.
                  question_slot kept_questions (λ some. ap outcome_of (put_at s.values.questions q q (with_outcome question outcome) true (is_itself q)))
                  (λ r t. put_at s.values.questions q r (with_outcome question outcome) false t) r (q == r) refl;
              kinds = λ r one other at there. kept_kind r (q == r) refl one other at there;
              imports = λ i x is some. is;
              embargoes = λ n x is none. inl (is, none);
              ended = λ n x is. is;
              marks = λ c g there found off fits. marks_same s (settled_by entries) c g refl refl fits;
              next = omega arith;
            };
        adds =
            record {
              promises = λ p some. some;
              answers = λ a some. some;
              questions = λ r some. kept_adds r (q == r) refl some;
              imports = λ i some. some;
            };
        calls = refl;
        embargoes = refl;
        next = refl;
      }

-- the marks of the paths of other questions
pub path_mark : (s : State) (q r : ℕ) (path : List ℕ) → (r == q) ≡ false
    → get (retain_keys s.marks.paths (λ key. not (is_path_of q key))) (r ∷ path) ≡ get s.marks.paths (r ∷ path)
path_mark s q r path t =
    get-retain_keys s.marks.paths (λ key. not (is_path_of q key)) (r ∷ path)
    (λ x tie. ap (λ k. not (is_path_of q k)) (sym (slice_cmp-IsAntisymmetric nat_cmp-IsAntisymmetric (r ∷ path) x tie)))
    ∙ ap (λ b. cond (not b) (get s.marks.paths (r ∷ path)) None) t

-- The mark of a reference whose question stays.
pub mark_stays : (s mid : State) (q : ℕ) (c : Cap) → mid.marks ≡ record s.marks { paths = retain_keys s.marks.paths (λ key. not (is_path_of q key)) }
    → ((r : ℕ) → is_some (get mid.values.questions r) ≡ true → (r == q) ≡ false) → is_there mid.values (capability c) ≡ true → mark_of mid c ≡ mark_of s c
mark_stays s mid q caps.None marks away there = refl
mark_stays s mid q (caps.Object k) marks away there = refl
mark_stays s mid q (caps.Promise p) marks away there = refl
mark_stays s mid q (caps.Import i) marks away there = ap (λ m. get m.imports i) marks
mark_stays s mid q (caps.Pipelined r path) marks away there = ap (λ m. get m.paths (r ∷ path)) marks ∙ path_mark s q r path (away r there)
mark_stays s mid q (caps.Broken x) marks away there = refl

-- the question is gone
module _ (s : State) (q : ℕ) (outcome : Outcome) (question : QuestionState) (is : get s.values.questions q ≡ Some question) (none : question.outcome ≡ None)
    (ungiven : get s.waiting.over.questions q ≡ None) where
  abbrev without : State
  without = without_question (question_over s q outcome) q

  away : (r : ℕ) (t : Bool) → (q == r) ≡ t → is_some (get (remove s.values.questions q) r) ≡ true → (r == q) ≡ false
  away r true t some = absurd (true≢false (sym some ∙ ap is_some (gone_at s.values.questions q r true t)))
  away r false t some = other_number q r t

  gone_adds : (r : ℕ) (t : Bool) → (q == r) ≡ t → is_some (get (remove s.values.questions q) r) ≡ true → is_some (get s.values.questions r) ≡ true
  gone_adds r true t some = rw (← is_equal q r t, is) refl
  gone_adds r false t some = rw (← gone_at s.values.questions q r false t) some

  gone_kind : (r : ℕ) (t : Bool) → (q == r) ≡ t → (one other : QuestionState) → get s.values.questions r ≡ Some one → get (remove s.values.questions q) r ≡ Some other → other.kind ≡ one.kind
  gone_kind r true t one other at there = none_out (sym (gone_at s.values.questions q r true t) ∙ there)
  gone_kind r false t one other at there = ap (λ x. x.kind) (some_out (sym there ∙ gone_at s.values.questions q r false t ∙ at))

  question_gone_closes : Closes s without
  question_gone_closes =
      record {
        passes =
            record {
              promises = λ p. same_slot _ _ _ _ refl refl;
              answers = λ a. same_slot _ _ _ _ refl refl;
              questions =
                  λ r.
                  question_slot s q outcome question is none ungiven (remove s.values.questions q)
                  (λ some. absurd (true≢false (sym some ∙ ap (λ o. is_some (outcome_of o)) (gone_at s.values.questions q q true (is_itself q)))))
                  (λ r t. gone_at s.values.questions q r false t) r (q == r) refl;
              kinds = λ r one other at there. gone_kind r (q == r) refl one other at there;
              imports = λ i x is some. is;
              embargoes = λ n x is none. inl (is, none);
              ended = λ n x is. is;
              marks =
                  λ c g there found off fits.
                  rw (mark_stays s without q c refl (λ r some. away r (q == r) refl some) found) (fits_same s without (mark_of s c) g refl fits);
              next = omega arith;
            };
        adds =
            record {
              promises = λ p some. some;
              answers = λ a some. some;
              questions = λ r some. gone_adds r (q == r) refl some;
              imports = λ i some. some;
            };
        calls = refl;
        embargoes = refl;
        next = refl;
      }

settled_is : (s : State) (q : ℕ) (outcome : Outcome) (question : QuestionState) → get s.values.questions q ≡ Some question
    → with_change s.values.questions q (λ one. record one { outcome = Some outcome }) ≡ insert s.values.questions q (with_outcome question outcome)
settled_is s q outcome question is = rw (is) refl

own_by : (s : State) (q : ℕ) (outcome : Outcome) (stage : Stage) (done : Done) → GiveOwnBy s q outcome stage (Ok done) → (question : QuestionState)
    → get s.values.questions q ≡ Some question → question.outcome ≡ None → get s.waiting.over.questions q ≡ None → IsDone s (origins.Own q) outcome done
own_by s q outcome stages.Open done gives question is none ungiven =
    let mid : State = question_settled s q outcome in
    let here = settled_closes s q outcome question is none ungiven mid.entries in
    let same : mid ≡ settled_by s q outcome question is none ungiven mid.entries =
    ap (λ t. record (question_over s q outcome) { values = record s.values { questions = t }; entries = mid.entries }) (settled_is s q outcome question is) in
    rw
    (ok_in _ _ gives)
    (record {
      closes = subst (λ m. Closes s m) (sym same) here;
      over = put_at s.waiting.over.questions q q outcome true (is_itself q);
      quiet = λ t. refl;
    })
own_by s q outcome stages.Finished done gives question is none ungiven =
    rw
    (ok_in _ _ gives)
    (record {
      closes = question_gone_closes s q outcome question is none ungiven;
      over = put_at s.waiting.over.questions q q outcome true (is_itself q);
      quiet = λ t. refl;
    })
own_by s q outcome stages.Returned done gives question is none ungiven = absurd gives

-- Nothing was given yet to whom an outcome is for.
abbrev pub IsUngiven : State → Origin → Type 0
IsUngiven s (origins.Answer a) =
    (get s.values.answers a ≡ Some None) × (get s.waiting.over.answers a ≡ None) × IfSome (get s.entries.answers a) (λ entry. AreOpen s entry.kept.tied)
IsUngiven s (origins.Own q) = (question : QuestionState) × (get s.values.questions q ≡ Some question) × (question.outcome ≡ None) × (get s.waiting.over.questions q ≡ None)

pub give_done : (s : State) (origin : Origin) (outcome : Outcome) (done : Done) → Give s origin outcome (Ok done) → IsUngiven s origin → IsDone s origin outcome done
give_done s (origins.Answer a) outcome done (entry, is, gives) may =
    answer_by s a outcome entry.kept entry.stage done gives may.0 may.1 (there_is (λ e. AreOpen s e.kept.tied) (get s.entries.answers a) entry is may.2)
give_done s (origins.Own q) outcome done (entry, is, gives) may = own_by s q outcome entry.stage done gives may.0 may.1 may.2 may.3
