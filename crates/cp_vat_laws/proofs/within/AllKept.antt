-- What holds of all capabilities that a vat keeps, where one of its parts changes.
use Rattle.std.specs.Prelude.{◌≡◌, ℕ, zero, suc, List, [], ◌∷◌, slice_index_or, Option, Some}
use Rattle.std.specs.List.{AllByRecursion}
use Rattle.std.specs.FinMap.{insert, remove}
use Rattle.std.proofs.Common.{inl, inr, ap, ◌∙◌}
use Rattle.cp_tree.specs.Node.{Node}
use Rattle.cp_tree.specs.Node as nodes
use Rattle.cp_tables.specs.Table.{Table}
use Rattle.cp_tables.specs.declared.counted.Counted.{Counted}
use Rattle.cp_messages.specs.declared.exception.Exception.{Exception}
use Rattle.cp_refs.specs.At.{cap_at, cap_in, node_along}
use Rattle.cp_refs.specs.Values.{ValueMaps}
use Rattle.cp_refs.specs.declared.cap.Cap.{Cap}
use Rattle.cp_refs.specs.declared.cap.Cap.TheVariants as caps
use Rattle.cp_refs.specs.declared.call.WaitingCall.{WaitingCall}
use Rattle.cp_refs.specs.declared.outcome.Outcome.{Outcome}
use Rattle.cp_refs.specs.declared.outcome.Outcome.TheVariants as outcomes
use Rattle.cp_refs.specs.declared.values.QuestionState.{QuestionState}
use Rattle.cp_vat_machine.specs.InUse.{caps_of}
use Rattle.cp_vat_laws.specs.Within.{AreValues, AreKept}
use Rattle.cp_vat_laws.proofs.Tables.{put_cases, gone_cases, all_of, each_kept}

module _ (P : Cap → Type 0) where
  at_index : (table : List Cap) (i : ℕ) → P caps.None → AllByRecursion P table → P (slice_index_or table i caps.None)
  at_index [] i none all = none
  at_index (cap ∷ table) zero none all = all.0
  at_index (cap ∷ table) (suc i) none all = at_index table i none all.1

  in_table : (table : List Cap) (t : Node) → P caps.None → AllByRecursion P table → P (cap_in table t)
  in_table table (nodes.cap i) none all = at_index table i none all
  in_table table t none all = none

  -- what an outcome gives at a path is one of its capabilities, or none
  pub at_path : (outcome : Outcome) (path : List ℕ) → P caps.None → ((x : Exception) → P (caps.Broken x)) → AllByRecursion P (caps_of outcome)
      → P (cap_at outcome path)
  at_path (outcomes.Results content table) path none broken all = in_table table (node_along content path) none all
  at_path (outcomes.Failed x) path none broken all = broken x
  at_path outcomes.Canceled path none broken all = broken _

  -- values where one is new, or gone
  module _ (values : ValueMaps) (h : AreValues P values) where
    pub promise_put : (p : ℕ) (o : Option Cap) → ((v : Cap) → o ≡ Some v → P v) → AreValues P (record values { promises = insert values.promises p o })
    promise_put p o here =
        record {
          promises = λ q v is. elim (put_cases values.promises p q o (Some v) is) [ inl new ↦ here v new.1 | inr old ↦ h.promises q v old.1 ];
          imports = h.imports;
          answers = h.answers;
          questions = h.questions;
        }

    pub promise_gone : (p : ℕ) → AreValues P (record values { promises = remove values.promises p })
    promise_gone p =
        record {
          promises = λ q v is. h.promises q v (gone_cases values.promises p q (Some v) is).1;
          imports = h.imports;
          answers = h.answers;
          questions = h.questions;
        }

    pub import_put : (i : ℕ) (o : Option Cap) → ((v : Cap) → o ≡ Some v → P v) → AreValues P (record values { imports = insert values.imports i o })
    import_put i o here =
        record {
          promises = h.promises;
          imports = λ j v is. elim (put_cases values.imports i j o (Some v) is) [ inl new ↦ here v new.1 | inr old ↦ h.imports j v old.1 ];
          answers = h.answers;
          questions = h.questions;
        }

    pub import_gone : (i : ℕ) → AreValues P (record values { imports = remove values.imports i })
    import_gone i =
        record {
          promises = h.promises;
          imports = λ j v is. h.imports j v (gone_cases values.imports i j (Some v) is).1;
          answers = h.answers;
          questions = h.questions;
        }

    pub answer_put : (a : ℕ) (o : Option Outcome) → ((v : Outcome) → o ≡ Some v → AllByRecursion P (caps_of v))
        → AreValues P (record values { answers = insert values.answers a o })
    answer_put a o here =
        record {
          promises = h.promises;
          imports = h.imports;
          answers = λ b v is. elim (put_cases values.answers a b o (Some v) is) [ inl new ↦ here v new.1 | inr old ↦ h.answers b v old.1 ];
          questions = h.questions;
        }

    pub answer_gone : (a : ℕ) → AreValues P (record values { answers = remove values.answers a })
    answer_gone a =
        record {
          promises = h.promises;
          imports = h.imports;
          answers = λ b v is. h.answers b v (gone_cases values.answers a b (Some v) is).1;
          questions = h.questions;
        }

    pub question_put : (q : ℕ) (question : QuestionState) → ((v : Outcome) → question.outcome ≡ Some v → AllByRecursion P (caps_of v))
        → AreValues P (record values { questions = insert values.questions q question })
    question_put q question here =
        record {
          promises = h.promises;
          imports = h.imports;
          answers = h.answers;
          questions = λ r v outcome is given.
              elim (put_cases values.questions q r question v is) [
                | inl new ↦ here outcome (ap (λ x. x.outcome) new.1 ∙ given)
                | inr old ↦ h.questions r v outcome old.1 given
              ];
        }

    pub question_gone : (q : ℕ) → AreValues P (record values { questions = remove values.questions q })
    question_gone q =
        record {
          promises = h.promises;
          imports = h.imports;
          answers = h.answers;
          questions = λ r v outcome is given. h.questions r v outcome (gone_cases values.questions q r v is).1 given;
        }

-- what holds of each holds further
pub values_map : (P Q : Cap → Type 0) (values : ValueMaps) → ((c : Cap) → P c → Q c) → AreValues P values → AreValues Q values
values_map P Q values f h =
    record {
      promises = λ p v is. f v (h.promises p v is);
      imports = λ i v is. f v (h.imports i v is);
      answers = λ a outcome is. all_of P Q (caps_of outcome) f (h.answers a outcome is);
      questions = λ q question outcome is given. all_of P Q (caps_of outcome) f (h.questions q question outcome is given);
    }

pub both_all : (P Q : Cap → Type 0) (xs : List Cap) → AllByRecursion P xs → AllByRecursion Q xs → AllByRecursion (λ c. P c × Q c) xs
both_all P Q [] h k = tt
both_all P Q (c ∷ xs) h k = ((h.0, k.0), both_all P Q xs h.1 k.1)

pub values_both : (P Q : Cap → Type 0) (values : ValueMaps) → AreValues P values → AreValues Q values → AreValues (λ c. P c × Q c) values
values_both P Q values h k =
    record {
      promises = λ p v is. (h.promises p v is, k.promises p v is);
      imports = λ i v is. (h.imports i v is, k.imports i v is);
      answers = λ a outcome is. both_all P Q (caps_of outcome) (h.answers a outcome is) (k.answers a outcome is);
      questions = λ q question outcome is given. both_all P Q (caps_of outcome) (h.questions q question outcome is given)
          (k.questions q question outcome is given);
    }

module _ (P Q : Cap → Type 0) (values : ValueMaps) (calls : Table WaitingCall) (embargoes : Table Cap) (exports : Table (Counted Cap)) where
  pub kept_map : ((c : Cap) → P c → Q c) → AreKept P values calls embargoes exports → AreKept Q values calls embargoes exports
  kept_map f h =
      record {
        values_ = values_map P Q values f h.values_;
        calls_ = each_kept (λ t call. AllByRecursion P call.request.caps) (λ t call. AllByRecursion Q call.request.caps) calls 0 h.calls_
            (λ t call is. all_of P Q call.request.caps f);
        embargoes_ = each_kept (λ n. P) (λ n. Q) embargoes 0 h.embargoes_ (λ n c is. f c);
        exports_ = each_kept (λ e entry. P entry.kept) (λ e entry. Q entry.kept) exports 0 h.exports_ (λ e entry is. f entry.kept);
      }
