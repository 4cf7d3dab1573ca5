-- How outcomes are given and promises are settled, found by computing.
use Rattle.std.specs.Prelude.{◌≡◌, refl, ℕ, not, List, [], ◌∷◌, ◌++◌, Some, Ok}
use Rattle.std.proofs.Common.{sym, ap, inl, inr}
use Rattle.std.specs.Ordering.{nat_cmp}
use Rattle.std.specs.FinMap.Entries.{where_key}
use Rattle.std.specs.Cmp.Lexicographic.{slice_cmp}
use Rattle.cp_tables.specs.declared.exchange.Stage.{Stage}
use Rattle.cp_tables.specs.declared.exchange.Stage.TheVariants as stages
use Rattle.cp_messages.specs.declared.returned.Returned.{Returned}
use Rattle.cp_messages.specs.declared.returned.Returned.TheVariants as returns
use Rattle.cp_messages.specs.declared.resolve.Resolution.TheVariants as resolutions
use Rattle.cp_refs.specs.At.{cap_at}
use Rattle.cp_refs.specs.declared.cap.Cap.{Cap}
use Rattle.cp_refs.specs.declared.cap.Cap.TheVariants as caps
use Rattle.cp_refs.specs.declared.call.Origin.{Origin}
use Rattle.cp_refs.specs.declared.call.Origin.TheVariants as origins
use Rattle.cp_refs.specs.declared.outcome.Outcome.{Outcome}
use Rattle.cp_refs.specs.declared.outcome.Outcome.TheVariants as outcomes
use Rattle.cp_vat_machine.specs.State.{State}
use Rattle.cp_vat_machine.specs.Then.{Then, after}
use Rattle.cp_vat_machine.specs.Give.{return_of, resolve_of, ResolvesEnd, Tells, value_for, last_for, Settle, SettleTied, Returns, returned_mentions, gone, GiveBy, GiveAnswer, question_settled, is_path_of, without_question, GiveOwnBy, GiveOwn, Give}
use Rattle.cp_vat_machine.specs.declared.effect.Effect.TheVariants as effects
use Rattle.cp_vat_machine.specs.declared.entry.AnswerEntry.{AnswerEntry}
use Rattle.cp_vat_machine.specs.declared.entry.Tied.{Tied}
use Rattle.test_vat.proofs.Known.{Known, state, without, remove_is, retain_path_is}
use Rattle.test_vat.proofs.Found.{Finds, lacks, found, beside, moved, follow, so, holding}
use Rattle.test_vat.proofs.Finding.{ending, under, nowhere, unknown, Promised, promised, find_said_end, find_all_said}
use Rattle.test_vat.proofs.Taking.{changed, changed_is}

abbrev pub find_resolution : (k : Known) (c : Cap) → Finds beside (ResolvesEnd (state k) c)
find_resolution k (caps.Broken x) = found (Ok (resolutions.Exception x, k)) refl
find_resolution k caps.None = follow _ (find_said_end k caps.None) (λ said. found (Ok (resolutions.Cap said.0, said.1)) refl)
find_resolution k (caps.Object n) = follow _ (find_said_end k (caps.Object n)) (λ said. found (Ok (resolutions.Cap said.0, said.1)) refl)
find_resolution k (caps.Promise p) = follow _ (find_said_end k (caps.Promise p)) (λ said. found (Ok (resolutions.Cap said.0, said.1)) refl)
find_resolution k (caps.Import i) = follow _ (find_said_end k (caps.Import i)) (λ said. found (Ok (resolutions.Cap said.0, said.1)) refl)
find_resolution k (caps.Pipelined q path) = follow _ (find_said_end k (caps.Pipelined q path)) (λ said. found (Ok (resolutions.Cap said.0, said.1)) refl)

abbrev pub find_told_by : (k : Known) (p : ℕ) (last : Cap) → Promised k p → Finds beside (Tells (state k) p last)
find_told_by k p last (nowhere none) = found (Ok ([], k)) (inl (none, refl))
find_told_by k p last (under e count is) =
    so (λ out holds. inr (e, (count, is), holds)) (follow _ (find_resolution k last) (λ said. found (Ok (resolve_of e said.0 ∷ [], said.1)) refl))
find_told_by k p last unknown = lacks

abbrev pub settled_known : Known → ℕ → Cap → Known
settled_known k p value = record k { promises = (p, Some value) ∷ k.promises; over_promises = (p, value) ∷ k.over_promises }

abbrev pub find_settled_to : (k : Known) (p : ℕ) (last : Cap) → Finds beside (Tells (state k) p last)
find_settled_to k p last = find_told_by k p last (promised k p)

abbrev pub find_settled : (k : Known) (p : ℕ) (value : Cap) → Finds beside (Settle (state k) p value)
find_settled k p value = ending k value _ (λ last. find_settled_to (settled_known k p (value_for p last value)) p (last_for p last))

abbrev pub find_tied_settled : (k : Known) (outcome : Outcome) (tied : List Tied) → Finds beside (SettleTied (state k) outcome tied)
find_tied_settled k outcome [] = found (Ok ([], k)) refl
find_tied_settled k outcome (tied ∷ more) =
    follow _ (find_settled k tied.promise (cap_at outcome tied.path)) (λ first.
    follow _ (find_tied_settled first.1 outcome more) (λ rest. found (Ok (first.0 ++ rest.0, rest.1)) refl))

abbrev pub find_returned : (k : Known) (outcome : Outcome) → Finds beside (Returns (state k) outcome)
find_returned k (outcomes.Results content table) =
    follow _ (find_all_said k table) (λ said. found (Ok (returns.Results (record { content = content; cap_table = said.0 }), said.1)) refl)
find_returned k (outcomes.Failed x) = found (Ok (returns.Exception x, k)) refl
find_returned k outcomes.Canceled = found (Ok (returns.Canceled, k)) refl

abbrev pub given_known : Known → ℕ → AnswerEntry → Outcome → Returned → Known
given_known k a kept outcome returned =
    record k {
      over_answers = (a, outcome) ∷ k.over_answers;
      answers = (a, Some outcome) ∷ k.answers;
      answering = (a, record { stage = stages.Returned; kept = record kept { mentions = returned_mentions returned; tied = [] } }) ∷ k.answering;
    }

abbrev pub gone_known : Known → ℕ → Outcome → Known
gone_known k a outcome =
    record k { over_answers = (a, outcome) ∷ k.over_answers; answers = without k.answers a; answering = without k.answering a }

pub gone_is : (k : Known) (a : ℕ) (outcome : Outcome) → gone (state k) a outcome ≡ state (gone_known k a outcome)
gone_is k a outcome =
    let over : State = state (record k { over_answers = (a, outcome) ∷ k.over_answers }) in λ i.
    record over {
      values = record over.values { answers = remove_is k.answers a i };
      entries = record over.entries { answers = remove_is k.answering a i };
    }

abbrev pub find_given_by : (k : Known) (a : ℕ) (outcome : Outcome) (kept : AnswerEntry) (stage : Stage) → Finds beside (GiveBy (state k) a outcome kept stage)
find_given_by k a outcome kept stages.Open =
    follow _ (find_returned k outcome) (λ said.
    follow _ (find_tied_settled (given_known said.1 a kept outcome said.0) outcome kept.tied) (λ rest. found (Ok (return_of a said.0 ∷ rest.0, rest.1)) refl))
find_given_by k a outcome kept stages.Finished =
    moved
    (λ s. Then (SettleTied s outcome kept.tied) (λ rest out. out ≡ Ok (after (return_of a returns.Canceled ∷ []) rest)))
    (gone_is k a outcome)
    (follow _ (find_tied_settled (gone_known k a outcome) outcome kept.tied) (λ rest. found (Ok (return_of a returns.Canceled ∷ rest.0, rest.1)) refl))
find_given_by k a outcome kept stages.Returned = lacks

abbrev pub find_answer_given : (k : Known) (a : ℕ) (outcome : Outcome) → Finds beside (GiveAnswer (state k) a outcome)
find_answer_given k a outcome = holding k.answering a (λ entry. GiveBy (state k) a outcome entry.kept entry.stage) (λ entry. find_given_by k a outcome entry.kept entry.stage)

abbrev pub question_known : Known → ℕ → Outcome → Known
question_known k q outcome =
    record k {
      over_questions = (q, outcome) ∷ k.over_questions;
      questions = changed k.questions q (λ question. record question { outcome = Some outcome });
      asked = changed k.asked q (λ entry. record entry { stage = stages.Returned });
    }

pub question_is : (k : Known) (q : ℕ) (outcome : Outcome) → question_settled (state k) q outcome ≡ state (question_known k q outcome)
question_is k q outcome =
    let over : State = state (record k { over_questions = (q, outcome) ∷ k.over_questions }) in λ i.
    record over {
      values = record over.values { questions = changed_is k.questions q (λ question. record question { outcome = Some outcome }) i };
      entries = record over.entries { questions = changed_is k.asked q (λ entry. record entry { stage = stages.Returned }) i };
    }

abbrev pub without_question_known : Known → ℕ → Known
without_question_known k q =
    record k {
      questions = without k.questions q;
      asked = without k.asked q;
      marked_paths = where_key (slice_cmp nat_cmp) (λ key. not (is_path_of q key)) k.marked_paths;
    }

pub without_question_is : (k : Known) (q : ℕ) → without_question (state k) q ≡ state (without_question_known k q)
without_question_is k q = λ i.
    record (state k) {
      values = record (state k).values { questions = remove_is k.questions q i };
      entries = record (state k).entries { questions = remove_is k.asked q i };
      marks = record (state k).marks { paths = retain_path_is k.marked_paths (λ key. not (is_path_of q key)) i };
    }

abbrev pub find_own_given_by : (k : Known) (q : ℕ) (outcome : Outcome) (stage : Stage) → Finds beside (GiveOwnBy (state k) q outcome stage)
find_own_given_by k q outcome stages.Open =
    found (Ok (effects.Settled q outcome ∷ [], question_known k q outcome)) (ap (λ s. Ok (effects.Settled q outcome ∷ [], s)) (sym (question_is k q outcome)))
find_own_given_by k q outcome stages.Finished =
    let over : Known = record k { over_questions = (q, outcome) ∷ k.over_questions } in
    found (Ok ([], without_question_known over q)) (ap (λ s. Ok ([], s)) (sym (without_question_is over q)))
find_own_given_by k q outcome stages.Returned = lacks

abbrev pub find_own_given : (k : Known) (q : ℕ) (outcome : Outcome) → Finds beside (GiveOwn (state k) q outcome)
find_own_given k q outcome = holding k.asked q (λ entry. GiveOwnBy (state k) q outcome entry.stage) (λ entry. find_own_given_by k q outcome entry.stage)

abbrev pub find_given : (k : Known) (origin : Origin) (outcome : Outcome) → Finds beside (Give (state k) origin outcome)
find_given k (origins.Answer a) outcome = find_answer_given k a outcome
find_given k (origins.Own q) outcome = find_own_given k q outcome
