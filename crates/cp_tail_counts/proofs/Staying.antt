-- A turn that changes no answer leaves what is kept as it is, and so are questions that wait, but for some.
use Rattle.std.specs.Prelude.{◌≡◌, refl, ℕ, ◌⊎◌, Bool, false, List, Option, Some, None, IfSome}
use Rattle.std.specs.FinMap.{get}
use Rattle.std.proofs.Common.{◌∙◌, inl, inr}
use Rattle.cp_messages.specs.declared.message.Message.TheVariants as messages
use Rattle.cp_vat_pair_laws.specs.Ledger.{Traffic}
use Rattle.cp_vat_pair_laws.specs.Accounts.{Accounts}
use Rattle.cp_tail_calls.specs.declared.forwarding.ForwardedMessage.{ForwardedMessage}
use Rattle.cp_tail_calls.specs.declared.forwarding.ForwardedMessage.TheVariants as owed
use Rattle.cp_tail_calls.specs.declared.progress.Progress.{Progress}
use Rattle.cp_tail_calls.specs.declared.progress.Progress.TheVariants as progress
use Rattle.cp_tail_calls.specs.Tails.{Tails}
use Rattle.cp_tail_counts.specs.Counts.{owed_for, owed_below}
use Rattle.cp_tail_counts.proofs.Sums.{sum_same}
use Rattle.cp_tail_counts.proofs.Holds.{any, returns_one, lowers, lowers_all, IsRight, AreRight, IsTakers, Holds, stay_right, lower_same}
use Rattle.cp_tail_counts.proofs.Questions.{Stays}

module _ (most : ℕ) (past : List Traffic) (t : Tails) (old new : Accounts) (h : Holds most past t old) (skip : ℕ → Bool)
    (same : (q : ℕ) → new.answers q ≡ old.answers q) (stays : (q : ℕ) → skip q ≡ false → Stays (old.questions q) (new.questions q))
    (free : (a q : ℕ) → get t.takers a ≡ Some q → skip a ≡ false) where
  takers_by : (q : ℕ) (o : Option Progress) → IfSome o (IsTakers t.takers old q) → IfSome o (IsTakers t.takers new q)
  takers_by q (Some (progress.Taken taker)) taking = (taking.0, (stays taker.question (free taker.question q taking.0) taking.1).0)
  takers_by q (Some progress.Untaken) taking = tt
  takers_by q (Some progress.Given) taking = tt
  takers_by q (Some progress.GivenUp) taking = tt
  takers_by q None taking = tt

  pub still_takers : (q : ℕ) → IfSome (get t.calls q) (IsTakers t.takers new q)
  still_takers q = takers_by q (get t.calls q) (h.takers q)

  owed_by : (e q : ℕ) (o : Option Progress) → IfSome o (IsTakers t.takers old q) → owed_for e new q o ≡ owed_for e old q o
  owed_by e q (Some (progress.Taken taker)) taking = rw (same q, (stays taker.question (free taker.question q taking.0) taking.1).1) refl
  owed_by e q (Some progress.Untaken) taking = rw (same q) refl
  owed_by e q (Some progress.Given) taking = rw (same q) refl
  owed_by e q (Some progress.GivenUp) taking = rw (same q) refl
  owed_by e q None taking = refl

  pub still_owed : (e : ℕ) → owed_below most e new t ≡ owed_below most e old t
  still_owed e =
      sum_same (λ q. owed_for e old q (get t.calls q)) (λ q. owed_for e new q (get t.calls q)) most (λ q. owed_by e q (get t.calls q) (h.takers q))

  right_by : (o : ForwardedMessage) → returns_one skip o ≡ false → IsRight t.calls t.takers old o → IsRight t.calls t.takers new o
  right_by (owed.ToPeer m) none right = (right.0, right.1, by right.2)
    where
      by : (get t.calls right.0 ≡ Some progress.Given) ⊎ (old.answers right.0 ≡ None) → (get t.calls right.0 ≡ Some progress.Given) ⊎ (new.answers right.0 ≡ None)
      by (inl given) = inl given
      by (inr gone) = inr (same right.0 ∙ gone)
  right_by (owed.ToVat (messages.Return r)) none right = ((stays r.answer_id none right.0).0, right.1, right.2, right.3)
  right_by (owed.ToVat (messages.Finish f)) none right = (right.0, right.1, rw (same f.question_id) right.2)
  right_by (owed.ToVat m) none right = absurd right

  lowers_by : (e : ℕ) (o : ForwardedMessage) → returns_one skip o ≡ false → IsRight t.calls t.takers old o → lowers e new o ≡ lowers e old o
  lowers_by e (owed.ToVat (messages.Return r)) none right = rw ((stays r.answer_id none right.0).1) refl
  lowers_by e (owed.ToVat (messages.Finish f)) none right = rw (same f.question_id) refl
  lowers_by e o none right = refl

  pub still_right : (os : List ForwardedMessage) → any (returns_one skip) os ≡ false → AreRight t.calls t.takers old os → AreRight t.calls t.takers new os
  still_right os none right = stay_right t.calls t.calls t.takers t.takers old new (returns_one skip) os none (λ o none right. right_by o none right) right

  pub still_lowers : (e : ℕ) (os : List ForwardedMessage) → any (returns_one skip) os ≡ false → AreRight t.calls t.takers old os
      → lowers_all e new os ≡ lowers_all e old os
  still_lowers e os none right =
      lower_same t.calls t.calls t.takers t.takers old new e (returns_one skip) os none (λ o none right. lowers_by e o none right) right
