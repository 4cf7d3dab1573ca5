-- A turn that changes what is kept of one number, of an answer and of a call, leaves the others as they were.
use Rattle.std.specs.Prelude.{◌≡◌, refl, ℕ, ◌+◌, ◌<◌, ◌==◌, ◌⊎◌, Bool, true, false, List, Option, Some, None, is_some, IfSome, IsTrue}
use Rattle.std.specs.FinMap.{get}
use Rattle.std.proofs.Common.{sym, ap, subst, ◌∙◌, inl, inr}
use Rattle.cp_messages.specs.declared.message.Message.TheVariants as messages
use Rattle.cp_tables.specs.declared.exchange.Stage.TheVariants as stages
use Rattle.cp_vat_machine.specs.Receiving.{times}
use Rattle.cp_vat_machine.proofs.Basics.{is_equal}
use Rattle.cp_vat_pair_laws.specs.Ledger.{Traffic, results_of}
use Rattle.cp_vat_pair_laws.specs.Accounts.{Accounts, results_in}
use Rattle.cp_tail_calls.specs.declared.forwarding.ForwardedMessage.{ForwardedMessage}
use Rattle.cp_tail_calls.specs.declared.forwarding.ForwardedMessage.TheVariants as owed
use Rattle.cp_tail_calls.specs.declared.progress.Progress.{Progress}
use Rattle.cp_tail_calls.specs.declared.progress.Progress.TheVariants as progress
use Rattle.cp_tail_calls.specs.Tails.{Tails}
use Rattle.cp_tail_counts.specs.Counts.{owed_to, owed_for, owed_below}
use Rattle.cp_tail_counts.proofs.Sums.{sum_same, sum_change}
use Rattle.cp_tail_counts.proofs.Holds.{any, is_finish_of, lowers, IsAt, IsRight, IsKeptAs, IsTakers, Holds}

-- but for this number, calls, results, answers, and what the peer knows of these stay; so do all questions, and who takes results for other calls
pub record Locally (k : ℕ) (past later : List Traffic) (t last : Tails) (old new : Accounts) : Type 0 where
  pub calls : (q : ℕ) → (k == q) ≡ false → get last.calls q ≡ get t.calls q
  pub results : (q : ℕ) → (k == q) ≡ false → get last.results q ≡ get t.results q
  pub answers : (q : ℕ) → (k == q) ≡ false → new.answers q ≡ old.answers q
  pub peers : (q : ℕ) → (k == q) ≡ false → results_of later q ≡ results_of past q
  pub finishing : (q : ℕ) → (k == q) ≡ false → any (is_finish_of q) last.owed ≡ any (is_finish_of q) t.owed
  pub questions : (q : ℕ) → new.questions q ≡ old.questions q
  pub takers : (a q : ℕ) → (k == q) ≡ false → get t.takers a ≡ Some q → get last.takers a ≡ Some q

module _ (most k : ℕ) (past later : List Traffic) (t last : Tails) (old new : Accounts) (h : Holds most past t old) (is : Locally k past later t last old new) where
  pub all_answers : IsKeptAs (get last.calls k) (new.answers k) (get last.results k) (results_of later k) (any (is_finish_of k) last.owed)
      → (q : ℕ) → IsKeptAs (get last.calls q) (new.answers q) (get last.results q) (results_of later q) (any (is_finish_of q) last.owed)
  all_answers here q = by (k == q) refl
    where
      by : (b : Bool) → (k == q) ≡ b → IsKeptAs (get last.calls q) (new.answers q) (get last.results q) (results_of later q) (any (is_finish_of q) last.owed)
      by true e =
          subst
          (λ (q : ℕ). IsKeptAs (get last.calls q) (new.answers q) (get last.results q) (results_of later q) (any (is_finish_of q) last.owed))
          (is_equal k q e)
          here
      by false e = rw (is.calls q e, is.answers q e, is.results q e, is.peers q e, is.finishing q e) (h.answers q)

  stays_takers : (q : ℕ) (how : Progress) → (k == q) ≡ false → IsTakers t.takers old q how → IsTakers last.takers new q how
  stays_takers q (progress.Taken taker) e taking = (is.takers taker.question q e taking.0, rw (is.questions taker.question) taking.1)
  stays_takers q progress.Untaken e taking = tt
  stays_takers q progress.Given e taking = tt
  stays_takers q progress.GivenUp e taking = tt

  pub all_takers : IfSome (get last.calls k) (IsTakers last.takers new k) → (q : ℕ) → IfSome (get last.calls q) (IsTakers last.takers new q)
  all_takers here q = by (k == q) refl
    where
      stay : (o : Option Progress) → (k == q) ≡ false → IfSome o (IsTakers t.takers old q) → IfSome o (IsTakers last.takers new q)
      stay None e taking = tt
      stay (Some how) e taking = stays_takers q how e taking

      by : (b : Bool) → (k == q) ≡ b → IfSome (get last.calls q) (IsTakers last.takers new q)
      by true e = subst (λ (q : ℕ). IfSome (get last.calls q) (IsTakers last.takers new q)) (is_equal k q e) here
      by false e = rw (is.calls q e) (stay (get t.calls q) e (h.takers q))

  pub all_below : (IsTrue (is_some (get last.calls k)) → k < most) → (q : ℕ) → IsTrue (is_some (get last.calls q)) → q < most
  all_below here q some = by (k == q) refl some
    where
      by : (b : Bool) → (k == q) ≡ b → IsTrue (is_some (get last.calls q)) → q < most
      by true e some = subst (λ (q : ℕ). IsTrue (is_some (get last.calls q)) → q < most) (is_equal k q e) here some
      by false e some = h.below q (subst (λ (o : Option Progress). IsTrue (is_some o)) (is.calls q e) some)

  -- what is owed for other calls
  owed_to_same : (e : ℕ) (how : Progress) → owed_to e new how ≡ owed_to e old how
  owed_to_same e (progress.Taken taker) = rw (is.questions taker.question) refl
  owed_to_same e progress.Untaken = refl
  owed_to_same e progress.Given = refl
  owed_to_same e progress.GivenUp = refl

  owed_off : (e q : ℕ) → (k == q) ≡ false → owed_for e new q (get last.calls q) ≡ owed_for e old q (get t.calls q)
  owed_off e q apart = rw (is.calls q apart) (by (get t.calls q))
    where
      by : (o : Option Progress) → owed_for e new q o ≡ owed_for e old q o
      by None = refl
      by (Some how) = rw (is.answers q apart) (ap (λ (n : ℕ). times e (results_in (old.answers q)) + n) (owed_to_same e how))

  pub owed_change : (e : ℕ) → k < most
      → owed_below most e new last + owed_for e old k (get t.calls k) ≡ owed_below most e old t + owed_for e new k (get last.calls k)
  owed_change e small =
      sum_change (λ q. owed_for e old q (get t.calls q)) (λ q. owed_for e new q (get last.calls q)) k most small (λ q apart. owed_off e q apart)

  pub owed_same : (e : ℕ) → get t.calls k ≡ None → get last.calls k ≡ None → owed_below most e new last ≡ owed_below most e old t
  owed_same e before after =
      sum_same (λ q. owed_for e old q (get t.calls q)) (λ q. owed_for e new q (get last.calls q)) most (λ q. by q (k == q) refl)
    where
      by : (q : ℕ) (b : Bool) → (k == q) ≡ b → owed_for e new q (get last.calls q) ≡ owed_for e old q (get t.calls q)
      by q true same = rw (← is_equal k q same, before, after) refl
      by q false apart = owed_off e q apart

  -- What is to be passed on and isn't about this number stays right, and lowers as much.
  pub item_right : ((a : ℕ) → get t.takers a ≡ None → get last.takers a ≡ None) → (o : ForwardedMessage) → (old.answers k ≡ None → ⊥)
      → (IsAt stages.Returned (old.answers k) → ⊥) → IsRight t.calls t.takers old o → IsRight last.calls last.takers new o
  item_right takes (owed.ToPeer m) some ungiven right = (right.0, right.1, by (k == right.0) refl right.2)
    where
      given_at : get t.calls k ≡ Some progress.Given → IsAt stages.Returned (old.answers k)
      given_at given = at (get t.calls k) given (h.answers k)
        where
          at : (how : Option Progress) → how ≡ Some progress.Given
              → IsKeptAs how (old.answers k) (get t.results k) (results_of past k) (any (is_finish_of k) t.owed) → IsAt stages.Returned (old.answers k)
          at how given kept = (rw (given) at kept).2

      by : (b : Bool) → (k == right.0) ≡ b → (get t.calls right.0 ≡ Some progress.Given) ⊎ (old.answers right.0 ≡ None)
          → (get last.calls right.0 ≡ Some progress.Given) ⊎ (new.answers right.0 ≡ None)
      by true same (inl given) = absurd (ungiven (given_at (ap (λ (q : ℕ). get t.calls q) (is_equal k right.0 same) ∙ given)))
      by true same (inr none) = absurd (some (ap (λ (q : ℕ). old.answers q) (is_equal k right.0 same) ∙ none))
      by false apart (inl given) = inl (is.calls right.0 apart ∙ given)
      by false apart (inr none) = inr (is.answers right.0 apart ∙ none)
  item_right takes (owed.ToVat (messages.Return r)) some ungiven right =
      (rw (is.questions r.answer_id) right.0, takes r.answer_id right.1, right.2, right.3)
  item_right takes (owed.ToVat (messages.Finish f)) some ungiven right = by (k == f.question_id) refl
    where
      by : (b : Bool) → (k == f.question_id) ≡ b → IsRight last.calls last.takers new (owed.ToVat (messages.Finish f))
      by true same = absurd (ungiven (subst (λ (q : ℕ). IsAt stages.Returned (old.answers q)) (sym (is_equal k f.question_id same)) right.2))
      by false apart = (right.0, is.calls f.question_id apart ∙ right.1, rw (is.answers f.question_id apart) right.2)
  item_right takes (owed.ToVat m) some ungiven right = absurd right

  pub item_lowers : (e : ℕ) (o : ForwardedMessage) → (IsAt stages.Returned (old.answers k) → ⊥) → IsRight t.calls t.takers old o → lowers e new o ≡ lowers e old o
  item_lowers e (owed.ToVat (messages.Return r)) ungiven right = rw (is.questions r.answer_id) refl
  item_lowers e (owed.ToVat (messages.Finish f)) ungiven right = by (k == f.question_id) refl
    where
      by : (b : Bool) → (k == f.question_id) ≡ b → times e (results_in (new.answers f.question_id)) ≡ times e (results_in (old.answers f.question_id))
      by true same = absurd (ungiven (subst (λ (q : ℕ). IsAt stages.Returned (old.answers q)) (sym (is_equal k f.question_id same)) right.2))
      by false apart = rw (is.answers f.question_id apart) refl
  item_lowers e o ungiven right = refl
