-- What was owed is passed on.
use Rattle.std.specs.Prelude.{◌≡◌, refl, ℕ, ◌+◌, ◌<◌, ◌^◌, ◌==◌, ◌⊎◌, ◌||◌, if◌then◌else◌, Bool, true, false, List, [], ◌∷◌, Option, Some, None}
use Rattle.std.specs.FinMap.{get}
use Rattle.std.proofs.Common.{arith, sym, ap, subst, ◌∙◌, inl, inr}
use Rattle.cp_tables.specs.declared.exchange.Stage.{Stage}
use Rattle.cp_tables.specs.declared.exchange.Stage.TheVariants as stages
use Rattle.cp_messages.specs.declared.message.Message.{Message}
use Rattle.cp_messages.specs.declared.message.Message.TheVariants as messages
use Rattle.cp_messages.specs.declared.returned.Return.{Return}
use Rattle.cp_messages.specs.declared.small.Finish.{Finish}
use Rattle.cp_vat_machine.specs.Receiving.{times}
use Rattle.cp_vat_machine.proofs.Basics.{is_equal, is_itself, other_number}
use Rattle.cp_vat_pair_laws.specs.Ledger.{Traffic, results_of, import_count}
use Rattle.cp_vat_pair_laws.specs.Ledger as ledger
use Rattle.cp_vat_pair_laws.specs.Accounts.{Account, Accounts, taken_in, results_in, finish_noted, answer_finished, Came}
use Rattle.cp_tail_calls.specs.declared.forwarding.ForwardedMessage.{ForwardedMessage}
use Rattle.cp_tail_calls.specs.declared.forwarding.ForwardedMessage.TheVariants as owed
use Rattle.cp_tail_calls.specs.declared.progress.Progress.{Progress}
use Rattle.cp_tail_calls.specs.declared.progress.Progress.TheVariants as progress
use Rattle.cp_tail_calls.specs.Receiving.{sent_elsewhere}
use Rattle.cp_tail_calls.specs.Sending.{lent_with}
use Rattle.cp_tail_calls.specs.Tails.{Tails}
use Rattle.cp_tail_counts.specs.Behind.{GetsIf, Passes}
use Rattle.cp_tail_counts.specs.Counts.{lent_of}
use Rattle.cp_tail_counts.proofs.Holds.{any, is_finish_of, lowers, lowers_all, IsAt, IsRight, AreRight, Plainly, IsKeptAs, Holds, stay_right, lower_same, no_call}
use Rattle.cp_tail_counts.proofs.Locally.{Locally, all_answers, all_takers, owed_same}
use Rattle.cp_tail_counts.proofs.Answering.{asked, stays_owed, stays_lowers, stays_takers, stays_right}
use Rattle.cp_tail_counts.proofs.Lending.{lent_as}

module _ (most : ℕ) (past : List Traffic) (t : Tails) (old : Accounts) (h : Holds most past t old) (rest : List ForwardedMessage) where
  -- ---- the peer is told of a call
  module _ (m : Message) (is : t.owed ≡ owed.ToPeer m ∷ rest) where
    abbrev told : Tails
    told = record t { owed = rest }

    right : AreRight t.calls t.takers old (owed.ToPeer m ∷ rest)
    right = rw (is) at h.owed

    before : (e : ℕ) → lowers_all e old t.owed ≡ lowers_all e old rest
    before e = ap (λ (os : List ForwardedMessage). lowers_all e old os) is ∙ zero_first (lowers_all e old rest)
      where
        zero_first : (n : ℕ) → 0 + n ≡ n
        zero_first n = omega arith

    finishing : (q : ℕ) → any (is_finish_of q) t.owed ≡ any (is_finish_of q) rest
    finishing q = ap (λ (os : List ForwardedMessage). any (is_finish_of q) os) is

    tells : (k : ℕ) → (get t.calls k ≡ Some progress.Given) ⊎ (old.answers k ≡ None) → Holds most (ledger.sent (sent_elsewhere k false) ∷ past) told old
    tells k known =
        record {
          exports = λ e fair. omega (arith, h.exports e fair, before e);
          imports = λ i. omega (arith, h.imports i);
          questions = h.questions;
          answers = λ q. by q (k == q) refl;
          takers = h.takers;
          owed = right.2;
          below = h.below;
          given_fairly = λ i. (omega arith, h.given_fairly i);
          params = (refl, h.params);
        }
      where
        given_here : (how : Option Progress) (account : Option Account) (flag : Bool) → how ≡ Some progress.Given
            → IsKeptAs how account (get t.results k) (results_of past k) flag → IsKeptAs how account (get t.results k) [] flag
        given_here how account flag given kept = rw (given) (refl, (rw (given) at kept).1, (rw (given) at kept).2)

        plain_here : (how : Option Progress) (account : Option Account) (flag : Bool) → how ≡ None → account ≡ None
            → IsKeptAs how account (get t.results k) (results_of past k) flag → IsKeptAs how account (get t.results k) [] flag
        plain_here how account flag none gone kept = rw (none) ((rw (none) at kept).0, plainly flag)
          where
            plainly : (b : Bool) → Plainly b account []
            plainly true = tt
            plainly false = rw (gone) tt

        here : (get t.calls k ≡ Some progress.Given) ⊎ (old.answers k ≡ None) → IsKeptAs (get t.calls k) (old.answers k) (get t.results k) [] (any (is_finish_of k) rest)
        here (inl given) = given_here (get t.calls k) (old.answers k) (any (is_finish_of k) rest) given (rw (finishing k) at (h.answers k))
        here (inr none) =
            plain_here
            (get t.calls k)
            (old.answers k)
            (any (is_finish_of k) rest)
            (no_call (get t.calls k) (old.answers k) (get t.results k) (results_of past k) (any (is_finish_of k) t.owed) none (h.answers k))
            none
            (rw (finishing k) at (h.answers k))

        by : (q : ℕ) (b : Bool) → (k == q) ≡ b
            → IsKeptAs (get t.calls q) (old.answers q) (get t.results q) (if k == q then [] else results_of past q) (any (is_finish_of q) rest)
        by q true same = rw (same) (subst (λ (q : ℕ). IsKeptAs (get t.calls q) (old.answers q) (get t.results q) [] (any (is_finish_of q) rest)) (is_equal k q same) (here known))
        by q false apart = rw (apart) (rw (finishing q) at (h.answers q))

    pub passes_told : Holds most (ledger.sent m ∷ past) told old
    passes_told =
        let it = right.0 in
        subst (λ (m : Message). Holds most (ledger.sent m ∷ past) told old) (sym it.1) (tells it.0 it.2)

  module _ (new : Accounts) where
    -- ---- the vat gets the Return of a question that took results
    module _ (r : Return) (is : t.owed ≡ owed.ToVat (messages.Return r) ∷ rest) (stage : ℕ → Option Stage) (passes : Passes old stage (messages.Return r) new) where
      abbrev a : ℕ
      a = r.answer_id

      abbrev given : Tails
      given = record t { owed = rest; lent = lent_with stage t.lent (owed.ToVat (messages.Return r)) }

      given_right : AreRight t.calls t.takers old (owed.ToVat (messages.Return r) ∷ rest)
      given_right = rw (is) at h.owed

      given_comes : Came old (messages.Return r) new
      given_comes = (rw (given_right.0.2) at passes.gets).1

      given_before : (e : ℕ) → lowers_all e old t.owed ≡ lowers e old (owed.ToVat (messages.Return r)) + lowers_all e old rest
      given_before e = ap (λ (os : List ForwardedMessage). lowers_all e old os) is

      given_finishing : (q : ℕ) → any (is_finish_of q) t.owed ≡ any (is_finish_of q) rest
      given_finishing q = ap (λ (os : List ForwardedMessage). any (is_finish_of q) os) is

      fits : (before lent imports taken after : ℕ) → after ≡ before + taken → before ≡ imports + lent → after < 2 ^ 32 → lent + taken < 2 ^ 32
      fits before lent imports taken after e f less = omega arith

      lent_now : (i : ℕ) → lent_of given i ≡ lent_of t i + times i (taken_in old.questions (messages.Return r))
      lent_now i =
          rw
          (passes.knows a)
          (lent_as
          i
          (old.questions a)
          r.returned
          given_right.0.3.0
          t.lent
          given_right.0.0
          given_right.0.3.1
          (fits (old.imports i) (lent_of t i) (import_count past i) (times i (taken_in old.questions (messages.Return r))) (new.imports i) (given_comes.imports i) (h.imports i) (passes.fits i)))

      pub passes_return : Holds most past given new
      passes_return =
          record {
            exports = λ e fair.
                omega (
                  arith,
                  given_comes.exports e,
                  h.exports e fair,
                  given_before e,
                  stays_owed most past t old new h r given_right.0.1 given_right.0.0 given_comes e,
                  stays_lowers most past t old new h r given_right.0.1 given_right.0.0 given_comes e rest given_right.1 given_right.2,
                );
            imports = λ i. omega (arith, given_comes.imports i, h.imports i, lent_now i);
            questions = asked most past t old new h r given_right.0.1 given_right.0.0 given_comes;
            answers = λ q. rw (given_comes.answers q, ← given_finishing q) (h.answers q);
            takers = stays_takers most past t old new h r given_right.0.1 given_right.0.0 given_comes;
            owed = stays_right most past t old new h r given_right.0.1 given_right.0.0 given_comes rest given_right.1 given_right.2;
            below = h.below;
            given_fairly = h.given_fairly;
            params = h.params;
          }

    -- ---- the vat gets a Finish that was held back
    module _ (f : Finish) (is : t.owed ≡ owed.ToVat (messages.Finish f) ∷ rest) (gets : GetsIf true old (messages.Finish f) new) where
      abbrev k : ℕ
      k = f.question_id

      abbrev finished : Tails
      finished = record t { owed = rest }

      finished_right : AreRight t.calls t.takers old (owed.ToVat (messages.Finish f) ∷ rest)
      finished_right = rw (is) at h.owed

      finished_comes : Came old (messages.Finish f) new
      finished_comes = gets.1

      others_after : (q : ℕ) → (k == q) ≡ false → new.answers q ≡ old.answers q
      others_after q apart = rw (finished_comes.answers q, apart) refl

      finished_gone : new.answers k ≡ None
      finished_gone = rw (finished_comes.answers k, is_itself k) (by (old.answers k) finished_right.0.2)
        where
          open_ : (s : Stage) (kept : List ℕ) → s ≡ stages.Returned → finish_noted s kept ≡ None
          open_ s kept at = ap (λ (s : Stage). finish_noted s kept) at

          by : (o : Option Account) → IsAt stages.Returned o → answer_finished o ≡ None
          by None at = absurd at
          by (Some account) at = open_ account.stage account.kept at

      finished_before : (e : ℕ) → lowers_all e old t.owed ≡ times e (results_in (old.answers k)) + lowers_all e old rest
      finished_before e = ap (λ (os : List ForwardedMessage). lowers_all e old os) is

      finished_local : Locally k past past t finished old new
      finished_local =
          record {
            calls = λ q apart. refl;
            results = λ q apart. refl;
            answers = others_after;
            peers = λ q apart. refl;
            finishing = λ q apart. sym (ap (λ (os : List ForwardedMessage). any (is_finish_of q) os) is ∙ off q apart);
            questions = finished_comes.questions;
            takers = λ a q apart is. is;
          }
        where
          off : (q : ℕ) → (k == q) ≡ false → (k == q || any (is_finish_of q) rest) ≡ any (is_finish_of q) rest
          off q apart = rw (apart) refl

      turned : (q : ℕ) (b : Bool) → (q == k) ≡ b → (k == q) ≡ b
      turned q true e = rw (is_equal q k e) (is_itself k)
      turned q false e = other_number q k e

      item_right : (o : ForwardedMessage) → is_finish_of k o ≡ false → IsRight t.calls t.takers old o → IsRight t.calls t.takers new o
      item_right (owed.ToPeer m) none right = (right.0, right.1, by (k == right.0) refl right.2)
        where
          by : (b : Bool) → (k == right.0) ≡ b → (get t.calls right.0 ≡ Some progress.Given) ⊎ (old.answers right.0 ≡ None)
              → (get t.calls right.0 ≡ Some progress.Given) ⊎ (new.answers right.0 ≡ None)
          by b e (inl known) = inl known
          by true same (inr none) = inr (subst (λ (q : ℕ). new.answers q ≡ None) (is_equal k right.0 same) finished_gone)
          by false apart (inr none) = inr (others_after right.0 apart ∙ none)
      item_right (owed.ToVat (messages.Return r)) none right = (rw (finished_comes.questions r.answer_id) right.0, right.1, right.2, right.3)
      item_right (owed.ToVat (messages.Finish g)) none right = (right.0, right.1, rw (others_after g.question_id (turned g.question_id false none)) right.2)
      item_right (owed.ToVat m) none right = absurd right

      item_lowers : (e : ℕ) (o : ForwardedMessage) → is_finish_of k o ≡ false → IsRight t.calls t.takers old o → lowers e new o ≡ lowers e old o
      item_lowers e (owed.ToVat (messages.Return r)) none right = rw (finished_comes.questions r.answer_id) refl
      item_lowers e (owed.ToVat (messages.Finish g)) none right = rw (others_after g.question_id (turned g.question_id false none)) refl
      item_lowers e o none right = refl

      lowered : (e : ℕ) → (if f.release_result_caps then times e (results_in (old.answers k)) else 0) ≡ times e (results_in (old.answers k))
      lowered e = rw (finished_right.0.0) refl

      plainly : (b : Bool) → Plainly b (new.answers k) (results_of past k)
      plainly true = tt
      plainly false = rw (finished_gone) tt

      pub passes_finish : Holds most past finished new
      passes_finish =
          record {
            exports = λ e fair.
                omega (
                  arith,
                  finished_comes.exports e,
                  h.exports e fair,
                  finished_before e,
                  lowered e,
                  owed_same most k past past t finished old new h finished_local e finished_right.0.1 finished_right.0.1,
                  lower_same t.calls t.calls t.takers t.takers old new e (is_finish_of k) rest finished_right.1 (λ o none right. item_lowers e o none right) finished_right.2,
                );
            imports = λ i. omega (arith, finished_comes.imports i, h.imports i);
            questions = λ q. rw (finished_comes.questions q) (h.questions q);
            answers = all_answers most k past past t finished old new h finished_local (rw (finished_right.0.1) ((rw (finished_right.0.1) at (h.answers k)).0, plainly (any (is_finish_of k) rest)));
            takers = all_takers most k past past t finished old new h finished_local (rw (finished_right.0.1) tt);
            owed = stay_right t.calls t.calls t.takers t.takers old new (is_finish_of k) rest finished_right.1 (λ o none right. item_right o none right) finished_right.2;
            below = h.below;
            given_fairly = h.given_fairly;
            params = h.params;
          }
