-- A message comes that is about no question and no answer.
use Rattle.std.specs.Prelude.{◌≡◌, refl, ℕ, ◌+◌, Bool, true, false, List, ◌∷◌, ◌++◌}
use Rattle.std.proofs.Common.{arith}
use Rattle.cp_messages.specs.declared.message.Message.{Message}
use Rattle.cp_vat_machine.specs.Receiving.{times}
use Rattle.cp_vat_machine.specs.Supported.{is_supported}
use Rattle.cp_vat_pair_laws.specs.Ledger.{Traffic, opens, returns_to, finishes, params_of, results_of, lowered_times, is_finished, taken_by, import_count}
use Rattle.cp_vat_pair_laws.specs.Ledger as ledger
use Rattle.cp_vat_pair_laws.specs.Accounts.{Accounts, taken_in, lowerable, lowered_by, Came}
use Rattle.cp_tail_calls.specs.Tails.{Tails}
use Rattle.cp_tail_counts.specs.Peer.{said_if}
use Rattle.cp_tail_counts.specs.Behind.{GetsIf, Gets}
use Rattle.cp_tail_counts.proofs.Holds.{returns_none, Holds}
use Rattle.cp_tail_counts.proofs.Staying.{still_owed, still_lowers, still_takers, still_right}
use Rattle.cp_tail_counts.proofs.Questions.{Stays}

-- a message of no question
pub record IsOther (past : List Traffic) (old : Accounts) (m : Message) : Type 0 where
  pub opens_none : (q : ℕ) → opens q m ≡ false
  pub returns_none : (q : ℕ) → returns_to q m ≡ false
  pub finishes_none : (q : ℕ) → finishes q m ≡ false
  pub lowers : (e : ℕ) → lowered_by (lowerable old) m e ≡ lowered_times past m e
  pub takes : taken_in old.questions m ≡ taken_by past m

module _ (most : ℕ) (past : List Traffic) (t : Tails) (old new : Accounts) (h : Holds most past t old) (m : Message) (is : IsOther past old m) where
  comes_by : Came old m new → Holds most (ledger.came m ∷ past) t new
  comes_by comes =
      record {
        exports = λ e fair.
            omega (
              arith,
              comes.exports e,
              is.lowers e,
              h.exports e fair.1,
              fair.0,
              still_owed most past t old new h (λ q. false) answers (λ q none. stays q) (λ a q is. refl) e,
              still_lowers most past t old new h (λ q. false) answers (λ q none. stays q) (λ a q is. refl) e t.owed (returns_none t.owed) h.owed,
            );
        imports = λ i. omega (arith, h.imports i, imports_by i);
        questions = λ q. rw (questions q) (h.questions q);
        answers = λ q. rw (answers q, is.opens_none q) (h.answers q);
        takers = still_takers most past t old new h (λ q. false) answers (λ q none. stays q) (λ a q is. refl);
        owed = still_right most past t old new h (λ q. false) answers (λ q none. stays q) (λ a q is. refl) t.owed (returns_none t.owed) h.owed;
        below = h.below;
        given_fairly = h.given_fairly;
        params = h.params;
      }
    where
      answers : (q : ℕ) → new.answers q ≡ old.answers q
      answers q = rw (comes.answers q, is.opens_none q, is.finishes_none q) refl

      questions : (q : ℕ) → new.questions q ≡ old.questions q
      questions q = rw (comes.questions q, is.returns_none q) refl

      stays : (q : ℕ) → Stays (old.questions q) (new.questions q)
      stays q due = rw (questions q) (due, refl)

      imports_by : (i : ℕ) → new.imports i ≡ old.imports i + times i (taken_by past m)
      imports_by i = rw (← is.takes) (comes.imports i)

  comes_if : (s : Bool) → GetsIf s old m new → Holds most (said_if s m ++ past) t new
  comes_if true gets = comes_by gets.1
  comes_if false same = rw (same) h

  pub other_comes : Gets old m new → Holds most (said_if (is_supported m) m ++ past) t new
  other_comes gets = comes_if (is_supported m) gets
