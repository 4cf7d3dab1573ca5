-- Two new vats agree, and are orderly.
use Rattle.std.specs.Prelude.{refl, ℕ, [], Option}
use Rattle.std.specs.Ordering.{nat_cmp}
use Rattle.std.specs.FinMap.{get-empty}
use Rattle.std.proofs.Common.{sym, ◌∙◌}
use Rattle.cp_tables.specs.declared.counted.Counted.{Counted}
use Rattle.cp_tables.specs.declared.exchange.Exchange.{Exchange}
use Rattle.cp_refs.specs.declared.cap.Cap.{Cap}
use Rattle.cp_refs.specs.declared.call.WaitingCall.{WaitingCall}
use Rattle.cp_refs.specs.declared.outcome.Outcome.{Outcome}
use Rattle.cp_vat_machine.specs.State.{new_state}
use Rattle.cp_vat_machine.specs.declared.entry.AnswerEntry.{AnswerEntry}
use Rattle.cp_vat_machine.specs.declared.entry.ImportKind.{ImportKind}
use Rattle.cp_vat_machine.specs.declared.entry.QuestionEntry.{QuestionEntry}
use Rattle.cp_vat_machine.proofs.Basics.{none_out}
use Rattle.cp_vat_pair_laws.specs.Accounts.{accounts_of}
use Rattle.cp_vat_pair_laws.specs.VatPair.{new_pair}
use Rattle.cp_vat_pair_laws.specs.Lives.{LivesFit, AreOwed, AreAgreed}
use Rattle.cp_vat_pair_laws.specs.Orderly.{IsOrderly}

lives_fit : (one other : Option ℕ) → LivesFit (accounts_of (new_state one)) [] (accounts_of (new_state other)) []
lives_fit one other q = rw (get-empty {X = Exchange QuestionEntry} nat_cmp q, get-empty {X = Exchange AnswerEntry} nat_cmp q) tt

are_owed : (one other : Option ℕ) → AreOwed (accounts_of (new_state one)) [] (accounts_of (new_state other)) []
are_owed one other e = rw (get-empty {X = Counted Cap} nat_cmp e, get-empty {X = Counted ImportKind} nat_cmp e) refl

pub new_agree : (one other : Option ℕ) → AreAgreed (new_pair one other)
new_agree one other =
    record {
      usual = tt;
      usual_back = tt;
      lives = lives_fit one other;
      lives_back = lives_fit other one;
      counts = are_owed other one;
      counts_back = are_owed one other;
    }

-- new vats are orderly
pub new_orderly : (one : Option ℕ) → IsOrderly (new_state one)
new_orderly one =
    record {
      held =
          record {
            back = λ ticket call q is own. none_out (sym (get-empty {X = WaitingCall} nat_cmp ticket) ∙ is);
            once = λ u v call more q is there own also. none_out (sym (get-empty {X = WaitingCall} nat_cmp u) ∙ is);
            here = λ q entry is given. none_out (sym (get-empty {X = Exchange QuestionEntry} nat_cmp q) ∙ is);
          };
      values = λ p. rw (get-empty {X = Option Cap} nat_cmp p) tt;
      answers = λ a. rw (get-empty {X = Option Outcome} nat_cmp a) tt;
      exports = λ e. rw (get-empty {X = Counted Cap} nat_cmp e) tt;
    }
