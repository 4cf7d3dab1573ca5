-- What holds of a new vat.
use Rattle.std.specs.Prelude.{◌≡◌, refl, ℕ, [], ◌∷◌, Option, None}
use Rattle.std.specs.Ordering.{nat_cmp}
use Rattle.std.specs.Cmp.Lexicographic.{slice_cmp}
use Rattle.std.specs.FinMap.{entries, empty, get-empty, len-empty, len-entries}
use Rattle.std.specs.FinSet.{contains-empty}
use Rattle.std.proofs.Common.{Ordering, sym, ◌∙◌, true≢false}
use Rattle.std.proofs.lemmas.List.{nil_from_length}
use Rattle.cp_tables.specs.declared.counted.Counted.{Counted}
use Rattle.cp_tables.specs.declared.exchange.Exchange.{Exchange}
use Rattle.cp_refs.specs.declared.cap.Cap.{Cap}
use Rattle.cp_refs.specs.declared.cap.Cap.TheVariants as caps
use Rattle.cp_refs.specs.declared.call.WaitingCall.{WaitingCall}
use Rattle.cp_refs.specs.declared.outcome.Outcome.{Outcome}
use Rattle.cp_refs.specs.declared.values.QuestionState.{QuestionState}
use Rattle.cp_vat_machine.specs.State.{new_state}
use Rattle.cp_vat_machine.specs.Calling.{mark_of}
use Rattle.cp_vat_machine.specs.Local.{Local, all_caps, values_kept, tied_in}
use Rattle.cp_vat_machine.specs.declared.entry.AnswerEntry.{AnswerEntry}
use Rattle.cp_vat_machine.specs.declared.entry.ImportKind.{ImportKind}
use Rattle.cp_vat_machine.specs.declared.entry.QuestionEntry.{QuestionEntry}
use Rattle.cp_vat_machine.proofs.Basics.{none_out}

pub no_entries : {K X : Type 0} (R : K → K → Ordering) → entries (empty {X = X} {R = R}) ≡ []
no_entries {X = X} R = nil_from_length (entries empty) (sym (len-entries empty) ∙ len-empty R X)

no_caps : (one : Option ℕ) → all_caps (new_state one) ≡ []
no_caps one =
    rw (
      no_entries {X = Option Cap} nat_cmp,
      no_entries {X = Option Outcome} nat_cmp,
      no_entries {X = QuestionState} nat_cmp,
      no_entries {X = WaitingCall} nat_cmp,
      no_entries {X = Cap} nat_cmp,
      no_entries {X = Counted Cap} nat_cmp,
    ) refl

no_values : (one : Option ℕ) → values_kept (new_state one) ≡ []
no_values one = rw (no_entries {X = Option Cap} nat_cmp, no_entries {X = Option Outcome} nat_cmp, no_entries {X = QuestionState} nat_cmp) refl

no_tied : (one : Option ℕ) (p : ℕ) → tied_in (new_state one) p ≡ 0
no_tied one p = rw (no_entries {X = Exchange AnswerEntry} nat_cmp) refl

no_mark : (one : Option ℕ) (cap : Cap) → mark_of (new_state one) cap ≡ None
no_mark one (caps.Import i) = get-empty {X = Option ℕ} nat_cmp i
no_mark one (caps.Pipelined q path) = get-empty {X = Option ℕ} (slice_cmp nat_cmp) (q ∷ path)
no_mark one caps.None = refl
no_mark one (caps.Object k) = refl
no_mark one (caps.Promise p) = refl
no_mark one (caps.Broken x) = refl

pub new_local : (one : Option ℕ) → Local (new_state one)
new_local one =
    record {
      none_over_ = refl;
      answers = λ a. rw (get-empty {X = Exchange AnswerEntry} nat_cmp a) tt;
      questions = λ q. rw (get-empty {X = Exchange QuestionEntry} nat_cmp q) tt;
      waiting = λ ticket. rw (get-empty {X = WaitingCall} nat_cmp ticket) tt;
      forwards = λ q. rw (get-empty {X = Exchange QuestionEntry} nat_cmp q) tt;
      wire = λ q. rw (get-empty {X = Exchange QuestionEntry} nat_cmp q) tt;
      forwarding = λ q. rw (get-empty {X = Exchange QuestionEntry} nat_cmp q) tt;
      gates_kept = λ ticket. rw (get-empty {X = WaitingCall} nat_cmp ticket) tt;
      sendable = λ ticket. rw (get-empty {X = WaitingCall} nat_cmp ticket) tt;
      tied = λ p. rw (no_tied one p, get-empty {X = Option Cap} nat_cmp p) refl;
      untied = λ a. rw (get-empty {X = Exchange AnswerEntry} nat_cmp a) tt;
      owned = λ p is. absurd (true≢false (sym is ∙ contains-empty nat_cmp p));
      counts = λ e. rw (get-empty {X = Counted Cap} nat_cmp e) tt;
      imported = λ i. rw (get-empty {X = Counted ImportKind} nat_cmp i) tt;
      exports = λ e. rw (get-empty {X = Counted Cap} nat_cmp e) tt;
      one_export = λ e f one other is at. none_out (sym (get-empty {X = Counted Cap} nat_cmp e) ∙ is);
      there = rw (no_caps one) tt;
      ends = rw (no_caps one) tt;
      embargoed = λ n. rw (get-empty {X = Cap} nat_cmp n) tt;
      no_paths = rw (no_values one) tt;
      finished = λ q. rw (get-empty {X = Exchange QuestionEntry} nat_cmp q) tt;
      answers_valued = λ a. rw (get-empty {X = Exchange AnswerEntry} nat_cmp a, get-empty {X = Option Outcome} nat_cmp a) tt;
      questions_valued = λ q. rw (get-empty {X = Exchange QuestionEntry} nat_cmp q, get-empty {X = QuestionState} nat_cmp q) tt;
      imports_valued = λ i. rw (get-empty {X = Counted ImportKind} nat_cmp i, get-empty {X = Option Cap} nat_cmp i) refl;
      import_marks = λ i. rw (get-empty {X = Option ℕ} nat_cmp i) tt;
      path_marks = λ key. rw (get-empty {X = Option ℕ} (slice_cmp nat_cmp) key) tt;
      one_mark = λ cap other n is also. none_out (sym (no_mark one cap) ∙ is);
      waited_for = λ n. rw (get-empty {X = Cap} nat_cmp n) tt;
    }
