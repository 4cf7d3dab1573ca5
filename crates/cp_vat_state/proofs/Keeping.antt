-- How what is held stays counted.
use Rattle.std.proofs.Common.{◌≡◌, ℕ, List, Option, Some, None, option_to_list, refl, sym, ap, ◌∙◌, arith}
use Rattle.std.specs.Option.{option_flatten}
use Rattle.std.specs.FinMap.{get, insert, remove, empty}
use Rattle.cp_refs.specs.Contents.{call_memory, given_memory, question_memory, value_memory}
use Rattle.cp_refs.specs.Values.{ValueMaps}
use Rattle.cp_refs.specs.declared.cap.Cap.{Cap}
use Rattle.cp_refs.specs.declared.call.WaitingCall.{WaitingCall}
use Rattle.cp_refs.specs.declared.outcome.Outcome.{Outcome}
use Rattle.cp_refs.specs.declared.values.QuestionState.{QuestionState}
use Rattle.cp_vat_machine.specs.InUse.{caps_given}
use Rattle.cp_vat_state.specs.Kept.{KeepsLess, KeepsMore, KeepsNothing}
use Rattle.cp_vat_state.specs.Sought.{asked_memory, question_caps, named_by, awaited_at}
use Rattle.cp_vat_state.specs.Counts.{number_of, times_named, times_in, IsMore, IsLess}
use Rattle.cp_vat_state.specs.Holding.{AreHeld, AreHeldByCalls, IsMoreBy, IsLessBy, AreLedTo}
use Rattle.cp_vat_state.specs.declared.counted_calls.Uses.{Uses}
use Rattle.cp_tables.specs.Table.{Table}
use Rattle.cp_vat_state.specs.declared.sought.Sought.{Sought}
use Rattle.cp_vat_state.specs.declared.holders.Holders.{Holders}
use Rattle.cp_vat_state.specs.declared.kept.KeptContents.{KeptContents}
use Rattle.cp_refs.proofs.Sums.{of_entry, held-insert, held-remove, held-empty}

-- what was under a number, as one list
value_of_entry : (o : Option (Option Cap)) (s : Sought) → of_entry (λ value. times_in (option_to_list value) s) o ≡ times_in (option_to_list (option_flatten o)) s
value_of_entry None s = refl
value_of_entry (Some value) s = refl

outcome_of_entry : (o : Option (Option Outcome)) (s : Sought) → of_entry (λ outcome. times_in (caps_given outcome) s) o ≡ times_in (caps_given (option_flatten o)) s
outcome_of_entry None s = refl
outcome_of_entry (Some outcome) s = refl

question_of_entry : (o : Option QuestionState) (s : Sought) → of_entry (λ question. times_in (caps_given question.outcome) s) o ≡ times_in (question_caps o) s
question_of_entry None s = refl
question_of_entry (Some question) s = refl

-- the memory of what was under a number
value_bytes_of : (o : Option (Option Cap)) → of_entry value_memory o ≡ value_memory (option_flatten o)
value_bytes_of None = refl
value_bytes_of (Some value) = refl

given_bytes_of : (o : Option (Option Outcome)) → of_entry given_memory o ≡ given_memory (option_flatten o)
given_bytes_of None = refl
given_bytes_of (Some outcome) = refl

question_bytes_of : (o : Option QuestionState) → of_entry question_memory o ≡ asked_memory o
question_bytes_of None = refl
question_bytes_of (Some question) = refl

pub held_nothing : (kept imported : KeptContents) → KeepsNothing kept → KeepsNothing imported → AreHeld (record { promises = empty; imports = empty; answers = empty; questions = empty }) kept imported
held_nothing kept imported none none_imported =
    record {
      kept_so_often =
          λ s. omega (arith, none.held s, held-empty (λ (value : Option Cap). times_in (option_to_list value) s), held-empty (λ (outcome : Option Outcome). times_in (caps_given outcome) s), held-empty (λ (question : QuestionState). times_in (caps_given question.outcome) s));
      imported_so_often = λ s. omega (arith, none_imported.held s, held-empty (λ (value : Option Cap). times_in (option_to_list value) s));
      kept_bytes = omega (arith, none.taken, held-empty value_memory, held-empty given_memory, held-empty question_memory);
      imported_bytes = omega (arith, none_imported.taken, held-empty value_memory);
    }

-- an open promise holds nothing
pub held-open_promise : (v : ValueMaps) (kept imported : KeptContents) (id : ℕ) → AreHeld v kept imported → get v.promises id ≡ None → AreHeld (record v { promises = insert v.promises id None }) kept imported
held-open_promise v kept imported id is free =
    record {
      kept_so_often =
          λ s. let times = λ (value : Option Cap). times_in (option_to_list value) s in let nothing : times None ≡ 0 = refl in
          omega (arith, is.kept_so_often s, nothing, held-insert times v.promises id None, ap (of_entry times) free);
      imported_so_often = is.imported_so_often;
      kept_bytes = omega (arith, is.kept_bytes, held-insert value_memory v.promises id None, ap (of_entry value_memory) free);
      imported_bytes = is.imported_bytes;
    }

module _ (v : ValueMaps) (kept imported k1 k2 : KeptContents) (is : AreHeld v kept imported) where
  pub held-put_promise : (id : ℕ) (value went : Option Cap) → KeepsMore kept k1 (option_to_list value) (value_memory value) → KeepsLess k1 k2 (option_to_list went) (value_memory went)
      → went ≡ option_flatten (get v.promises id) → AreHeld (record v { promises = insert v.promises id value }) k2 imported
  held-put_promise id value went more less' goes =
      let less = rw goes at less' in
      record {
        kept_so_often =
            λ s. omega (arith, is.kept_so_often s, less.held s, more.held s, held-insert (λ value. times_in (option_to_list value) s) v.promises id value, value_of_entry (get v.promises id) s);
        imported_so_often = is.imported_so_often;
        kept_bytes = omega (arith, is.kept_bytes, less.taken, more.taken, held-insert value_memory v.promises id value, value_bytes_of (get v.promises id));
        imported_bytes = is.imported_bytes;
      }

  pub held-put_answer : (id : ℕ) (outcome went : Option Outcome) → KeepsMore kept k1 (caps_given outcome) (given_memory outcome) → KeepsLess k1 k2 (caps_given went) (given_memory went)
      → went ≡ option_flatten (get v.answers id) → AreHeld (record v { answers = insert v.answers id outcome }) k2 imported
  held-put_answer id outcome went more less' goes =
      let less = rw goes at less' in
      record {
        kept_so_often =
            λ s. omega (arith, is.kept_so_often s, less.held s, more.held s, held-insert (λ outcome. times_in (caps_given outcome) s) v.answers id outcome, outcome_of_entry (get v.answers id) s);
        imported_so_often = is.imported_so_often;
        kept_bytes = omega (arith, is.kept_bytes, less.taken, more.taken, held-insert given_memory v.answers id outcome, given_bytes_of (get v.answers id));
        imported_bytes = is.imported_bytes;
      }

  pub held-put_question : (id : ℕ) (question : QuestionState) (went : Option QuestionState) → KeepsMore kept k1 (caps_given question.outcome) (given_memory question.outcome) → KeepsLess k1 k2 (question_caps went) (asked_memory went)
      → went ≡ get v.questions id → AreHeld (record v { questions = insert v.questions id question }) k2 imported
  held-put_question id question went more less' goes =
      let less = rw goes at less' in
      record {
        kept_so_often =
            λ s. omega (arith, is.kept_so_often s, less.held s, more.held s, held-insert (λ question. times_in (caps_given question.outcome) s) v.questions id question, question_of_entry (get v.questions id) s);
        imported_so_often = is.imported_so_often;
        kept_bytes = omega (arith, is.kept_bytes, less.taken, more.taken, held-insert question_memory v.questions id question, question_bytes_of (get v.questions id));
        imported_bytes = is.imported_bytes;
      }

  pub held-put_import : (id : ℕ) (value went : Option Cap) → KeepsMore imported k1 (option_to_list value) (value_memory value) → KeepsLess k1 k2 (option_to_list went) (value_memory went)
      → went ≡ option_flatten (get v.imports id) → AreHeld (record v { imports = insert v.imports id value }) kept k2
  held-put_import id value went more less' goes =
      let less = rw goes at less' in
      record {
        kept_so_often = is.kept_so_often;
        imported_so_often =
            λ s. omega (arith, is.imported_so_often s, less.held s, more.held s, held-insert (λ value. times_in (option_to_list value) s) v.imports id value, value_of_entry (get v.imports id) s);
        kept_bytes = is.kept_bytes;
        imported_bytes = omega (arith, is.imported_bytes, less.taken, more.taken, held-insert value_memory v.imports id value, value_bytes_of (get v.imports id));
      }

module _ (v : ValueMaps) (kept imported k2 : KeptContents) (is : AreHeld v kept imported) where
  pub held-remove_promise : (id : ℕ) (went : Option Cap) → KeepsLess kept k2 (option_to_list went) (value_memory went) → went ≡ option_flatten (get v.promises id)
      → AreHeld (record v { promises = remove v.promises id }) k2 imported
  held-remove_promise id went less' goes =
      let less = rw goes at less' in
      record {
        kept_so_often =
            λ s. omega (arith, is.kept_so_often s, less.held s, held-remove (λ value. times_in (option_to_list value) s) v.promises id, value_of_entry (get v.promises id) s);
        imported_so_often = is.imported_so_often;
        kept_bytes = omega (arith, is.kept_bytes, less.taken, held-remove value_memory v.promises id, value_bytes_of (get v.promises id));
        imported_bytes = is.imported_bytes;
      }

  pub held-remove_answer : (id : ℕ) (went : Option Outcome) → KeepsLess kept k2 (caps_given went) (given_memory went) → went ≡ option_flatten (get v.answers id)
      → AreHeld (record v { answers = remove v.answers id }) k2 imported
  held-remove_answer id went less' goes =
      let less = rw goes at less' in
      record {
        kept_so_often =
            λ s. omega (arith, is.kept_so_often s, less.held s, held-remove (λ outcome. times_in (caps_given outcome) s) v.answers id, outcome_of_entry (get v.answers id) s);
        imported_so_often = is.imported_so_often;
        kept_bytes = omega (arith, is.kept_bytes, less.taken, held-remove given_memory v.answers id, given_bytes_of (get v.answers id));
        imported_bytes = is.imported_bytes;
      }

  pub held-remove_question : (id : ℕ) (went : Option QuestionState) → KeepsLess kept k2 (question_caps went) (asked_memory went) → went ≡ get v.questions id
      → AreHeld (record v { questions = remove v.questions id }) k2 imported
  held-remove_question id went less' goes =
      let less = rw goes at less' in
      record {
        kept_so_often =
            λ s. omega (arith, is.kept_so_often s, less.held s, held-remove (λ question. times_in (caps_given question.outcome) s) v.questions id, question_of_entry (get v.questions id) s);
        imported_so_often = is.imported_so_often;
        kept_bytes = omega (arith, is.kept_bytes, less.taken, held-remove question_memory v.questions id, question_bytes_of (get v.questions id));
        imported_bytes = is.imported_bytes;
      }

  pub held-remove_import : (id : ℕ) (went : Option Cap) → KeepsLess imported k2 (option_to_list went) (value_memory went) → went ≡ option_flatten (get v.imports id)
      → AreHeld (record v { imports = remove v.imports id }) kept k2
  held-remove_import id went less' goes =
      let less = rw goes at less' in
      record {
        kept_so_often = is.kept_so_often;
        imported_so_often =
            λ s. omega (arith, is.imported_so_often s, less.held s, held-remove (λ value. times_in (option_to_list value) s) v.imports id, value_of_entry (get v.imports id) s);
        kept_bytes = is.kept_bytes;
        imported_bytes = omega (arith, is.imported_bytes, less.taken, held-remove value_memory v.imports id, value_bytes_of (get v.imports id));
      }

-- ---- calls
pub none_by_calls : (named awaited : Holders) → ((s : Sought) → number_of named s ≡ 0) → ((s : Sought) → number_of awaited s ≡ 0) → AreHeldByCalls empty (record { named = named; awaited = awaited; bytes = 0 })
none_by_calls named awaited none none_awaited =
    record {
      named = λ s. none s ∙ sym (held-empty (λ (call : WaitingCall). times_in call.request.caps s));
      awaited = λ s. none_awaited s ∙ sym (held-empty (λ (call : WaitingCall). times_named (awaited_at call.gate) s));
      bytes = sym (held-empty call_memory);
    }

module _ (calls : Table WaitingCall) (old new : Uses) (ticket : ℕ) (call : WaitingCall) (is : AreHeldByCalls calls old) where
  pub held-call : get calls ticket ≡ None → IsMoreBy old new call → AreHeldByCalls (insert calls ticket call) new
  held-call free more =
      record {
        named =
            λ s. let times = λ (c : WaitingCall). times_in c.request.caps s in
            omega (arith, is.named s, more.named s, held-insert times calls ticket call, ap (of_entry times) free);
        awaited =
            λ s. let times = λ (c : WaitingCall). times_named (awaited_at c.gate) s in
            omega (arith, is.awaited s, more.awaited s, held-insert times calls ticket call, ap (of_entry times) free);
        bytes = omega (arith, is.bytes, more.bytes, held-insert call_memory calls ticket call, ap (of_entry call_memory) free);
      }

  pub held-left : get calls ticket ≡ Some call → IsLessBy old new call → AreHeldByCalls (remove calls ticket) new
  held-left there less =
      record {
        named =
            λ s. let times = λ (c : WaitingCall). times_in c.request.caps s in
            omega (arith, is.named s, less.named s, held-remove times calls ticket, ap (of_entry times) there);
        awaited =
            λ s. let times = λ (c : WaitingCall). times_named (awaited_at c.gate) s in
            omega (arith, is.awaited s, less.awaited s, held-remove times calls ticket, ap (of_entry times) there);
        bytes = omega (arith, is.bytes, less.bytes, held-remove call_memory calls ticket, ap (of_entry call_memory) there);
      }

-- ---- embargoes
pub none_led_to : (led_to : Holders) → ((s : Sought) → number_of led_to s ≡ 0) → AreLedTo empty led_to
none_led_to led_to none = λ s. none s ∙ sym (held-empty (λ (cap : Cap). times_named (named_by cap) s))

module _ (embargoes : Table Cap) (old new : Holders) (id : ℕ) (cap : Cap) (is : AreLedTo embargoes old) where
  pub led-open : get embargoes id ≡ None → IsMore old new (times_named (named_by cap)) → AreLedTo (insert embargoes id cap) new
  led-open free more =
      λ s. let times = λ (c : Cap). times_named (named_by c) s in omega (arith, is s, more s, held-insert times embargoes id cap, ap (of_entry times) free)

  pub led-close : get embargoes id ≡ Some cap → IsLess old new (times_named (named_by cap)) → AreLedTo (remove embargoes id) new
  led-close there less =
      λ s. let times = λ (c : Cap). times_named (named_by c) s in omega (arith, is s, less s, held-remove times embargoes id, ap (of_entry times) there)
