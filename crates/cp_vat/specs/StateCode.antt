-- How a state is stored.
use Rattle.std.specs.Prelude.{refl, ℕ, Bool, Option}
use Rattle.std.specs.Coded.{Coded, code_by, coded×, coded_ℕ, coded_bool, coded_option}
use Rattle.std.specs.FinMap as map
use Rattle.std.specs.FinSet as set
use Rattle.std.specs.Ordering.{nat_cmp}
use Rattle.cp_tables.specs.Table.{Table}
use Rattle.cp_tables.specs.Exchange.{exchange_code}
use Rattle.cp_tables.specs.Counted.{counted_code}
use Rattle.cp_tables.specs.declared.counted.Counted.{Counted}
use Rattle.cp_tables.specs.declared.exchange.Exchange.{Exchange}
use Rattle.cp_refs.specs.Values.{ValueMaps, values_code}
use Rattle.cp_refs.specs.declared.cap.Cap.{Cap}
use Rattle.cp_refs.specs.contracts.cap.Cap as cap
use Rattle.cp_refs.specs.declared.call.WaitingCall.{WaitingCall}
use Rattle.cp_refs.specs.contracts.call.WaitingCall as held
use Rattle.cp_vat_machine.specs.State.{State, Exchanges, Counts, Marks, Waiting, Over}
use Rattle.cp_vat_machine.specs.declared.entry.QuestionEntry.{QuestionEntry}
use Rattle.cp_vat_machine.specs.contracts.entry.QuestionEntry as question_entry
use Rattle.cp_vat_machine.specs.declared.entry.AnswerEntry.{AnswerEntry}
use Rattle.cp_vat_machine.specs.contracts.entry.AnswerEntry as answer_entry
use Rattle.cp_vat_machine.specs.declared.entry.ImportKind.{ImportKind}
use Rattle.cp_vat_machine.specs.contracts.entry.ImportKind as import_kind
use Rattle.cp_vat_state.specs.MarksCode.{marks_code}
use Rattle.cp_vat_state.specs.Queue.{over_code}

abbrev table_code : {X : Type 0} → Coded X → Coded (Table X)
table_code code = map.code coded_ℕ code

abbrev pub waiting_code : Coded Waiting
waiting_code =
    code_by (Table WaitingCall × Over) (coded× (table_code held.the_row.coded) over_code) (λ w. (w.calls, w.over)) (λ parts. record { calls = parts.0; over = parts.1 }) (λ _. refl)

abbrev pub entries_code : Coded Exchanges
entries_code =
    code_by
    (Table (Exchange QuestionEntry) × (Table (Exchange AnswerEntry) × set.FinSet nat_cmp))
    (coded× (table_code (exchange_code question_entry.the_row.coded)) (coded× (table_code (exchange_code answer_entry.the_row.coded)) (set.code coded_ℕ)))
    (λ e. (e.questions, (e.answers, e.own_promises)))
    (λ parts. record { questions = parts.0; answers = parts.1.0; own_promises = parts.1.1 })
    (λ _. refl)

abbrev pub counts_code : Coded Counts
counts_code =
    code_by
    (Table (Counted Cap) × Table (Counted ImportKind))
    (coded× (table_code (counted_code cap.the_row.coded)) (table_code (counted_code import_kind.the_row.coded)))
    (λ c. (c.exports, c.imports))
    (λ parts. record { exports = parts.0; imports = parts.1 })
    (λ _. refl)

-- a state is stored as its parts
abbrev pub state_code : Coded State
state_code =
    code_by
    (ValueMaps × (Exchanges × (Counts × (Waiting × (Marks × (Option ℕ × (ℕ × Bool)))))))
    (coded× values_code (coded× entries_code (coded× counts_code (coded× waiting_code (coded× marks_code (coded× (coded_option coded_ℕ) (coded× coded_ℕ coded_bool)))))))
    (λ s. (s.values, (s.entries, (s.counts, (s.waiting, (s.marks, (s.bootstrap, (s.next_ticket, s.is_closed))))))))
    (λ parts. record {
      values = parts.0;
      entries = parts.1.0;
      counts = parts.1.1.0;
      waiting = parts.1.1.1.0;
      marks = parts.1.1.1.1.0;
      bootstrap = parts.1.1.1.1.1.0;
      next_ticket = parts.1.1.1.1.1.1.0;
      is_closed = parts.1.1.1.1.1.1.1;
    })
    (λ _. refl)
