-- What promises, imports, answers and questions came to. (rpc.capnp: "Four Tables", "Resolve", "Return".)
use Rattle.std.specs.Prelude.{Option, refl}
use Rattle.std.specs.Coded.{Coded, code_by, coded×, coded_option, coded_ℕ}
use Rattle.std.specs.FinMap as map
use Rattle.cp_tables.specs.Table.{Table}
use Rattle.cp_refs.specs.declared.cap.Cap.{Cap}
use Rattle.cp_refs.specs.contracts.cap.Cap as cap
use Rattle.cp_refs.specs.declared.outcome.Outcome.{Outcome}
use Rattle.cp_refs.specs.contracts.outcome.Outcome as outcome
use Rattle.cp_refs.specs.declared.values.QuestionState.{QuestionState}
use Rattle.cp_refs.specs.contracts.values.QuestionState as question

-- The value of each promise and import, and the outcome of each answer and question. Each is None until it is reported.
pub record ValueMaps : Type 0 where
  pub promises : Table (Option Cap)
  pub imports : Table (Option Cap)
  pub answers : Table (Option Outcome)
  pub questions : Table QuestionState

-- they are stored as their four parts
abbrev table_code : {X : Type 0} → Coded X → Coded (Table X)
table_code code = map.code coded_ℕ code

abbrev pub values_code : Coded ValueMaps
values_code =
    code_by
    (Table (Option Cap) × (Table (Option Cap) × (Table (Option Outcome) × Table QuestionState)))
    (coded× (table_code (coded_option cap.the_row.coded)) (coded× (table_code (coded_option cap.the_row.coded)) (coded× (table_code (coded_option outcome.the_row.coded)) (table_code question.the_row.coded))))
    (λ v. (v.promises, (v.imports, (v.answers, v.questions))))
    (λ parts. record { promises = parts.0; imports = parts.1.0; answers = parts.1.1.0; questions = parts.1.1.1 })
    (λ _. refl)
