-- How marks are stored.
use Rattle.std.specs.Prelude.{refl, ℕ, Option}
use Rattle.std.specs.Coded.{Coded, code_by, coded×, coded_ℕ, coded_list, coded_option}
use Rattle.std.specs.FinMap as map
use Rattle.cp_tables.specs.Table.{Table}
use Rattle.cp_refs.specs.declared.cap.Cap.{Cap}
use Rattle.cp_refs.specs.contracts.cap.Cap as cap
use Rattle.cp_vat_machine.specs.State.{Marks}
use Rattle.cp_vat_state.specs.Paths.{Marked}

-- marks are stored as their three parts
abbrev pub marks_code : Coded Marks
marks_code =
    code_by
    (Table (Option ℕ) × (Marked × Table Cap))
    (coded× (map.code coded_ℕ (coded_option coded_ℕ)) (coded× (map.code (coded_list coded_ℕ) (coded_option coded_ℕ)) (map.code coded_ℕ cap.the_row.coded)))
    (λ m. (m.imports, (m.paths, m.embargoes)))
    (λ parts. record { imports = parts.0; paths = parts.1.0; embargoes = parts.1.1 })
    (λ _. refl)
