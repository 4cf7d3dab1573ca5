-- What a question will give.
use Rattle.std.specs.Prelude.{◌≡◌, ℕ, List, [], ◌∷◌, ◌++◌, Option, Some, None, Result, Ok, Err, slice_index_or, refl}
use Rattle.std.specs.Coded.{Coded, code_by, coded×, coded_ℕ, coded_list}
use Rattle.cp_refs.specs.declared.cap.Cap.{Cap}
use Rattle.cp_refs.specs.declared.cap.Cap.TheVariants as caps
use Rattle.cp_fields.specs.declared.kind.WrongKind.{WrongKind}
use Rattle.cp_objects.specs.declared.session_cap.SessionCap.{SessionCap}
use Rattle.cp_interfaces.specs.declared.cap_table.CapTable.{CapTable}
use Rattle.cp_interfaces.specs.declared.fault.CapFault.{CapFault}
use Rattle.cp_interfaces.specs.declared.fault.CapFault.TheVariants as faults

-- A session, a question of it, and a path of pointer fields of its results.
pub record Promise : Type 0 where
  pub session : ℕ
  pub question : ℕ
  pub path : List ℕ

-- the results themselves
abbrev pub promise_of : ℕ → ℕ → Promise
promise_of session question = record { session = session; question = question; path = [] }

-- one field further
abbrev pub along : Promise → ℕ → Promise
along p field = record p { path = p.path ++ field ∷ [] }

-- what a pointer field of it will be, as a capability
abbrev pub promised_cap : Promise → ℕ → SessionCap
promised_cap p field = record { session = p.session; cap = caps.Pipelined p.question (p.path ++ field ∷ []) }

-- the capability at a place of a table; null past the table, and where there is no place
abbrev pub named : Option ℕ → List Cap → Cap
named None table = caps.None
named (Some i) table = slice_index_or table i caps.None

-- the same, of the table of a session
abbrev pub found : Option ℕ → CapTable → SessionCap
found place table = record { session = table.session; cap = named place table.caps.now }

-- what a field names, of a table: a capability, seen so; or the field's pointer is of another kind; nothing is said where memory ran out
abbrev pub Finds : {A : Type 0} → Result A CapFault → (A → SessionCap) → Result (Option ℕ) WrongKind → CapTable → Type 0
Finds (Ok x) seen (Ok place) table = seen x ≡ found place table
Finds (Ok x) seen (Err fault) table = ⊥
Finds (Err (faults.WrongKind fault)) seen field table = field ≡ Err fault
Finds (Err faults.OutOfMemory) seen field table = Unit {0}

abbrev pub promise_code : Coded Promise
promise_code =
    code_by
    (ℕ × (ℕ × List ℕ))
    (coded× coded_ℕ (coded× coded_ℕ (coded_list coded_ℕ)))
    (λ p. (p.session, (p.question, p.path)))
    (λ parts. record { session = parts.0; question = parts.1.0; path = parts.1.1 })
    (λ _. refl)
