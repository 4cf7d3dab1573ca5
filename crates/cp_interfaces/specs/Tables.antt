-- Tables of capabilities, with the session that these are of.
use Rattle.std.specs.Prelude.{◌≡◌, ℕ, ◌+◌, ◌≤◌, ◌^◌, ◌==◌, ◌&&◌, Bool, true, if◌then◌else◌, List, [], ◌∷◌, length, Option, Some, None, Result, Ok, Err, refl}
use Rattle.std.specs.Coded.{Coded, code_by, coded×, coded_ℕ, coded_list, coded_option}
use Rattle.cp_refs.specs.declared.cap.Cap.{Cap}
use Rattle.cp_refs.specs.contracts.cap.Cap.{the_row}
use Rattle.cp_servants.specs.Naming.{is_null, with_named}
use Rattle.cp_objects.specs.declared.reference_error.ReferenceError.{ReferenceError}
use Rattle.cp_objects.specs.declared.reference_error.ReferenceError.TheVariants as errors
use Rattle.cp_objects.specs.declared.session_cap.SessionCap.{SessionCap}

-- The capabilities of a table, each by its place, and the session that they are of, once there is one.
pub record Named : Type 0 where
  pub session : Option ℕ
  pub caps : List Cap

-- none
abbrev pub none_named : Named
none_named = record { session = None; caps = [] }

-- what is named is of this session
abbrev pub are_of : ℕ → Option ℕ → Bool
are_of session None = true
are_of session (Some other) = other == session

-- A table names this one too, if it is null or broken, as no descriptor says that, or of the session of the others.
abbrev pub may_name : Named → SessionCap → Bool
may_name table c = if is_null c.cap then true else are_of c.session table.session

-- the table with it
abbrev pub naming : Named → SessionCap → Named
naming table c = if is_null c.cap then table else record { session = Some c.session; caps = with_named table.caps c.cap }

-- A table names these too, one after another, and what it names then is of this session.
abbrev pub may_name_all : ℕ → Named → List SessionCap → Bool
may_name_all session table [] = are_of session table.session
may_name_all session table (c ∷ cs) = may_name table c && may_name_all session (naming table c) cs

-- a table has no place more
abbrev pub IsFull : Named → Type 0
IsFull table = 2 ^ 32 ≤ length table.caps + 1

-- the table, if what it names is of this session
abbrev pub caps_for : ℕ → Named → Result (List Cap) ReferenceError
caps_for session table = if are_of session table.session then Ok table.caps else Err errors.OtherSession

abbrev pub named_code : Coded Named
named_code =
    code_by
    (Option ℕ × List Cap)
    (coded× (coded_option coded_ℕ) (coded_list the_row.coded))
    (λ t. (t.session, t.caps))
    (λ parts. record { session = parts.0; caps = parts.1 })
    (λ _. refl)
