-- What is lent to other sessions, and the calls that they forward, by keys and numbers.
use Rattle.std.specs.Prelude.{ℕ, ◌+◌, ◌*◌, ◌^◌, Bool, false, List, [], ◌∷◌, Option, Some, None}
use Rattle.std.specs.FinMap.{empty, get, insert, remove, entries}
use Rattle.cp_tables.specs.Table.{Table}
use Rattle.cp_refs.specs.declared.cap.Cap.{Cap}
use Rattle.cp_refs.specs.declared.cap.Cap.TheVariants as caps
use Rattle.cp_objects.specs.declared.letters.Caller.{Caller}
use Rattle.cp_objects.specs.declared.letters.ForwardedCall.{ForwardedCall}
use Rattle.cp_objects.specs.declared.shared_cap.LentCap.{LentCap}
use Rattle.cp_objects.specs.Counts.{lowered, raised}
use Rattle.cp_objects.specs.Numbers.{is_among}

-- The calls that are yet to be made, and who is told what each comes to that isn't answered, by the numbers by which they came; the number of each, by its session and
-- its ticket there; and the number of the next.
pub record CallsState : Type 0 where
  pub waiting : Table ForwardedCall
  pub callers : Table Caller
  pub numbers : Table ℕ
  pub next : ℕ

-- the name of a call, by its session and its ticket
abbrev pub name_of : Caller → ℕ
name_of caller = caller.proxy.session * 2 ^ 64 + caller.ticket

-- the import that this is, if it is one, before these
abbrev pub import_then : Cap → List ℕ → List ℕ
import_then (caps.Import i) is = i ∷ is
import_then other is = is

-- the imports of these
abbrev pub imports_in : List LentCap → List ℕ
imports_in [] = []
imports_in (lent ∷ more) = import_then lent.cap (imports_in more)

-- this is an import, and one of these
abbrev pub is_import_of : Cap → List ℕ → Bool
is_import_of (caps.Import i) is = is_among i is
is_import_of other is = false

-- how often each import is lent, once this is too, or isn't any more
abbrev pub raised_by : Cap → Table ℕ → Table ℕ
raised_by (caps.Import i) counts = raised counts i
raised_by other counts = counts

abbrev pub lowered_by : Cap → Table ℕ → Table ℕ
lowered_by (caps.Import i) counts = lowered counts i
lowered_by other counts = counts

-- a call came, after the others
abbrev pub with_call : ForwardedCall → CallsState → CallsState
with_call call calls = record calls {
  waiting = insert calls.waiting calls.next call;
  callers = insert calls.callers calls.next call.caller;
  numbers = insert calls.numbers (name_of call.caller) calls.next;
  next = calls.next + 1;
}

-- the first of these, by the numbers
abbrev pub first_in : {X : Type 0} → List (ℕ × X) → Option (ℕ × X)
first_in [] = None
first_in (entry ∷ more) = Some entry

-- the first that is yet to be made isn't any more
abbrev pub without_first_of : Option (ℕ × ForwardedCall) → CallsState → CallsState
without_first_of None calls = calls
without_first_of (Some entry) calls = record calls { waiting = remove calls.waiting entry.0 }

abbrev pub without_first : CallsState → CallsState
without_first calls = without_first_of (first_in (entries calls.waiting)) calls

-- the call of this number is answered, unless it was given up
abbrev pub answered_as : Option Caller → ℕ → CallsState → CallsState
answered_as None number calls = calls
answered_as (Some caller) number calls = record calls { callers = remove calls.callers number; numbers = remove calls.numbers (name_of caller) }

abbrev pub answered : ℕ → CallsState → CallsState
answered number calls = answered_as (get calls.callers number) number calls

-- this call was given up, unless it was answered
abbrev pub canceled_as : Option ℕ → ℕ → CallsState → CallsState
canceled_as None name calls = calls
canceled_as (Some number) name calls = record calls { waiting = remove calls.waiting number; callers = remove calls.callers number; numbers = remove calls.numbers name }

abbrev pub canceled : Caller → CallsState → CallsState
canceled caller calls = canceled_as (get calls.numbers (name_of caller)) (name_of caller) calls

-- no call came
abbrev pub no_calls : CallsState
no_calls = record { waiting = empty; callers = empty; numbers = empty; next = 0 }
