-- The objects of a connection.
use Rattle.std.specs.Prelude.{ℕ, ◌+◌, ◌-◌, ◌^◌, ◌==◌, Bool, true, if◌then◌else◌, min, nat_lt, List, [], ◌∷◌, ◌++◌, length, Option, Some, None}
use Rattle.std.specs.List.{list_any}
use Rattle.std.specs.Option.{option_map_or}
use Rattle.std.specs.FinMap.{get}
use Rattle.cp_tables.specs.Table.{Table}
use Rattle.cp_servants.specs.declared.servant.OutgoingCall.{OutgoingCall}
use Rattle.cp_objects.specs.declared.departed.Departed.{Departed}
use Rattle.cp_objects.specs.declared.object_entry.ObjectEntry.{ObjectEntry}

-- an object that did nothing
abbrev pub newborn : {A : Type 0} → A → ObjectEntry A
newborn object = record { object = object; asked = 0; next_calls = []; holds = []; keeps = []; alarm = None }

-- one more, as far as 64 bits go
abbrev pub one_more : ℕ → ℕ
one_more n = min (n + 1) (2 ^ 64 - 1)

-- the calls that the object of this number is yet to make
abbrev pub next_calls_of : {A : Type 0} → ℕ → Table (ObjectEntry A) → List OutgoingCall
next_calls_of number members = option_map_or (λ member. member.next_calls) (get members number) []

-- the imports that the object of this number holds
abbrev pub held_in : {A : Type 0} → ℕ → Table (ObjectEntry A) → List ℕ
held_in number members = option_map_or (λ member. member.holds) (get members number) []

-- It is to make one call more, whose outcome it waits for.
abbrev pub to_call : {A : Type 0} → OutgoingCall → ObjectEntry A → ObjectEntry A
to_call next_call m = record m { next_calls = m.next_calls ++ next_call ∷ []; asked = one_more m.asked }

-- The calls that it was yet to make aren't made, so it waits for no outcome of these.
abbrev pub without_next_calls : {A : Type 0} → ObjectEntry A → ObjectEntry A
without_next_calls m = record m { next_calls = []; asked = m.asked - length m.next_calls }

-- one of these calls has this number
abbrev pub has_call : ℕ → List OutgoingCall → Bool
has_call call_id calls = list_any (λ call. call.call_id == call_id) calls

-- the first of these calls that has this number is gone
abbrev pub without_call : ℕ → List OutgoingCall → List OutgoingCall
without_call call_id [] = []
without_call call_id (call ∷ more) = if call.call_id == call_id then more else call ∷ without_call call_id more

-- it waits for one outcome less
abbrev pub waiting_less : {A : Type 0} → ObjectEntry A → ObjectEntry A
waiting_less m = record m { asked = m.asked - 1 }

-- The call of this number that it was yet to make isn't made, so it waits for no outcome of it.
abbrev pub not_to_call : {A : Type 0} → ℕ → ObjectEntry A → ObjectEntry A
not_to_call call_id m = record m { next_calls = without_call call_id m.next_calls; asked = m.asked - 1 }

-- what it leaves as it goes: the imports that it holds, and the calls that it is yet to make
abbrev pub departed : {A : Type 0} → ObjectEntry A → Departed
departed m = record { imports = m.holds; next_calls = m.next_calls }

-- the earlier of two times
abbrev pub earlier : Option ℕ → ℕ → ℕ
earlier None time = time
earlier (Some first) time = min first time

-- that time, if there is one, is to come yet
abbrev pub is_later : ℕ → Option ℕ → Bool
is_later now None = true
is_later now (Some time) = nat_lt now time
