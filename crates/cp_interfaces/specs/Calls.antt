-- What a typed client does when it calls.
use Rattle.std.specs.Prelude.{◌≡◌, ℕ, Bool, true, false, ◌⊎◌, if◌then◌else◌, IsErrAnd, List, [], Option, Some, None, Result, Ok, Err}
use Rattle.cp_tree.specs.Node.{Node}
use Rattle.cp_refs.specs.declared.cap.Cap.{Cap}
use Rattle.cp_refs.specs.declared.cap.Cap.TheVariants as caps
use Rattle.cp_refs.specs.declared.call.Request.{Request}
use Rattle.cp_objects.specs.SessionCap.{is_of}
use Rattle.cp_interfaces.specs.declared.method_request.MethodRequest.{MethodRequest}
use Rattle.cp_interfaces.specs.declared.naming_error.NamingError.{NamingError}
use Rattle.cp_interfaces.specs.declared.naming_error.NamingError.TheVariants as errors
use Rattle.cp_objects.specs.declared.session_cap.SessionCap.{SessionCap}
use Rattle.cp_interfaces.specs.Promises.{Promise}
use Rattle.cp_interfaces.specs.Tables.{Named, are_of}

-- a call of a method, with these params and the capabilities that they name
abbrev pub request_of : ℕ → ℕ → Node → List Cap → Request
request_of interface method content named = record { interface = interface; method = method; content = content; caps = named }

-- the same, where what they name is of this session
abbrev pub request_naming : ℕ → ℕ → Node → ℕ → Named → Result Request NamingError
request_naming interface method content session table =
    if are_of session table.session then Ok (request_of interface method content table.caps) else Err errors.OtherSession

-- a call of this capability, with this request
abbrev pub IsCall : MethodRequest → SessionCap → Request → Type 0
IsCall call target request = (call.target.now ≡ target) × (call.request ≡ request)

-- the same, or why there is none
abbrev pub IsCallIf : {F : Type 0} → Result MethodRequest F → SessionCap → Result Request F → Type 0
IsCallIf (Ok call) target (Ok request) = IsCall call target request
IsCallIf (Err given) target (Err fault) = given ≡ fault
IsCallIf (Ok call) target (Err fault) = ⊥
IsCallIf (Err given) target (Ok request) = ⊥

-- the import that a capability is
abbrev pub import_of : Cap → Option ℕ
import_of (caps.Import i) = Some i
import_of other = None

-- A capability of the caller's session was called, and a question's results are promised; or it wasn't.
abbrev pub CallsOwn : {C A F : Type 0} → (A → Promise) → ℕ → (C → Cap → Request → Result ℕ F → C → Type 0) → C → Cap → Request → Result A F → C → Type 0
CallsOwn at session sends old cap request (Ok p) new = sends old cap request (Ok (at p).question) new × ((at p).path ≡ []) × ((at p).session ≡ session)
CallsOwn at session sends old cap request (Err fault) new = sends old cap request (Err fault) new

-- the same, if it is of that session; else nothing was done, and the fault says that
abbrev pub CallsIf : {C A F : Type 0} → Bool → (A → Promise) → ℕ → (C → Cap → Request → Result ℕ F → C → Type 0) → (NamingError → F → Type 0)
    → C → Cap → Request → Result A F → C → Type 0
CallsIf true at session sends says old cap request result new = CallsOwn at session sends old cap request result new
CallsIf false at session sends says old cap request result new = IsErrAnd result (says errors.OtherSession) × (new ≡ old)

-- A caller called a capability. What it says of one that it can't name is its fault.
abbrev pub Calls : {C A F : Type 0} → (A → Promise) → (C → ℕ) → (C → Cap → Request → Result ℕ F → C → Type 0) → (NamingError → F → Type 0)
    → C → SessionCap → Request → Result A F → C → Type 0
Calls at session sends says old target request result new = CallsIf (is_of (session old) target) at (session old) sends says old target.cap request result new

-- This method of this interface of a capability was called, with these params and the capabilities that they name.
abbrev pub Makes : {C A F : Type 0} → (A → Promise) → (C → ℕ) → (C → Cap → Request → Result ℕ F → C → Type 0) → (NamingError → F → Type 0)
    → C → SessionCap → ℕ → ℕ → Node → List Cap → Result A F → C → Type 0
Makes at session sends says old target interface method content named result new =
    Calls at session sends says old target (request_of interface method content named) result new

-- The same; or its params weren't written for a reason of which this holds, and nothing was done.
abbrev pub MakesOf : {C A F : Type 0} → (A → Promise) → (C → ℕ) → (C → Cap → Request → Result ℕ F → C → Type 0) → (NamingError → F → Type 0) → (F → Type 0)
    → C → SessionCap → ℕ → ℕ → Node → List Cap → Result A F → C → Type 0
MakesOf at session sends says Unwritten old target interface method content named (Ok p) new =
    Makes at session sends says old target interface method content named (Ok p) new
MakesOf at session sends says Unwritten old target interface method content named (Err fault) new =
    Makes at session sends says old target interface method content named (Err fault) new ⊎ (Unwritten fault × (new ≡ old))
