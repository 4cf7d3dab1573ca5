-- The promises of objects.
use Rattle.std.specs.Prelude.{◌≡◌, ℕ, ◌+◌, Bool, if◌then◌else◌, List, [], ◌∷◌, ◌++◌, map, Option, Some, None, is_some}
use Rattle.std.specs.Option.{option_map_or}
use Rattle.std.specs.FinMap.{get, insert, remove, empty}
use Rattle.cp_tables.specs.Table.{Table}
use Rattle.cp_refs.specs.declared.call.Request.{Request}
use Rattle.cp_refs.specs.declared.cap.Cap.{Cap}
use Rattle.cp_refs.specs.declared.cap.Cap.TheVariants as caps
use Rattle.cp_refs.specs.declared.outcome.Outcome.{Outcome}
use Rattle.cp_refs.specs.declared.outcome.Outcome.TheVariants as outcomes
use Rattle.cp_servants.specs.declared.servant.OutgoingCall.{OutgoingCall}
use Rattle.cp_objects.specs.declared.promise_request.PromiseRequest.{PromiseRequest}
use Rattle.cp_objects.specs.declared.promise_request.PromiseRequest.TheVariants as promise_requests
use Rattle.cp_objects.specs.declared.promises.Promises.{Promises}

-- Who made each promise that isn't resolved; the vat's promise of each number, and the number of each of these; and what is to be done of promises, in order.
pub record Promised : Type 0 where
  pub makers : Table ℕ
  pub ids : Table ℕ
  pub names : Table ℕ
  pub promise_requests : List PromiseRequest

abbrev pub promised_of : Promises → Promised
promised_of p = record { makers = p.makers; ids = p.ids; names = p.names; promise_requests = p.promise_requests.items }

-- none was made
abbrev pub none_promised : Promised
none_promised = record { makers = empty; ids = empty; names = empty; promise_requests = [] }

-- an object made this promise
abbrev pub promising : ℕ → ℕ → Promised → Promised
promising number served_object p = record p { makers = insert p.makers number served_object; promise_requests = p.promise_requests ++ promise_requests.Make number ∷ [] }

-- this promise is to come to this
abbrev pub resolving : ℕ → Cap → Promised → Promised
resolving number value p = record p { makers = remove p.makers number; promise_requests = p.promise_requests ++ promise_requests.Resolve number value ∷ [] }

-- the vat made this promise of its own for this number
abbrev pub keeping_promise : ℕ → ℕ → Promised → Promised
keeping_promise number id p = record p { ids = insert p.ids number id; names = insert p.names id number }

-- it has a number
abbrev pub has_name : ℕ → Promised → Bool
has_name id p = is_some (get p.names id)

-- A promise of the vat's that has no number gets this one, by which objects name it. And the number that is given next.
abbrev pub adopted : Cap → Promised × ℕ → Promised × ℕ
adopted (caps.Promise id) at = if has_name id at.0 then at else (keeping_promise at.1 id at.0, at.1 + 1)
adopted other at = at

-- so does each that a table names
abbrev pub adopted_each : List Cap → Promised × ℕ → Promised × ℕ
adopted_each [] at = at
adopted_each (cap ∷ more) at = adopted_each more (adopted cap at)

-- the vat forgot this promise of its own
abbrev pub forgetting : ℕ → Promised → Promised
forgetting id p = record p { ids = option_map_or (λ number. remove p.ids number) (get p.names id) p.ids; names = remove p.names id }

-- What an object's name of a promise means to the vat: its own promise of that number. Any other capability means itself.
abbrev pub meant_by : ℕ → Option ℕ → Cap
meant_by number None = caps.Object number
meant_by number (Some id) = caps.Promise id

abbrev pub meant : Table ℕ → Cap → Cap
meant ids (caps.Object number) = meant_by number (get ids number)
meant ids other = other

-- what objects name a promise of the vat's, if it is one of theirs
abbrev pub named_by : ℕ → Option ℕ → Cap
named_by id None = caps.Promise id
named_by id (Some number) = caps.Object number

abbrev pub named : Table ℕ → Cap → Cap
named names (caps.Promise id) = named_by id (get names id)
named names other = other

-- each capability of a request, of an outcome, or of a call with what it is made on, is this
abbrev pub with_request : (Cap → Cap) → Request → Request
with_request f request = record request { caps = map f request.caps }

abbrev pub with_outcome : (Cap → Cap) → Outcome → Outcome
with_outcome f (outcomes.Results content table) = outcomes.Results content (map f table)
with_outcome f other = other

abbrev pub with_next_call : (Cap → Cap) → OutgoingCall → OutgoingCall
with_next_call f next_call = record next_call { cap = f next_call.cap; request = with_request f next_call.request }

abbrev pub with_promise_request : (Cap → Cap) → PromiseRequest → PromiseRequest
with_promise_request f (promise_requests.Resolve number value) = promise_requests.Resolve number (f value)
with_promise_request f other = other

-- What is to be done first is handed out, as the vat is to do it, if there is something.
abbrev pub HandsPromiseRequest : Option PromiseRequest → Promised → Promised → Type 0
HandsPromiseRequest (Some promise_request) old new =
    (first : PromiseRequest) × (old.promise_requests ≡ first ∷ new.promise_requests) × (promise_request ≡ with_promise_request (meant old.ids) first) × (new ≡ record old { promise_requests = new.promise_requests })
HandsPromiseRequest None old new = (old.promise_requests ≡ []) × (new ≡ old)
