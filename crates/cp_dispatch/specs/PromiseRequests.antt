-- What is done of the promises of objects.
use Rattle.std.specs.Prelude.{◌≡◌, ◌≢◌, ℕ, Option, Some, None, Ok, Err}
use Rattle.cp_refs.specs.declared.cap.Cap.{Cap}
use Rattle.cp_refs.specs.declared.cap.Cap.TheVariants as caps
use Rattle.cp_refs.specs.declared.outcome.Outcome.{Outcome}
use Rattle.cp_refs.specs.declared.outcome.Outcome.TheVariants as outcomes
use Rattle.cp_vat_machine.specs.declared.event.Event.TheVariants as events
use Rattle.cp_vat_machine.specs.declared.event.Value.TheVariants as values
use Rattle.cp_vat_machine.specs.declared.fault.VatFault.{VatFault}
use Rattle.cp_connection.specs.declared.fault.ConnectionFault.{ConnectionFault}
use Rattle.cp_connection.specs.declared.fault.ConnectionFault.TheVariants as faults
use Rattle.cp_connection.specs.Link.{Link}
use Rattle.cp_connection.specs.Doing.{Acts}
use Rattle.cp_servants.specs.Outcomes.{bad_outcome}
use Rattle.cp_objects.specs.ObjectTable.{ObjectTableKind}
use Rattle.cp_objects.specs.declared.promise_request.PromiseRequest.{PromiseRequest}
use Rattle.cp_objects.specs.declared.promise_request.PromiseRequest.TheVariants as promise_requests
use Rattle.cp_dispatch.specs.Work.{IsDone, IsEnd}

-- what a promise comes to where a call of it would fail so
abbrev pub broken_by : Outcome → Cap
broken_by (outcomes.Failed exception) = caps.Broken exception
broken_by other = caps.None

-- A promise of the vat comes to this value; or not any more, as the connection ended; or, where the vat refuses that value, to an exception, if that isn't
-- refused too.
pub data Resolves (old : Link) (id : ℕ) (value : Cap) (new : Link) : Type 0 where
  is_taken : Acts old (events.Resolve id value) (Ok values.Nothing) new → Resolves old id value new
  had_ended : (fault : ConnectionFault) → IsEnd fault → Acts old (events.Resolve id value) (Err fault) new → Resolves old id value new
  is_replaced : (refusal : VatFault) (mid : Link) → Acts old (events.Resolve id value) (Err (faults.Refused refusal)) mid
      → IsDone mid (events.Resolve id (broken_by bad_outcome)) new → Resolves old id value new

-- The promise that the vat made for a number, if it did, comes to a value.
abbrev pub ResolvesFor : Option ℕ → Cap → Link → Link → Type 0
ResolvesFor (Some id) value old new = Resolves old id value new
ResolvesFor None value old new = new ≡ old

module _ {H : Type 0} (table : ObjectTableKind H) where
  -- The vat makes a promise for a number, and the objects are told which; or it makes none, and they aren't.
  pub data MakesPromise (number : ℕ) (old new : Link) (objects others : H) : Type 0 where
    is_made : (id : ℕ) → Acts old events.Promise (Ok (values.Promise id)) new → table.keeps_promise number id objects others
        → MakesPromise number old new objects others
    is_unmade : (fault : ConnectionFault) → fault ≢ faults.OutOfMemory → Acts old events.Promise (Err fault) new → others ≡ objects
        → MakesPromise number old new objects others

  -- what is to be done of one promise is done
  abbrev pub KeepsPromiseRequest : PromiseRequest → Link → Link → H → H → Type 0
  KeepsPromiseRequest (promise_requests.Make number) old new objects others = MakesPromise number old new objects others
  KeepsPromiseRequest (promise_requests.Resolve number value) old new objects others = ResolvesFor (table.promise_of number objects) value old new × (others ≡ objects)

  -- What is to be done of promises is done, in order, until nothing is left.
  pub data KeepsPromiseRequests : Link → Link → H → H → Type 0 where
    none_left : {old : Link} {objects others : H} → table.hands_promise_request None objects others → KeepsPromiseRequests old old objects others
    keeps : {old mid new : Link} {objects handed between others : H} (promise_request : PromiseRequest) → table.hands_promise_request (Some promise_request) objects handed
        → KeepsPromiseRequest promise_request old mid handed between → KeepsPromiseRequests mid new between others → KeepsPromiseRequests old new objects others
