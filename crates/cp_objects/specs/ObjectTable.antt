-- What the objects of a connection do, of whatever form they are.
use Rattle.std.specs.Prelude.{ℕ, Bool, List, Option}
use Rattle.cp_refs.specs.declared.call.Request.{Request}
use Rattle.cp_refs.specs.declared.outcome.Outcome.{Outcome}
use Rattle.cp_servants.specs.declared.servant.OutgoingCall.{OutgoingCall}
use Rattle.cp_servants.specs.declared.servant.Reply.{Reply}
use Rattle.cp_servants.specs.declared.servant.Settled.{Settled}
use Rattle.cp_objects.specs.declared.canceled_call.CanceledCall.{CanceledCall}
use Rattle.cp_objects.specs.declared.departed.Departed.{Departed}
use Rattle.cp_objects.specs.declared.promise_request.PromiseRequest.{PromiseRequest}
use Rattle.cp_objects.specs.declared.letters.Letter.{Letter}
use Rattle.cp_objects.specs.declared.letters.LetterBody.{LetterBody}

-- Which numbers have an object. What it does to them that one is called under a ticket, is polled, says which call it makes next, makes none of those that it
-- is yet to make, and is told what its call of a number came to; and that one is told that the call of a ticket was given up, and which. Which
-- call that was made is given up first, and what it does that the object of a number waits for one outcome less. Which is polled first of those from a number on, and what it says of whether one may give more
-- though nothing more comes. How many may go, which go unless the connection refers to them, and what it does that one ends and goes, which left this, and that all do. What a call
-- came to that wasn't settled by a poll. What it does that their session has a number, that it is a time, that those are woken whose time has come, and that one
-- is woken; when one is to be woken first; which letter goes to another session first, and what is done that a letter of one says this; and which imports they gave up beside what they answered. Of promises: what is to be
-- done first, which the vat made for a number, and what it does that it made this; what an outcome and a call of theirs mean to the vat; which of its promises go
-- unless it uses them, and what it does that it forgot one; which they may know, and how many, of so many, they don't.
pub record ObjectTableKind (H : Type 0) : Type 1 where
  pub holds : ℕ → H → Type 0
  pub calls : ℕ → ℕ → Request → Reply → H → H → Type 0
  pub polls : ℕ → Option Settled → H → H → Type 0
  pub next_calls : ℕ → Option OutgoingCall → H → H → Type 0
  pub drops_next_calls : ℕ → H → H → Type 0
  pub tells : ℕ → ℕ → Outcome → H → H → Type 0
  pub cancels : ℕ → Option ℕ → H → H → Type 0
  pub hands_canceled : Option CanceledCall → H → H → Type 0
  pub waits_less : ℕ → H → H → Type 0
  pub is_next : ℕ → Option ℕ → H → Type 0
  pub says_more : Bool → H → Type 0
  pub guests : H → ℕ
  pub idle : H → List ℕ
  pub ends : ℕ → Departed → H → H → Type 0
  pub ends_all : H → H → Type 0
  pub hands_settled : Option Settled → H → H → Type 0
  pub is_in : ℕ → H → H → Type 0
  pub is_at : ℕ → H → H → Type 0
  pub wakes_due : H → H → Type 0
  pub wakes : ℕ → H → H → Type 0
  pub deadline : H → Option ℕ
  pub hands_on : Option Letter → H → H → Type 0
  pub delivers : LetterBody → H → H → Type 0
  pub hands_given_up : List ℕ → H → H → Type 0
  pub hands_promise_request : Option PromiseRequest → H → H → Type 0
  pub promise_of : ℕ → H → Option ℕ
  pub keeps_promise : ℕ → ℕ → H → H → Type 0
  pub means : Outcome → H → Outcome
  pub means_call : OutgoingCall → H → OutgoingCall
  pub loose : H → List ℕ
  pub forgets : ℕ → H → H → Type 0
  pub knows : ℕ → H → Bool
  pub unknown : ℕ → H → ℕ
