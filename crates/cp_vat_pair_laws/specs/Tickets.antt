-- The tickets of one vat's calls. (rpc.capnp: "Call".)
use Rattle.std.specs.Prelude.{◌≡◌, ℕ, ◌<◌, List, [], ◌∷◌, None, Some}
use Rattle.std.specs.List.{AllByRecursion}
use Rattle.std.specs.FinMap.{get}
use Rattle.cp_tables.specs.declared.exchange.Exchange.{Exchange}
use Rattle.cp_refs.specs.declared.call.Origin.{Origin}
use Rattle.cp_refs.specs.declared.call.Origin.TheVariants as origins
use Rattle.cp_vat_machine.specs.State.{State}
use Rattle.cp_vat_machine.specs.declared.entry.AnswerEntry.{AnswerEntry}
use Rattle.cp_vat_machine.specs.declared.entry.QuestionEntry.{QuestionEntry}

-- an answer, or a question of the application's, bears this ticket
abbrev pub BearsTicket : State → Origin → ℕ → Type 0
BearsTicket s (origins.Answer a) ticket = (entry : Exchange AnswerEntry) × (get s.entries.answers a ≡ Some entry) × (entry.kept.ticket ≡ Some ticket)
BearsTicket s (origins.Own q) ticket =
    (entry : Exchange QuestionEntry) × (get s.entries.questions q ≡ Some entry) × (entry.kept.ticket ≡ Some ticket) × (entry.kept.forwards ≡ None)

-- each ticket is lower than those after it
abbrev pub AreRising : List ℕ → Type 0
AreRising [] = Unit {0}
AreRising (ticket ∷ more) = AllByRecursion (λ later. ticket < later) more × AreRising more

-- Tickets of own questions and of answers differ, and are below the next one. Those of the calls made on a reference rise, and are below it too.
pub record TicketsHold (s : State) (made : List ℕ) : Type 0 where
  pub below : (origin : Origin) (ticket : ℕ) → BearsTicket s origin ticket → ticket < s.next_ticket
  pub differ : (one other : Origin) (ticket : ℕ) → BearsTicket s one ticket → BearsTicket s other ticket → one ≡ other
  pub rising : AreRising made
  pub made_below : AllByRecursion (λ ticket. ticket < s.next_ticket) made
