-- Which answer the peer finishes by what it sent.
use Rattle.std.specs.Prelude.{◌≡◌, ◌⊎◌, ℕ, List, ◌++◌, Option, Some, None, Ok, length}
use Rattle.cp_messages.specs.declared.message.Message.{Message}
use Rattle.cp_messages.specs.declared.message.Message.TheVariants as messages
use Rattle.cp_vat_machine.specs.declared.event.Event.TheVariants as events
use Rattle.cp_vat_machine.specs.declared.event.Value.TheVariants as values
use Rattle.cp_connection.specs.Link.{Link}
use Rattle.cp_connection.specs.Doing.{Does}
use Rattle.cp_connection.specs.Receiving.{Reads, ReadsOn}

-- the answer that a message finishes, if it is a Finish
abbrev pub finished_by : Message → Option ℕ
finished_by (messages.Finish f) = Some f.question_id
finished_by message = None

-- The first bytes of a piece were taken, as Receives says it, and the message that they end finishes this answer, if any.
abbrev pub ReceivesNaming : Link → List ℕ → ℕ → Option ℕ → Link → Type 0
ReceivesNaming old piece count finished new =
    (count ≡ length piece) × (finished ≡ None) × ReadsOn old piece new
    ⊎ ((front : List ℕ) × (back : List ℕ) × (message : Message) × (mid : Link) × (piece ≡ front ++ back) × (count ≡ length front)
    × Reads old front message mid × Does mid (events.Receive message) (Ok values.Nothing) new × (finished ≡ finished_by message))
