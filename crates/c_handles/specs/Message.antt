-- A message of rpc.capnp as its numbers.
use Rattle.std.specs.Prelude.{◌≡◌, ℕ, List, false}
use Rattle.cp_words.specs.Limits.{Bounds}
use Rattle.cp_messages.specs.declared.disembargo.DisembargoContext.{DisembargoContext}
use Rattle.cp_messages.specs.declared.disembargo.DisembargoContext.TheVariants as contexts
use Rattle.cp_messages.specs.declared.message.Message.{Message}
use Rattle.cp_messages.specs.declared.message.Message.TheVariants as messages
use Rattle.cp_stream.specs.Stream.{Holds}
use Rattle.c_handles.specs.declared.message.MessageNumbers.{MessageNumbers}

-- a kind alone
abbrev pub of_kind : ℕ → MessageNumbers
of_kind n = record { kind = n; id = 0; interface = 0; method = 0; releases = false; count = 0 }

-- the embargo of a disembargo that loops back
abbrev pub embargo_of : DisembargoContext → ℕ
embargo_of (contexts.SenderLoopback embargo) = embargo
embargo_of (contexts.ReceiverLoopback embargo) = embargo
embargo_of other = 0

-- the number of the message's member, and its numbers
abbrev pub numbers_of : Message → MessageNumbers
numbers_of (messages.Unimplemented tree) = of_kind 0
numbers_of (messages.Abort e) = of_kind 1
numbers_of (messages.Call c) = record (of_kind 2) { id = c.question_id; interface = c.interface_id; method = c.method_id }
numbers_of (messages.Return r) = record (of_kind 3) { id = r.answer_id; releases = r.release_param_caps }
numbers_of (messages.Finish f) = record (of_kind 4) { id = f.question_id; releases = f.release_result_caps }
numbers_of (messages.Resolve r) = record (of_kind 5) { id = r.promise_id }
numbers_of (messages.Release r) = record (of_kind 6) { id = r.id; count = r.reference_count }
numbers_of (messages.Bootstrap b) = record (of_kind 8) { id = b.question_id }
numbers_of (messages.Disembargo d) = record (of_kind 13) { id = embargo_of d.context }
numbers_of (messages.Other which body) = of_kind which

-- the segments hold a message of these numbers
abbrev pub HasNumbers : Bounds → List (List ℕ) → MessageNumbers → Type 0
HasNumbers limits S n = (m : Message) × Holds limits S m × (n ≡ numbers_of m)
