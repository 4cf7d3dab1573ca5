-- What results lend the vat. (rpc.capnp: "Release".)
use Rattle.std.specs.Prelude.{◌≡◌, ℕ, ◌+◌, ◌-◌, ◌^◌, ◌<◌, ◌==◌, if◌then◌else◌, List, [], ◌∷◌, Option, Some}
use Rattle.cp_tables.specs.declared.exchange.Stage.{Stage}
use Rattle.cp_tables.specs.declared.exchange.Stage.TheVariants as stages
use Rattle.cp_messages.specs.declared.descriptor.Descriptor.{Descriptor}
use Rattle.cp_messages.specs.declared.descriptor.Descriptor.TheVariants as descriptors
use Rattle.cp_messages.specs.declared.message.Message.{Message}
use Rattle.cp_messages.specs.declared.message.Message.TheVariants as messages
use Rattle.cp_messages.specs.declared.returned.Returned.{Returned}
use Rattle.cp_messages.specs.declared.returned.Returned.TheVariants as returns
use Rattle.cp_messages.specs.declared.small.Release.{Release}
use Rattle.cp_tail_calls.specs.declared.forwarding.ForwardedMessage.TheVariants as owed
use Rattle.cp_tail_calls.specs.declared.forwarding.Trigger.TheVariants as triggers
use Rattle.cp_tail_calls.specs.Runs.{Turn, went, passed, Did, TakesTurn}
use Rattle.cp_tail_calls.specs.Tails.{Tails}

-- how often a table names an import as its sender's
abbrev pub names : ℕ → Descriptor → ℕ
names i (descriptors.SenderHosted j) = if j == i then 1 else 0
names i other = 0

abbrev pub named : ℕ → List Descriptor → ℕ
named i [] = 0
named i (d ∷ table) = names i d + named i table

-- how often results lend an import to a question at this stage
abbrev pub lends : ℕ → Returned → Option Stage → ℕ
lends i (returns.Results p) (Some stages.Open) = named i p.cap_table
lends i other stage = 0

-- how often an import was lent since the application gave it back last
abbrev pub lent_since : ℕ → List Turn → ℕ
lent_since i [] = 0
lent_since i (went triggers.Application (messages.Release r) on ∷ past) = if r.id == i then 0 else lent_since i past
lent_since i (passed stage (owed.ToVat (messages.Return r)) ∷ past) = lent_since i past + lends i r.returned (stage r.answer_id)
lent_since i (other ∷ past) = lent_since i past

-- Of the count of an import that the application gives back, what was lent since it did so last is taken off.
abbrev pub TakesBack : Type 0
TakesBack =
    (past : List Turn) (mid last : Tails) (r : Release) (on : Option Message) → Did past mid → lent_since r.id past < 2 ^ 32
    → TakesTurn mid (went triggers.Application (messages.Release r) on) last
    → on ≡ Some (messages.Release (record r { reference_count = r.reference_count - lent_since r.id past }))
