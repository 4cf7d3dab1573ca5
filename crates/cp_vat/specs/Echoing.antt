-- What the lists of operations and descriptors cost in the tree that a message is written as, and what is left of a cost after them.
use Rattle.std.specs.Prelude.{◌≡◌, ℕ, ◌+◌, ◌*◌, ◌<◌, List, [], ◌∷◌, Option, Some, None, length}
use Rattle.cp_messages.specs.declared.promised_answer.PromisedAnswer.{PromisedAnswer}
use Rattle.cp_messages.specs.declared.target.Target.{Target}
use Rattle.cp_messages.specs.declared.target.Target.TheVariants as targets
use Rattle.cp_messages.specs.declared.descriptor.Descriptor.{Descriptor}
use Rattle.cp_messages.specs.declared.descriptor.Descriptor.TheVariants as descriptors
use Rattle.cp_messages.specs.declared.returned.Returned.{Returned}
use Rattle.cp_messages.specs.declared.returned.Returned.TheVariants as returns
use Rattle.cp_messages.specs.declared.resolve.Resolution.{Resolution}
use Rattle.cp_messages.specs.declared.resolve.Resolution.TheVariants as resolutions
use Rattle.cp_messages.specs.declared.message.Message.{Message}
use Rattle.cp_messages.specs.declared.message.Message.TheVariants as messages

-- an operation is an element of one data word, which costs two
abbrev pub lists_of_answer : PromisedAnswer → ℕ
lists_of_answer p = length p.transform * 2

abbrev pub lists_of_target : Target → ℕ
lists_of_target (targets.PromisedAnswer p) = lists_of_answer p
lists_of_target other = 0

abbrev pub lists_of_descriptor : Descriptor → ℕ
lists_of_descriptor (descriptors.ReceiverAnswer p) = lists_of_answer p
lists_of_descriptor other = 0

abbrev pub lists_in_each : List Descriptor → ℕ
lists_in_each [] = 0
lists_in_each (d ∷ ds) = lists_of_descriptor d + lists_in_each ds

-- a descriptor is an element of one data word and one pointer, which costs three
abbrev pub lists_of_table : List Descriptor → ℕ
lists_of_table ds = length ds * 3 + lists_in_each ds

abbrev pub lists_of_returned : Returned → ℕ
lists_of_returned (returns.Results p) = lists_of_table p.cap_table
lists_of_returned other = 0

abbrev pub lists_of_resolution : Resolution → ℕ
lists_of_resolution (resolutions.Cap d) = lists_of_descriptor d
lists_of_resolution other = 0

abbrev pub lists_of_message : Message → ℕ
lists_of_message (messages.Call c) = lists_of_target c.target + lists_of_table c.params.cap_table
lists_of_message (messages.Return r) = lists_of_returned r.returned
lists_of_message (messages.Resolve r) = lists_of_resolution r.resolution
lists_of_message (messages.Disembargo d) = lists_of_target d.target
lists_of_message other = 0

-- this is left of what there was after the cost, if it was enough
abbrev pub Charges : ℕ → ℕ → Option ℕ → Type 0
Charges left cost (Some rest) = left ≡ cost + rest
Charges left cost None = left < cost
