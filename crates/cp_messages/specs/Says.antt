-- Which message a tree says. (rpc.capnp)
use Rattle.std.specs.Prelude.{◌≡◌, []}
use Rattle.cp_tree.specs.Node.{Node}
use Rattle.cp_messages.specs.Denoted.{message_denoted}
use Rattle.cp_messages.specs.Faults.{message_faults}
use Rattle.cp_messages.specs.declared.message.Message.{Message}

-- The tree says the message: its fields say it, and none that the message has is at fault. What is past the known fields, and what belongs
-- to members that aren't chosen, doesn't matter.
pub record Says (t : Node) (m : Message) : Type 0 where
  pub sound : message_faults t ≡ []
  pub said : m ≡ message_denoted t
