use Rattle.cp_messages.proofs.Shaping.{message_shaped, message_fitting}
use Rattle.cp_messages.proofs.laws.writable.Goals as goal

pub returns : goal.returns
returns c m held = (message_shaped m held, message_fitting m)
