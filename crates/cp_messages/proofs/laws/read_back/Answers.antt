use Rattle.cp_messages.proofs.Readback.{message_says}
use Rattle.cp_messages.proofs.laws.read_back.Goals as goal

pub returns : goal.returns
returns c = message_says
