-- What a call answered.
use Rattle.std.specs.Prelude.{◌≡◌, Result, Ok, Err}
use Rattle.cp_tree.specs.Node.{Node}
use Rattle.cp_rpc.specs.Viewed.{viewed}
use Rattle.cp_messages.specs.declared.message.Message.{Message}
use Rattle.cp_rpc.specs.declared.message.MessageIn.{MessageIn}

-- a view of this message was answered
abbrev pub AnswersView : {E : Type 0} → Result (MessageIn Node) E → Message → Type 0
AnswersView (Ok v) m = viewed v ≡ m
AnswersView (Err fault) m = ⊥
