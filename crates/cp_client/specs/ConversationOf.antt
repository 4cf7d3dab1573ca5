-- A client by its parts.
use Rattle.std.specs.Prelude.{ℕ, List, Option}
use Rattle.cp_session.specs.State.{State}
use Rattle.cp_client.specs.declared.client.SessionClient.{SessionClient}
use Rattle.cp_client.specs.Devices.{device}
use Rattle.cp_client.specs.Conversation.{Conversation}

-- a client, whose reader has these bytes left, and whose writer holds those
abbrev pub seen : {S H R W : Type 0} → (S → State H) → (R → Option (List ℕ)) → (W → Option (List ℕ)) → SessionClient R W S → Conversation H
seen state remaining contents client = record {
  session = state client.session;
  number = client.number;
  left = client.piece;
  asked = client.questions.asked;
  closed = client.closed;
  from = device remaining client.from;
  to = device contents client.to;
}
