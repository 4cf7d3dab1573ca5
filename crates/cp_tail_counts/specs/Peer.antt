-- What the peer says and hears, as the Ledger counts it. (rpc.capnp: "Four Tables".)
use Rattle.std.specs.Prelude.{Bool, true, false, List, [], ◌∷◌, ◌++◌, Option, Some, None}
use Rattle.cp_messages.specs.declared.message.Message.{Message}
use Rattle.cp_vat_machine.specs.Supported.{is_supported}
use Rattle.cp_vat_pair_laws.specs.Ledger.{Traffic}
use Rattle.cp_vat_pair_laws.specs.Ledger as ledger
use Rattle.cp_tail_calls.specs.declared.forwarding.ForwardedMessage.TheVariants as owed
use Rattle.cp_tail_calls.specs.Runs.{Turn, came, went, passed}

-- A message of the peer's counts where tail calls keep it, or where the vat acts on what it gets in its place.
abbrev pub said_if : Bool → Message → List Traffic
said_if true m = ledger.came m ∷ []
said_if false m = []

abbrev pub said : Message → Option Message → List Traffic
said m None = ledger.came m ∷ []
said m (Some on) = said_if (is_supported on) m

-- what the peer hears counts
abbrev pub heard : Option Message → List Traffic
heard None = []
heard (Some m) = ledger.sent m ∷ []

abbrev pub with_peer : Turn → List Traffic
with_peer (came acts_on stage m on) = said m on
with_peer (went trigger m on) = heard on
with_peer (passed stage (owed.ToPeer m)) = ledger.sent m ∷ []
with_peer (passed stage (owed.ToVat m)) = []

-- all that went between tail calls and the peer, the latest first
abbrev pub peer_past : List Turn → List Traffic
peer_past [] = []
peer_past (turn ∷ past) = with_peer turn ++ peer_past past
