-- The faults that a vat never meets of another one like it, while neither is closed. (rpc.capnp: "Four Tables", "Return", "Release", "Unimplemented".)
use Rattle.std.specs.Prelude.{◌≡◌, List, ◌∷◌, Err}
use Rattle.cp_messages.specs.declared.message.Message.{Message}
use Rattle.cp_vat_machine.specs.Step.{Receives}
use Rattle.cp_vat_machine.specs.declared.fault.PeerFault.{PeerFault}
use Rattle.cp_vat_machine.specs.declared.fault.PeerFault.TheVariants as faults
use Rattle.cp_vat_pair_laws.specs.VatPair.{VatPair, Side, end_of}

-- No Call or Bootstrap comes under a number in use, no Return for a question that doesn't wait for one, nothing that lowers an export past its count,
-- and nothing that isn't supported or isn't known.
abbrev pub IsOther : PeerFault → Type 0
IsOther faults.QuestionInUse = ⊥
IsOther faults.UnknownQuestion = ⊥
IsOther faults.ReleaseTooLarge = ⊥
IsOther faults.EchoTooLarge = ⊥
IsOther faults.PeerLacksLevelOne = ⊥
IsOther other = Unit {0}

-- Whatever fault the next message to a vat meets, it is none of these.
abbrev pub AreSpared : VatPair → Type 0
AreSpared w =
    (side : Side) (m : Message) (rest : List Message) (fault : PeerFault) → (end_of w side).inbox ≡ m ∷ rest → Receives (end_of w side).vat m (Err fault)
    → IsOther fault
