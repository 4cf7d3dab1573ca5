-- Tail calls owe messages to the peer that can be written. No public clause names these.
use Rattle.std.specs.Prelude.{List, [], ◌∷◌, Option, Some, None}
use Rattle.cp_vat_laws.specs.Sizes.{IsWritable}
use Rattle.cp_tail_calls.specs.Tails.{Tails}
use Rattle.cp_tail_calls.specs.declared.forwarding.ForwardedMessage.{ForwardedMessage}
use Rattle.cp_tail_calls.specs.declared.forwarding.ForwardedMessage.TheVariants as owed

-- a message to the peer can be written
abbrev pub IsSendable : ForwardedMessage → Type 0
IsSendable (owed.ToPeer m) = IsWritable m
IsSendable (owed.ToVat m) = Unit {0}

abbrev pub AreSendable : List ForwardedMessage → Type 0
AreSendable [] = Unit {0}
AreSendable (first ∷ more) = IsSendable first × AreSendable more

-- so is each that tail calls owe
abbrev pub OwesSendable : Option Tails → Type 0
OwesSendable None = Unit {0}
OwesSendable (Some t) = AreSendable t.owed
