-- Results as the other end would have sent them. (rpc.capnp: "CapDescriptor".)
use Rattle.std.specs.Prelude.{map}
use Rattle.cp_messages.specs.declared.descriptor.Descriptor.{Descriptor}
use Rattle.cp_messages.specs.declared.descriptor.Descriptor.TheVariants as descriptors
use Rattle.cp_messages.specs.declared.returned.Returned.{Returned}
use Rattle.cp_messages.specs.declared.returned.Returned.TheVariants as returns

-- What one end hosts, the other receives. (Of a promise of the receiver's that it receives back it knows that it is one.)
abbrev pub other_way : Descriptor → Descriptor
other_way (descriptors.SenderHosted e) = descriptors.ReceiverHosted e
other_way (descriptors.SenderPromise e) = descriptors.ReceiverHosted e
other_way (descriptors.ReceiverHosted i) = descriptors.SenderHosted i
other_way other = other

-- what an end returned, as the other end would return it
abbrev pub seen_from_here : Returned → Returned
seen_from_here (returns.Results p) = returns.Results (record p { cap_table = map other_way p.cap_table })
seen_from_here other = other
