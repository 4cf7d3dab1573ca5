use Rattle.std.proofs.Common.{◌≡◌, drop, Result}
use Rattle.cp_messages.specs.declared.descriptor.Descriptor.{Descriptor}
use Rattle.cp_vat_machine.specs.State.{State}
use Rattle.cp_vat_machine.specs.Writing.{WritesDescriptors, mentions_of}
use Rattle.cp_vat_machine.specs.declared.fault.PeerFault.{PeerFault}
use Rattle.cp_vat_rules.specs.Leading.{with_parts}
use Rattle.cp_vat_rules.specs.Settling.{lowered_back}
use Rattle.cp_vat_rules.proofs.Saying.{before}
use Rattle.std.proofs.Common.{List}
use Rattle.cp_vat_rules.proofs.descriptors.write_descriptors.Given as goal

-- what the rest gives after what was said, the whole table gives; and what was said is taken back to what was there
abbrev pub invariant-loop-cap : goal.invariant-loop-cap
invariant-loop-cap l =
    record {
      said :
          (s : State) (out : Result (List Descriptor × State) PeerFault) → WritesDescriptors (with_parts s l.values l.exports) (drop l.cap-index l.caps) out
          → WritesDescriptors (with_parts s l.values l.initial.exports) l.caps (before l.table.items out);
      back : lowered_back l.exports (mentions_of l.table.items) ≡ l.initial.exports;
    }
