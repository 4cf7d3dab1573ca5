use Rattle.std.proofs.Common.{◌≡◌}
use Rattle.cp_stream.specs.Kept.{ReadsFirst}
use Rattle.cp_stream.proofs.reader.read_messages.Given as goal

abbrev pub invariant-loop-frame : goal.invariant-loop-frame
invariant-loop-frame l = ReadsFirst l.limits l.frames l.frame-index l.messages.items l.fn.at l.at × (l.at ≡ l.reached)
