use Rattle.std.proofs.Common.{◌≤◌, drop, length}
use Rattle.cp_packed.proofs.Spreading.{Spreads}
use Rattle.cp_packed.proofs.group.spread.Given as goal

abbrev pub invariant-loop-place : goal.invariant-loop-place
invariant-loop-place l = record {
  inside : l.next ≤ length l.written;
  spreads : Spreads l.tag l.written l.bytes l.bits (drop l.next l.written) l.place;
}
