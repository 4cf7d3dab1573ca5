use Rattle.std.proofs.Common.{◌≡◌, ◌≤◌, take, replicate}
use Rattle.cp_packed.proofs.runs.zero_run.Given as goal

abbrev pub invariant-loop-place : goal.invariant-loop-place
invariant-loop-place l = record {
  few : l.place ≤ 255;
  zeros : take l.place l.words ≡ replicate l.place 0;
}
