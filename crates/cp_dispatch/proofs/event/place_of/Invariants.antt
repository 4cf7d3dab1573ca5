use Rattle.cp_dispatch.specs.Finishing.{NoneAmong}
use Rattle.cp_dispatch.proofs.event.place_of.Given as goal

-- none of those so far is
abbrev pub invariant-loop-place : goal.invariant-loop-place
invariant-loop-place l = NoneAmong l.question l.place l.notices.items
