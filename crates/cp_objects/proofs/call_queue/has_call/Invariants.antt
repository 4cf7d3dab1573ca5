use Rattle.std.proofs.Common.{◌≡◌, drop}
use Rattle.cp_objects.specs.Members.{has_call}
use Rattle.cp_objects.proofs.call_queue.has_call.Given as goal

-- one of the rest has the number, exactly if one of all has it
abbrev pub invariant-loop-place : goal.invariant-loop-place
invariant-loop-place l = has_call l.call_id (drop l.place l.next_calls.items) ≡ has_call l.call_id l.next_calls.items
