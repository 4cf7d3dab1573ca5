use Rattle.std.proofs.Common.{◌≡◌, ◌++◌, take, drop}
use Rattle.cp_objects.specs.Members.{without_call}
use Rattle.cp_objects.proofs.call_queue.remove_call.Given as goal

-- what was looked at stays, and the call is sought in the rest
abbrev pub invariant-loop-place : goal.invariant-loop-place
invariant-loop-place l =
    (l.next_calls.items ≡ l.fn.next_calls.items)
    × (without_call l.call_id l.fn.next_calls.items ≡ take l.place l.fn.next_calls.items ++ without_call l.call_id (drop l.place l.fn.next_calls.items))
