use Rattle.cp_tail_calls.proofs.Untaken.{put_more}
use Rattle.cp_tail_calls.proofs.results.UntakenResults.put.Goals as goal

pub invariant_of-self-2 : goal.invariant_of-self-2
invariant_of-self-2 c =
    rw c.in_ok-put.ensures.put
    (put_more c.self.inside.returns c.args.call c.args.results c.self.inside.bytes c.lowered-others.result _ c.self.invariant (c.lowered-others.ensures _ (rw (← c.self.view_is) at c.memory_of.ensures)) (c.in_ok-bytes.ensures _ c.return_memory.ensures))
