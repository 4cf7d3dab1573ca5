use Rattle.std.proofs.Common.{◌≤◌}
use Rattle.slab.specs.Slab.{slab_len}
use Rattle.net_host.specs.Floor.{Rounds, floor_of}
use Rattle.net_host.proofs.event_loop.EventLoop.deliver_each.Given as goal

-- no more are served, and some letters were delivered
abbrev pub invariant-loop : goal.invariant-loop
invariant-loop g l = record {
  no_more : slab_len l.self.guests ≤ slab_len l.fn.self.guests;
  turns : Rounds g.S.DrivenSession.table (floor_of g.S.DrivenSession.state g.D.Socket.flow l.fn.self) (floor_of g.S.DrivenSession.state g.D.Socket.flow l.self);
}
