use Rattle.std.proofs.Common.{inl}
use Rattle.cp_objects.proofs.Answering.{after_ok}
use Rattle.cp_objects.proofs.forwarder.Forwarder.take.Goals as goal

pub returns-then-is_alone : goal.returns-then-is_alone
returns-then-is_alone g c = rw c.in-Dropped.is (after_ok c.let_go.result c.let_go.ensures (λ gone. inl gone))
