use Rattle.std.proofs.Common.{inl}
use Rattle.net_client.proofs.Limiting.{passed_on}
use Rattle.net_client.proofs.stream.DuplexStream.serve_for.Goals as goal

pub returns-in-Ok-clause-stops : goal.returns-in-Ok-clause-stops
returns-in-Ok-clause-stops g c = inl c.in-Ok.ensures.serves

pub returns-in-Err-clause-stops : goal.returns-in-Err-clause-stops
returns-in-Err-clause-stops g c = passed_on c.time_over.result c.in-Err.fault _ (inl c.in-Err.ensures.stops) c.time_over.ensures.same
