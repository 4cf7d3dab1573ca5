use Rattle.std.proofs.Common.{inl}
use Rattle.net_client.proofs.Limiting.{passed_on}
use Rattle.net_client.proofs.stream.DuplexStream.poll.Goals as goal

pub returns-in-Err-clause-stops : goal.returns-in-Err-clause-stops
returns-in-Err-clause-stops g c = passed_on c.none_in_time.result c.in-Err.fault _ (inl c.in-Err.ensures.stops) c.none_in_time.ensures.same
