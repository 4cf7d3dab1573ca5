use Rattle.std.proofs.Common.{inl}
use Rattle.std.proofs.lemmas.Result.{MatchResult-weaker}
use Rattle.net_client.proofs.stream.DuplexStream.wait_any_within.Goals as goal

pub returns-clause-stops : goal.returns-clause-stops
returns-clause-stops g c = MatchResult-weaker c.wait_any-waited.result c.wait_any-waited.ensures.stops (λ came holds. holds) (λ fault stops. inl stops)
