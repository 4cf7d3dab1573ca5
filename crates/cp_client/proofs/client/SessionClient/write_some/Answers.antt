use Rattle.std.proofs.Common.{ℕ, List, take, refl, subst}
use Rattle.std.proofs.lemmas.Result.{err_from_is_err_and}
use Rattle.std.specs.Io.KnownBytes.{Appends}
use Rattle.cp_client.proofs.Deciding.{some_unless}
use Rattle.cp_client.proofs.Devices.{appends_kept, wrote_none, wrote_some}
use Rattle.cp_client.proofs.client.SessionClient.write_some.Goals as goal

pub returns-in_err-count-clause-failed : goal.returns-in_err-count-clause-failed
returns-in_err-count-clause-failed g c =
    let p = err_from_is_err_and c.from_residual.result c.from_residual.ensures.1 in
    rw (p.1, p.2) (record { error = _; is = refl; failed = c.in_err-count.ensures.counts.failures; appended = appends_kept _ _ c.in_err-count.ensures.bytes; same = refl })

pub returns-then-count-eq0-clause-failed : goal.returns-then-count-eq0-clause-failed
returns-then-count-eq0-clause-failed g c = record {
  error = _;
  is = refl;
  failed = wrote_none c.args.self.now.to c.write.new.self c.in_ok-count.count c.in_ok-count.ensures.counts c.if-count-eq0.true;
  appended = subst (λ (n : ℕ). Appends (g.W.Write.contents c.args.self.now.to.inner) (g.W.Write.contents c.write.new.self.inner) (take n c.outgoing.result.now)) c.if-count-eq0.true c.in_ok-count.ensures.bytes;
  same = refl;
}

pub returns-clause-writes : goal.returns-clause-writes
returns-clause-writes g c = (
  c.in_ok-count.count,
  some_unless c.in_ok-count.count c.if-count-eq0.false,
  record {
    writes = c.wrote.ensures;
    appended = subst (λ (b : List ℕ). Appends (g.W.Write.contents c.args.self.now.to.inner) (g.W.Write.contents c.write.new.self.inner) (take c.in_ok-count.count b)) c.outgoing.ensures c.in_ok-count.ensures.bytes;
    none_failed = wrote_some c.args.self.now.to c.write.new.self c.in_ok-count.count c.in_ok-count.ensures.counts c.if-count-eq0.false;
    same = refl;
  },
)
