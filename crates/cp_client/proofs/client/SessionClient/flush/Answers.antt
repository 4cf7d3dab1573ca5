use Rattle.std.proofs.Common.{refl}
use Rattle.std.proofs.lemmas.Result.{err_from_is_err_and}
use Rattle.cp_client.specs.ConversationOf.{seen}
use Rattle.cp_client.proofs.Devices.{appends_kept}
use Rattle.cp_client.proofs.client.SessionClient.flush.Goals as goal

pub returns-in_err-write-clause-part : goal.returns-in_err-write-clause-part
returns-in_err-write-clause-part g c =
    let p = err_from_is_err_and c.from_residual.result c.from_residual.ensures.1 in
    rw (p.1, p.2) c.in_err-write.ensures.part

pub returns-in_err-flush-clause-part : goal.returns-in_err-flush-clause-part
returns-in_err-flush-clause-part g c =
    let p = err_from_is_err_and c.from_residual-in_err-flush.result c.from_residual-in_err-flush.ensures.1 in
    rw (p.1, p.2) (record {
      written = seen g.S.DrivenSession.state g.R.Read.remaining g.W.Write.contents c.write.new.self;
      writes = c.in_ok-write.ensures.writes;
      fails = record { error = _; is = refl; failed = c.in_err-flush.ensures.counts.failures; appended = appends_kept _ _ c.in_err-flush.ensures.bytes; same = refl };
    })

pub returns-clause-flushes : goal.returns-clause-flushes
returns-clause-flushes g c = record {
  written = seen g.S.DrivenSession.state g.R.Read.remaining g.W.Write.contents c.write.new.self;
  writes = c.in_ok-write.ensures.writes;
  all_written = c.in_ok-write.ensures.all;
  flushes = record { none_failed = c.in_ok-flush.ensures.counts.failures; appended = appends_kept _ _ c.in_ok-flush.ensures.bytes; same = refl };
}
