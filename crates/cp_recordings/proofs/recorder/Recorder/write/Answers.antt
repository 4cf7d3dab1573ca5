use Rattle.std.proofs.lemmas.Result.{err_from_is_err_and}
use Rattle.cp_recordings.proofs.Devices.{stops_sending, stops_noting}
use Rattle.cp_recordings.proofs.recorder.Recorder.write.Goals as goal

pub returns-in_err-send-clause-stopped : goal.returns-in_err-send-clause-stopped
returns-in_err-send-clause-stopped g c =
    let p = err_from_is_err_and c.from_residual.result c.from_residual.ensures.1 in
    rw p.1 (stops_sending g.W.Write.contents _ _ _ _ _ p.0 p.2 _ c.in_err-send.ensures.broken)

pub returns-in_err-write_whole-clause-stopped : goal.returns-in_err-write_whole-clause-stopped
returns-in_err-write_whole-clause-stopped g c =
    let p = err_from_is_err_and c.from_residual-in_err-write_whole.result c.from_residual-in_err-write_whole.ensures.1 in
    rw p.1 (stops_noting g.W.Write.contents _ _ _ _ _ p.0 p.2 c.send.new.self _ _ c.in_ok-send.ensures.sent c.in_err-write_whole.ensures.broken)
