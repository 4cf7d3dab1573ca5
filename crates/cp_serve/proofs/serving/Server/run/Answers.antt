use Rattle.std.proofs.lemmas.Result.{err_from_is_err_and}
use Rattle.cp_serve.specs.Output.{device}
use Rattle.cp_serve.proofs.Ending.{ends_short, ends_served}
use Rattle.cp_serve.proofs.Reaching.{reads_well}
use Rattle.cp_serve.proofs.serving.Server.run.Goals as goal

pub returns-in_err-take_all-clause-stopped : goal.returns-in_err-take_all-clause-stopped
returns-in_err-take_all-clause-stopped g c =
    let p = err_from_is_err_and c.from_residual.result c.from_residual.ensures.1 in
    rw (p.1, p.2) (λ mode serves out. c.in_err-take_all.ensures.stopped mode _ _ serves out)

pub returns-in_err-end_all-clause-stopped : goal.returns-in_err-end_all-clause-stopped
returns-in_err-end_all-clause-stopped g c =
    let p = err_from_is_err_and c.from_residual-in_err-end_all.result c.from_residual-in_err-end_all.ensures.1 in
    rw (p.1, p.2) (λ mode serves out.
    let taken = c.in_ok-take_all.ensures.taken mode _ _ serves out in
    let ended = c.in_err-end_all.ensures.stopped taken.3.last taken.3.rests taken.5 in
    ends_short taken.0 taken.2 (device g.R.Read.remaining c.args.from.now) (device g.R.Read.remaining c.take_all.new.from) _ (device g.W.Write.contents c.take_all.new.to) (device g.W.Write.contents c.end_all.new.to)
    taken.3 taken.5 taken.1 taken.4 ended.0 c.in_err-end_all.field-0.0 ended.1)

pub returns-clause-served : goal.returns-clause-served
returns-clause-served g c =
    λ mode serves out.
    let taken = c.in_ok-take_all.ensures.taken mode _ _ serves out in
    ends_served taken.0 taken.2 (device g.R.Read.remaining c.args.from.now) (device g.R.Read.remaining c.take_all.new.from) c.take_all.new.self c.end_all.new.self _ _
    (device g.W.Write.contents c.take_all.new.to) (device g.W.Write.contents c.end_all.new.to) taken.3 taken.5 taken.1 taken.4 (c.in_ok-end_all.ensures.ends taken.3.last taken.3.rests taken.5)

pub returns-in_err-take_all-clause-unread : goal.returns-in_err-take_all-clause-unread
returns-in_err-take_all-clause-unread g c =
    let p = err_from_is_err_and c.from_residual.result c.from_residual.ensures.1 in
    rw (p.1, p.2) (λ mode serves out. c.in_err-take_all.ensures.unread mode _ _ serves out)

pub returns-in_err-end_all-clause-unread : goal.returns-in_err-end_all-clause-unread
returns-in_err-end_all-clause-unread g c =
    let p = err_from_is_err_and c.from_residual-in_err-end_all.result c.from_residual-in_err-end_all.ensures.1 in
    rw (p.1, p.2) (λ mode serves out. reads_well g.O.Servant.kind mode _ (device g.R.Read.remaining c.args.from.now) (device g.R.Read.remaining c.take_all.new.from) _ _ _ c.in_err-end_all.field-0.0 c.in_ok-take_all.ensures.read)
