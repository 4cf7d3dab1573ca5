use Rattle.std.proofs.Common.{ap}
use Rattle.std.proofs.lemmas.Result.{IfOk-weaker, IfErr-weaker}
use Rattle.cp_connection.specs.Link.{Link}
use Rattle.cp_serve.proofs.Reaching.{fresh}
use Rattle.cp_serve.proofs.serving.serve_each.Goals as goal

pub returns-clause-served : goal.returns-clause-served
returns-clause-served g c =
    IfOk-weaker c.serve.result _ _ (λ report served. served c.args.mode (fresh c.args.mode _ c.new.ensures _ _) (ap (λ (l : Link). l.unwritten) c.new.ensures.connection)) c.serve.ensures.served

pub returns-clause-stopped : goal.returns-clause-stopped
returns-clause-stopped g c =
    IfErr-weaker c.serve.result _ _ (λ fault stopped. stopped c.args.mode (fresh c.args.mode _ c.new.ensures _ _) (ap (λ (l : Link). l.unwritten) c.new.ensures.connection)) c.serve.ensures.stopped

pub returns-clause-unread : goal.returns-clause-unread
returns-clause-unread g c =
    IfErr-weaker c.serve.result _ _ (λ fault unread. unread c.args.mode (fresh c.args.mode _ c.new.ensures _ _) (ap (λ (l : Link). l.unwritten) c.new.ensures.connection)) c.serve.ensures.unread
