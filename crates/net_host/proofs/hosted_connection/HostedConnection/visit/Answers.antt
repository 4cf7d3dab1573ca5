use Rattle.std.proofs.Common.{refl, arith}
use Rattle.std.proofs.lemmas.Bool.{false≢true}
use Rattle.net_host.proofs.Serving.{closes, closes_failed, works_as, works_unmet}
use Rattle.net_host.specs.HostedConnections.{is_full, is_over, served_of}
use Rattle.net_host.proofs.hosted_connection.HostedConnection.visit.Goals as goal

pub returns-in-Err-clause-closes : goal.returns-in-Err-clause-closes
returns-in-Err-clause-closes g c =
    let failed = c.in-Err.ensures.fails in
    (failed.0, failed.1, closes_failed (served_of g.S.DrivenSession.state g.D.Socket.flow c.args.self.now) (served_of g.S.DrivenSession.state g.D.Socket.flow c.work.new.self) _ c.in-Err.error _ failed.2 c.end_or.ensures.end c.end_or.ensures.same)

pub returns-then-is_over-clause-closes : goal.returns-then-is_over-clause-closes
returns-then-is_over-clause-closes g c =
    let works = c.in_default.ensures.works in (
      works.0,
      works.1,
      closes (served_of g.S.DrivenSession.state g.D.Socket.flow c.args.self.now) (served_of g.S.DrivenSession.state g.D.Socket.flow c.shut.new.self) _ _ (works_as works.2 c.shut.ensures)
          (is_over (c.if-is_over.ensures.0 refl) c.end_or-then-is_over.ensures.end) c.end_or-then-is_over.ensures.same,
    )

pub returns-then-kept-allowed-clause-closes : goal.returns-then-kept-allowed-clause-closes
returns-then-kept-allowed-clause-closes g c =
    let works = c.in_default.ensures.works in (
      works.0,
      works.1,
      closes (served_of g.S.DrivenSession.state g.D.Socket.flow c.args.self.now) (served_of g.S.DrivenSession.state g.D.Socket.flow c.shut.new.self) _ _ (works_as works.2 c.shut.ensures)
          (is_full (rw c.kept.ensures at c.if-kept-allowed.true) c.end_or-then-kept-allowed.ensures.end) c.end_or-then-kept-allowed.ensures.same,
    )

pub returns-clause-stays : goal.returns-clause-stays
returns-clause-stays g c =
    let works = c.in_default.ensures.works in
    let shut = works_as works.2 c.shut.ensures in (
      works.0,
      works.1,
      record {
        works = shut;
        unmet = works_unmet shut (λ over. false≢true (c.if-is_over.ensures.1 over));
        within = omega (arith, c.kept.ensures, c.if-kept-allowed.false);
      },
    )
