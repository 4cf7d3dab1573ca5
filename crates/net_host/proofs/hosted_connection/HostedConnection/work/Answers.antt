use Rattle.std.proofs.Common.{refl}
use Rattle.net_host.proofs.Deciding.{err_from}
use Rattle.net_host.proofs.Serving.{broken_off, fails_hears, passed, passed_so}
use Rattle.net_host.specs.HostedConnections.{fails_short, fails_whole, served_of}
use Rattle.net_host.proofs.hosted_connection.HostedConnection.work.Goals as goal

pub returns-in_err-hand_over-clause-fails : goal.returns-in_err-hand_over-clause-fails
returns-in_err-hand_over-clause-fails g c =
    let failed = fails_hears c.in-Err.error c.in-Err.ensures.fails c.note_events.ensures in
    let handed = c.in_err-hand_over.ensures.some in
    err_from c.from_residual.result c.from_residual.ensures
    (λ error ran_out. (handed.0, handed.1, fails_short (served_of g.S.DrivenSession.state g.D.Socket.flow (record c.note_events.new.self { session = c.close.new.self })) (broken_off c.args.allowed.kept c.in-Err.error failed (c.close.ensures, refl)) handed.2 ran_out))

pub returns-in-Err-clause-fails : goal.returns-in-Err-clause-fails
returns-in-Err-clause-fails g c =
    let failed = fails_hears c.in-Err.error c.in-Err.ensures.fails c.note_events.ensures in
    let handed = c.in_ok-hand_over.ensures.all in
    (handed.0, handed.1, fails_whole (served_of g.S.DrivenSession.state g.D.Socket.flow c.note_events.new.self) (served_of g.S.DrivenSession.state g.D.Socket.flow (record c.note_events.new.self { session = c.close.new.self })) failed (c.close.ensures, refl) handed.2)

pub returns-in_err-hand_over-2-clause-fails : goal.returns-in_err-hand_over-2-clause-fails
returns-in_err-hand_over-2-clause-fails g c =
    let went = passed (served_of g.S.DrivenSession.state g.D.Socket.flow c.move_on.new.self) (g.S.DrivenSession.state c.tick.new.self) (g.S.DrivenSession.state c.refuse.new.self.session) c.in_default.ensures.goes_on c.tick.ensures c.refuse.ensures.refuses c.refuse.ensures.same c.note_events-2.ensures in
    let handed = c.in_err-hand_over-2.ensures.some in
    err_from c.from_residual-in_err-hand_over-2.result c.from_residual-in_err-hand_over-2.ensures
    (λ error ran_out. (handed.0, handed.1, fails_short (served_of g.S.DrivenSession.state g.D.Socket.flow c.note_events-2.new.self) (passed_so went) handed.2 ran_out))

pub returns-clause-works : goal.returns-clause-works
returns-clause-works g c =
    let handed = c.in_ok-hand_over-2.ensures.all in (
      handed.0,
      handed.1,
      record {
        told = served_of g.S.DrivenSession.state g.D.Socket.flow c.note_events-2.new.self;
        passes = passed (served_of g.S.DrivenSession.state g.D.Socket.flow c.move_on.new.self) (g.S.DrivenSession.state c.tick.new.self) (g.S.DrivenSession.state c.refuse.new.self.session) c.in_default.ensures.goes_on c.tick.ensures c.refuse.ensures.refuses c.refuse.ensures.same c.note_events-2.ensures;
        hands = handed.2;
      },
    )
