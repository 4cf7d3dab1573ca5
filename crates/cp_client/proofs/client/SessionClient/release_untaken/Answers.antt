use Rattle.std.proofs.Common.{Option, subst}
use Rattle.cp_refs.specs.declared.outcome.Outcome.{Outcome}
use Rattle.cp_session.specs.Doing.{ReleasesUntaken}
use Rattle.cp_client.proofs.client.SessionClient.release_untaken.Goals as goal

pub returns-in-Some-clause-released : goal.returns-in-Some-clause-released
returns-in-Some-clause-released g c =
    subst (λ (o : Option Outcome). ReleasesUntaken o (g.S.DrivenSession.state c.args.self.now.session) (g.S.DrivenSession.state c.release_outcome.new.self)) c.in-Some.ensures.untaken c.release_outcome.ensures
