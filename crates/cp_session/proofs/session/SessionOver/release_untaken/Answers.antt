use Rattle.cp_session.proofs.session.SessionOver.release_untaken.Goals as goal

pub returns-in-Some : goal.returns-in-Some
returns-in-Some g c = rw c.in-Some.is c.release_outcome.ensures
