use Rattle.cp_relay.proofs.Streams.{feeds_stream, feeds_same}
use Rattle.cp_relay.proofs.laws.any_cut.Goals as goal

pub returns-clause-all : goal.returns-clause-all
returns-clause-all g c = feeds_stream g.V.Visitor.says

pub returns-clause-any : goal.returns-clause-any
returns-clause-any g c = feeds_same g.V.Visitor.says
