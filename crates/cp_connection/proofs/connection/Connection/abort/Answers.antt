use Rattle.cp_connection.proofs.connection.Connection.abort.Goals as goal

pub returns : goal.returns
returns c = rw (← c.self.view_is) c.abort.ensures.aborts
