use Rattle.cp_connection.proofs.connection.Connection.receive_lending.Goals as goal

pub returns-clause-received : goal.returns-clause-received
returns-clause-received c = rw (← c.self.view_is) c.receive_lending.ensures.received

pub returns-clause-unreceived : goal.returns-clause-unreceived
returns-clause-unreceived c = rw (← c.self.view_is) c.receive_lending.ensures.unreceived
