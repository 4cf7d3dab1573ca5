use Rattle.cp_connection.proofs.Owing.{sends_writable}
use Rattle.cp_connection.proofs.agenda.Agenda.pass_on.Goals as goal

pub send-requires-in-Some-2 : goal.send-requires-in-Some-2
send-requires-in-Some-2 c = record { writable = sends_writable _ _ c.args.trigger c.args.message _ _ c.requires.writable c.in_ok-message.ensures c.in-Some-2.is }
