use Rattle.std.proofs.Common.{refl}
use Rattle.cp_session.proofs.Deciding.{err_so}
use Rattle.cp_session.specs.State.{state_of}
use Rattle.net_host.proofs.Outgoing.{connects_so, counted_so, joins_so, lost_so, rests_counted, rests_since}
use Rattle.net_host.proofs.connecting.Host+O.join.Goals as goal

pub returns-clause-connects : goal.returns-clause-connects
returns-clause-connects g c =
    connects_so g.O.ServedObject.makes c.args.peer c.args.objects c.set_session.new.self c.share_bootstrap.new.self c.next_outgoing-number.result c.next_session.result c.in_ok-bootstrap.bootstrap
    (record { number = c.next_outgoing-number.result; peer = c.args.peer; stream = c.args.stream }) c.args.self.now c.next_outgoing-number.new.self (record c.next_outgoing-number.new.self { event_loop = c.admit_asking.new.self }) c.next_outgoing-number.ensures.rest
    c.next_outgoing-number.ensures.number refl refl c.requires c.next_session.ensures c.set_session.ensures c.in_ok-bootstrap.ensures.shared c.in_ok-bootstrap.ensures.lent
    c.in_ok-admit_asking.ensures.asks

pub returns-clause-joins : goal.returns-clause-joins
returns-clause-joins g c =
    joins_so c.args.self.now c.next_outgoing-number.new.self c.admit_asking.new.self c.next_outgoing-number.ensures.rest c.in_ok-admit_asking.ensures.served

pub returns-in_err-bootstrap-clause-unconnected : goal.returns-in_err-bootstrap-clause-unconnected
returns-in_err-bootstrap-clause-unconnected g c = err_so _ (rests_counted state_of c.args.self.now c.next_outgoing-number.new.self c.next_outgoing-number.ensures.rest)

pub returns-in_err-bootstrap-clause-stays : goal.returns-in_err-bootstrap-clause-stays
returns-in_err-bootstrap-clause-stays g c = err_so _ (counted_so c.args.self.now c.next_outgoing-number.new.self c.next_outgoing-number.ensures.rest)

pub returns-in_err-admit_asking-clause-unconnected : goal.returns-in_err-admit_asking-clause-unconnected
returns-in_err-admit_asking-clause-unconnected g c =
    err_so _
    (rests_since state_of c.args.self.now c.next_outgoing-number.new.self (record c.next_outgoing-number.new.self { event_loop = c.admit_asking.new.self }) c.next_outgoing-number.ensures.rest
    c.in_err-admit_asking.ensures.unasked)

pub returns-in_err-admit_asking-clause-stays : goal.returns-in_err-admit_asking-clause-stays
returns-in_err-admit_asking-clause-stays g c =
    err_so _ (lost_so c.args.self.now c.next_outgoing-number.new.self c.admit_asking.new.self c.next_outgoing-number.ensures.rest c.in_err-admit_asking.ensures.lost)
