use Rattle.std.proofs.Common.{arith}
use Rattle.cp_vat_state.specs.Queue.{with_over}
use Rattle.cp_vat_rules.specs.Settling.{over_settled}
use Rattle.cp_vat_rules.proofs.Tying.{gates_go_on, gates_end}
use Rattle.cp_vat_rules.proofs.settle.end_gates.Goals as goal

pub loop-one-preserved : goal.loop-one-preserved
loop-one-preserved c =
    let l = c.loop-one in
    gates_go_on (with_over c.args.gates.now (over_settled c.args.gates.now.waiting.over c.args.settled.now)) l.gates c.end.new.self c.args.settled.now l.one-index l.invariant c.one-item.result c.in_ok-value.value c.loop-one-test.true c.one-item.is c.in_ok-value.ensures c.in_ok-end.ensures

pub returns : goal.returns
returns c =
    let l = c.loop-one in
    gates_end (with_over c.args.gates.now (over_settled c.args.gates.now.waiting.over c.args.settled.now)) l.gates l.gates c.args.settled.now l.one-index l.invariant (omega (arith, c.loop-one-test.false))
