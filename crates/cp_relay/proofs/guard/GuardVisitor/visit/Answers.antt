use Rattle.std.proofs.Common.{rules}
use Rattle.cp_rpc.specs.Viewed.{viewed}
use Rattle.cp_relay.specs.declared.guard.Guard.{Guard}
use Rattle.cp_relay.specs.Guard.{HasJudged}
use Rattle.cp_relay.proofs.One.{judges_by}
use Rattle.cp_relay.proofs.guard.GuardVisitor.visit.Goals as goal

pub returns : goal.returns
returns c =
    let old = c.args.self.now in
    let m = viewed c.args.message.now in
    let new : Guard = record c.judge.new.self { ruling = c.replace.new.dest; call = c.call_in-self.result } in
    let judged : HasJudged old m new = record {
      waited = search rules;
      ruling = c.in_ok-ruling.ruling;
      says_so = search rules;
      judged = search rules;
      rules = search rules;
      comes_back = search rules;
      called = search rules;
      closed = search rules;
    } in
    judges_by old new m c.is_none-goes_on.result judged (search rules)
