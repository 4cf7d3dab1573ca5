use Rattle.cp_vat_rules.proofs.Tying.{finished_as}
use Rattle.cp_vat_rules.proofs.give.end_finished.Goals as goal

pub returns : goal.returns
returns c =
    finished_as c.args.core.now c.remove_answer.new.core c.args.id c.args.kept c.args.settled.now c.end.new.self c.end_gates.new.gates c.in_ok-end.ensures c.remove_answer.ensures c.in_ok-end_gates.ensures
