use Rattle.cp_connection.proofs.Settling.{ends_turn, goes_turn, passes_none}
use Rattle.cp_connection.proofs.parts.Parts.settle.Goals as goal

pub loop-init : goal.loop-init
loop-init c = passes_none c.args.self.now c.requires.is_open c.requires.owes

pub loop-preserved : goal.loop-preserved
loop-preserved c = goes_turn c.args.self.now c.loop.self c.pass_on.new.self _ c.if-not-is_more.false c.loop.invariant c.in_ok-is_more.ensures.passed

pub pass_on-requires : goal.pass_on-requires
pass_on-requires c = record { owes = c.loop.invariant.owes }

pub returns-then-not-is_more-clause-settled : goal.returns-then-not-is_more-clause-settled
returns-then-not-is_more-clause-settled c = ends_turn c.args.self.now c.loop.self c.pass_on.new.self _ c.if-not-is_more.true c.loop.invariant c.in_ok-is_more.ensures.passed
