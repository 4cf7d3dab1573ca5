use Rattle.std.proofs.Common.{◌-◌, arith}
use Rattle.cp_canonical.proofs.Uses.{used-within, used-skips, used-stops}
use Rattle.cp_canonical.proofs.used.used_words.Goals as goal

pub loop-i-init : goal.loop-i-init
loop-i-init c = used-within c.args.words.now

pub returns-then-words-i-ne0-clause-used : goal.returns-then-words-i-ne0-clause-used
returns-then-words-i-ne0-clause-used c =
    let stops = used-stops c.args.words.now (c.loop-i.i - 1) (omega (arith, c.loop-i.invariant, c.loop-i-test.true)) (λ e. omega (arith, e, c.if-words-i-ne0.true)) in
    omega (arith, stops)

pub loop-i-preserved : goal.loop-i-preserved
loop-i-preserved c = used-skips c.args.words.now (c.loop-i.i - 1) (omega (arith, c.loop-i.invariant, c.loop-i-test.true)) (omega (arith, c.if-words-i-ne0.false))
