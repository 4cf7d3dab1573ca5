use Rattle.std.proofs.Common.{◌≡◌, ◌-◌, ◌∷◌, [], ℕ, take, ◌∙◌, ap, arith}
use Rattle.cp_packed.proofs.Masked.{run_front}
use Rattle.cp_packed.proofs.ahead.put_run.Goals as goal

pub returns-else-count-eq0-clause-front : goal.returns-else-count-eq0-clause-front
returns-else-count-eq0-clause-front c back stops =
    let count = c.args.count in
    let less : c.saturating_sub.result ≡ count - 1 = omega (arith, c.saturating_sub.ensures) in
    run_front (take c.put_zeros-size.result c.put_zeros-size.new.block) back count (omega (arith, c.if-count-eq0.false)) c.requires.few stops (c.put_zeros-size.ensures.text ∙ ap (λ (n : ℕ). 0 ∷ n ∷ []) less)
