use Rattle.std.proofs.Common.{◌≡◌, ℕ, List, length, ap, ◌∙◌}
use Rattle.cp_packed.specs.Unpacking.{laid_by, laid_in}
use Rattle.cp_packed.proofs.Headers.{run_laid, run_short}
use Rattle.cp_packed.proofs.group.OpenGroup.laid.Goals as goal

pub returns-then-self-gt0 : goal.returns-then-self-gt0
returns-then-self-gt0 c =
    let part = c.args.self.now.part.items in
    let run = c.args.self.now.run in
    let same : laid_by 8 255 c.deref.result.now ≡ laid_in run part =
    ap (λ (b : List ℕ). laid_by 8 255 b) c.deref.ensures.value ∙ run_laid run part c.if-self-gt0.true (run_short run part c.if-self-gt0.true c.requires.short) in
    record { known = c.spread.ensures.known ∙ same; count = c.spread.ensures.count ∙ ap (λ (b : List ℕ). length b) same }
