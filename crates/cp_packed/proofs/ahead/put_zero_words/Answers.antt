use Rattle.std.proofs.Common.{◌≡◌, ◌⊎◌, ◌∷◌, [], ℕ, List, take, refl, sym, subst, ap, ◌∙◌, arith}
use Rattle.cp_packed.specs.Packed.{StartsWithout}
use Rattle.cp_packed.proofs.Sparing.{puts_zeros}
use Rattle.cp_packed.proofs.Putting.{front_one, front_joins}
use Rattle.cp_packed.proofs.ahead.put_zero_words.Goals as goal

pub returns-then-run-lt-MANY-clause-front : goal.returns-then-run-lt-MANY-clause-front
returns-then-run-lt-MANY-clause-front c =
    let after = c.args.after.now in
    let n = c.zero_run.result in
    let back = c.split_at.result.1.now in
    let ends = subst (λ (vs : List ℕ). (n ≡ 255) ⊎ StartsWithout (λ v. v ≡ 0) vs) (sym c.split_at.ensures.back) c.zero_run.ensures.ends in
    let text = c.put_zeros-size.ensures.text ∙ ap (λ (m : ℕ). 0 ∷ m ∷ []) c.split_at.ensures.front_len in
    let group = puts_zeros [] (take c.put_zeros-size.result c.put_zeros-size.new.block) (0 ∷ after) after back 0 n (omega arith) (omega arith) refl c.zero_run.ensures.few c.zero_run.ensures.zeros c.split_at.ensures.back ends text in
    let front = front_one (take c.put_zeros-size.result c.put_zeros-size.new.block) (0 ∷ after) back group in
    front

pub returns-clause-front : goal.returns-clause-front
returns-clause-front c =
    let after = c.args.after.now in
    let n = c.zero_run.result in
    let back = c.split_at.result.1.now in
    let ends = subst (λ (vs : List ℕ). (n ≡ 255) ⊎ StartsWithout (λ v. v ≡ 0) vs) (sym c.split_at.ensures.back) c.zero_run.ensures.ends in
    let text = c.put_zeros-size.ensures.text ∙ ap (λ (m : ℕ). 0 ∷ m ∷ []) c.split_at.ensures.front_len in
    let group = puts_zeros [] (take c.put_zeros-size.result c.put_zeros-size.new.block) (0 ∷ after) after back 0 n (omega arith) (omega arith) refl c.zero_run.ensures.few c.zero_run.ensures.zeros c.split_at.ensures.back ends text in
    let front = front_one (take c.put_zeros-size.result c.put_zeros-size.new.block) (0 ∷ after) back group in
    front_joins c.put_zeros-size.result c.put_ahead-more.result.0 c.put_zeros-size.new.block c.put_ahead-more.new.block (0 ∷ after) back c.put_ahead-more.result.1.now (omega (arith, c.put_zeros-size.ensures.count, c.put_zeros-size.auto.block, c.requires.room)) front c.put_ahead-more.ensures.front
