use Rattle.std.proofs.Common.{◌≡◌, ◌-◌, ℕ, length, slice_index, refl, sym, ap, ◌∙◌}
use Rattle.cp_fields.proofs.Pointed.{ends-empty, ends-other, ends-zero}
use Rattle.cp_fields.proofs.bytes.DataReader.before_zero.Goals as goal

pub returns-then-count-eq0 : goal.returns-then-count-eq0
returns-then-count-eq0 c = rw (ends-empty c.args.self.now (sym c.len-count.ensures ∙ c.if-count-eq0.true)) refl

pub returns-then-get-ne0 : goal.returns-then-get-ne0
returns-then-get-ne0 c =
    let last : c.get.result ≡ slice_index c.args.self.now (length c.args.self.now - 1) = c.get.ensures ∙ ap (λ (n : ℕ). slice_index c.args.self.now (n - 1)) c.len-count.ensures in
    rw (ends-other c.args.self.now c.get.result (λ e. c.if-count-eq0.false (c.len-count.ensures ∙ e)) last c.if-get-ne0.true) refl

pub returns : goal.returns
returns c =
    let last : c.get.result ≡ slice_index c.args.self.now (length c.args.self.now - 1) = c.get.ensures ∙ ap (λ (n : ℕ). slice_index c.args.self.now (n - 1)) c.len-count.ensures in
    rw (ends-zero c.args.self.now c.get.result (λ e. c.if-count-eq0.false (c.len-count.ensures ∙ e)) last c.if-get-ne0.false, c.front.ensures, c.len-count.ensures) refl
