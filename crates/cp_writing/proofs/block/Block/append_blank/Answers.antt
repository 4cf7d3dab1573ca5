use Rattle.std.proofs.Common.{◌++◌, ◌+◌, ◌-◌, ◌*◌, ℕ, List, take, replicate, ap, ◌∙◌, arith}
use Rattle.cp_packed.proofs.Bytes.{filled_up}
use Rattle.cp_writing.proofs.Blocks.{blanked}
use Rattle.cp_writing.proofs.block.Block.append_blank.Goals as goal

pub invariant_of-self-2 : goal.invariant_of-self-2
invariant_of-self-2 c =
    let b = c.self.inside.bytes.items in
    let n = c.len.result + 8 * c.args.words in
    let new = c.in_ok-resize.ensures.items ∙ ap (λ (m : ℕ). take n b ++ replicate (n - m) 0) c.self.inside.bytes.ok.0 ∙ filled_up b n (8 * c.args.words) 0 (omega (arith, c.len.ensures)) in
    (blanked b c.resize.new.self.items c.args.words c.self.invariant new).1

pub returns : goal.returns
returns c =
    let b = c.self.inside.bytes.items in
    let n = c.len.result + 8 * c.args.words in
    let new = c.in_ok-resize.ensures.items ∙ ap (λ (m : ℕ). take n b ++ replicate (n - m) 0) c.self.inside.bytes.ok.0 ∙ filled_up b n (8 * c.args.words) 0 (omega (arith, c.len.ensures)) in
    (blanked b c.resize.new.self.items c.args.words c.self.invariant new).0 ∙ ap (λ (ws : List ℕ). ws ++ replicate c.args.words 0) c.self.view_is
