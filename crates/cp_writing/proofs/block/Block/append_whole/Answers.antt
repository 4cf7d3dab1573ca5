use Rattle.std.proofs.Common.{◌++◌, ℕ, List, ap, ◌∙◌, arith}
use Rattle.cp_packed.specs.Words.{words_in}
use Rattle.cp_writing.proofs.Blocks.{joined}
use Rattle.cp_writing.proofs.block.Block.append_whole.Goals as goal

pub invariant_of-self-2 : goal.invariant_of-self-2
invariant_of-self-2 c = (joined c.self.inside.bytes.items c.extend_from_slice.new.self.items c.args.bytes.now c.self.invariant c.in_ok-extend_from_slice.ensures.items (λ i. omega (arith, c.type_inv.bytes i))).1

pub returns : goal.returns
returns c =
    (joined c.self.inside.bytes.items c.extend_from_slice.new.self.items c.args.bytes.now c.self.invariant c.in_ok-extend_from_slice.ensures.items (λ i. omega (arith, c.type_inv.bytes i))).0
    ∙ ap (λ (ws : List ℕ). ws ++ words_in c.args.bytes.now) c.self.view_is
