use Rattle.std.proofs.Common.{◌++◌, ◌∷◌, [], ℕ, List, ap, ◌∙◌, arith}
use Rattle.cp_writing.proofs.Blocks.{pushed}
use Rattle.cp_writing.proofs.block.Block.push.Goals as goal

pub invariant_of-self-2 : goal.invariant_of-self-2
invariant_of-self-2 c =
    let b = c.self.inside.bytes.items in
    let new = c.in_ok-extend_from_slice.ensures.items ∙ ap (λ (x : List ℕ). b ++ x) c.to_le_bytes.ensures in
    (pushed b c.extend_from_slice.new.self.items c.args.word c.self.invariant new (omega arith)).1

pub returns : goal.returns
returns c =
    let b = c.self.inside.bytes.items in
    let new = c.in_ok-extend_from_slice.ensures.items ∙ ap (λ (x : List ℕ). b ++ x) c.to_le_bytes.ensures in
    (pushed b c.extend_from_slice.new.self.items c.args.word c.self.invariant new (omega arith)).0 ∙ ap (λ (ws : List ℕ). ws ++ c.args.word ∷ []) c.self.view_is
