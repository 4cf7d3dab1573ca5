use Rattle.std.proofs.Common.{◌++◌, ℕ, List, ap, ◌∙◌, arith}
use Rattle.cp_writing.proofs.Blocks.{appended, words_by}
use Rattle.cp_writing.proofs.block.Block.append.Goals as goal

pub invariant_of-self : goal.invariant_of-self
invariant_of-self c =
    let ws = c.args.words.now in
    (appended c.self.inside.bytes.items c.push_plain.new.out.items ws c.self.invariant c.in-Ok.ensures.put (words_by ws (λ i. omega (arith, c.type_inv.words i)))).1

pub returns-in-Ok : goal.returns-in-Ok
returns-in-Ok c =
    let ws = c.args.words.now in
    (appended c.self.inside.bytes.items c.push_plain.new.out.items ws c.self.invariant c.in-Ok.ensures.put (words_by ws (λ i. omega (arith, c.type_inv.words i)))).0
    ∙ ap (λ (x : List ℕ). x ++ ws) c.self.view_is
