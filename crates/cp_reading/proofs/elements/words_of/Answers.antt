use Rattle.std.proofs.Common.{◌≡◌, IfOk, subst, arith}
use Rattle.cp_tree.proofs.Numbers.{first_words}
use Rattle.cp_reading.proofs.elements.words_of.Goals as goal

pub returns : goal.returns
returns c = subst (λ ns. IfOk c.from_slice.result (λ v. v.items ≡ ns)) (first_words c.args.words.now c.args.count (omega (arith, c.requires)) (λ k. omega (arith, c.type_inv.words k))) c.from_slice.ensures.items
