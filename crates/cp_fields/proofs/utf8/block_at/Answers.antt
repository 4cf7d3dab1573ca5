use Rattle.std.proofs.Common.{◌+◌, arith}
use Rattle.std.proofs.lemmas.List.FromFn.{fill_by_all}
use Rattle.cp_fields.specs.Blocks.{byte_before}
use Rattle.cp_fields.proofs.utf8.block_at.Goals as goal

pub returns : goal.returns
returns c = fill_by_all (λ k. byte_before c.args.words.now c.args.end (c.args.first + k)) _ 64 0 c.loop-i.invariant.0 (λ k h. c.loop-i.invariant.1 k (omega arith))
