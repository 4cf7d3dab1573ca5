use Rattle.cp_servants.proofs.SampleTrees.{shaped_word}
use Rattle.cp_servants.proofs.sample_outcomes.word_results.Goals as goal

pub from_shaped-requires : goal.from_shaped-requires
from_shaped-requires c = rw (c.struct_of-tree.ensures, c.in_ok-vec.ensures.items, c.new.ensures.items) (shaped_word c.args.word c.ranges.word.fits)

pub returns : goal.returns
returns c = rw (c.from_shaped.ensures, c.struct_of-tree.ensures, c.in_ok-vec.ensures.items, c.new.ensures.items, c.new-3.ensures, c.new-2.ensures.items)
