-- Words of outcomes.
use Rattle.std.specs.Prelude.{ℕ, Option, Some, None, slice_index}
use Rattle.cp_tree.specs.Node.{data_of}
use Rattle.cp_refs.specs.declared.outcome.Outcome.{Outcome}
use Rattle.cp_refs.specs.declared.outcome.Outcome.TheVariants as outcomes

-- a data word of an outcome's results: past those that they have it is 0, and without results there is none
abbrev pub word_of : Outcome → ℕ → Option ℕ
word_of (outcomes.Results content caps) place = Some (slice_index (data_of content) place)
word_of other place = None
