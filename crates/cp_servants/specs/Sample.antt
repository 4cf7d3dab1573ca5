-- Samples in one list.
use Rattle.cp_servants.specs.Servant.{Kind, seen_as}
use Rattle.cp_servants.specs.declared.sample.Sample.{Sample}
use Rattle.cp_servants.specs.declared.sample.Sample.TheVariants as kinds
use Rattle.cp_servants.specs.Samples.{Seen, desk, cell, script, samples}

-- a sample, as it is seen
abbrev pub seen_of : Sample → Seen
seen_of (kinds.Desk d) = desk d.due.items
seen_of (kinds.Cell c) = cell c.number
seen_of (kinds.Script s) = script s.replies.items s.settled.items

-- each sample does what it does by itself
abbrev pub each_sample : Kind Sample
each_sample = seen_as seen_of samples
