-- Limits that C gives.
use Rattle.cp_words.specs.Limits.{Bounds}
use Rattle.c_handles.specs.declared.limits.LimitNumbers.{LimitNumbers}

abbrev pub bounds_of : LimitNumbers → Bounds
bounds_of l = record { nesting = l.nesting; traversal = l.traversal; segments = l.segments; frame_words = l.frame_words }
