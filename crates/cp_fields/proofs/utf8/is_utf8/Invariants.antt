use Rattle.std.proofs.Common.{◌*◌, map}
use Rattle.std.specs.List.{range_with_len}
use Rattle.simdutf8.specs.Tracks.{HasRead}
use Rattle.cp_fields.specs.Blocks.{byte_before}
use Rattle.cp_fields.proofs.utf8.is_utf8.Given as goal

abbrev pub invariant-loop-i : goal.invariant-loop-i
invariant-loop-i l = HasRead l.checker (map (byte_before l.words l.count) (range_with_len 0 (l.i * 64)))
