use Rattle.std.proofs.Common.{ℕ, ◌+◌, ◌*◌}
use Rattle.cp_schema.proofs.decoder.+show.Given as goal

-- what lies inside is less deep
abbrev left : ℕ → ℕ → ℕ
left depth step = 8 * depth + step

abbrev pub decreases-fields : goal.decreases-fields
decreases-fields l = left l.depth 0

abbrev pub decreases-list : goal.decreases-list
decreases-list l = left l.depth 0

abbrev pub decreases-show_item : goal.decreases-show_item
decreases-show_item l = left l.depth 0

abbrev pub decreases-node_fields : goal.decreases-node_fields
decreases-node_fields l = left l.depth 1

abbrev pub decreases-node : goal.decreases-node
decreases-node l = left l.depth 2

abbrev pub decreases-flat_fields : goal.decreases-flat_fields
decreases-flat_fields l = left l.depth 3

abbrev pub decreases-value : goal.decreases-value
decreases-value l = left l.depth 3

abbrev pub decreases-default_value : goal.decreases-default_value
decreases-default_value l = left l.depth 3

abbrev pub decreases-show_slot : goal.decreases-show_slot
decreases-show_slot l = left l.depth 4

abbrev pub decreases-show_field : goal.decreases-show_field
decreases-show_field l = left l.depth 5

abbrev pub decreases-show_member : goal.decreases-show_member
decreases-show_member l = left l.depth 6
