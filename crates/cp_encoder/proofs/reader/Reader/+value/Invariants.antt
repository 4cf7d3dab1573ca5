use Rattle.std.proofs.Common.{ℕ, ◌+◌, ◌*◌}
use Rattle.cp_encoder.specs.declared.room.Room.{Room}
use Rattle.cp_encoder.proofs.reader.Reader.+value.Given as goal

-- each struct, list or group inside has less room
abbrev left : Room → ℕ → ℕ
left room step = 16 * (65 * room.bodies + room.groups) + step

abbrev pub decreases-pointer : goal.decreases-pointer
decreases-pointer l = left l.room 0

abbrev pub decreases-group : goal.decreases-group
decreases-group l = left l.room 0

abbrev pub decreases-inner_pointer : goal.decreases-inner_pointer
decreases-inner_pointer l = left l.room 0

abbrev pub decreases-slot : goal.decreases-slot
decreases-slot l = left l.room 1

abbrev pub decreases-pointers : goal.decreases-pointers
decreases-pointers l = left l.room 1

abbrev pub decreases-inner : goal.decreases-inner
decreases-inner l = left l.room 1

abbrev pub decreases-content : goal.decreases-content
decreases-content l = left l.room 2

abbrev pub decreases-field : goal.decreases-field
decreases-field l = left l.room 3

abbrev pub decreases-field_member : goal.decreases-field_member
decreases-field_member l = left l.room 3

abbrev pub decreases-member : goal.decreases-member
decreases-member l = left l.room 4

abbrev pub decreases-members : goal.decreases-members
decreases-members l = left l.room 5

abbrev pub decreases-object : goal.decreases-object
decreases-object l = left l.room 6

abbrev pub decreases-fields : goal.decreases-fields
decreases-fields l = left l.room 7

abbrev pub decreases-body : goal.decreases-body
decreases-body l = left l.room 8

abbrev pub decreases-inner_struct : goal.decreases-inner_struct
decreases-inner_struct l = left l.room 9

abbrev pub decreases-structures : goal.decreases-structures
decreases-structures l = left l.room 9

abbrev pub decreases-list : goal.decreases-list
decreases-list l = left l.room 10
