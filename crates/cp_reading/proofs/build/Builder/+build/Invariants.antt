use Rattle.std.proofs.Common.{◌≡◌, ◌+◌, ◌*◌, map, take}
use Rattle.cp_tree.specs.Node.{depth}
use Rattle.cp_tree.specs.NodeOf.{node_of, body_of}
use Rattle.cp_words.specs.Segments.{words_of}
use Rattle.cp_reading.specs.Viewed.{viewed_node}
use Rattle.cp_reading.specs.Rows.{bodies_in, struct_at, structs_at, trees_from}
use Rattle.cp_reading.specs.declared.view.Viewed.TheVariants as viewed
use Rattle.cp_reading.proofs.Builds.{trees_of, pairs_of, first_pointers, first_elements}
use Rattle.cp_reading.proofs.build.Builder.+build.Given as goal

abbrev pub decreases-build : goal.decreases-build
decreases-build g l = 6 * depth (viewed_node (words_of l.self.now.segments.now) l.part) + 5

abbrev pub decreases-build_area : goal.decreases-build_area
decreases-build_area g l = 6 * depth (viewed_node (words_of l.self.now.segments.now) (viewed.Body l.area)) + 4

abbrev pub decreases-build_bodies : goal.decreases-build_bodies
decreases-build_bodies g l = 6 * depth (viewed_node (words_of l.self.now.segments.now) (viewed.Body (structs_at l.first l.words l.ptrs l.number))) + 3

abbrev pub decreases-build_body : goal.decreases-build_body
decreases-build_body g l = 6 * depth (viewed_node (words_of l.self.now.segments.now) (viewed.Body (struct_at l.start l.words l.ptrs))) + 2

abbrev pub decreases-build_ptrs : goal.decreases-build_ptrs
decreases-build_ptrs g l = 6 * depth (viewed_node (words_of l.self.now.segments.now) (viewed.Body (struct_at l.first 0 l.number))) + 1

abbrev pub decreases-build_row : goal.decreases-build_row
decreases-build_row g l = 6 * depth (viewed_node (words_of l.self.now.segments.now) (viewed.Body (struct_at l.first 0 l.number)))

abbrev pub invariant-build_row-loop-i : goal.invariant-build_row-loop-i
invariant-build_row-loop-i g l = (map node_of l.found.items ≡ take l.i (trees_of (trees_from (words_of l.initial.self.segments.now) l.fn.first l.fn.number))) × (l.self.visits.now ≡ l.initial.self.visits.now + first_pointers (trees_from (words_of l.initial.self.segments.now) l.fn.first l.fn.number) l.i)
    × (l.self.segments ≡ l.initial.self.segments) × (l.self.visits.ghost_name ≡ l.initial.self.visits.ghost_name)

abbrev pub invariant-build_bodies-loop-i : goal.invariant-build_bodies-loop-i
invariant-build_bodies-loop-i g l =
    (map body_of l.found.items ≡ take l.i (pairs_of (bodies_in (viewed_node (words_of l.initial.self.segments.now) (viewed.Body (structs_at l.fn.first l.fn.words l.fn.ptrs l.fn.number))))))
    × (l.self.visits.now ≡ l.initial.self.visits.now + first_elements (bodies_in (viewed_node (words_of l.initial.self.segments.now) (viewed.Body (structs_at l.fn.first l.fn.words l.fn.ptrs l.fn.number)))) l.i)
    × (l.self.segments ≡ l.initial.self.segments) × (l.self.visits.ghost_name ≡ l.initial.self.visits.ghost_name)
