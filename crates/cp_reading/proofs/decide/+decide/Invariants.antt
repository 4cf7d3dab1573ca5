use Rattle.std.proofs.Common.{◌≡◌, ◌+◌, ◌*◌, map, drop}
use Rattle.cp_reading.specs.Denotes.{EachDenotes, EachBody}
use Rattle.cp_tree.specs.NodeOf.{node_of, body_of, nodes_of, bodies_of}
use Rattle.cp_words.specs.Segments.{words_of}
use Rattle.cp_reading.proofs.decide.+decide.Given as goal

abbrev pub invariant-bodies_hold-loop-body : goal.invariant-bodies_hold-loop-body
invariant-bodies_hold-loop-body l =
    (l.at.segment ≡ l.fn.first.segment) × (l.at.word ≡ l.fn.first.word + l.body-index * (l.words + l.ptrs))
    × (EachBody (words_of l.segments) l.at.segment l.at.word l.words l.ptrs (bodies_of (map body_of (drop l.body-index l.bodies)))
    → EachBody (words_of l.segments) l.fn.first.segment l.fn.first.word l.words l.ptrs (bodies_of (map body_of l.bodies)))
    × (EachBody (words_of l.segments) l.fn.first.segment l.fn.first.word l.words l.ptrs (bodies_of (map body_of l.bodies))
    → EachBody (words_of l.segments) l.at.segment l.at.word l.words l.ptrs (bodies_of (map body_of (drop l.body-index l.bodies))))

abbrev pub invariant-row_holds-loop-tree : goal.invariant-row_holds-loop-tree
invariant-row_holds-loop-tree l =
    (l.at.segment ≡ l.fn.first.segment) × (l.at.word ≡ l.fn.first.word + l.tree-index)
    × (EachDenotes (words_of l.segments) l.at.segment l.at.word (nodes_of (map node_of (drop l.tree-index l.trees)))
    → EachDenotes (words_of l.segments) l.fn.first.segment l.fn.first.word (nodes_of (map node_of l.trees)))
    × (EachDenotes (words_of l.segments) l.fn.first.segment l.fn.first.word (nodes_of (map node_of l.trees))
    → EachDenotes (words_of l.segments) l.at.segment l.at.word (nodes_of (map node_of (drop l.tree-index l.trees))))
