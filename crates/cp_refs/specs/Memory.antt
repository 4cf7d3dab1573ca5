-- How many bytes of memory trees, capabilities and what has them take, as they are counted.
use Rattle.std.specs.Prelude.{ℕ, ◌+◌, ◌*◌, ◌-◌, ◌^◌, min, List, length}
use Rattle.std.specs.List.{sum_by}
use Rattle.cp_tree.specs.Node.{Elements, voids, bits, bytes, halves, quads, words, Node, null, cap, struct, list, ptrs, structs, Nodes, no_nodes, node, Bodies, no_bodies, body}
use Rattle.cp_messages.specs.declared.exception.Exception.{Exception}
use Rattle.cp_refs.specs.declared.cap.Cap.{Cap}
use Rattle.cp_refs.specs.declared.cap.Cap.TheVariants as caps
use Rattle.cp_refs.specs.declared.call.Request.{Request}
use Rattle.cp_refs.specs.declared.outcome.Outcome.{Outcome}
use Rattle.cp_refs.specs.declared.outcome.Outcome.TheVariants as outcomes
use Rattle.cp_refs.specs.declared.route.Gate.{Gate}
use Rattle.cp_refs.specs.declared.route.Gate.TheVariants as gates

-- a number of bytes, which a u64 counts up to its greatest number
abbrev pub counted : ℕ → ℕ
counted n = min n (2 ^ 64 - 1)

-- a list's elements; each bit takes a byte
abbrev pub elements_memory : Elements → ℕ
elements_memory (voids n) = 0
elements_memory (bits bs) = length bs
elements_memory (bytes ns) = length ns
elements_memory (halves ns) = length ns * 2
elements_memory (quads ns) = length ns * 4
elements_memory (words ns) = length ns * 8

-- What a tree takes beside its own place: its data, and 96 for the place of each tree and of each element of a composite list below it.
abbrev mutual
  pub tree_memory : Node → ℕ
  tree_memory null = 0
  tree_memory (cap i) = 0
  tree_memory (struct ws ts) = length ws * 8 + row_memory ts
  tree_memory (list es) = elements_memory es
  tree_memory (ptrs ts) = row_memory ts
  tree_memory (structs d n bs) = bodies_memory bs

  pub row_memory : Nodes → ℕ
  row_memory no_nodes = 0
  row_memory (node t ts) = 96 + tree_memory t + row_memory ts

  pub bodies_memory : Bodies → ℕ
  bodies_memory no_bodies = 0
  bodies_memory (body ws ts bs) = 96 + (length ws * 8 + row_memory ts) + bodies_memory bs

-- a struct by its words and its trees
abbrev pub struct_memory : List ℕ × Nodes → ℕ
struct_memory b = length b.0 * 8 + row_memory b.1

-- the fields of a path, each in two bytes, and the texts of an exception
abbrev pub path_memory : List ℕ → ℕ
path_memory path = length path * 2

abbrev pub exception_memory : Exception → ℕ
exception_memory exception = length exception.reason + length exception.trace

-- a capability: its place takes 96 too
abbrev pub cap_memory : Cap → ℕ
cap_memory (caps.Pipelined q path) = 96 + path_memory path
cap_memory (caps.Broken exception) = 96 + exception_memory exception
cap_memory other = 96

abbrev pub caps_memory : List Cap → ℕ
caps_memory table = sum_by cap_memory table

-- a content with its capability table: what a call asks for, or what it came to
abbrev pub request_memory : Request → ℕ
request_memory request = tree_memory request.content + caps_memory request.caps

abbrev pub outcome_memory : Outcome → ℕ
outcome_memory (outcomes.Results content table) = tree_memory content + caps_memory table
outcome_memory (outcomes.Failed exception) = exception_memory exception
outcome_memory outcomes.Canceled = 0

-- the path of a gate
abbrev pub gate_memory : Gate → ℕ
gate_memory (gates.Answer a path) = path_memory path
gate_memory (gates.Question q path) = path_memory path
gate_memory other = 0
