-- What is kept of an outcome. (rpc.capnp: "PromisedAnswer.transform", "Finish".)
use Rattle.std.specs.Prelude.{◌≡◌, ◌==◌, ℕ, ◌+◌, if◌then◌else◌, List, [], length}
use Rattle.cp_tree.specs.Node.{Node, null, cap, struct, Nodes, no_nodes, node}
use Rattle.cp_tree.specs.NodeOf.{node_of}
use Rattle.cp_refs.specs.At.{canceled, cap_at, cap_in, node_along}
use Rattle.cp_refs.specs.Memory.{caps_memory, exception_memory, tree_memory}
use Rattle.cp_refs.specs.declared.cap.Cap.{Cap}
use Rattle.cp_refs.specs.declared.cap.Cap.TheVariants as caps
use Rattle.cp_refs.specs.declared.kept_outcome.Reachable.{Reachable}
use Rattle.cp_refs.specs.declared.kept_outcome.Reachable.TheVariants as reachables
use Rattle.cp_refs.specs.declared.outcome.Outcome.{Outcome}
use Rattle.cp_refs.specs.declared.outcome.Outcome.TheVariants as outcomes

-- A tree's structs without their data, and the capabilities in them: all that paths of pointer fields lead to.
abbrev mutual
  pub pointers_of : Node → Node
  pointers_of (cap i) = cap i
  pointers_of (struct ws ts) = struct [] (all_pointers_of ts)
  pointers_of other = null

  pub all_pointers_of : Nodes → Nodes
  all_pointers_of no_nodes = no_nodes
  all_pointers_of (node t ts) = node (pointers_of t) (all_pointers_of ts)

-- at each path the two trees have the same capability of this table
abbrev pub GiveSame : List Cap → Node → Node → Type 0
GiveSame table t u = (path : List ℕ) → cap_in table (node_along t path) ≡ cap_in table (node_along u path)

-- what is kept of a content with this table: nothing where that is empty, and else its pointers
abbrev pub kept_tree : List Cap → Node → Node
kept_tree table t = if length table == 0 then null else pointers_of t

-- the capability table of an outcome, and of what is kept of one
abbrev pub table_of : Outcome → List Cap
table_of (outcomes.Results content table) = table
table_of other = []

abbrev pub table_in : Reachable → List Cap
table_in (reachables.Results pointers table) = table
table_in other = []

-- what is kept gives this at a path
abbrev pub part_at : Reachable → List ℕ → Cap
part_at (reachables.Results pointers table) path = cap_in table (node_along (node_of pointers) path)
part_at (reachables.Failed exception) path = caps.Broken exception
part_at reachables.Canceled path = caps.Broken canceled

-- the bytes of memory that what is kept of an outcome takes
abbrev pub kept_memory : Outcome → ℕ
kept_memory (outcomes.Results content table) = tree_memory (kept_tree table content) + caps_memory table
kept_memory (outcomes.Failed exception) = exception_memory exception
kept_memory outcomes.Canceled = 0

abbrev pub part_memory : Reachable → ℕ
part_memory (reachables.Results pointers table) = tree_memory (node_of pointers) + caps_memory table
part_memory (reachables.Failed exception) = exception_memory exception
part_memory reachables.Canceled = 0

-- What is kept of an outcome gives at each path what the outcome gives there, has its capability table, and takes that much memory.
pub record IsKeptOf (outcome : Outcome) (part : Reachable) : Type 0 where
  pub gives_same : (path : List ℕ) → part_at part path ≡ cap_at outcome path
  pub has_table : table_in part ≡ table_of outcome
  pub takes : part_memory part ≡ kept_memory outcome
