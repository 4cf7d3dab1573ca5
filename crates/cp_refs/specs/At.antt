-- What an outcome gives at a path. (rpc.capnp: "PromisedAnswer.transform", "Payload".)
use Rattle.std.specs.Prelude.{ℕ, List, [], ◌∷◌, slice_index_or, codes}
use Rattle.cp_tree.specs.Node.{Node, cap}
use Rattle.cp_tree.specs.Seen.{pointee_of}
use Rattle.cp_messages.specs.declared.exception.Exception.{Exception}
use Rattle.cp_messages.specs.declared.exception.ExceptionKind.TheVariants as kinds
use Rattle.cp_refs.specs.declared.cap.Cap.{Cap}
use Rattle.cp_refs.specs.declared.cap.Cap.TheVariants as caps
use Rattle.cp_refs.specs.declared.outcome.Outcome.{Outcome}
use Rattle.cp_refs.specs.declared.outcome.Outcome.TheVariants as outcomes

-- an exception of type failed with this reason
abbrev pub failed : List ℕ → Exception
failed reason = record { kind = kinds.Failed; reason = reason; trace = [] }

-- what a call on null fails with, and one on what a canceled question would have given
abbrev pub null_capability : Exception
null_capability = failed (codes "null capability")

abbrev pub canceled : Exception
canceled = failed (codes "canceled")

-- What is at the end of a path of pointer fields. Each field needs a struct; else, and past a struct's end, it is null.
abbrev pub node_along : Node → List ℕ → Node
node_along t [] = t
node_along t (field ∷ path) = node_along (pointee_of t field) path

-- the capability that a tree is: one of its table, and null if it is no capability or its index is past the table
abbrev pub cap_in : List Cap → Node → Cap
cap_in table (cap i) = slice_index_or table i caps.None
cap_in table other = caps.None

-- the capability at a path of a tree, of this table
abbrev pub cap_along : List Cap → Node → List ℕ → Cap
cap_along table t path = cap_in table (node_along t path)

-- What an outcome gives at a path: of results the capability there, of an exception at every path one that fails with it.
abbrev pub cap_at : Outcome → List ℕ → Cap
cap_at (outcomes.Results content table) path = cap_along table content path
cap_at (outcomes.Failed exception) path = caps.Broken exception
cap_at outcomes.Canceled path = caps.Broken canceled
