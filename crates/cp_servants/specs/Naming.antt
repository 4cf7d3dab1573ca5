-- How a content names a capability. (rpc.capnp: "CapDescriptor.none".)
use Rattle.std.specs.Prelude.{Bool, true, false, if◌then◌else◌, List, [], ◌∷◌, ◌++◌, length}
use Rattle.cp_tree.specs.Node.{Node, null}
use Rattle.cp_builder.specs.Drafts.{cap_tree}
use Rattle.cp_refs.specs.declared.cap.Cap.{Cap}
use Rattle.cp_refs.specs.declared.cap.Cap.TheVariants as caps

-- No descriptor says what it is: it is null or broken, and is sent as none.
abbrev pub is_null : Cap → Bool
is_null caps.None = true
is_null (caps.Broken x) = true
is_null other = false

-- the pointer that names a capability which comes after those of a table
abbrev pub pointer_naming : List Cap → Cap → Node
pointer_naming table cap = if is_null cap then null else cap_tree (length table)

-- the table with it
abbrev pub with_named : List Cap → Cap → List Cap
with_named table cap = if is_null cap then table else table ++ cap ∷ []
