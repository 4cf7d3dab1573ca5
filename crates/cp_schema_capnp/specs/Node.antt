-- The enums and unions of `node` of schema.capnp.
use Rattle.std.specs.Prelude.{ℕ, ◌==◌, if◌then◌else◌}
use Rattle.cp_schema_capnp.specs.declared.node.NodeWhich.TheVariants as node_whichs
use Rattle.cp_schema_capnp.specs.declared.node.NodeWhich.{NodeWhich}

-- the value of a number
abbrev pub node_which_of : ℕ → NodeWhich
node_which_of n =
    if n == 0 then node_whichs.File else
    (if n == 1 then node_whichs.Struct else
    (if n == 2 then node_whichs.Enum else
    (if n == 3 then node_whichs.Interface else
    (if n == 4 then node_whichs.Const else
    (if n == 5 then node_whichs.Annotation else
    node_whichs.Unknown n)))))
