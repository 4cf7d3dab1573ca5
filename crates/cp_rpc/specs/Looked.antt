-- What a tree is, as far as a field asks.
use Rattle.std.specs.Prelude.{length}
use Rattle.cp_tree.specs.Node.{bytes, Node, null, struct, list, structs, number_of}
use Rattle.cp_rpc.specs.declared.source.SourceKind.{SourceKind}
use Rattle.cp_rpc.specs.declared.source.SourceKind.TheVariants as looks

abbrev pub look_of : Node → SourceKind
look_of null = looks.Null
look_of (struct ws ts) = looks.Struct
look_of (structs d n bs) = looks.Items (number_of bs)
look_of (list (bytes bs)) = looks.Bytes (length bs)
look_of other = looks.Other
