-- The enums and unions of `address_book` of addressbook.capnp.
use Rattle.std.specs.Prelude.{◌∷◌, []}
use Rattle.cp_tree.specs.Node.{Node as Tree}
use Rattle.cp_tree.specs.Node as trees

-- the default of `owner`
abbrev pub address_book_owner_default : Tree
address_book_owner_default = trees.struct (5066549580791808 ∷ 0 ∷ 0 ∷ []) (trees.node (trees.list (trees.bytes (78 ∷ 111 ∷ 98 ∷ 111 ∷ 100 ∷ 121 ∷ 0 ∷ []))) (trees.node trees.null (trees.node trees.null (trees.node trees.null (trees.node trees.null (trees.node trees.null (trees.node trees.null trees.no_nodes)))))))

-- the default of `circles`
abbrev pub address_book_circles_default : Tree
address_book_circles_default = trees.ptrs (trees.node (trees.list (trees.bytes (102 ∷ 97 ∷ 109 ∷ 105 ∷ 108 ∷ 121 ∷ 0 ∷ []))) (trees.node (trees.list (trees.bytes (119 ∷ 111 ∷ 114 ∷ 107 ∷ 0 ∷ []))) trees.no_nodes))
