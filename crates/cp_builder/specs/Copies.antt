-- What is copied into a struct that is built. (Encoding specification: "Capabilities (Interfaces)".)
use Rattle.std.specs.Prelude.{◌≡◌, ◌==◌, ℕ, ◌<◌, Bool, true, false, if◌then◌else◌, Option, Some, None, Ok, List, length, get_or}
use Rattle.cp_words.specs.declared.pointer.ElementSize.{ElementSize}
use Rattle.cp_tree.specs.Node.{Node, null, cap, struct, list, ptrs, structs, Nodes, no_nodes, node, Bodies, no_bodies, body}
use Rattle.cp_fields.specs.Pointers.{list_field}
use Rattle.cp_builder.specs.Drafts.{with_pointer}

-- a capability that has this place in a table, or null
abbrev pub pointer_to : Option ℕ → Node
pointer_to None = null
pointer_to (Some place) = cap place

-- A tree whose capabilities have these places in the table of what is built, by those that they had where it was read. One without is null.
abbrev mutual
  pub placed : List (Option ℕ) → Node → Node
  placed places null = null
  placed places (cap i) = pointer_to (get_or places i None)
  placed places (struct ws ts) = struct ws (placed_nodes places ts)
  placed places (list es) = list es
  placed places (ptrs ts) = ptrs (placed_nodes places ts)
  placed places (structs d n bs) = structs d n (placed_bodies places bs)

  pub placed_nodes : List (Option ℕ) → Nodes → Nodes
  placed_nodes places no_nodes = no_nodes
  placed_nodes places (node t ts) = node (placed places t) (placed_nodes places ts)

  pub placed_bodies : List (Option ℕ) → Bodies → Bodies
  placed_bodies places no_bodies = no_bodies
  placed_bodies places (body ws ts bs) = body ws (placed_nodes places ts) (placed_bodies places bs)

-- A list of these elements, as a reader sees that wants elements of this size. It isn't null, which would stand for a field's default.
abbrev pub IsListOf : ElementSize → List Node → Node → Type 0
IsListOf size items t = (list_field size t ≡ Ok items) × (t ≡ null → ⊥)

-- a struct whose pointer i is set to a tree of which this holds, and else as it was
abbrev pub Sets : (Node → Type 0) → Node → ℕ → Node → Type 0
Sets stands old i new = (t : Node) × stands t × (new ≡ with_pointer old i t)

-- whether a tree names a capability, by its place in the table of where it was read
abbrev mutual
  pub names : Node → ℕ → Bool
  names null i = false
  names (cap j) i = j == i
  names (struct ws ts) i = names_one ts i
  names (list es) i = false
  names (ptrs ts) i = names_one ts i
  names (structs d n bs) i = names_in bs i

  pub names_one : Nodes → ℕ → Bool
  names_one no_nodes i = false
  names_one (node t ts) i = if names t i then true else names_one ts i

  pub names_in : Bodies → ℕ → Bool
  names_in no_bodies i = false
  names_in (body ws ts bs) i = if names_one ts i then true else names_in bs i

-- of as many marks as before, those that were set, and those of these places
abbrev pub Marks : (ℕ → Bool) → List Bool → List Bool → Type 0
Marks here old new = (length new ≡ length old) × ((i : ℕ) → i < length old → get_or new i false ≡ (if get_or old i false then true else here i))
