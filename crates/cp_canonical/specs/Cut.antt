-- A tree without what its canonical form cuts. (Encoding specification: "Canonicalization".)
use Rattle.std.specs.Prelude.{ℕ, zero, suc, Bool, true, false, ◌==◌, max, List, [], ◌∷◌, take, Option, Some, None}
use Rattle.cp_tree.specs.Node.{Node, null, cap, struct, list, ptrs, structs, Nodes, no_nodes, node, Bodies, no_bodies, body}

-- One more, where some after it are used; else one where it isn't blank itself.
abbrev pub up_to : Bool → ℕ → ℕ
up_to blank (suc after) = suc (suc after)
up_to true zero = 0
up_to false zero = 1

abbrev pub is_null : Node → Bool
is_null null = true
is_null other = false

-- how many words there are up to the last that isn't zero
abbrev pub used_words : List ℕ → ℕ
used_words [] = 0
used_words (w ∷ ws) = up_to (w == 0) (used_words ws)

-- how many trees there are up to the last that isn't null
abbrev pub used_ptrs : Nodes → ℕ
used_ptrs no_nodes = 0
used_ptrs (node t ts) = up_to (is_null t) (used_ptrs ts)

-- the most words that one of these structs uses
abbrev pub most_words : Bodies → ℕ
most_words no_bodies = 0
most_words (body ws ts bs) = max (used_words ws) (most_words bs)

-- the most pointers that one of these structs uses
abbrev pub most_ptrs : Bodies → ℕ
most_ptrs no_bodies = 0
most_ptrs (body ws ts bs) = max (used_ptrs ts) (most_ptrs bs)

-- the first trees of a row
abbrev pub take_ptrs : ℕ → Nodes → Nodes
take_ptrs zero ts = no_nodes
take_ptrs (suc n) no_nodes = no_nodes
take_ptrs (suc n) (node t ts) = node t (take_ptrs n ts)

-- A struct ends with the last word that isn't zero, and the last pointer that isn't null. The elements of a composite list
-- have the least sizes that all have in common. All else stays.
abbrev mutual
  pub cut : Node → Node
  cut null = null
  cut (cap i) = cap i
  cut (struct ws ts) = struct (take (used_words ws) ws) (take_ptrs (used_ptrs ts) (cut_row ts))
  cut (list es) = list es
  cut (ptrs ts) = ptrs (cut_row ts)
  cut (structs d n bs) = structs (most_words bs) (most_ptrs bs) (cut_bodies (most_words bs) (most_ptrs bs) bs)

  pub cut_row : Nodes → Nodes
  cut_row no_nodes = no_nodes
  cut_row (node t ts) = node (cut t) (cut_row ts)

  -- the elements, of this many words and pointers each
  pub cut_bodies : ℕ → ℕ → Bodies → Bodies
  cut_bodies d n no_bodies = no_bodies
  cut_bodies d n (body ws ts bs) = body (take d ws) (take_ptrs n (cut_row ts)) (cut_bodies d n bs)

-- the one that comes first of two
abbrev pub or_else : Option ℕ → Option ℕ → Option ℕ
or_else (Some i) other = Some i
or_else None other = other

-- the index of the first capability, in the order of the pointers
abbrev mutual
  pub first_cap : Node → Option ℕ
  first_cap null = None
  first_cap (cap i) = Some i
  first_cap (struct ws ts) = first_cap_in ts
  first_cap (list es) = None
  first_cap (ptrs ts) = first_cap_in ts
  first_cap (structs d n bs) = first_cap_of bs

  pub first_cap_in : Nodes → Option ℕ
  first_cap_in no_nodes = None
  first_cap_in (node t ts) = or_else (first_cap t) (first_cap_in ts)

  pub first_cap_of : Bodies → Option ℕ
  first_cap_of no_bodies = None
  first_cap_of (body ws ts bs) = or_else (first_cap_in ts) (first_cap_of bs)
