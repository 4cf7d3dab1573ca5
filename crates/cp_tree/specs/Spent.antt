-- What is left of a limit on cost.
use Rattle.std.specs.Prelude.{ℕ, ◌+◌, ◌*◌, ◌-◌, Option, Some, None, nat_le, if◌then◌else◌}
use Rattle.cp_tree.specs.Node.{Bodies, number_of, body_cost}

-- what is left once this much more is spent; None where that passes it
unfoldable pub spent : Option ℕ → ℕ → Option ℕ
spent None cost = None
spent (Some budget) cost = if nat_le cost budget then Some (budget - cost) else None

-- what elements cost, each this much without its trees
abbrev pub elements_cost : Bodies → ℕ → ℕ
elements_cost bodies price = number_of bodies * price + body_cost bodies
