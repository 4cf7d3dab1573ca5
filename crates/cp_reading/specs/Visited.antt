-- How many pointer words are visited.
use Rattle.std.specs.Prelude.{ℕ, ◌+◌, Result, Ok, Err}
use Rattle.cp_tree.specs.Node.{Node, null, cap, struct, list, ptrs, structs, Nodes, no_nodes, node, Bodies, no_bodies, body}
use Rattle.cp_reading.specs.Reading.{Read}
use Rattle.cp_reading.specs.declared.fault.TreeFault.{TreeFault}

-- The pointer words below a tree's own. A shared part's count once for each way to it.
abbrev mutual
  pub pointers : Node → ℕ
  pointers null = 0
  pointers (cap i) = 0
  pointers (struct ws ts) = pointers_of_row ts
  pointers (list es) = 0
  pointers (ptrs ts) = pointers_of_row ts
  pointers (structs d n bs) = pointers_of_bodies bs

  pub pointers_of_row : Nodes → ℕ
  pointers_of_row no_nodes = 0
  pointers_of_row (node t ts) = 1 + pointers t + pointers_of_row ts

  pub pointers_of_bodies : Bodies → ℕ
  pointers_of_bodies no_bodies = 0
  pointers_of_bodies (body ws ts bs) = pointers_of_row ts + pointers_of_bodies bs

-- What a reading comes to, where this many words were visited before what it reads: what is left of the cost limit and how
-- many words are visited then, or the fault.
abbrev pub passed : {A : Type 0} → (A → ℕ) → ℕ → Read A → Result (ℕ × ℕ) TreeFault
passed visited before (Ok x) = Ok (x.1, before + visited x.0)
passed visited before (Err e) = Err e

-- what a check answers: what is left after it and the words visited then, or its fault
abbrev pub answered : Result (Unit {0}) TreeFault → ℕ → ℕ → Result (ℕ × ℕ) TreeFault
answered (Ok done) budget visits = Ok (budget, visits)
answered (Err e) budget visits = Err e
