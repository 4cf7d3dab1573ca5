use Rattle.cp_connection.specs.Settling.{PassesOn}
use Rattle.cp_connection.proofs.parts.Parts.settle.Given as goal

-- a part of what is owed was passed on
abbrev pub invariant-loop : goal.invariant-loop
invariant-loop l = PassesOn l.fn.self l.self
