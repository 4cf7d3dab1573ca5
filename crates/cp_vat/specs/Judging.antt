-- What an event is checked for before it changes anything.
use Rattle.std.specs.Prelude.{List, [], ◌∷◌, Result, Ok, Err}

-- the first of these faults, if there is one
abbrev pub judged : {F : Type 0} → List F → Result (Unit {0}) F
judged [] = Ok tt
judged (fault ∷ more) = Err fault
