-- What a call answered.
use Rattle.std.specs.Prelude.{◌≡◌, ℕ, List, Result, Ok, Err}
use Rattle.cp_words.specs.Limits.{Bounds}
use Rattle.cp_reading.specs.Faults.{IsFaultOf}
use Rattle.cp_tree.specs.Node.{Node}
use Rattle.cp_reading.specs.declared.fault.TreeFault.{TreeFault}
use Rattle.cp_reading.specs.declared.fault.TreeFault.TheVariants as faults

-- the call answered this tree, or memory ran out
abbrev pub Answers : Result Node TreeFault → Node → Type 0
Answers (Ok x) t = x ≡ t
Answers (Err fault) t = fault ≡ faults.OutOfMemory

-- the message has the fault, or memory ran out
abbrev pub IsRefusalOf : List (List ℕ) → Bounds → TreeFault → Type 0
IsRefusalOf S limits faults.OutOfMemory = Unit {0}
IsRefusalOf S limits fault = IsFaultOf S limits fault
