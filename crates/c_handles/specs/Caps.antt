-- Capabilities as numbers.
use Rattle.std.specs.Prelude.{◌≡◌, ◌⊎◌, ℕ, ◌<◌, ◌≤◌, List, take, replicate, codes, Any}
use Rattle.cp_refs.specs.At.{failed}
use Rattle.cp_refs.specs.declared.cap.Cap.{Cap}
use Rattle.cp_refs.specs.declared.cap.Cap.TheVariants as caps
use Rattle.c_handles.specs.Given.{over, fits}
use Rattle.c_handles.specs.declared.code.CallFault.{CallFault}
use Rattle.c_handles.specs.declared.code.CallFault.TheVariants as faults
use Rattle.c_handles.specs.declared.caps.CapNumbers.{CapNumbers}
use Rattle.c_handles.specs.Fault.{no_memory}

-- room for a path
abbrev pub no_path : List ℕ
no_path = replicate 16 0

-- a kind and a number alone
abbrev pub of_kind : ℕ → ℕ → CapNumbers
of_kind kind number = record { kind = kind; number = number; fields = 0; path = no_path }

-- the numbers of a capability: of a path the first 16 fields, and of one that fails only that it does
abbrev pub numbers_of : Cap → CapNumbers
numbers_of caps.None = of_kind 0 0
numbers_of (caps.Object object) = of_kind 1 object
numbers_of (caps.Promise promise) = of_kind 2 promise
numbers_of (caps.Import import) = of_kind 3 import
numbers_of (caps.Pipelined question path) = record { kind = 4; number = question; fields = fits path no_path; path = over path no_path }
numbers_of (caps.Broken exception) = of_kind 5 0

-- the numbers name the capability
abbrev pub Names : CapNumbers → Cap → Type 0
Names n caps.None = n.kind ≡ 0
Names n (caps.Object object) = (n.kind ≡ 1) × (n.number ≡ object)
Names n (caps.Promise promise) = (n.kind ≡ 2) × (n.number ≡ promise)
Names n (caps.Import import) = (n.kind ≡ 3) × (n.number ≡ import)
Names n (caps.Pipelined question path) = (n.kind ≡ 4) × (n.number ≡ question) × (n.fields ≤ 16) × (path ≡ take n.fields n.path)
Names n (caps.Broken exception) = (n.kind ≡ 5) × (exception ≡ failed (codes "broken"))

-- the numbers name none: there is no such kind, or the path is too long
abbrev pub NamesNone : CapNumbers → Type 0
NamesNone n = (5 < n.kind) ⊎ ((n.kind ≡ 4) × (16 < n.fields))

-- why numbers name no capability; or memory ran out
abbrev pub IsNotNamed : CapNumbers → CallFault → Type 0
IsNotNamed n fault = ((fault ≡ faults.Argument) × NamesNone n) ⊎ (fault ≡ no_memory)

-- why a table names no capabilities: an entry names none; or memory ran out
abbrev pub AreNotNamed : List CapNumbers → CallFault → Type 0
AreNotNamed ns fault = ((fault ≡ faults.Argument) × Any NamesNone ns) ⊎ (fault ≡ no_memory)
