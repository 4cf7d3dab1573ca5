-- What calls come to, as servers and objects make it.
use Rattle.std.specs.Prelude.{ℕ, List, [], ◌∷◌, ◌++◌, ◌==◌, codes, if◌then◌else◌}
use Rattle.std.specs.List.{list_any}
use Rattle.cp_messages.specs.declared.exception.Exception.{Exception}
use Rattle.cp_messages.specs.declared.exception.ExceptionKind.{ExceptionKind}
use Rattle.cp_messages.specs.declared.exception.ExceptionKind.TheVariants as kinds
use Rattle.cp_refs.specs.declared.cap.Cap.{Cap}
use Rattle.cp_refs.specs.declared.cap.Cap.TheVariants as caps
use Rattle.cp_refs.specs.declared.outcome.Outcome.{Outcome}
use Rattle.cp_refs.specs.declared.outcome.Outcome.TheVariants as outcomes

-- an exception without a trace
abbrev pub exception_of : ExceptionKind → List ℕ → Exception
exception_of kind reason = record { kind = kind; reason = reason; trace = [] }

-- what a call fails with that goes to an object which doesn't exist
abbrev pub no_such_object : Outcome
no_such_object = outcomes.Failed (exception_of kinds.Failed (codes "no such object"))

-- what takes the place of an outcome that the vat refuses
abbrev pub bad_outcome : Outcome
bad_outcome = outcomes.Failed (exception_of kinds.Failed (codes "bad outcome"))

-- what an object is told of a call that the vat refuses
abbrev pub refused_call : Outcome
refused_call = outcomes.Failed (exception_of kinds.Failed (codes "call refused"))

-- what a call fails with that was to be answered later, and that was dropped before
abbrev pub dropped_call : Outcome
dropped_call = outcomes.Failed (exception_of kinds.Failed (codes "the call was dropped without an answer"))

-- what a call fails with of a method that the object doesn't have
abbrev pub no_such_method : Outcome
no_such_method = outcomes.Failed (exception_of kinds.Unimplemented (codes "no such method"))

-- what a call fails with whose results no message can hold
abbrev pub results_too_long : Outcome
results_too_long = outcomes.Failed (exception_of kinds.Failed (codes "the results are too long"))

-- one more capability was looked at: an import that wasn't noted before is
abbrev pub noted_with : List ℕ → Cap → List ℕ
noted_with found (caps.Import i) = if list_any (λ other. other == i) found then found else found ++ i ∷ []
noted_with found other = found

-- the imports that a table names, each once, in the order in which it names them first
abbrev pub named_after : List ℕ → List Cap → List ℕ
named_after found [] = found
named_after found (c ∷ cs) = named_after (noted_with found c) cs

abbrev pub named_imports : List Cap → List ℕ
named_imports cs = named_after [] cs
