-- What goes to a peer for what a method answered.
use Rattle.std.specs.Prelude.{ℕ, ◌==◌, if◌then◌else◌, false, List, [], ◌∷◌, ◌++◌, Option, Some, None, codes, decimal}
use Rattle.std.specs.Fmt.{digits}
use Rattle.std.specs.List.{list_any}
use Rattle.cp_messages.specs.declared.exception.Exception.{Exception}
use Rattle.cp_messages.specs.declared.exception.ExceptionKind.TheVariants as kinds
use Rattle.cp_refs.specs.declared.cap.Cap.{Cap}
use Rattle.cp_refs.specs.declared.cap.Cap.TheVariants as caps
use Rattle.cp_refs.specs.declared.outcome.Outcome.TheVariants as outcomes
use Rattle.cp_fields.specs.declared.text.TextFault.{TextFault}
use Rattle.cp_fields.specs.declared.text.TextFault.TheVariants as texts
use Rattle.cp_builder.specs.declared.fault.BuildError.{BuildError}
use Rattle.cp_builder.specs.declared.fault.BuildError.TheVariants as drafts
use Rattle.cp_servants.specs.declared.servant.Reply.{Reply}
use Rattle.cp_servants.specs.declared.servant.Reply.TheVariants as replies
use Rattle.cp_servants.specs.Outcomes.{exception_of, noted_with}
use Rattle.cp_interfaces.specs.declared.fault.MethodFault.{MethodFault}
use Rattle.cp_interfaces.specs.declared.fault.MethodFault.TheVariants as faults
use Rattle.cp_interfaces.specs.declared.naming_error.NamingError.{NamingError}
use Rattle.cp_interfaces.specs.declared.naming_error.NamingError.TheVariants as naming_errors
use Rattle.cp_objects.specs.declared.reference_error.ReferenceError.{ReferenceError}
use Rattle.cp_objects.specs.declared.reference_error.ReferenceError.TheVariants as reference_errors
use Rattle.cp_interfaces.specs.declared.fault.CapFault.{CapFault}
use Rattle.cp_interfaces.specs.declared.fault.CapFault.TheVariants as cap_faults

-- the faults of parts of params and results, as faults of a method
abbrev pub of_text : TextFault → MethodFault
of_text texts.NotUtf8 = faults.NotUtf8
of_text texts.OutOfMemory = faults.OutOfMemory

abbrev pub of_draft : BuildError → MethodFault
of_draft drafts.TooLong = faults.TooLong
of_draft drafts.OutOfMemory = faults.OutOfMemory

abbrev pub of_naming : NamingError → MethodFault
of_naming naming_errors.TooLong = faults.TooLong
of_naming naming_errors.OtherSession = faults.OtherSession
of_naming naming_errors.OutOfMemory = faults.OutOfMemory

abbrev pub of_reference : ReferenceError → MethodFault
of_reference reference_errors.OtherSession = faults.OtherSession
of_reference reference_errors.OutOfMemory = faults.OutOfMemory

abbrev pub of_cap : CapFault → MethodFault
of_cap (cap_faults.WrongKind fault) = faults.WrongKind fault
of_cap cap_faults.OutOfMemory = faults.OutOfMemory

-- the exception with which a call fails; where memory ran out there is none
abbrev pub exception_for : MethodFault → Option Exception
exception_for (faults.Fails exception) = Some exception
exception_for faults.Unimplemented = Some (exception_of kinds.Unimplemented (codes "no such method"))
exception_for (faults.WrongKind fault) = Some (exception_of kinds.Failed (codes "a field is of another kind"))
exception_for faults.NotUtf8 = Some (exception_of kinds.Failed (codes "a text isn't UTF-8"))
exception_for faults.TooLong = Some (exception_of kinds.Failed (codes "the results are too long"))
exception_for faults.OutOfRange = Some (exception_of kinds.Failed (codes "a number is out of range"))
exception_for faults.InUse = Some (exception_of kinds.Failed (codes "what is shared is in use"))
exception_for faults.OtherSession = Some (exception_of kinds.Failed (codes "a reference of another connection"))
exception_for faults.OutOfMemory = None

-- the exception with which an object of an interface answers a call of a method that it doesn't have: it names all three
abbrev pub no_method : List ℕ → ℕ → ℕ → Exception
no_method title interface method =
    exception_of
    kinds.Unimplemented
    (codes "no such method: " ++ (title ++ (codes " has no method " ++ (decimal method ++ (codes " of interface 0x" ++ digits 16 false interface)))))

-- imports, and one more after them, if there is one
abbrev pub with_import : Option ℕ → List ℕ → List ℕ
with_import None imports = imports
with_import (Some i) imports = imports ++ i ∷ []

-- one more capability was looked at: an import that isn't kept and wasn't noted before is
abbrev pub noted_but : List ℕ → List ℕ → Cap → List ℕ
noted_but keeps found (caps.Import i) = if list_any (λ other. other == i) keeps then found else noted_with found (caps.Import i)
noted_but keeps found other = found

-- the imports that a table names, each once, in the order in which it names them first, but for those that are kept
abbrev pub given_up_after : List ℕ → List ℕ → List Cap → List ℕ
given_up_after keeps found [] = found
given_up_after keeps found (c ∷ cs) = given_up_after keeps (noted_but keeps found c) cs

abbrev pub given_up : List ℕ → List Cap → List ℕ
given_up keeps cs = given_up_after keeps [] cs

-- a call of these capabilities fails with an exception at once, and none of them is kept
abbrev pub failing : List Cap → Option Exception → Option Reply
failing named None = None
failing named (Some exception) = Some (replies.Now (outcomes.Failed exception) (given_up [] named))

abbrev pub refusal_of : List Cap → MethodFault → Option Reply
refusal_of named fault = failing named (exception_for fault)
