-- Why capabilities aren't named, and params aren't written.
use Rattle.std.specs.Prelude.{◌≡◌, Bool, false}
use Rattle.cp_builder.specs.declared.fault.BuildError.{BuildError}
use Rattle.cp_builder.specs.declared.fault.BuildError.TheVariants as builds
use Rattle.cp_objects.specs.declared.reference_error.ReferenceError.{ReferenceError}
use Rattle.cp_objects.specs.declared.reference_error.ReferenceError.TheVariants as references
use Rattle.cp_interfaces.specs.declared.naming_error.NamingError.{NamingError}
use Rattle.cp_interfaces.specs.declared.naming_error.NamingError.TheVariants as errors

abbrev pub of_build : BuildError → NamingError
of_build builds.TooLong = errors.TooLong
of_build builds.OutOfMemory = errors.OutOfMemory

abbrev pub of_reference : ReferenceError → NamingError
of_reference references.OtherSession = errors.OtherSession
of_reference references.OutOfMemory = errors.OutOfMemory

-- Params aren't built, for a reason that the fault says: they are too long for a message only if this is so.
abbrev pub Unbuilt : {F : Type 0} → (BuildError → F → Type 0) → Type 0 → F → Type 0
Unbuilt says long fault = (why : BuildError) × says why fault × (why ≡ builds.TooLong → long)

-- The same of params that name capabilities: one is of another session only if these aren't all of the target's.
abbrev pub Unnamed : {F : Type 0} → (NamingError → F → Type 0) → Type 0 → Bool → F → Type 0
Unnamed says long own fault = (why : NamingError) × says why fault × (why ≡ errors.TooLong → long) × (why ≡ errors.OtherSession → own ≡ false)
