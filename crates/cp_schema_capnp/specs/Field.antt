-- The enums and unions of `field` of schema.capnp.
use Rattle.std.specs.Prelude.{ℕ, ◌==◌, if◌then◌else◌}
use Rattle.cp_schema_capnp.specs.declared.field.FieldOrdinalWhich.TheVariants as field_ordinal_whichs
use Rattle.cp_schema_capnp.specs.declared.field.FieldOrdinalWhich.{FieldOrdinalWhich}
use Rattle.cp_schema_capnp.specs.declared.field.FieldWhich.TheVariants as field_whichs
use Rattle.cp_schema_capnp.specs.declared.field.FieldWhich.{FieldWhich}

-- the value of a number
abbrev pub field_which_of : ℕ → FieldWhich
field_which_of n =
    if n == 0 then field_whichs.Slot else
    (if n == 1 then field_whichs.Group else
    field_whichs.Unknown n)

-- the value of a number
abbrev pub field_ordinal_which_of : ℕ → FieldOrdinalWhich
field_ordinal_which_of n =
    if n == 0 then field_ordinal_whichs.Implicit else
    (if n == 1 then field_ordinal_whichs.Explicit else
    field_ordinal_whichs.Unknown n)
