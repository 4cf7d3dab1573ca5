-- The enums and unions of `value` of schema.capnp.
use Rattle.std.specs.Prelude.{ℕ, ◌==◌, if◌then◌else◌}
use Rattle.cp_schema_capnp.specs.declared.value.ValueWhich.TheVariants as value_whichs
use Rattle.cp_schema_capnp.specs.declared.value.ValueWhich.{ValueWhich}

-- the value of a number
abbrev pub value_which_of : ℕ → ValueWhich
value_which_of n =
    if n == 0 then value_whichs.Void else
    (if n == 1 then value_whichs.Bool else
    (if n == 2 then value_whichs.Int8 else
    (if n == 3 then value_whichs.Int16 else
    (if n == 4 then value_whichs.Int32 else
    (if n == 5 then value_whichs.Int64 else
    (if n == 6 then value_whichs.Uint8 else
    (if n == 7 then value_whichs.Uint16 else
    (if n == 8 then value_whichs.Uint32 else
    (if n == 9 then value_whichs.Uint64 else
    (if n == 10 then value_whichs.Float32 else
    (if n == 11 then value_whichs.Float64 else
    (if n == 12 then value_whichs.Text else
    (if n == 13 then value_whichs.Data else
    (if n == 14 then value_whichs.List else
    (if n == 15 then value_whichs.Enum else
    (if n == 16 then value_whichs.Struct else
    (if n == 17 then value_whichs.Interface else
    (if n == 18 then value_whichs.AnyPointer else
    value_whichs.Unknown n))))))))))))))))))
