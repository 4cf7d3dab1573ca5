-- The enums and unions of `type_` of schema.capnp.
use Rattle.std.specs.Prelude.{ℕ, ◌==◌, if◌then◌else◌}
use Rattle.cp_schema_capnp.specs.declared.type_.TypeAnyPointerWhich.TheVariants as type_any_pointer_whichs
use Rattle.cp_schema_capnp.specs.declared.type_.TypeAnyPointerWhich.{TypeAnyPointerWhich}
use Rattle.cp_schema_capnp.specs.declared.type_.TypeWhich.TheVariants as type_whichs
use Rattle.cp_schema_capnp.specs.declared.type_.TypeWhich.{TypeWhich}

-- the value of a number
abbrev pub type_which_of : ℕ → TypeWhich
type_which_of n =
    if n == 0 then type_whichs.Void else
    (if n == 1 then type_whichs.Bool else
    (if n == 2 then type_whichs.Int8 else
    (if n == 3 then type_whichs.Int16 else
    (if n == 4 then type_whichs.Int32 else
    (if n == 5 then type_whichs.Int64 else
    (if n == 6 then type_whichs.Uint8 else
    (if n == 7 then type_whichs.Uint16 else
    (if n == 8 then type_whichs.Uint32 else
    (if n == 9 then type_whichs.Uint64 else
    (if n == 10 then type_whichs.Float32 else
    (if n == 11 then type_whichs.Float64 else
    (if n == 12 then type_whichs.Text else
    (if n == 13 then type_whichs.Data else
    (if n == 14 then type_whichs.List else
    (if n == 15 then type_whichs.Enum else
    (if n == 16 then type_whichs.Struct else
    (if n == 17 then type_whichs.Interface else
    (if n == 18 then type_whichs.AnyPointer else
    type_whichs.Unknown n))))))))))))))))))

-- the value of a number
abbrev pub type_any_pointer_which_of : ℕ → TypeAnyPointerWhich
type_any_pointer_which_of n =
    if n == 0 then type_any_pointer_whichs.Unconstrained else
    (if n == 1 then type_any_pointer_whichs.Parameter else
    (if n == 2 then type_any_pointer_whichs.ImplicitMethodParameter else
    type_any_pointer_whichs.Unknown n))
