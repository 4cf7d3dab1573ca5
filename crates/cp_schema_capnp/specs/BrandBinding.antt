-- The enums and unions of `brand_binding` of schema.capnp.
use Rattle.std.specs.Prelude.{ℕ, ◌==◌, if◌then◌else◌}
use Rattle.cp_schema_capnp.specs.declared.brand_binding.BrandBindingWhich.TheVariants as brand_binding_whichs
use Rattle.cp_schema_capnp.specs.declared.brand_binding.BrandBindingWhich.{BrandBindingWhich}

-- the value of a number
abbrev pub brand_binding_which_of : ℕ → BrandBindingWhich
brand_binding_which_of n =
    if n == 0 then brand_binding_whichs.Unbound else
    (if n == 1 then brand_binding_whichs.Type else
    brand_binding_whichs.Unknown n)
