-- The enums and unions of `brand_scope` of schema.capnp.
use Rattle.std.specs.Prelude.{ℕ, ◌==◌, if◌then◌else◌}
use Rattle.cp_schema_capnp.specs.declared.brand_scope.BrandScopeWhich.TheVariants as brand_scope_whichs
use Rattle.cp_schema_capnp.specs.declared.brand_scope.BrandScopeWhich.{BrandScopeWhich}

-- the value of a number
abbrev pub brand_scope_which_of : ℕ → BrandScopeWhich
brand_scope_which_of n =
    if n == 0 then brand_scope_whichs.Bind else
    (if n == 1 then brand_scope_whichs.Inherit else
    brand_scope_whichs.Unknown n)
