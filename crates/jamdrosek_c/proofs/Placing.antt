-- What a call did to the connection is what the call on its handle says.
use Rattle.std.proofs.Common.{◌≡◌, ℕ, Option, None, Some, subst}
use Rattle.std.specs.Global.{Box}
use Rattle.c_handles.specs.Handle.{TookBox}
use Rattle.c_handles.specs.declared.connection.ConnectionState.{ConnectionState}
use Rattle.jamdrosek_c.specs.Connection.{Through}

-- The connection that was in the handle became another, which took its place.
pub put_back : (Does : ConnectionState → ConnectionState → Type 0) (old new : Option ConnectionState) (box : Box ConnectionState) (last : ConnectionState) (code : ℕ)
    → TookBox old (Some box) → new ≡ Some last → Does box.value last → Through old new code Does
put_back Does None new box last code took is does = absurd took
put_back Does (Some old) new box last code took is does =
    let same : box.value ≡ old = took in rw (is, ← same) does

-- the same, where what was taken out of the handle, and what was lent of it, are known by equations
pub does_through : (Does : ConnectionState → ConnectionState → Type 0) (old new : Option ConnectionState) (taken : Option (Box ConnectionState)) (box : Box ConnectionState)
    (lent last : ConnectionState) (code : ℕ) → TookBox old taken → taken ≡ Some box → lent ≡ box.value → new ≡ Some last → Does lent last → Through old new code Does
does_through Does old new taken box lent last code took there same placed does =
    put_back Does old new box last code (subst (λ o. TookBox old o) there took) placed (subst (λ s. Does s last) same does)
