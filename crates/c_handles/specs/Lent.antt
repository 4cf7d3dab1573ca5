-- Bytes that are lent.
use Rattle.std.specs.Prelude.{◌≡◌, ℕ, length}
use Rattle.std.specs.Vec.{vec_ptr}
use Rattle.std.specs.Global.{Vec}
use Rattle.c_handles.specs.declared.bytes.Bytes.{Bytes}

-- they lie where a buffer has its own, and are all of these
abbrev pub LieIn : Bytes → Vec ℕ → Type 0
LieIn bytes buffer = (bytes.at ≡ vec_ptr buffer) × (bytes.len ≡ length buffer.items)
