-- What a vat keeps is the same once it counts as closed.
use Rattle.std.proofs.Common.{◌≡◌, Bool, true, false, refl}
use Rattle.cp_vat.specs.Kept.{contents_of}
use Rattle.cp_vat_machine.specs.State.{State}
use Rattle.cp_connection.specs.LinkOf.{closed_if}

pub same_contents : (b : Bool) (s : State) → contents_of (closed_if b s) ≡ contents_of s
same_contents true s = refl
same_contents false s = refl
