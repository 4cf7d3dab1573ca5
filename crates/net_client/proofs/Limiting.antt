-- What is said of a fault holds of it where it is passed on.
use Rattle.std.proofs.Common.{◌≡◌, Result, Ok, Err, IfErr, sym, subst}
use Rattle.cp_client.specs.declared.fault.ClientFault.{ClientFault}

pub passed_on : {A : Type 0} (result : Result A ClientFault) (fault : ClientFault) (says : ClientFault → Type 0) → says fault → IfErr result (λ f. f ≡ fault) → IfErr result says
passed_on (Ok x) fault says holds same = tt
passed_on (Err f) fault says holds same = subst says (sym same) holds
