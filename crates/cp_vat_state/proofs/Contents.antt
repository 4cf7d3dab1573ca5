-- What is counted for a value or an outcome.
use Rattle.std.proofs.Common.{◌≡◌, ℕ, List, Result, Ok, Err, OnOk}
use Rattle.cp_refs.specs.Memory.{counted}
use Rattle.cp_refs.specs.declared.cap.Cap.{Cap}
use Rattle.cp_vat_state.specs.Kept.{KeepsMore}
use Rattle.cp_vat_state.specs.declared.kept.KeptContents.{KeptContents}

pub counts_more : {A E : Type 0} (r : Result A E) (old new : KeptContents) (caps found : List Cap) (bytes n : ℕ)
    → OnOk r ((m : ℕ) → bytes ≡ counted m → KeepsMore old new caps m) → caps ≡ found → bytes ≡ counted n → OnOk r (KeepsMore old new found n)
counts_more (Ok x) old new caps found bytes n counts is many = rw is at (counts n many)
counts_more (Err e) old new caps found bytes n counts is many = tt
