-- How what is done for objects follows what a connection took.
use Rattle.std.proofs.Common.{◌≤◌, ℕ, List, refl, inl, inr, arith, length}
use Rattle.std.proofs.lemmas.List.{length-append}
use Rattle.cp_connection.specs.declared.fault.ConnectionFault.TheVariants as faults
use Rattle.cp_connection.specs.Link.{Link}
use Rattle.cp_connection.specs.Receiving as connection
use Rattle.cp_dispatch.specs.Receiving.{IsCutShort, ran_out}
use Rattle.cp_dispatch.specs.Work.{Lives}
use Rattle.cp_dispatch.proofs.Living.{lives_both}

-- memory ran out after bytes were taken
pub cut_later : {H : Type 0} {old mid done new : Link} {objects others : H} (piece : List ℕ) (count : ℕ) → connection.Receives old piece count mid → Lives mid done → Lives done new
    → IsCutShort old piece faults.OutOfMemory new objects others
cut_later piece count received lives more = ran_out count _ received (lives_both lives more) refl

-- no more is taken than there is
pub few_received : {old new : Link} (piece : List ℕ) (count : ℕ) → connection.Receives old piece count new → count ≤ length piece
few_received piece count (inl h) = omega (arith, h.0)
few_received piece count (inr h) = rw (h.4, h.5, length-append h.0 h.1) (omega arith)
